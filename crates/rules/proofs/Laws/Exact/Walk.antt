-- One step: it keeps what holds of a configuration, goes forward, and reports what it has to.
use Rattle.std.specs.Prelude.{ℕ, zero, suc, ◌-◌, ◌≤◌, ◌<◌, ◌≡◌, refl, Bool, true, ◌&&◌, ◌||◌, List, [], ◌∷◌, ◌++◌, ltb, eqb, length, get_or, drop}
use Rattle.std.proofs.Common.{arith, lt_of_not-le, sym, subst, ◌∙◌, append_assoc, lt-ltb, ne_eqb, length-drop}
use Rattle.std.proofs.Math.Option.{Option, some, none}
use Rattle.rules.specs.Rules.{Event, recalled, hit, shifted, Config, Step, Next, finished, wants, goes, place, hit_at, deeper, hits_up, recall, end_round, taken, take_byte, look, next}
use Rattle.rules.specs.Tokens.{of_tokens, ends}
use Rattle.rules.specs.Lists.{any_of}
use Rattle.rules.specs.Words.{is_word, number_of, all_words}
use Rattle.rules.specs.Sweep.{Stands}
use Rattle.rules.proofs.Laws.Tests.{decide, clash, next-cases}
use Rattle.rules.proofs.Laws.Endings.{ends-shorter}
use Rattle.rules.proofs.Laws.Words.{word-length, word_in, Passing, word_out, Numbered, numbered}
use Rattle.rules.specs.Setting.{Setting}
use Rattle.rules.specs.Configs.{steps_left, Reads, byte_of, Inv}
use Rattle.rules.proofs.Laws.Hits.{end-events}
use Rattle.rules.proofs.Laws.Limit.Ends.{less-end, less-deeper}
use Rattle.rules.proofs.Laws.Exact.Reads.{reads-eq, reads-drop, reads-cons, reads-ends, standing, stands-long, stands→reads, reads→stands}
use Rattle.rules.proofs.Laws.Exact.Shift.{Known, shift-ge, shift_le}
use Rattle.rules.proofs.Laws.Exact.Configs.{end-inv, recall-known}
use Rattle.rules.proofs.Laws.Exact.Events.{Later, Good, good-event, good-weaken, good-hit}

pub record StepGood (tokens : List (List ℕ)) (D : ℕ) (image : List ℕ) (c : Config (List ℕ)) (s : Step (List ℕ)) : Type 0 where
  pub inv : Inv (byte_of image) D s.config
  pub less : steps_left (length image) D s.config.boundary s.config.depth < steps_left (length image) D c.boundary c.depth
  pub back : (rest : List (Event (List ℕ))) → Good tokens image s.config.boundary (suc D) rest
      → Good tokens image c.boundary (suc D) (s.events ++ rest)

module _ (tokens : List (List ℕ)) (S D : ℕ) (setting : Setting tokens S D) (image : List ℕ) where
  -- what the next step has to be
  abbrev pub NextGood : Config (List ℕ) → Next (List ℕ) → Type 0
  NextGood c finished = length image < c.boundary
  NextGood c (wants at) = StepGood tokens D image c (take_byte (of_tokens tokens S) c (byte_of image at))
  NextGood c (goes s) = StepGood tokens D image c s

  -- The tokens that end what stands before b are hits there, the longest first.
  module _ (b : ℕ) (h : b ≤ length image) (u : List ℕ) (r : Reads (byte_of image) u b) (fits : length u ≤ b) where
    -- the last k bytes of it, and the token that they are, if they are one
    module _ (k : ℕ) (k< : k < length u) (rest : List (Event (List ℕ))) (g : Good tokens image b (suc k) rest) where
      abbrev last : List ℕ
      last = drop (length u - suc k) u

      size : length last ≡ suc k
      size = rw length-drop (omega arith)

      last-good : (m : ℕ) → Numbered tokens last 1 m → Good tokens image b (suc (suc k)) (hit_at b m ++ rest)
      last-good zero q =
          good-weaken tokens image b (suc (suc k)) b (suc k) rest
          (λ i e s l. (
            l.0,
            λ z.
                let here : e ≡ b = omega (arith, l.0) in
                let q' = rw here at s in
                let ne : length (get_or tokens i []) ≡ suc k → ⊥ =
                λ y.
                let x : standing tokens image b i ≡ last =
                reads-eq (byte_of image) _ last b (stands→reads tokens image b i q') (reads-drop (byte_of image) (length u - suc k) u b r)
                (stands-long tokens image b i q' ∙ y ∙ sym size) in
                q i s.numbered (rw (← x) q'.bytes) in
                omega (arith, l.1 z),
          ))
          (λ x l. (l.0, λ z. omega (arith, l.1 z))) g
      last-good (suc m) q =
          let z : suc m - 1 ≡ m = omega arith in
          let w : is_word last (get_or tokens m []) ≡ true = rw z at q.2 in
          let l : length (get_or tokens m []) ≡ suc k = sym (word-length last (get_or tokens m []) w) ∙ size in
          let s = reads→stands tokens image b m (omega (arith, q.1)) (omega arith) h last w (reads-drop (byte_of image) (length u - suc k) u b r) in
          subst (λ n. Good tokens image b (suc n) (hit b (suc m) ∷ rest)) l
          (good-hit tokens image setting b m rest s (subst (λ n. Good tokens image b n rest) (sym l) g))

    pub ups-good : (k : ℕ) → k ≤ length u → (rest : List (Event (List ℕ))) → Good tokens image b 1 rest
        → Good tokens image b (suc k) (hits_up (of_tokens tokens S) b u k ++ rest)
    ups-good zero k≤ rest g = g
    ups-good (suc k) k≤ rest g =
        let last = drop (length u - suc k) u in
        subst (Good tokens image b (suc (suc k))) (sym (append_assoc (hit_at b (number_of tokens last)) (hits_up (of_tokens tokens S) b u k) rest))
        (last-good k k≤ _ (ups-good k (omega arith) rest g) (number_of tokens last) (numbered last 1 tokens (omega arith)))

  -- a test that the word which stands here passes
  among : (i e : ℕ) → Stands tokens image e i → (p : List ℕ → Bool) → p (standing tokens image e i) ≡ true → any_of p (all_words tokens) ≡ true
  among i e s p = word_in p tokens i (standing tokens image e i) s.numbered s.bytes

  module _ (c : Config (List ℕ)) (v : Inv (byte_of image) D c) (h : c.boundary ≤ length image) where
    -- A round may end where each token that stands here is no longer than what is matched.
    end-good : (o : Option ℕ) → Known (byte_of image) (place c) o
        → ((i : ℕ) → Stands tokens image c.boundary i → length (get_or tokens i []) ≤ c.depth)
        → StepGood tokens D image c (end_round (of_tokens tokens S) c o)
    end-good o known stop = record {
      inv = end-inv (byte_of image) tokens S D c o v;
      less = less-end (length image) D c.boundary b' c.depth h (omega (arith, up)) v.short;
      back = λ rest g.
          subst (Good tokens image c.boundary (suc D)) (sym (end-events (of_tokens tokens S) c o rest))
          (good-weaken tokens image c.boundary (suc D) c.boundary (suc c.depth) _ here (λ x l. (l.0, λ k. omega (arith, l.1 k, v.short)))
          (ups-good c.boundary h c.node v.reads (omega (arith, v.deep, v.inside)) c.depth (omega (arith, v.deep)) _
          (good-event tokens image c.boundary 1 (shifted _ _) rest refl
          (good-weaken tokens image c.boundary 1 b' (suc D) rest on (λ x l. (omega (arith, l.0), λ k. absurd (omega (arith, up, l.0)))) g))));
    }
      where
        b' : ℕ
        b' = (end_round (of_tokens tokens S) c o).config.boundary

        up : 1 ≤ (of_tokens tokens S).shift c.node o
        up = shift-ge (all_words tokens) S c.node o

        here : (i e : ℕ) → Stands tokens image e i → Later tokens c.boundary (suc D) (e, suc i) → Later tokens c.boundary (suc c.depth) (e, suc i)
        here i e s l = (l.0, λ k. let x : e ≡ c.boundary = omega (arith, l.0) in omega (arith, stop i (rw x at s)))

        on : (i e : ℕ) → Stands tokens image e i → Later tokens c.boundary 1 (e, suc i) → Later tokens b' (suc D) (e, suc i)
        on i e s l =
            let far : c.boundary < e = lt_of_not-le (λ k. omega (arith, l.1 k, setting.shortest i s.numbered, setting.positive)) in
            let r = stands→reads tokens image e i s in (
              omega (
                arith,
                shift_le (byte_of image) (all_words tokens) S c.boundary e far (standing tokens image e i) (among i e s) r c.node o v.reads
                    (rw v.deep at known),
              ),
              λ _. omega (arith, setting.longest i s.numbered),
            )

    -- What is matched ends each word that stands here and is as long.
    ends-here : (u : List ℕ) → Reads (byte_of image) u c.boundary → (i : ℕ) → (s : Stands tokens image c.boundary i)
        → length u ≤ length (get_or tokens i []) → ends u (standing tokens image c.boundary i) ≡ true
    ends-here u r i s h =
        reads-ends (byte_of image) u (standing tokens image c.boundary i) c.boundary r (stands→reads tokens image c.boundary i s)
        (omega (arith, stands-long tokens image c.boundary i s))

    -- Rule 2 ends a round only where it may.
    leaf-stop : ((of_tokens tokens S).leaf c.node || eqb c.depth c.boundary) ≡ true → (i : ℕ) → Stands tokens image c.boundary i
        → length (get_or tokens i []) ≤ c.depth
    leaf-stop t i s =
        let no_more : c.depth < length (get_or tokens i []) → ⊥ = λ k.
        clash _ t
        (cc (
          among i c.boundary s (λ t. ltb (length c.node) (length t) && ends c.node t)
              (cc (
                lt-ltb (length c.node) (length (standing tokens image c.boundary i))
                    (omega (arith, v.deep, stands-long tokens image c.boundary i s)),
                ends-here c.node v.reads i s (omega (arith, v.deep)),
              )),
          ne_eqb c.depth c.boundary (omega (arith, s.fits)),
        )) in
        omega arith

    module _ (x : ℕ) (x≡ : x ≡ byte_of image (place c)) (d< : c.depth < c.boundary) where
      grown-reads : Reads (byte_of image) (x ∷ c.node) c.boundary
      grown-reads = reads-cons (byte_of image) x c.node c.boundary v.reads (rw v.deep at x≡)

      -- A byte that some word goes on with.
      deeper-inv : Passing (ends (x ∷ c.node)) tokens → Inv (byte_of image) D (deeper c (x ∷ c.node))
      deeper-inv r = record {
        deep = omega (arith, v.deep);
        inside = omega arith;
        short = omega (
          arith,
          ends-shorter (x ∷ c.node) r.word r.passes,
          word-length r.word (get_or tokens r.number []) r.of,
          setting.longest r.number r.inside,
          v.deep,
        );
        reads = grown-reads;
        holds = v.holds;
      }

      take-good : StepGood tokens D image c (take_byte (of_tokens tokens S) c x)
      take-good =
          decide (λ o. StepGood tokens D image c (taken (of_tokens tokens S) c x o)) (any_of (ends (x ∷ c.node)) (all_words tokens)) _ _
          (λ t.
          let w = deeper-inv (word_out (ends (x ∷ c.node)) tokens t) in
          record {
            inv = w;
            less = less-deeper (length image) D c.boundary c.depth h w.short;
            back = λ rest g. g;
          })
          (λ f. end-good (some x) x≡ λ i s.
          let no_more : c.depth < length (get_or tokens i []) → ⊥ = λ k.
          clash _ (among i c.boundary s (ends (x ∷ c.node)) (ends-here (x ∷ c.node) grown-reads i s (omega (arith, v.deep)))) f in
          omega arith)

    look-good : c.depth < c.boundary → (o : Option ℕ) → Known (byte_of image) (place c) o → NextGood c (look (of_tokens tokens S) c o)
    look-good d< none known = take-good (byte_of image (place c)) refl d<
    look-good d< (some x) known =
        let s = take-good x known d< in
        record {
          inv = s.inv;
          less = s.less;
          back = λ rest g. good-event tokens image c.boundary (suc D) (recalled _) _ refl (s.back rest g);
        }

  pub next-good : (c : Config (List ℕ)) → Inv (byte_of image) D c → NextGood c (next (of_tokens tokens S) (length image) c)
  next-good c v =
      next-cases (of_tokens tokens S) (length image) c (NextGood c) (λ h. h)
      (λ h t. end-good c v h none tt (leaf-stop c v h t))
      (λ h _ d. look-good c v h (omega (arith, v.inside)) (recall (of_tokens tokens S) c.stretches (place c))
      (recall-known (byte_of image) tokens S c.boundary c.stretches (place c) v.holds))
