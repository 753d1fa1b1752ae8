-- What holds of a configuration that the rules come to: what is matched, and what is remembered, is the image's.
use Rattle.std.specs.Prelude.{ℕ, ◌-◌, ◌≤◌, ◌≡◌, refl, ◌&&◌, List, [], ◌∷◌, leb, ltb, length}
use Rattle.std.proofs.Common.{arith, ap, ◌∙◌, leb-true, ltb-true, length-drop}
use Rattle.std.proofs.Math.Option.{Option}
use Rattle.rules.specs.Rules.{Stretch, Config, left_over, cut, kept, recall, ended, end_round}
use Rattle.rules.specs.Tokens.{of_tokens}
use Rattle.rules.proofs.Laws.Tests.{decide, and_l, and_r}
use Rattle.rules.proofs.Laws.All.{all_map, all_append, all-select}
use Rattle.rules.proofs.Laws.Limit.Span.{cut-ge, cut-upto}
use Rattle.rules.proofs.Laws.Exact.Reads.{reads-drop}
use Rattle.rules.proofs.Laws.Exact.Shift.{Known}
use Rattle.rules.specs.Configs.{Holds, Inv}
use Rattle.rules.specs.Lists.{All}

module _ (img : ℕ → ℕ) where
  holds_later : (b b' : ℕ) → b ≤ b' → (s : Stretch (List ℕ)) → Holds img b s → Holds img b' s
  holds_later b b' h s w = record { ordered = w.ordered; inside = omega arith; size = w.size; reads = w.reads }

  module _ (tokens : List (List ℕ)) (S : ℕ) where
    pub recall-known : (b : ℕ) (l : List (Stretch (List ℕ))) (at : ℕ) → All (Holds img b) l → Known img at (recall (of_tokens tokens S) l at)
    recall-known b [] at h = tt
    recall-known b (s ∷ l) at h =
        decide (Known img at) (leb s.left at && ltb at s.right) _ _
        (λ t.
        let from = leb-true s.left at (and_l _ _ t) in
        let upto = ltb-true at s.right (and_r (leb s.left at) _ t) in
        let v : Holds img b s = h.0 in
        let z : s.right - 1 - (s.right - 1 - at) ≡ at = omega arith in
        v.reads (s.right - 1 - at) (omega arith) ∙ ap img z)
        (λ _. recall-known b l at h.1)

    -- What a round leaves holds the bytes of its places.
    ended-holds : (D : ℕ) (c : Config (List ℕ)) → Inv img D c → All (Holds img c.boundary) (ended (of_tokens tokens S) c)
    ended-holds D c v = all_append (Holds img c.boundary) rest _ old (new, tt)
      where
        rest : List (Stretch (List ℕ))
        rest = left_over (c.boundary - c.depth) c.stretches

        old : All (Holds img c.boundary) rest
        old = all-select (Holds img c.boundary) _ c.stretches v.holds

        from : ℕ
        from = cut (c.boundary - c.depth) rest

        new : Holds img c.boundary (record { left = from; right = c.boundary; node = (of_tokens tokens S).ancestor c.node (c.boundary - from) })
        new =
            let upto = all_map (Holds img c.boundary) (λ s. s.right ≤ c.boundary) (λ s h. h.inside) rest old in
            let le : from ≤ c.boundary = cut-upto (c.boundary - c.depth) c.boundary rest (omega arith) upto in
            record {
              ordered = le;
              inside = omega arith;
              size = rw length-drop (omega (arith, cut-ge (c.boundary - c.depth) rest));
              reads = reads-drop img (length c.node - (c.boundary - from)) c.node c.boundary v.reads;
            }

    pub end-inv : (D : ℕ) (c : Config (List ℕ)) (o : Option ℕ) → Inv img D c → Inv img D (end_round (of_tokens tokens S) c o).config
    end-inv D c o v = record {
      deep = refl;
      inside = omega arith;
      short = omega arith;
      reads = λ k h. absurd (omega arith);
      holds =
          let b' = (end_round (of_tokens tokens S) c o).config.boundary in
          let ss = ended (of_tokens tokens S) c in
          all-select (Holds img b') (kept b') ss (all_map _ _ (holds_later c.boundary b' (omega arith)) ss (ended-holds D c v));
    }
