-- Bytes read from the right, off a function from places to bytes.
use Rattle.std.specs.Prelude.{ℕ, suc, ◌+◌, ◌-◌, ◌≤◌, ◌<◌, ◌≡◌, true, List, [], ◌∷◌, length, get_or, take, drop}
use Rattle.std.proofs.Common.{arith, ap, sym, ◌∙◌, le-leb, length-drop, length-take, get_or-drop, get_or-take, ext_get_or}
use Rattle.std.proofs.Math.Decide.{ℕ_discrete}
use Rattle.rules.specs.Tokens.{ends}
use Rattle.rules.specs.Words.{is_word}
use Rattle.rules.specs.Sweep.{Stands}
use Rattle.rules.proofs.Laws.Endings.{same_refl}
use Rattle.rules.proofs.Laws.Words.{word-length}
use Rattle.rules.specs.Configs.{Reads, byte_of}

module _ (img : ℕ → ℕ) where
  -- by the index from the left
  reads_at : (u : List ℕ) (b : ℕ) → Reads img u b → (i : ℕ) → i < length u → get_or u i 0 ≡ img (b - 1 - (length u - 1 - i))
  reads_at u b r i h =
      let z : length u - 1 - (length u - 1 - i) ≡ i = omega arith in
      rw z at (r (length u - 1 - i) (omega arith))

  pub reads-eq : (u t : List ℕ) (b : ℕ) → Reads img u b → Reads img t b → length u ≡ length t → u ≡ t
  reads-eq u t b r q e =
      ext_get_or 0 u t e λ i h. reads_at u b r i h ∙ ap (λ (n : ℕ). img (b - 1 - (n - 1 - i))) e ∙ sym (reads_at t b q i (omega arith))

  pub reads-drop : (j : ℕ) (u : List ℕ) (b : ℕ) → Reads img u b → Reads img (drop j u) b
  reads-drop j u b r k h =
      let l : length (drop j u) ≡ length u - j = length-drop j u in
      let z : j + (length (drop j u) - 1 - k) ≡ length u - 1 - k = omega arith in
      get_or-drop j u (length (drop j u) - 1 - k) 0 ∙ rw z (r k (omega arith))

  pub reads-cons : (x : ℕ) (u : List ℕ) (b : ℕ) → Reads img u b → x ≡ img (b - 1 - length u) → Reads img (x ∷ u) b
  reads-cons x u b r e k h = go (ℕ_discrete k (length u))
    where
      go : Dec (k ≡ length u) → get_or (x ∷ u) (suc (length u) - 1 - k) 0 ≡ img (b - 1 - k)
      go (yes q) = let z : suc (length u) - 1 - k ≡ 0 = omega arith in rw (z, q) e
      go (no q) = let z : suc (length u) - 1 - k ≡ suc (length u - 1 - k) = omega arith in rw z (r k (omega arith))

  pub reads-ends : (u t : List ℕ) (b : ℕ) → Reads img u b → Reads img t b → length u ≤ length t → ends u t ≡ true
  reads-ends u t b r q h =
      let e : u ≡ drop (length t - length u) t = reads-eq u _ b r (reads-drop (length t - length u) t b q) (rw length-drop (omega arith)) in
      cc (le-leb (length u) (length t) h, same_refl u)

-- The n bytes of an image left of e, which are read there.
module _ (image : List ℕ) (e n : ℕ) (fits : n ≤ e) (inside : e ≤ length image) where
  abbrev under : List ℕ
  under = take n (drop (e - n) image)

  under-long : length under ≡ n
  under-long = simp (length-take, length-drop) (omega arith)

  pub under-reads : Reads (byte_of image) under e
  under-reads k l =
      let z : length under ≡ n = under-long in
      let y : e - n + (n - 1 - k) ≡ e - 1 - k = omega arith in
      ap (λ m. get_or under (m - 1 - k) 0) z
      ∙ get_or-take n (drop (e - n) image) (n - 1 - k) 0 (omega arith) ∙ get_or-drop (e - n) image (n - 1 - k) 0 ∙ ap (byte_of image) y

  -- what is read there is these
  pub reads-under : (u : List ℕ) → length u ≡ n → Reads (byte_of image) u e → u ≡ take n (drop (e - n) image)
  reads-under u l r = reads-eq (byte_of image) u under e r under-reads (l ∙ sym under-long)

-- The word of a token that stands in the image with its right edge at e is read there, and the other way round.
module _ (tokens : List (List ℕ)) (image : List ℕ) (e i : ℕ) where
  -- the bytes of the image where it stands
  abbrev pub standing : List ℕ
  standing = take (length (get_or tokens i [])) (drop (e - length (get_or tokens i [])) image)

  module _ (s : Stands tokens image e i) where
    pub stands-long : length standing ≡ length (get_or tokens i [])
    stands-long = under-long image e (length (get_or tokens i [])) s.fits s.inside

    pub stands→reads : Reads (byte_of image) standing e
    stands→reads = under-reads image e (length (get_or tokens i [])) s.fits s.inside

  pub reads→stands : i < length tokens → length (get_or tokens i []) ≤ e → e ≤ length image
      → (u : List ℕ) → is_word u (get_or tokens i []) ≡ true → Reads (byte_of image) u e → Stands tokens image e i
  reads→stands i< h n u w r =
      let t = get_or tokens i [] in
      let q : u ≡ standing = reads-under image e (length t) h n u (word-length u t w) r in
      record { numbered = i<; fits = h; inside = n; bytes = rw (← q) w }
