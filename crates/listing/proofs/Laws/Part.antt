-- The hits of a part that end past `at` are those of the whole image, in the same order, if no token that ends there is cut.
use Rattle.std.specs.Prelude.{ℕ, ◌+◌, ◌-◌, ◌≤◌, ◌<◌, ◌≡◌, leb, ltb, length, get_or, drop}
use Rattle.std.proofs.Common.{arith, ap, sym, ◌∙◌, le-leb, ltb-true, leb-true, length-take, length-drop, get_or-take, get_or-drop}
use mathlib.Core.List.Memᴰ
use mathlib.Core.List.{List, [], map, Memᴰ}
use Rattle.rules.specs.Tokens.{longest_of, shortest_of}
use Rattle.rules.specs.Sweep.{Stands, further, hits_of}
use Rattle.rules.specs.Setting.{Setting}
use Rattle.rules.specs.Configs.{byte_of}
use Rattle.rules.proofs.Laws.Exact.{happens-exact}
use Rattle.rules.proofs.Laws.Exact.Reads.{standing, stands-long, stands→reads, reads→stands}
use Rattle.rules.proofs.Laws.Members.{select_in, select-out}
use Rattle.rules.proofs.Laws.Ordered.{ordered-moved, ordered-select, same-members}
use Rattle.listing.specs.Parts.{between, past, up_to}

pub pair : (g h : ℕ × ℕ) → g.0 ≡ h.0 → g.1 ≡ h.1 → g ≡ h
pair g h e i = ap (λ n. (n, g.1)) e ∙ ap (λ n. (h.0, n)) i

module _ (tokens : List (List ℕ)) (image : List ℕ) (from to : ℕ) where
  abbrev piece : List ℕ
  piece = between from to image

  length-piece : (length piece ≤ to - from) × (length piece ≤ length image - from)
  length-piece = simp (length-take, length-drop) (omega arith, omega arith)

  byte : (k : ℕ) → from + k < to → byte_of piece k ≡ byte_of image (from + k)
  byte k h = get_or-take (to - from) (drop from image) k 0 (omega arith) ∙ get_or-drop from image k 0

  -- A token that stands in the part stands in the image, and the other way round if it is not cut.
  stands-out : (e i : ℕ) → 1 ≤ e → Stands tokens piece e i → Stands tokens image (from + e) i × (from + e ≤ to)
  stands-out e i h s =
      let l = length-piece in (
        reads→stands tokens image (from + e) i s.numbered (omega (arith, s.fits)) (omega (arith, s.inside, l.0, l.1))
            (standing tokens piece e i) s.bytes
            (λ k k<.
            let z : from + (e - 1 - k) ≡ from + e - 1 - k = omega (arith, s.fits, stands-long tokens piece e i s) in
            stands→reads tokens piece e i s k k<
            ∙ byte (e - 1 - k) (omega (arith, s.fits, s.inside, l.0)) ∙ ap (byte_of image) z),
        omega (arith, s.inside, l.0),
      )

  stands-in : (e i : ℕ) → length (get_or tokens i []) ≤ e → from + e ≤ to → Stands tokens image (from + e) i → Stands tokens piece e i
  stands-in e i short h s =
      reads→stands tokens piece e i s.numbered short (simp (length-take, length-drop) (omega (arith, s.inside)))
      (standing tokens image (from + e) i) s.bytes
      (λ k k<.
      let z : from + (e - 1 - k) ≡ from + e - 1 - k = omega (arith, stands-long tokens image (from + e) i s) in
      stands→reads tokens image (from + e) i s k k< ∙ ap (byte_of image) (sym z) ∙ sym (byte (e - 1 - k) (omega (arith, stands-long tokens image (from + e) i s))))

module _ (tokens : List (List ℕ)) (setting : Setting tokens (shortest_of tokens) (longest_of tokens)) (image : List ℕ) (from at to : ℕ)
    (reach : from ≤ at - (longest_of tokens - 1)) (on : at ≤ to) where
  abbrev of_part : List (ℕ × ℕ)
  of_part = hits_of tokens (between from to image)

  abbrev of_image : List (ℕ × ℕ)
  of_image = hits_of tokens image

  out : (h : ℕ × ℕ) → Memᴰ h (past at (map (further from) of_part)) → Memᴰ h (past at (up_to to of_image))
  out h m =
      let f = select-out (λ h. ltb at h.0) h (map (further from) of_part) m in
      let g = Memᴰ.of_map (further from) of_part f.0 in
      let e = g.0.0 in
      let i = g.0.1 in
      let s = (happens-exact tokens setting (between from to image)).occurrences.sound e i g.1 in
      let some : 1 ≤ e = omega (arith, s.0.fits, setting.shortest (i - 1) s.0.numbered, setting.positive) in
      let o = stands-out tokens image from to e (i - 1) some s.0 in
      let z : i - 1 + 1 ≡ i = omega (arith, s.1) in
      let q : h ≡ (from + e, i - 1 + 1) = sym g.2 ∙ ap (λ (n : ℕ). (from + e, n)) (sym z) in
      let inside : h.0 ≤ to = omega (arith, ap (λ (h : ℕ × ℕ). h.0) g.2, o.1) in
      select_in (λ h. ltb at h.0) h (up_to to of_image)
      (select_in (λ h. leb h.0 to) h of_image (Memᴰ.cast q ((happens-exact tokens setting image).occurrences.complete (from + e) (i - 1) o.0))
      (le-leb h.0 to inside))
      f.1

  back : (h : ℕ × ℕ) → Memᴰ h (past at (up_to to of_image)) → Memᴰ h (past at (map (further from) of_part))
  back h m =
      let f = select-out (λ h. ltb at h.0) h (up_to to of_image) m in
      let g = select-out (λ h. leb h.0 to) h of_image f.0 in
      let e = h.0 - from in
      let i = h.1 - 1 in
      let s = (happens-exact tokens setting image).occurrences.sound h.0 h.1 g.0 in
      let later : at < h.0 = ltb-true at h.0 f.1 in
      let inside : h.0 ≤ to = leb-true h.0 to g.1 in
      let z : from + e ≡ h.0 = omega arith in
      let short : length (get_or tokens i []) ≤ e = omega (arith, s.0.fits, setting.longest i s.0.numbered) in
      let p = stands-in tokens image from to e i short (omega arith) (rw z s.0) in
      let c = Memᴰ.map (further from) ((happens-exact tokens setting (between from to image)).occurrences.complete e i p) in
      let y : h.1 ≡ i + 1 = omega (arith, s.1) in
      let q : h ≡ (from + e, i + 1) = pair h (from + e, i + 1) (sym z) y in
      select_in (λ h. ltb at h.0) h (map (further from) of_part) (Memᴰ.cast q c) f.1

  pub part : past at (map (further from) (hits_of tokens (between from to image))) ≡ past at (up_to to (hits_of tokens image))
  part =
      same-members tokens _ _
      (ordered-select tokens (λ h. ltb at h.0) (map (further from) of_part)
      (ordered-moved tokens from of_part (happens-exact tokens setting (between from to image)).occurrences.ordered))
      (ordered-select tokens (λ h. ltb at h.0) (up_to to of_image)
      (ordered-select tokens (λ h. leb h.0 to) of_image (happens-exact tokens setting image).occurrences.ordered))
      out back
