-- One token of the second book more: the merged tokens, and their records.
use Rattle.std.specs.Prelude.{ℕ, ◌+◌, ◌<◌, ◌≡◌, refl, Bool, true, false, List, [], ◌∷◌, ◌++◌, length, get_or, take}
use Rattle.std.proofs.Common.{add-one, ap, ◌∙◌, append_assoc, append-nil, take-suc}
use Rattle.rules.specs.Lists.{select}
use Rattle.rules.proofs.Laws.All.{select-append}
use Rattle.book.specs.Bytes.{kind_of, records_of}
use Rattle.book.proofs.Laws.Bytes.{records-append}
use Rattle.merge.specs.Merge.{lacks, merged}
use Rattle.merge.specs.Steps.{if_wanted}

-- a token, if it is new
abbrev pub if_new : Bool → List ℕ → List (List ℕ)
if_new true t = t ∷ []
if_new false t = []

module _ (tokens others : List (List ℕ)) (i : ℕ) (h : i < length others) where
  abbrev pub new : Bool
  new = lacks tokens (get_or others i [])

  pub merged-more : merged tokens (take (i + 1) others) ≡ merged tokens (take i others) ++ if_new new (get_or others i [])
  merged-more =
      let t = get_or others i [] in
      let s : select (lacks tokens) (t ∷ []) ≡ if_new (lacks tokens t) t = go (lacks tokens t) t in
      rw (add-one, take-suc others i [] h, select-append, s, append_assoc)
    where
      go : (b : Bool) (t : List ℕ) → ◌≡◌ {A = List (List ℕ)} (elim b [ true ↦ t ∷ [] | false ↦ [] ]) (if_new b t)
      go true t = refl
      go false t = refl

  pub records-more : records_of (merged tokens (take (i + 1) others))
      ≡ records_of (merged tokens (take i others)) ++ if_wanted new (kind_of (length (get_or others i [])) ∷ get_or others i [])
  records-more =
      let t = get_or others i [] in
      rw merged-more (records-append (merged tokens (take i others)) (if_new new t) ∙ ap (λ l. records_of (merged tokens (take i others)) ++ l) (go new t))
    where
      go : (b : Bool) (t : List ℕ) → records_of (if_new b t) ≡ if_wanted b (kind_of (length t) ∷ t)
      go true t = ap (λ l. kind_of (length t) ∷ l) (append-nil t)
      go false t = refl
