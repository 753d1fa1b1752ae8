-- The nodes' endings as a list in the order of their numbers, and what a word's bytes do to it.
use Rattle.std.specs.Prelude.{ℕ, suc, ◌<◌, ◌≡◌, refl, true, false, length, get_or}
use Rattle.std.proofs.Common.{arith, sym, ◌∙◌, length-append}
use mathlib.Core.List.{List, [], ◌∷◌, ◌++◌, reverse, reverse_aux, reverse-cons, reverse-reverse}
use Rattle.std.proofs.Math.ListN.{get_or-append}
use Rattle.std.proofs.lemmas.List.{get_or_at}
use Rattle.rules.specs.Lists.{same, any_of}
use Rattle.rules.proofs.Laws.Tests.{false-test, below_suc, any_of-in, any_of-out}
use Rattle.rules.proofs.Laws.Endings.{same_refl, same→eq}
use Rattle.tables.specs.Tables.{Tables, endings_of, noted, noted_words}
use Rattle.tables.specs.Walks.{ending}
use Rattle.tables.specs.Shape.{Shape}
use Rattle.tables.proofs.Laws.Shape.{Agree, ending-same}

-- the n nodes have the endings us, in this order
pub record Listed (t : Tables) (n : ℕ) (us : List (List ℕ)) : Type 0 where
  pub size : length us ≡ n
  pub at : (v : ℕ) → v < n → get_or us v [] ≡ ending t v

module _ (t : Tables) (n : ℕ) (us : List (List ℕ)) (l : Listed t n us) where
  -- an ending that some node has, and one that none has
  pub listed-old : (u : List ℕ) (v : ℕ) → v < n → ending t v ≡ u → any_of (same u) us ≡ true
  listed-old u v h e = any_of-in (same u) us [] v (omega (arith, l.size)) (rw (l.at v h, e) (same_refl u))

  pub listed-new : (u : List ℕ) → ((v : ℕ) → v < n → ending t v ≡ u → ⊥) → any_of (same u) us ≡ false
  listed-new u d = false-test (any_of (same u) us) (λ e.
      let q = any_of-out (same u) us [] e in
      let h : q.0 < n = omega (arith, q.1, l.size) in
      d q.0 h (sym (l.at q.0 h) ∙ sym (same→eq u (get_or us q.0 []) q.2)))

  module _ (s : Shape t n) (t' : Tables) (a : Agree t t' n) where
    pub listed-agree : Listed t' n us
    listed-agree = record { size = l.size; at = λ v h. l.at v h ∙ sym (ending-same t n s t' a v h) }

    -- one node more
    pub listed_more : (u : List ℕ) → ending t' n ≡ u → Listed t' (suc n) (us ++ (u ∷ []))
    listed_more u e = record {
      size = length-append us (u ∷ []) ∙ omega (arith, l.size);
      at = λ v h. below_suc v n h
          (λ v<. get_or-append us (u ∷ []) [] v (omega (arith, l.size)) ∙ listed-agree.at v v<)
          (λ q. rw q (get_or_at us u [] [] n l.size ∙ sym e));
    }

-- the endings that the bytes xs lead to, above the ending u
abbrev pub upwards : List ℕ → List ℕ → List (List ℕ)
upwards [] u = []
upwards (x ∷ xs) u = (x ∷ u) ∷ upwards xs (x ∷ u)

upwards-append : (xs ys u : List ℕ) → upwards (xs ++ ys) u ≡ upwards xs u ++ upwards ys (reverse_aux xs u)
upwards-append [] ys u = refl
upwards-append (x ∷ xs) ys u = cc (upwards-append xs ys (x ∷ u))

pub upwards-all : (word : List ℕ) → upwards (reverse word) [] ≡ endings_of word
upwards-all [] = refl
upwards-all (x ∷ word) = rw (reverse-cons, upwards-append) (cc (upwards-all word, reverse-reverse word))

-- the words ws, and then more
pub noted-append : (seen ws us : List (List ℕ)) → noted_words seen (ws ++ us) ≡ noted_words (noted_words seen ws) us
noted-append seen [] us = refl
noted-append seen (w ∷ ws) us = noted-append (noted seen (endings_of w)) ws us
