-- Samples of rule 5 for one word, "axbbx".
use Rattle.std.specs.Prelude.{ℕ, ◌≡◌, refl, List, [], ◌∷◌, Some, None}
use Rattle.std.proofs.Math.Option.{some, none}
use Rattle.rules.specs.Options.{option_of}
use Rattle.rules.specs.Lists.{least}
use Rattle.agree.specs.Tests.{byte_test, least_of}

abbrev axbbx : List ℕ
axbbx = 97 ∷ 120 ∷ 98 ∷ 98 ∷ 120 ∷ []

-- The closing byte "a" at the boundary comes there by 4, and by 3 one byte left of it.
closing-first : least (byte_test 0 97 axbbx) 1 9 ≡ 4
closing-first = refl

closing-second : least (byte_test 1 97 axbbx) 1 9 ≡ 3
closing-second = refl

-- Where it fits for none below the best so far, it is that; and never less than 1.
none_below : least (byte_test 0 97 axbbx) 1 1 ≡ 2
none_below = refl

none_at_all : least (byte_test 0 97 axbbx) 1 0 ≡ 1
none_at_all = refl

-- Of two words the one that fits first counts.
of_two : least_of (byte_test 0 120) (axbbx ∷ (120 ∷ 98 ∷ 120 ∷ []) ∷ []) 3 ≡ 2
of_two = refl

-- Each case of the test's answer.
cases-told : option_of None ∷ option_of (Some 9) ∷ [] ≡ none ∷ some 9 ∷ []
cases-told = refl
