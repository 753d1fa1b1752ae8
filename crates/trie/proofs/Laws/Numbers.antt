-- What an answer tells as an outcome is what the definitions tell of it: the refusal's number and value, and 0 and 0 where it is none.
use Prim.{Unit}
use Rattle.std.specs.Prelude.{◌≡◌, refl, Result, Ok, Err}
use Rattle.book.specs.Book.{refusal_in}
use Rattle.book.specs.Answers.{answered_by}
use Rattle.trie.specs.Answers.{break_of, refusal_of, tested_of, answer_of}
use Rattle.trie.specs.declared.Broken.{Broken}
use Rattle.trie.specs.declared.Refusal.{Refusal}
use Rattle.trie.specs.declared.Sizes.{Sizes}

pub tested-told : (r : Result Unit Broken) → refusal_in (answered_by break_of r) ≡ refusal_in (tested_of r)
tested-told (Ok u) = refl
tested-told (Err broken) = refl

pub building-told : (r : Result Sizes Refusal) → refusal_in (answered_by refusal_of r) ≡ refusal_in (answer_of r)
building-told (Ok sizes) = refl
building-told (Err why) = refl
