-- What the calls answer, as the definitions have it: lent lists as tables, a test, a building.
use Prim.{Unit, tt}
use Rattle.std.specs.Prelude.{ℕ, Bool, ◌&&◌, List, [], Result, Ok, Err, leb, get_or}
use Rattle.book.specs.Book.{Verdict, accepted, refused}
use Rattle.book.specs.Answers as book
use Rattle.tables.specs.Tables.{Tables, Sizes}
use Rattle.tables.specs.Broken.{links, shifts, max_number}
use Rattle.trie.specs.declared.Broken.{Broken}
use Rattle.trie.specs.declared.Refusal.{Refusal}
use Rattle.trie.specs.declared.Refusal.TheVariants.{Unread, TooShort}
use Rattle.trie.specs.declared.Sizes.{Sizes as Made}

-- six lent lists as tables, and five of them where shifts play no part
abbrev pub tables : List ℕ → List ℕ → List ℕ → List ℕ → List ℕ → List ℕ → Tables
tables parent label token first next shift = record { parent = parent; label = label; token = token; first = first; next = next; shift = shift }

abbrev pub tree_only : List ℕ → List ℕ → List ℕ → List ℕ → List ℕ → Tables
tree_only parent label token first next = tables parent label token first next []

-- each refusal's number and value: of tables that break, and of building
abbrev pub break_of : Broken → ℕ × ℕ
break_of b = (9, b.node)

abbrev pub refusal_of : Refusal → ℕ × ℕ
refusal_of (Unread why) = book.refusal_of why
refusal_of (TooShort room) = (7, room)

abbrev pub tested_of : Result Unit Broken → Verdict Unit
tested_of (Ok _) = accepted tt
tested_of (Err b) = refused (break_of b).0 (break_of b).1

-- the tests of node v, which is not the root, but those of its parent and its depth
abbrev pub own_sound : Tables → ℕ → ℕ → Bool
own_sound t count v = leb (get_or t.token v 0) max_number && links t count v && shifts t v

abbrev pub answer_of : Result Made Refusal → Verdict Sizes
answer_of (Ok s) = accepted (record { nodes = s.nodes; shortest = s.shortest; longest = s.longest })
answer_of (Err why) = refused (refusal_of why).0 (refusal_of why).1
