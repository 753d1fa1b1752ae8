-- What the sweep of an image answers, as the definitions have it.
use Rattle.std.specs.Prelude.{ℕ, ◌+◌, true, false, List, Result, Ok, Err}
use Rattle.rules.specs.Tokens.{body_bytes}
use Rattle.book.specs.Book.{Verdict, accepted, refused, read_book, max_image}
use Rattle.book.specs.Answers as book
use Rattle.tables.specs.Tables.{Tables, too_short}
use Rattle.trie.specs.declared.Refusal.{Refusal as Unbuilt}
use Rattle.trie.specs.declared.Refusal.TheVariants as trie
use Rattle.image.specs.declared.Found.{Found}
use Rattle.image.specs.declared.Refusal.{Refusal}
use Rattle.image.specs.declared.Refusal.TheVariants.{Unread, TooShort, TooLong, TooMany}

-- each refusal's number and value
abbrev pub refusal_of : Refusal → ℕ × ℕ
refusal_of (Unread why) = book.refusal_of why
refusal_of (TooShort room) = (7, room)
refusal_of (TooLong most) = (8, most)
refusal_of (TooMany found) = (12, found.hits)

-- why tables were not built, as a refusal of the sweep
abbrev pub unbuilt : Unbuilt → Refusal
unbuilt (trie.Unread why) = Unread why
unbuilt (trie.TooShort room) = TooShort room

-- the number of hits, or the refusal
abbrev pub swept_of : Result Found Refusal → Verdict ℕ
swept_of (Ok found) = accepted found.hits
swept_of (Err why) = refused (refusal_of why).0 (refusal_of why).1

-- the number of bytes fetched, and of those taken from stretches
abbrev pub fetched_of : Result Found Refusal → ℕ
fetched_of (Ok found) = found.fetched
fetched_of (Err (Unread why)) = 0
fetched_of (Err (TooShort room)) = 0
fetched_of (Err (TooLong most)) = 0
fetched_of (Err (TooMany found)) = found.fetched

abbrev pub spared_of : Result Found Refusal → ℕ
spared_of (Ok found) = found.spared
spared_of (Err (Unread why)) = 0
spared_of (Err (TooShort room)) = 0
spared_of (Err (TooLong most)) = 0
spared_of (Err (TooMany found)) = found.spared

-- What is refused when the image is over its limit: 1 to 6, 7, 8.
abbrev pub refusal_for : List ℕ → Tables → Verdict ℕ
refusal_for book t =
    elim (read_book book) [
      | refused k v ↦ refused k v
      | accepted tokens ↦ elim (too_short t tokens) [ true ↦ refused 7 (1 + body_bytes tokens) | false ↦ refused 8 max_image ]
    ]
