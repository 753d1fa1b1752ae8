-- What the view shows of a node: its six entries, and the place and length of its token's body.
use Rattle.std.specs.Prelude.{ℕ, List, get_or}
use Rattle.book.specs.Book.{Place, found, missing, unread, place_in, read_book}
use Rattle.book.specs.declared.Place.{Place as Spot}
use Rattle.tables.specs.Tables.{Tables}
use Rattle.view.specs.declared.Node.{Node}

-- Place and length are 0 where the token is not in the book or the book is refused.
abbrev pub body_of : Place → Spot
body_of (found at n) = record { at = at; size = n }
body_of missing = record { at = 0; size = 0 }
body_of (unread k v) = record { at = 0; size = 0 }

-- The entries with the body of the token that the third one names.
abbrev shown : Tables → ℕ → Spot → Node
shown t node b = record {
  parent = get_or t.parent node 0;
  label = get_or t.label node 0;
  token = get_or t.token node 0;
  first = get_or t.first node 0;
  next = get_or t.next node 0;
  shift = get_or t.shift node 0;
  place = b.at;
  length = b.size;
}

-- An entry its table lacks is 0.
abbrev pub node_of : List ℕ → Tables → ℕ → Node
node_of book t node = shown t node (body_of (place_in (read_book book) (get_or t.token node 0)))
