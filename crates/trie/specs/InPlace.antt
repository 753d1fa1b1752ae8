-- Insertion into lent tables: the nodes so far stand in front, and anything behind them.
use Rattle.std.specs.Prelude.{ℕ, ◌+◌, ◌≤◌, ◌<◌, Bool, true, false, List, [], ◌∷◌, reverse, eqb, length, take, set, ◌≡◌}
use Rattle.rules.specs.Words.{all_words}
use Rattle.rules.specs.Tokens.{body_bytes}
use Rattle.tables.specs.Tables.{Tables, nodes, built, written}
use Rattle.tables.specs.Inserted.{inserted, unshifted}
use Rattle.tables.specs.Shape.{Shape}
use Rattle.book.specs.Book.{read_book, accepted}

-- all but that of shifts have n entries at least
pub record Room (t : Tables) (n : ℕ) : Type 0 where
  pub parents : n ≤ length t.parent
  pub labels : n ≤ length t.label
  pub tokens : n ≤ length t.token
  pub firsts : n ≤ length t.first
  pub nexts : n ≤ length t.next

-- n nodes stand in front, v is one of them, and k more have room and fit in 16 bits
pub record Ready (t : Tables) (n v k : ℕ) : Type 0 where
  pub shape : Shape t n
  pub inside : v < n
  pub room : Room t (n + k)
  pub small : n + k ≤ 65536

-- a new child of v as its first, and one behind `last`, the last so far (0: there is none)
abbrev pub put_first : Tables → ℕ → ℕ → ℕ → Tables
put_first t new v x = record {
  parent = set t.parent new v;
  label = set t.label new x;
  token = set t.token new 0;
  first = set (set t.first new 0) v new;
  next = set t.next new 0;
  shift = t.shift;
}

abbrev pub put_behind : Tables → ℕ → ℕ → ℕ → ℕ → Tables
put_behind t new v last x = record {
  parent = set t.parent new v;
  label = set t.label new x;
  token = set t.token new 0;
  first = set t.first new 0;
  next = set (set t.next new 0) last new;
  shift = t.shift;
}

abbrev pub put_child : Tables → ℕ → ℕ → ℕ → ℕ → Tables
put_child t new v last x = elim (eqb last 0) [ true ↦ put_first t new v x | false ↦ put_behind t new v last x ]

-- the first n nodes, without shifts
abbrev pub cut : ℕ → Tables → Tables
cut n t = record {
  parent = take n t.parent;
  label = take n t.label;
  token = take n t.token;
  first = take n t.first;
  next = take n t.next;
  shift = [];
}

pub record Placed : Type 0 where
  pub tables : Tables
  pub count : ℕ
  pub node : ℕ

-- The bytes xs inserted from node v on.
unfoldable pub placed : Tables → ℕ → ℕ → List ℕ → Placed
placed t n v xs =
    let g = inserted (cut n t) v xs in
    record { tables = written g.tables t; count = length g.tables.parent; node = g.node }

-- tables, and how many nodes stand in them
pub record Counted : Type 0 where
  pub tables : Tables
  pub count : ℕ

-- a token's number at the node that a word's bytes lead to
abbrev pub numbered : Placed → ℕ → Counted
numbered p i = record {
  tables = record {
    parent = p.tables.parent;
    label = p.tables.label;
    token = set p.tables.token p.node i;
    first = p.tables.first;
    next = p.tables.next;
    shift = p.tables.shift;
  };
  count = p.count;
}

-- The words inserted one after the other, each from the root on, with the number i at its node.
abbrev pub placed_words : Tables → ℕ → ℕ → List (List ℕ) → Counted
placed_words t n i [] = record { tables = t; count = n }
placed_words t n i (w ∷ ws) = let c = numbered (placed t n 0 (reverse w)) i in placed_words c.tables c.count i ws

-- The bytes of a body in book order, or reversed.
abbrev pub reversed_if : Bool → List ℕ → List ℕ
reversed_if false body = body
reversed_if true body = reverse body

-- The tables of the tokens but for their shifts, in front of what was there.
unfoldable pub filled : List (List ℕ) → Tables → Counted
filled tokens t = record { tables = written (unshifted (built tokens)) t; count = length (nodes (all_words tokens)) }

-- the lists but that of shifts are as long as they were
pub record Kept (t t' : Tables) : Type 0 where
  pub parents : length t'.parent ≡ length t.parent
  pub labels : length t'.label ≡ length t.label
  pub tokens : length t'.token ≡ length t.token
  pub firsts : length t'.first ≡ length t.first
  pub nexts : length t'.next ≡ length t.next

-- The book is read, and the tables have room for all words of its bodies.
pub record Fillable (book : List ℕ) (t : Tables) : Type 0 where
  pub tokens : List (List ℕ)
  pub read : read_book book ≡ accepted tokens
  pub room : Room t (1 + body_bytes tokens)
