-- Samples of what the view shows, as one table: the book of "ba" and "a" with its tables, whole and cut short, and a refused book; and
-- of a card number's two nodes.
use Rattle.std.specs.Prelude.{ℕ, ◌≡◌, refl, List, [], ◌∷◌, replicate}
use Rattle.tables.specs.Tables.{Tables, built, build}
use Rattle.view.specs.View.{node_of}
use Rattle.view.specs.declared.Node.{Node}

book : List ℕ
book = 2 ∷ 98 ∷ 97 ∷ 1 ∷ 97 ∷ 0 ∷ []

-- without the last 00h
refused_book : List ℕ
refused_book = 2 ∷ 98 ∷ 97 ∷ 1 ∷ 97 ∷ []

-- the tables of "ba" and "a", with a node more that has a token number above the number of tokens, and a sibling too many
tree : Tables
tree = record {
  parent = 0 ∷ 0 ∷ 1 ∷ 0 ∷ [];
  label = 0 ∷ 97 ∷ 98 ∷ 99 ∷ [];
  token = 0 ∷ 2 ∷ 1 ∷ 3 ∷ [];
  first = 1 ∷ 2 ∷ 0 ∷ 0 ∷ [];
  next = 0 ∷ 3 ∷ 0 ∷ 0 ∷ 7 ∷ [];
  shift = 1 ∷ 1 ∷ 1 ∷ 5 ∷ [];
}

-- parent, label, token, first child, next sibling, shift, place, length
row : Node → List ℕ
row n = n.parent ∷ n.label ∷ n.token ∷ n.first ∷ n.next ∷ n.shift ∷ n.place ∷ n.length ∷ []

rows : List (List ℕ)
unfolding row book refused_book tree
rows =
    row (node_of book tree 0)  -- the root: no token ends there
    ∷ row (node_of book tree 1)  -- "a", token 2
    ∷ row (node_of book tree 2)  -- "ba", token 1
    ∷ row (node_of book tree 3)  -- token 3 is not in the book
    ∷ row (node_of book tree 4)  -- five tables lack the entry
    ∷ row (node_of refused_book tree 1)  -- the book is refused
    ∷ []

rows_right : rows
    ≡ (0 ∷ 0 ∷ 0 ∷ 1 ∷ 0 ∷ 1 ∷ 0 ∷ 0 ∷ [])
    ∷ (0 ∷ 97 ∷ 2 ∷ 2 ∷ 3 ∷ 1 ∷ 4 ∷ 1 ∷ [])
    ∷ (1 ∷ 98 ∷ 1 ∷ 0 ∷ 0 ∷ 1 ∷ 1 ∷ 2 ∷ [])
    ∷ (0 ∷ 99 ∷ 3 ∷ 0 ∷ 0 ∷ 5 ∷ 0 ∷ 0 ∷ [])
    ∷ (0 ∷ 0 ∷ 0 ∷ 0 ∷ 7 ∷ 0 ∷ 0 ∷ 0 ∷ [])
    ∷ (0 ∷ 97 ∷ 2 ∷ 2 ∷ 3 ∷ 1 ∷ 0 ∷ 0 ∷ [])
    ∷ []
unfolding rows row book refused_book tree
rows_right = refl

-- Both nodes of a card number show where its body stands: "abcx" behind "a", with the nodes of its two orders.
both : List ℕ
both = 1 ∷ 97 ∷ 4 ∷ 97 ∷ 98 ∷ 99 ∷ 120 ∷ 0 ∷ []

cards : Tables
unfolding both
cards = (build both (record {
  parent = replicate 10 0;
  label = replicate 10 0;
  token = replicate 10 0;
  first = replicate 10 0;
  next = replicate 10 0;
  shift = replicate 10 0;
})).tables

both_right : row (node_of both cards 5) ∷ row (node_of both cards 8) ∷ [] ≡ (4 ∷ 97 ∷ 2 ∷ 0 ∷ 0 ∷ 1 ∷ 3 ∷ 4 ∷ []) ∷ (7 ∷ 120 ∷ 2 ∷ 0 ∷ 0 ∷ 1 ∷ 3 ∷ 4 ∷ []) ∷ []
unfolding row both cards built
both_right = refl
