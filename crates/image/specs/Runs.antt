-- Runs of equal bytes in the image, and where a run of one byte leads in the tables' tree.
use Rattle.std.specs.Prelude.{ℕ, ◌+◌, ◌-◌, ◌≤◌, ◌<◌, ◌≡◌, Bool, true, List, length, get_or}
use Rattle.std.proofs.Math.Option.{some, none}
use Rattle.book.specs.Book.{max_body}
use Rattle.tables.specs.Tables.{Tables}
use Rattle.trie.specs.Lent.{tables_of}
use Rattle.image.specs.declared.given.Sweep.{Sweep}
use Rattle.image.specs.declared.runs.Runs.{Runs}
use Rattle.image.specs.Rounds.{meeting}
use Rattle.image.specs.Walk.{tree_in, newest}

-- The places from `from` up to `till` have one and the same byte.
abbrev pub Equal : List ℕ → ℕ → ℕ → Type 0
Equal image from till = (i : ℕ) → from ≤ i → i < till → get_or image i 0 ≡ get_or image (till - 1) 0

module _ (tables : Tables) (count : ℕ) where
  -- The powers of the byte x, the words x, xx and so on, as far as they are known: the node of each, and of the tokens that are powers,
  -- by rising length, how many are as long as it or shorter. Where the powers end, the last has no child by x.
  pub record Powers (x known : ℕ) (ended : Bool) (power upto numbers : List ℕ) : Type 0 where
    pub nodes : length power ≡ 1 + max_body
    pub counts : length upto ≡ 1 + max_body
    pub room : length numbers ≡ max_body
    pub near : known ≤ max_body
    pub root : get_or power 0 0 ≡ 0
    pub empty : get_or upto 0 0 ≡ 0
    pub child : (k : ℕ) → k < known → (tree_in tables count).child (get_or power k 0) x ≡ some (get_or power (k + 1) 0)
    pub met : (k : ℕ) → k < known
        → newest numbers (get_or upto (k + 1) 0) ≡ meeting (newest numbers (get_or upto k 0)) (get_or tables.token (get_or power (k + 1) 0) 0)
    pub rising : (k : ℕ) → k ≤ known → (get_or upto k 0 ≤ k) × (get_or upto k 0 ≤ get_or upto known 0)
    pub held : (k : ℕ) → k ≤ known → get_or power k 0 < count
    pub last : ended ≡ true → (tree_in tables count).child (get_or power known 0) x ≡ none

  -- The run was met in the image, and the powers are its byte's.
  pub record Followed (image : List ℕ) (runs : Runs) : Type 0 where
    pub order : runs.from ≤ runs.till
    pub equal : Equal image runs.from runs.till
    pub byte : runs.from < runs.till → get_or image (runs.till - 1) 0 ≡ runs.byte
    pub powers : Powers runs.byte runs.known runs.ended runs.power runs.upto runs.numbers

-- All this of a sweep's tables and image.
module _ (s : Sweep) where
  abbrev pub PowersIn : Runs → Type 0
  PowersIn runs =
      Powers (tables_of s.tables) s.count runs.byte runs.known runs.ended runs.power runs.upto runs.numbers

  abbrev pub FollowedIn : Runs → Type 0
  FollowedIn runs = Followed (tables_of s.tables) s.count s.image.now runs
