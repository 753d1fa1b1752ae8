-- The two calls that step a sweep by single bytes, carrying on and supplying a byte: refusals 9, 10 and 11, and the rules.
use Rattle.std.specs.Prelude.{ℕ, zero, suc, ◌+◌, ◌*◌, min, Bool, true, false, not, List, [], ◌∷◌, length, get_or}
use Rattle.std.proofs.Math.Option.{Option, some, none}
use Rattle.rules.specs.Rules.{Config, Event, Step, finished, wants, goes, take_byte, next}
use Rattle.rules.specs.Sweep.{recalls, hits}
use Rattle.book.specs.Book.{max_body}
use Rattle.tables.specs.Tables.{Tables}
use Rattle.tables.specs.Walks.{carrier}
use Rattle.tables.specs.Broken.{broken}
use Rattle.scan.specs.declared.Scan.{Scan}
use Rattle.scan.specs.State.{laid, config_of, tree_of, max_supplied, max_spared, max_stretches, in_range}

-- What a step answers: fetch this place, a hit (end, token), done, or a refusal's number and value; and the next state.
pub data Answer : Type 0 where
  fetch : ℕ → Answer
  found : ℕ → ℕ → Answer
  over : Answer
  refused : ℕ → ℕ → Answer

pub record Stepped : Type 0 where
  pub state : Scan
  pub answer : Answer

-- the refusal's number and value, both 0 where there is none
abbrev pub step_refusal : Answer → ℕ × ℕ
step_refusal (fetch p) = (0, 0)
step_refusal (found e i) = (0, 0)
step_refusal over = (0, 0)
step_refusal (refused k v) = (k, v)

-- One byte more is supplied; the count stops.
abbrev pub counted : Scan → Scan
counted s = record {
  image = s.image;
  shortest = s.shortest;
  count = s.count;
  boundary = s.boundary;
  node = s.node;
  depth = s.depth;
  due = false;
  stretches = s.stretches;
  supplied = min max_supplied (s.supplied + 1);
  spared = s.spared;
  end = s.end;
  hit = s.hit;
}

-- So many bytes more are taken from stretches; the count stops.
abbrev pub sparing : Scan → ℕ → Scan
sparing s k = record {
  image = s.image;
  shortest = s.shortest;
  count = s.count;
  boundary = s.boundary;
  node = s.node;
  depth = s.depth;
  due = s.due;
  stretches = s.stretches;
  supplied = s.supplied;
  spared = min max_spared (s.spared + k);
  end = s.end;
  hit = s.hit;
}

-- A byte is due.
abbrev pub awaiting : Scan → Scan
awaiting s = record {
  image = s.image;
  shortest = s.shortest;
  count = s.count;
  boundary = s.boundary;
  node = s.node;
  depth = s.depth;
  due = true;
  stretches = s.stretches;
  supplied = s.supplied;
  spared = s.spared;
  end = s.end;
  hit = s.hit;
}

-- the same state at another configuration
abbrev pub moved : Scan → Config ℕ → Scan
moved s c = record {
  image = s.image;
  shortest = s.shortest;
  count = s.count;
  boundary = c.boundary;
  node = c.node;
  depth = c.depth;
  due = s.due;
  stretches = laid max_stretches c.stretches;
  supplied = s.supplied;
  spared = s.spared;
  end = s.end;
  hit = s.hit;
}

-- The hits with this end are left to be answered, that of node v next; none where v is the root.
abbrev pub owing : Scan → ℕ → ℕ → Scan
owing s end v = record {
  image = s.image;
  shortest = s.shortest;
  count = s.count;
  boundary = s.boundary;
  node = s.node;
  depth = s.depth;
  due = s.due;
  stretches = s.stretches;
  supplied = s.supplied;
  spared = s.spared;
  end = elim v [ zero ↦ 0 | suc w ↦ end ];
  hit = v;
}

-- The next hit that is left is answered. After it comes that of the nearest node above that carries a token.
abbrev pub told : Tables → Scan → Stepped
told t s = record {
  state = owing s s.end (carrier t (get_or t.parent s.hit 0));
  answer = found s.end (get_or t.token s.hit 0);
}

-- the node of the first hit of a step, which ends its round at node v then; the root for none
abbrev pub first_hit : Tables → ℕ → List (Event ℕ) → ℕ
first_hit t v es = elim (hits es) [ [] ↦ 0 | h ∷ hs ↦ carrier t v ]

-- A step of the rules: the bytes it takes from stretches are counted, the state stands where it leads, and its hits are left.
abbrev pub stepped : Tables → Scan → Step ℕ → Scan
stepped t s w = owing (moved (sparing s (length (recalls w.events))) w.config) s.boundary (first_hit t s.node w.events)

-- A call runs on until it can answer: a hit that is left, a place to fetch, or done.
abbrev pub settle : Tables → ℕ → Scan → Stepped
settle t zero s = record { state = s; answer = over }
settle t (suc fuel) s =
    elim s.hit [
      | zero ↦ elim (next (tree_of t s) s.image (config_of s)) [
        | finished ↦ record { state = s; answer = over }
        | wants at ↦ record { state = awaiting s; answer = fetch at }
        | goes w ↦ settle t fuel (stepped t s w)
      ]
      | suc v ↦ told t s
    ]

-- steps enough: each takes a byte of a round, of which there are at most 1,024, or ends the round and raises the boundary
abbrev pub enough : Scan → ℕ
enough s = (s.image + 2) * (max_body + 2)

-- the two say the same
abbrev pub agree : Bool → Bool → Bool
agree true b = b
agree false b = not b

-- Refusal 11: a byte is supplied when none is due, or the call carries on when one is; `turn`: the call supplies bytes.
abbrev pub out_of_turn : Scan → Bool → Bool
out_of_turn s turn = not (agree s.due turn)

-- A step's refusals: 9, 10, 11.
abbrev pub judged : Tables → Scan → Bool → Option Answer
judged t s turn =
    elim (broken t s.count) [
      | some v ↦ some (refused 9 v)
      | none ↦ elim (in_range t s) [
        | false ↦ some (refused 10 0)
        | true ↦ elim (out_of_turn s turn) [ true ↦ some (refused 11 0) | false ↦ none ]
      ]
    ]

-- Carrying on.
abbrev pub carry_on : Tables → Scan → Stepped
carry_on t s =
    elim (judged t s false) [
      | some a ↦ record { state = s; answer = a }
      | none ↦ settle t (enough s) s
    ]

-- The byte x is counted and taken.
abbrev pub fed : Tables → Scan → ℕ → Scan
fed t s x = stepped t (counted s) (take_byte (tree_of t s) (config_of s) x)

-- Supplying the byte x.
abbrev pub supply : Tables → Scan → ℕ → Stepped
supply t s x =
    elim (judged t s true) [
      | some a ↦ record { state = s; answer = a }
      | none ↦ settle t (enough s) (fed t s x)
    ]
