-- What holds of a configuration that the calls come to, over tables that represent the tokens; the rules keep it.
use Rattle.std.specs.Prelude.{ℕ, suc, ◌+◌, ◌≤◌, ◌<◌, ◌≡◌, refl, false, List, [], ◌∷◌, length}
use Rattle.std.proofs.Common.{add-one, arith, subst, length-drop}
use Rattle.std.proofs.Math.Option.{Option, some, none}
use Rattle.book.specs.Book.{max_body, max_bodies, max_image}
use Rattle.rules.specs.Rules.{Stretch, Config, Step, Next, finished, wants, goes, fresh, take_byte, next}
use Rattle.rules.specs.Words.{all_words}
use Rattle.rules.specs.Tokens.{grown, shortest_of, of_tokens}
use Rattle.rules.specs.Setting.{Setting}
use Rattle.rules.specs.Configs.{steps_left}
use Rattle.rules.specs.Stretches.{Spans, Upto, stretches_of}
use Rattle.rules.proofs.Laws.Limit.{Fine, FineStep, FineNext, next-fine, fresh-fine}
use Rattle.rules.proofs.Laws.Limit.Ends.{Finite}
use Rattle.rules.proofs.Laws.Exact.{tokens-finite}
use Rattle.rules.proofs.Laws.Image.{config_of, next_of, step_of}
use Rattle.rules.proofs.Laws.Alike.{Both, Alike, Apt, AptNext, take_same, take-apt, next-same, next-apt}
use Rattle.tables.specs.Tables.{Tables}
use Rattle.tables.specs.Walks.{child_by, ending, of_tables}
use Rattle.tables.specs.Represents.{Stand, Represents}
use Rattle.tables.proofs.Laws.Unbroken.{unbroken}
use Rattle.scan.proofs.Laws.Stay.{Leaves, WithinStep, WithinNext, next-within}
use Rattle.scan.specs.Within.{Ready, Within, Left}

-- The tables' tree and the tokens' are alike.
tables-alike : (tokens : List (List ℕ)) (S D : ℕ) → Setting tokens S D → S ≡ shortest_of tokens → (t : Tables) (count : ℕ) → Represents t count tokens
    → Alike (of_tables t count S) (of_tokens tokens S) (ending t) (λ v. v < count) length
tables-alike tokens S D setting shortest t count rep = record {
  root_in = rep.some-node;
  root = rep.root;
  bare = refl;
  child = λ v x h. both (child_by t count v x) (grown (all_words tokens) (ending t v) x) (rep.child v x h);
  grows = λ u x w e. ((tokens-finite tokens S D setting).grows u x w e).0;
  leaf = rep.leaf;
  token = rep.token;
  byte_at = rep.byte_at S;
  ancestor-in = λ v k h i. (rep.ancestor S v k h i).0;
  ancestor = λ v k h i. (rep.ancestor S v k h i).1;
  lifted = λ u k i. rw length-drop (omega arith);
  shift = λ v o h. rw shortest (rep.shift v o h);
}
  where
    both : (o : Option ℕ) (q : Option (List ℕ)) → Stand t count o q → Both (ending t) (λ v. v < count) o q
    both none none h = h
    both none (some u) h = h
    both (some w) none h = h
    both (some w) (some u) h = h

-- What is given: the tokens of a book, tables that represent them, and an image's length.
pub record Given (tokens : List (List ℕ)) (S D : ℕ) (t : Tables) (count n : ℕ) : Type 0 where
  pub setting : Setting tokens S D
  pub shortest : S ≡ shortest_of tokens
  pub long : 1 ≤ D
  pub short : D ≤ max_body
  pub first : S ≤ max_body
  pub represents : Represents t count tokens
  pub nodes : count ≤ 1 + max_bodies
  pub image : n ≤ max_image

module _ {tokens : List (List ℕ)} {S D : ℕ} {t : Tables} {count n : ℕ} (given : Given tokens S D t count n) where
  pub alike : Alike (of_tables t count S) (of_tokens tokens S) (ending t) (λ v. v < count) length
  alike = tables-alike tokens S D given.setting given.shortest t count given.represents

  pub finite : Finite (of_tokens tokens S) length D
  finite = tokens-finite tokens S D given.setting

  -- What no step changes.
  pub given-ready : Ready t count n S
  given-ready = record {
    tree = unbroken t count given.represents.some-node given.represents.fine;
    nodes = omega (arith, given.nodes);
    image = given.image;
    positive = given.setting.positive;
    first = omega (arith, given.first);
  }

  -- A configuration that the calls come to after k bytes.
  pub record Sat (c : Config ℕ) (k : ℕ) : Type 0 where
    pub apt : Apt alike c
    pub fine : Fine length D S n (config_of (ending t) c) k
    pub near : c.boundary ≤ n + max_body

  -- Spans do not look at nodes.
  own-spans : (b lo : ℕ) (ms : List (Stretch ℕ)) → Spans D b lo (stretches_of (ending t) ms) → Spans max_body b lo ms
  own-spans b lo [] p = tt
  own-spans b lo (m ∷ ms) p = (p.0, p.1, omega (arith, p.2, given.short), p.3, own-spans b m.right ms p.4)

  own-upto : (ms : List (Stretch ℕ)) → Upto n (stretches_of (ending t) ms) → Upto n ms
  own-upto [] u = tt
  own-upto (m ∷ ms) u = (u.0, own-upto ms u.1)

  -- It is in range.
  pub sat-within : (c : Config ℕ) (k : ℕ) → Sat c k → Within t count n c
  sat-within c k s = record {
    node = s.apt.node;
    held = record {
      sized = s.apt.sized;
      deep = omega (arith, s.fine.held.deep, given.short);
      inside = s.fine.held.inside;
      spans = own-spans c.boundary 0 c.stretches s.fine.held.spans;
    };
    near = omega (arith, s.near);
    fits = s.apt.stretches;
    upto = own-upto c.stretches s.fine.upto;
  }

  -- A step from c that ends after k bytes.
  pub record SatStep (c : Config ℕ) (k : ℕ) (w : Step ℕ) : Type 0 where
    pub sat : Sat w.config k
    pub early : c.boundary ≤ n
    pub less : steps_left n D w.config.boundary w.config.depth < steps_left n D c.boundary c.depth
    pub leaves : Leaves t count n S c w

  abbrev pub SatNext : Config ℕ → ℕ → Next ℕ → Type 0
  SatNext c k finished = n < c.boundary
  SatNext c k (wants at) = (x : ℕ) → SatStep c (k + 1) (take_byte (of_tables t count S) c x)
  SatNext c k (goes w) = SatStep c k w

  module _ (c : Config ℕ) (k : ℕ) (sat : Sat c k) where
    step-sat : (w : Step ℕ) (m : ℕ) → Apt alike w.config
        → FineStep length D S n (config_of (ending t) c) m (step_of (ending t) w) → WithinStep t count n S c w → SatStep c m w
    step-sat w m a f g = record {
      sat = record { apt = a; fine = f.fine; near = g.within.near };
      early = g.early;
      less = f.less;
      leaves = g.leaves;
    }

    cases : (x : Next ℕ) → AptNext alike c sat.apt x
        → FineNext (of_tokens tokens S) length D S n (config_of (ending t) c) k (next_of (ending t) x)
        → WithinNext t count n S c x → SatNext c k x
    cases finished a f g = f
    cases (wants at) a f g = λ x.
        rw (add-one k) (step-sat _ (suc k) (take-apt alike c sat.apt x)
        (subst (FineStep length D S n (config_of (ending t) c) (suc k)) (take_same alike c sat.apt x) (f x)) (g x))
    cases (goes w) a f g = step-sat w k a f g

    pub next-sat : SatNext c k (next (of_tables t count S) n c)
    next-sat =
        cases (next (of_tables t count S) n c)
        (next-apt alike c sat.apt n)
        (subst (FineNext (of_tokens tokens S) length D S n (config_of (ending t) c) k)
        (next-same alike c sat.apt n)
        (next-fine (of_tokens tokens S) length D S finite given.long given.setting.positive n k (config_of (ending t) c) sat.fine))
        (next-within given-ready c (sat-within c k sat))

  pub fresh-sat : Sat (fresh (of_tables t count S) S) 0
  fresh-sat = record {
    apt = record { node = given.represents.some-node; sized = refl; stretches = tt };
    fine = fresh-fine (of_tokens tokens S) length D S finite given.long given.setting.positive n;
    near = omega (arith, given.first);
  }

  pub fresh-left : Left t count n S (fresh (of_tables t count S) S) false 0 0
  fresh-left = record { none = λ _. refl; some = λ a. absurd (omega arith); idle = λ _. refl }
