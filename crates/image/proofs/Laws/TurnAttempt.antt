-- A round as a whole: what its calls ask and what their answers amount to.
use Prim.Native.Nat.{ℕ, ◌^◌, ◌≤◌, ◌<◌}
use native.Mathlib.Omega.{arith}
use mathlib.Core.Path.{◌≡◌, refl, ap, sym, subst, ◌∙◌}
use mathlib.Core.List.{List, ◌++◌, map}
use mathlib.Core.Option.{Option, some, none}
use lib.ListN.{length}
use Rattle.rules.specs.Rules.{Tree}
use Rattle.rules.specs.Tokens.{shortest_of}
use Rattle.book.specs.Book.{max_body}
use Rattle.book.proofs.Laws.Accepted.{accepted-fit, accepted-some}
use Rattle.tables.specs.Tables.{Tables}
use Rattle.image.specs.declared.walk.Arrival.{Arrival}
use Rattle.image.specs.Rounds.{reached}
use Rattle.rules.specs.Options.{option_of}
use Rattle.image.specs.Rule5.{tokens_of}
use Rattle.image.specs.Hits.{Noted}
use Rattle.image.specs.Walk.{tree_in, Walkable, newest, stop_of, arrival_of}
use Rattle.image.specs.Sweeping.{Given, Standing, Stands, Known, end_at, met_at, Begun}
use Rattle.image.proofs.Laws.Tables.{walkable, Same, reached-same}
use Rattle.image.proofs.Laws.RoundByRound.{hits-small, depths, turns}
use Rattle.image.proofs.Laws.Turn.{Arrives, Turned}

-- From one standing to another, with more hits put into the buffers.
pub record Goes (book image : List ℕ) (at after : Standing) (ends ends' tokens tokens' : List ℕ) : Type 0 where
  pub more : List (ℕ × ℕ)
  pub stands : (found : List (ℕ × ℕ)) → Stands book image at found → Stands book image after (found ++ more)
  pub noted : Noted ends tokens at.hits more ends' tokens' after.hits

-- Where a round begins.
module _ {book image : List ℕ} {b hits : ℕ} (s : Begun book image b hits) where
  abbrev pub begun_at : Standing
  begun_at = record { boundary = b; spans = s.at.spans; fetched = s.at.fetched; spared = s.at.spared; hits = hits }

  pub begun-known : Known book image begun_at
  begun-known = rw (sym s.place, sym s.so_far) s.known

closing-stop : (o : Option ℕ) → option_of (stop_of o) ≡ o
closing-stop none = refl
closing-stop (some x) = refl

module _ {book image : List ℕ} {tables : Tables} {count shortest : ℕ} (g : Given book image tables count shortest) where
  abbrev S : ℕ
  S = shortest_of (tokens_of book)

  -- What the tables and the place are to a round.
  pub tables-walk : Walkable tables count
  tables-walk =
      let ts = tokens_of book in
      walkable ts S tables count g.stands (accepted-fit book ts g.read.read) (accepted-some book ts g.read.read)

  module _ {at : Standing} (k : Known book image at) (h : at.boundary ≤ length image) where
    abbrev b : ℕ
    b = at.boundary

    abbrev here : Tree ℕ
    here = tree_in tables count

    pub round-place : (0 < b) × (b ≤ length image)
    round-place = (omega (arith, k.stands.positive), h)

    pub round-numbers : (b ≤ 16777216) × (at.hits ≤ 2 ^ 36)
    round-numbers = (omega (arith, g.within), hits-small book image at k.found k.stands g.within)

    -- There is room for the tokens on its way.
    pub round_room : (reached here image b).depth ≤ max_body
    round_room =
        let s = reached-same (tokens_of book) S tables count g.stands image b in
        omega (arith, s.depth, (depths book image at k.found k.stands h).1)

    -- Where it ends is where a round of the tokens ends,
    module _ (arrival : Arrival) (e : arrival ≡ arrival_of (reached here image b)) where
      same : Same (tokens_of book) S tables count g.stands image b (reached here image b) (end_at book image b)
      same = reached-same (tokens_of book) S tables count g.stands image b

      pub round-arrives : Arrives book image tables.shift shortest at arrival
      round-arrives =
          subst (Arrives book image tables.shift shortest at) (sym e)
          (record {
            read = g.read;
            known = k;
            place = h;
            held = omega (arith, same.below, g.stands.held);
            entry = g.stands.node-shift (reached here image b).node same.below ∙ rw (same.node, ← g.read.short);
            deep = same.depth;
            closing = closing-stop (reached here image b).closing ∙ same.closing;
            many = ap length same.tokens-same;
          })

      -- and the tokens kept on its way are its hits.
      pub round-met : (kept : List ℕ) {ends ends' tokens tokens' : List ℕ} {hits n : ℕ} → newest kept arrival.met ≡ (reached here image b).tokens
          → Noted ends tokens hits (map (λ i. (b, i)) (newest kept arrival.met)) ends' tokens' n
          → Noted ends tokens hits (met_at book image b) ends' tokens' n
      round-met kept {ends} {ends'} {tokens} {tokens'} {hits} {n} q =
          subst (λ m. Noted ends tokens hits (map (λ i. (b, i)) m) ends' tokens' n) (q ∙ same.tokens-same)

    -- And it goes on from there with what it met.
    pub round-goes : {after : Standing} → Turned book image at after after.hits → {ends ends' tokens tokens' : List ℕ}
        → Noted ends tokens at.hits (met_at book image b) ends' tokens' after.hits → Goes book image at after ends ends' tokens tokens'
    round-goes {after} w n = record {
      more = met_at book image b;
      stands = λ found s. turns book image at found s h after w.boundary w.spans w.few w.fetched w.spared (w.counted ∙ n.number);
      noted = n;
    }
