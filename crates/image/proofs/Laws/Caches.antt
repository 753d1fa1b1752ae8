-- The cache stays right where it is given a shift that is right, and the shifts fit its entries; and the greater of two shifts.
use Prim.Native.Nat.{ℕ, ◌+◌, ◌-◌, ◌*◌, ◌≤◌, ◌<◌, max}
use native.Mathlib.Omega.{arith}
use mathlib.Core.Path.{◌≡◌, ap, sym, ◌∙◌}
use mathlib.Core.Bool.{Bool, true}
use mathlib.Core.List.{List, []}
use mathlib.Core.Option.{Option, some}
use lib.ListN.{length, get_or, set, length-set}
use lib.Seq.{get_or-set_same, get_or-set_other}
use mir.Syntax.{w16}
use mir.Val.{Fits}
use borrow.Author.Tests.{le-leb}
use Rattle.rules.specs.Lists.{any_of}
use Rattle.rules.specs.Tokens.{agrees, byte_shift}
use Rattle.rules.proofs.Laws.Tests.{split, least-ge, least-le}
use Rattle.rules.proofs.Laws.Words.{own-word, word_in}
use Rattle.rules.proofs.Laws.Fits.{byte-shift-is}
use Rattle.rules.proofs.Laws.Lengths.{shortest-is}
use Rattle.book.proofs.Laws.Accepted.{accepted-some}
use Rattle.agree.specs.Tests.{least_of}
use Rattle.agree.proofs.Laws.Least.{least-bounds}
use Rattle.image.specs.declared.caches.Caches.{Caches}
use Rattle.std.specs.Prelude.{Option as Answer}
use Rattle.rules.specs.Options.{option_of}
use Rattle.image.specs.Rule5.{tokens_of, words_in, Accepted, Right}
use Rattle.image.specs.Sweeping.{Sees, CachesRight}
use Rattle.image.proofs.Laws.Rule5.{shortest-near}

-- An entry of the cache that is given `by` at i.
set-right : (cache : List ℕ) (i by v r : ℕ) → i < length cache → (v ≡ i → by ≡ r) → Right (get_or cache v 0) r
    → Right (get_or (set cache i by) v 0) r
set-right cache i by v r h f old =
    split v i (λ e _. ap (λ j. get_or (set cache i by) j 0) e ∙ get_or-set_same cache i by 0 h ∙ f e)
    (λ d. rw (get_or-set_other cache i v by 0 d) old)

pub least_fits : (p : List ℕ → ℕ → Bool) {book : List ℕ} {S : ℕ} → Accepted book S → (by : ℕ) → by ≡ least_of p (words_in book) S → Fits w16 by
least_fits p {book} {S} a by e =
    let near = shortest-near a in
    record { fits = omega (arith, least-bounds p (words_in book) S near.0) }

module _ {book image : List ℕ} {S : ℕ} {caches : Caches} (k : CachesRight book image S caches) (by : ℕ) where
  -- The cache that learns the shift of a round that ended at its second byte, by both bytes.
  pub by-pair-set : {x depth met : ℕ} {stop : Answer ℕ} (y i : ℕ) → y < 256 → x < 256 → i ≡ 256 * y + x
      → depth ≡ 1 → met ≡ 0 → option_of stop ≡ some y → Sees book image x depth stop met by
      → CachesRight book image S (record { bytes = caches.bytes; skip = caches.skip; pairs = set caches.pairs i by })
  by-pair-set {x = x} y i hy hx p one bare c l = record {
    by_byte = k.by_byte;
    by-skip = k.by-skip;
    by-pair = record {
      size = length-set caches.pairs i by ∙ k.by-pair.size;
      right = λ v u hv hu.
          split (256 * v + u) i
          (λ e _.
          let s : v ≡ y = omega arith in
          let q : u ≡ x = omega arith in
          let there : get_or (set caches.pairs i by) (256 * y + x) 0 ≡ by =
          ap (λ j. get_or (set caches.pairs i by) j 0) (sym p) ∙ get_or-set_same caches.pairs i by 0 (omega (arith, k.by-pair.size)) in
          rw (s, q, there) (l.seen y one bare c))
          (λ e. rw (get_or-set_other caches.pairs i (256 * v + u) by 0 e) (k.by-pair.right v u hv hu));
    };
  }

-- Where the shortest token, moved by one, lies right of the closing byte, it fits.
pub byte_one : {book : List ℕ} {S : ℕ} → Accepted book S → (d x : ℕ) → S - 1 ≤ d → byte_shift (words_in book) S d (some x) ≡ 1
byte_one {book} {S} a d x h =
    let ts = tokens_of book in
    let s = shortest-is ts (accepted-some book ts a.read) in
    let t = get_or ts s.0 [] in
    let p : ℕ → Bool = λ s. any_of (λ t. agrees t s d x) (words_in book) in
    let near : length t ≤ d + 1 = omega (arith, s.2, a.short) in
    let one : p 1 ≡ true = word_in (λ t. agrees t 1 d x) ts s.0 t s.1 (own-word t) (cc (le-leb (length t) (d + 1) near)) in
    byte-shift-is (words_in book) S d x ∙ omega (arith, least-ge p 1 (S - 1), least-le p 1 (S - 1) 1 (omega arith) one)

-- Rule 5, d deep, with the node's entry.
module _ (words : List (List ℕ)) (S d entry by : ℕ) (e : by ≡ entry) (closing : Option ℕ) where
  pub shift-deep : 1 ≤ entry → (x : ℕ) → closing ≡ some x → byte_shift words S d (some x) ≡ 1 → by ≡ max entry (byte_shift words S d closing)
  shift-deep h x z one = rw (z, one) (omega arith)
