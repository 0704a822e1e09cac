-- The first check that fails decides; a place behind a check knows what is left of the walk.
use mathlib.Core.Path.{◌≡◌, ap, sym}
use Prim.Native.Nat.{ℕ, ◌+◌, ◌*◌, ◌≤◌, ◌<◌}
use mathlib.Core.List.{List}
use lib.ListN.{length}
use Rattle.format.specs.Bytes.{u8}
use Rattle.format.specs.Equal.{Equal}
use Rattle.format.specs.declared.Limits.{Limits}
use borrow.Author.Tests.{eq-eqb, ne_eqb, le-leb, lt-leb}
use Rattle.format.specs.Limits.{rank_most}
use Rattle.format.specs.Dataspace.{Dataspace, read_dataspace}
use Rattle.format.specs.Result.{Result, answer}
use Rattle.walk.proofs.Tests.{field-most, field-above}
use Rattle.laws.proofs.Results.{passes, fails}
use Rattle.dataspace.proofs.SpaceChecks.{after_sizes, after_flags, after_rank, after_version, after_length, first-check}
use Rattle.dataspace.proofs.SpaceChecks.{none-stored, maxima-short, maxima-low, maxima-stored, refused-space, plain-space, stored-space}
use native.Mathlib.Omega.{arith}
use Rattle.dataspace.proofs.read.Goals as goal

-- at each place behind a check, what is left of the walk
long : (b : List ℕ) → 8 ≤ length b → {x : Result Dataspace} → x ≡ after_length b → x ≡ read_dataspace b
long b l e = first-check _ (passes _ _ (le-leb _ _ l) e)

versioned : (b : List ℕ) → 8 ≤ length b → u8 b 0 ≡ 1 → {x : Result Dataspace} → x ≡ after_version b → x ≡ read_dataspace b
versioned b l v e = long b l (passes _ _ (eq-eqb _ _ v) e)

small : (k : ℕ) (l : Limits) → Equal l → k ≤ l.rank_most → k ≤ rank_most
small k l e h = omega (arith, e.rank_most_equal)

-- what the checks of the length, of the version and of the rank found, and how the rank k was read
record Ranked (b : List ℕ) (k : ℕ) : Type 0 where
  long_enough : 8 ≤ length b
  version : u8 b 0 ≡ 1
  rank : k ≡ u8 b 1
  most : k ≤ rank_most

ranked : (b : List ℕ) (k : ℕ) → Ranked b k → {x : Result Dataspace} → x ≡ after_rank b → x ≡ read_dataspace b
ranked b k r e = versioned b r.long_enough r.version (passes _ _ (field-most (sym r.rank) r.most) e)

flagged : (b : List ℕ) (k : ℕ) → Ranked b k → u8 b 2 ≤ 1 → {x : Result Dataspace} → x ≡ after_flags b → x ≡ read_dataspace b
flagged b k r f e = ranked b k r (passes _ _ (le-leb _ _ f) e)

sizes-outside : (b : List ℕ) (k : ℕ) → k ≡ u8 b 1 → length b < 8 + 8 * k → answer 11 ≡ after_flags b
sizes-outside b k r h = fails _ _ (field-above (ap (λ (k : ℕ). 8 + 8 * k) (sym r)) h)

inside : (b : List ℕ) (k : ℕ) → Ranked b k → u8 b 2 ≤ 1 → 8 + 8 * k ≤ length b → {x : Result Dataspace} → x ≡ after_sizes b → x ≡ read_dataspace b
inside b k r f h e = flagged b k r f (passes _ _ (field-most (ap (λ (k : ℕ). 8 + 8 * k) (sym r.rank)) h) e)

pub returns-then-body-lt8 : goal.returns-then-body-lt8
returns-then-body-lt8 c = refused-space (first-check c.args.body.now (fails _ _ (lt-leb _ _ c.if-body-lt8.true)))

pub returns-then-body-ne1 : goal.returns-then-body-ne1
returns-then-body-ne1 c = refused-space (long _ c.if-body-lt8.false (fails _ _ (ne_eqb _ _ c.if-body-ne1.true)))

pub returns-then-limits-rank : goal.returns-then-limits-rank
returns-then-limits-rank c =
    let limits = c.the_limits-limits.ensures in
    refused-space (versioned _ c.if-body-lt8.false c.if-body-ne1.false (fails _ _
    (field-above (sym c.from-rank.ensures) (omega (arith, c.if-limits-rank.true, limits.rank_most_equal)))))

pub returns-then-flags-gt1 : goal.returns-then-flags-gt1
returns-then-flags-gt1 c = refused-space (ranked _ _ (record {
  long_enough = c.if-body-lt8.false;
  version = c.if-body-ne1.false;
  rank = c.from-rank.ensures;
  most = small _ _ c.the_limits-limits.ensures c.if-limits-rank.false;
}) (fails _ _ (lt-leb _ _ c.if-flags-gt1.true)))

pub returns-then-body-maxima : goal.returns-then-body-maxima
returns-then-body-maxima c = refused-space (flagged _ _ (record {
  long_enough = c.if-body-lt8.false;
  version = c.if-body-ne1.false;
  rank = c.from-rank.ensures;
  most = small _ _ c.the_limits-limits.ensures c.if-limits-rank.false;
}) c.if-flags-gt1.false (sizes-outside _ _ c.from-rank.ensures c.if-body-maxima.true))

pub returns-then-flags-ne1 : goal.returns-then-flags-ne1
returns-then-flags-ne1 c =
    let fifth = c in
    let b = fifth.args.body.now in
    plain-space (inside b _ (record {
      long_enough = c.if-body-lt8.false;
      version = c.if-body-ne1.false;
      rank = c.from-rank.ensures;
      most = small _ _ c.the_limits-limits.ensures c.if-limits-rank.false;
    }) c.if-flags-gt1.false c.if-body-maxima.false (none-stored b fifth.from-rank.ensures c.if-flags-ne1.true))
    (small _ _ c.the_limits-limits.ensures c.if-limits-rank.false) fifth.if-body-maxima.false

pub returns-then-body-maxima-2 : goal.returns-then-body-maxima-2
returns-then-body-maxima-2 c =
    let fifth = c in
    let b = fifth.args.body.now in
    refused-space (inside b _ (record {
      long_enough = c.if-body-lt8.false;
      version = c.if-body-ne1.false;
      rank = c.from-rank.ensures;
      most = small _ _ c.the_limits-limits.ensures c.if-limits-rank.false;
    }) c.if-flags-gt1.false c.if-body-maxima.false (maxima-short b fifth.from-rank.ensures c.if-flags-ne1.false c.if-body-maxima-2.true))

pub returns-then-not-at_most : goal.returns-then-not-at_most
returns-then-not-at_most c =
    let sixth = c in
    let fifth = sixth in
    let b = fifth.args.body.now in
    refused-space (inside b _ (record {
      long_enough = c.if-body-lt8.false;
      version = c.if-body-ne1.false;
      rank = c.from-rank.ensures;
      most = small _ _ c.the_limits-limits.ensures c.if-limits-rank.false;
    }) c.if-flags-gt1.false c.if-body-maxima.false (maxima-low b fifth.from-rank.ensures sixth.if-flags-ne1.false c.if-body-maxima-2.false
    c.at_most.ensures c.if-not-at_most.true))

pub returns : goal.returns
returns c =
    let sixth = c in
    let fifth = sixth in
    let b = fifth.args.body.now in
    stored-space (inside b _ (record {
      long_enough = c.if-body-lt8.false;
      version = c.if-body-ne1.false;
      rank = c.from-rank.ensures;
      most = small _ _ c.the_limits-limits.ensures c.if-limits-rank.false;
    }) c.if-flags-gt1.false c.if-body-maxima.false (maxima-stored b fifth.from-rank.ensures sixth.if-flags-ne1.false
    c.if-body-maxima-2.false c.at_most.ensures c.if-not-at_most.false))
    (small _ _ c.the_limits-limits.ensures c.if-limits-rank.false) c.if-body-maxima-2.false
