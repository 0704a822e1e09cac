-- What the search found decides: one link more of that object, an object more, or a full table.
use Prim.Native.Nat.{◌+◌, ◌^◌, ◌<◌}
use mathlib.Core.Path.{◌≡◌}
use lib.ListN.{get_or}
use native.Mathlib.Omega.{arith}
use Rattle.std.specs.Prelude.{None}
use Rattle.ledger.proofs.TableLaws.{discover-fits, discover-known, discover-full, discover-addable, discover-new}
use Rattle.ledger.proofs.table.Objects.count_at.Goals as goal

pub overflow_add-self : goal.overflow_add-self
overflow_add-self c =
    let f : get_or c.args.self.now.counts.now c.in-Some.object 0 + 1 < 2 ^ 32 =
    discover-fits _ _ _ c.args.address _ c.requires.table (rw c.in-Some.is at c.requires.sought.found) (2 ^ 32) c.requires.counts_bound in
    omega arith

pub returns-in-Some-clause-discovered : goal.returns-in-Some-clause-discovered
returns-in-Some-clause-discovered c = discover-known _ _ _ _ _ c.requires.table (rw c.in-Some.is at c.requires.sought.found) _ _ c.remember.ensures

pub returns-then-limits-objects-clause-discovered : goal.returns-then-limits-objects-clause-discovered
returns-then-limits-objects-clause-discovered c =
    let e : c.args.found.object ≡ None = grind arith in
    discover-full _ _ _ _ c.requires.table (rw e at c.requires.sought.found) (omega arith)

pub add-requires : goal.add-requires
add-requires c =
    let e : c.args.found.object ≡ None = grind arith in
    discover-addable _ _ _ _ c.requires.table (rw e at c.requires.sought.found) _ (omega arith) (c.requires.sought.placed e)

pub returns-clause-discovered : goal.returns-clause-discovered
returns-clause-discovered c =
    let e : c.args.found.object ≡ None = grind arith in
    let a = c.add.ensures in
    rw (a.one_more, a.same_counts) (discover-new _ _ _ _ c.requires.table (rw e at c.requires.sought.found) _ (omega arith) a.added)
