-- A key that was sound before is read as that string, or as its beginning.
use Prim.Native.Nat.{◌+◌}
use Rattle.format.specs.Limits.{name_most}
use Rattle.nul.specs.Nul.{NulWithin}
use Rattle.key.proofs.KeyLaws.{key-starts, key-cut}
use native.Mathlib.Omega.{arith}
use Rattle.key.proofs.key_at.Goals as goal

pub overflow_add-limits : goal.overflow_add-limits
unfolding name_most
overflow_add-limits c = omega (arith, c.the_limits-limits.ensures.name_most_equal)

pub nul_within-end-requires : goal.nul_within-end-requires
nul_within-end-requires c = omega (arith, key-starts c.args.image.now _ _ _ c.requires c.u64_at-off.ensures.value)

pub returns : goal.returns
returns c =
    let n : NulWithin c.args.segment.now c.u64_at-off.result (name_most + 1) c.nul_within-end.result =
    rw c.the_limits-limits.ensures.name_most_equal at c.nul_within-end.ensures in
    rw (c.first_number.ensures, c.second_number.ensures)
    (key-cut c.args.image.now _ _ _ c.requires c.u64_at-off.ensures.value _ n)
