-- What is left of the path begins at `from`, and leads on from the object at `at`.
use Prim.Native.Nat.{◌+◌, ◌-◌, ◌≤◌}
use mathlib.Core.Path.{◌≡◌}
use lib.ListN.{length}
use Rattle.walk.specs.Lent.{Lent}
use Rattle.superblock.specs.Superblock.{superblock_of}
use Rattle.path.specs.Form.{components_of}
use Rattle.follow.specs.Follow.{target_run, rest_of}
use Rattle.follow.proofs.follow.Given as goal

abbrev pub invariant-loop-from : goal.invariant-loop-from
invariant-loop-from l =
    let f = l.file in
    (target_run f.image.now (superblock_of f.superblock) f.room (components_of l.path) f.superblock.root
    ≡ target_run f.image.now (superblock_of f.superblock) f.room (rest_of l.path l.from) l.at)
    × Lent l.list 0 f.room × (length l.list ≡ length l.initial.list) × (l.from ≤ length l.path + 1)

abbrev pub decreases-loop-from : goal.decreases-loop-from
decreases-loop-from l = length l.path + 1 - l.from
