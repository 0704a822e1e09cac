-- 5 "block not inside the end-of-file address", 6 "block shares a byte with one already entered", 13 "no room for the next block": so the blocks of an
-- audit that is done lie inside the end of file, share no byte, and are no more than the room.
use Prim.Native.Nat.{ℕ, ◌≤◌}
use mathlib.Core.List.{List, []}
use mathlib.Core.Path.{◌≡◌, sym}
use native.Mathlib.Omega.{arith}
use lib.ListN.{length}
use Rattle.format.specs.Blocks.{Block}
use Rattle.format.specs.Walk.{done, run}
use Rattle.format.specs.Superblock.{Superblock}
use Rattle.format.specs.Ledger.{Linked}
use Rattle.format.specs.Audit.{audit_walk}
use Rattle.laws.specs.Blocks.{Fresh, Inside}
use Rattle.laws.proofs.Growth.{Grown, run-grown}

pub blocks-sound : (im : List ℕ) (room : ℕ) (s : Superblock) (os : List Linked) (bs : List Block) → run im s.end_of_file room (audit_walk s) [] ≡ done os bs →
    Fresh [] bs × Inside s.end_of_file bs × (length bs ≤ room)
blocks-sound im room s os bs e =
    let g : Grown s.end_of_file room [] bs = rw e at (run-grown im s.end_of_file room (audit_walk s) [] (omega arith)) in
    let same : g.new ≡ bs = sym g.all in
    (rw same at g.fresh, rw same at g.inside, g.fits)
