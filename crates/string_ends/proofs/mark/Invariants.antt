-- The cells from c on are marked.
use Prim.Native.Nat.{◌≤◌}
use mathlib.Core.List.{List}
use mathlib.Core.Path.{◌≡◌}
use lib.ListN.{length, get_or}
use Rattle.format.specs.Blocks.{Block}
use Rattle.free_map.specs.FreeMap.{MapOf}
use Rattle.string_ends.proofs.MarkLaws.{MarkedFrom}
use Rattle.string_ends.proofs.mark.Given as goal

abbrev pub invariant-loop-c : goal.invariant-loop-c
invariant-loop-c l =
    (length l.map ≡ length l.initial.map) × (l.c ≤ length l.map) × (l.v ≡ get_or l.map l.c 0) ×
    ((bs : List Block) → MapOf l.initial.map l.segment bs → MarkedFrom l.map l.segment bs l.c)
