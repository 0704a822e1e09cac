-- Block by block, what waited at the start waits in the blocks from here on.
use mathlib.Core.List.{List}
use Rattle.format.specs.Message.{Message}
use Rattle.continuations.specs.Continuations.{Waiting, Later, blocks_from}
use Rattle.continuations.proofs.seek.Given as goal

abbrev pub invariant-loop-block : goal.invariant-loop-block
invariant-loop-block l =
    (waiting : List Message) → Waiting l.image l.blocks.words.now l.blocks.count l.cursor waiting →
    Later l.image (blocks_from l.blocks.count l.block l.blocks.words.now) waiting
