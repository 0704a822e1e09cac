-- One block is entered, and nothing else is done.
use Rattle.format.specs.Superblock.{superblock_walk}
use Rattle.format.specs.Walk.{superblock_block}
use Rattle.walk.specs.Lent.{blocks_of}
use Rattle.laws.proofs.Simulation.{one_block}
use Rattle.superblock.proofs.enter_superblock.Goals as goal

pub enter-requires : goal.enter-requires
enter-requires c = rw c.requires.empty c.requires.lent

pub returns-clause-walked : goal.returns-clause-walked
unfolding superblock_walk blocks_of
returns-clause-walked c = λ im.
    let a = c.args in
    let e = c.enter.ensures in
    one_block im a.superblock.end_of_file a.room superblock_block 0 a.superblock.size 0 a.blocks.now.words.now _ _
    c.requires.lent (rw c.requires.empty at e.value) (rw c.requires.empty at e.entered)
