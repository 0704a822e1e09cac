-- Four words behind those of the blocks; the last follows from the last of those.
use lib.ListN.{length-set}
use native.Mathlib.Omega.{arith}
use Rattle.walk.specs.Lent.{blocks_of}
use Rattle.walk.proofs.blocks.Blocks.append.Goals as goal

pub bounds-words-first-2 : goal.bounds-words-first-2
bounds-words-first-2 c = simp length-set (omega arith)

pub bounds-words-first-3 : goal.bounds-words-first-3
bounds-words-first-3 c = simp length-set (omega arith)

pub bounds-words-first-4 : goal.bounds-words-first-4
bounds-words-first-4 c = simp length-set (omega arith)

pub returns-clause-written : goal.returns-clause-written
returns-clause-written c =
    let b = c.args.self.now in
    rw (c.owner_after-object.ensures, c.last_owner.ensures (blocks_of b.count b.words.now) c.requires.1.numbered)
