-- A fault lies in a block of the list; a block that can't be entered is named as it is pointed to.
use Rattle.damaged_block.proofs.block.damaged.Goals as goal

pub returns-in-Fault : goal.returns-in-Fault
returns-in-Fault c = λ bs e. rw c.in-Fault.is (c.holding.ensures bs e)

pub returns-in-NotEntered : goal.returns-in-NotEntered
returns-in-NotEntered c = λ bs e. rw c.in-NotEntered.is (c.refused_block.ensures bs e)
