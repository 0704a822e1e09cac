-- A fault has its place; the other case the block's address.
use Rattle.damaged_block.proofs.block.damage_place.Goals as goal

pub returns-in-Fault : goal.returns-in-Fault
returns-in-Fault c = rw c.in-Fault.is

pub returns-in-NotEntered : goal.returns-in-NotEntered
returns-in-NotEntered c = rw c.in-NotEntered.is
