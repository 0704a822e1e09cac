-- The search of Holding.antt, one block a turn.
use mathlib.Core.Path.{refl, sym, ◌∙◌}
use native.Mathlib.Omega.{arith}
use Rattle.format.specs.Blocks.{last_owner}
use Rattle.damaged_block.proofs.Holding.{words-are, words-numbered, found_here, found-later, found_none}
use Rattle.damaged_block.proofs.block.holding.Goals as goal

pub loop-i-init : goal.loop-i-init
unfolding last_owner
loop-i-init c = λ bs e. rw (words-are _ bs e) refl

pub returns-then-holds_byte : goal.returns-then-holds_byte
returns-then-holds_byte c = λ bs e.
    let list = c.args.list.now in
    let here = found_here _ c.loop-i.i list c.args.place _ (words-numbered list bs e) (omega arith) (c.loop-i.invariant bs e) in
    c.listed.ensures ∙ here (sym c.if-holds_byte.true ∙ c.holds_byte.ensures)

pub loop-i-preserved : goal.loop-i-preserved
loop-i-preserved c = λ bs e.
    let list = c.args.list.now in
    let later = found-later _ c.loop-i.i list c.args.place _ (words-numbered list bs e) (omega arith) (c.loop-i.invariant bs e) in
    later (sym c.if-holds_byte.false ∙ c.holds_byte.ensures)

pub returns : goal.returns
returns c = λ bs e. c.no_block.ensures ∙ found_none _ c.loop-i.i c.args.list.now c.args.place _ (omega arith) (c.loop-i.invariant bs e)
