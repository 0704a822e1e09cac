-- Each return by the layout: without a data block nothing is entered.
use Rattle.format.specs.Bytes.{undefined_address}
use Rattle.dataset.proofs.DatasetLaws.{compact-data, undefined-data, empty-data, contiguous-data}
use Rattle.dataset.proofs.dataset.enter_data.Goals as goal

pub returns-then-undefined-clause-walked : goal.returns-then-undefined-clause-walked
unfolding undefined_address
returns-then-undefined-clause-walked c = λ im.
    let a = c.args in
    undefined-data im a.bounds.end_of_file a.bounds.room a.blocks.now.count a.blocks.now.words.now c.requires a.layout c.in-Contiguous.is c.if-undefined.true

pub returns-then-size-lt1-clause-walked : goal.returns-then-size-lt1-clause-walked
unfolding undefined_address
returns-then-size-lt1-clause-walked c = λ im.
    let a = c.args in
    empty-data im a.bounds.end_of_file a.bounds.room a.blocks.now.count a.blocks.now.words.now c.requires a.layout c.in-Contiguous.is c.if-undefined.false
    c.if-size-lt1.true

pub returns-in-Compact-clause-walked : goal.returns-in-Compact-clause-walked
returns-in-Compact-clause-walked c = λ im.
    let a = c.args in
    compact-data im a.bounds.end_of_file a.bounds.room a.blocks.now.count a.blocks.now.words.now c.requires a.layout c.in-Compact.is

pub returns-else-size-lt1-clause-walked : goal.returns-else-size-lt1-clause-walked
unfolding undefined_address
returns-else-size-lt1-clause-walked c = λ im.
    let e = c.enter in
    let a = c.args in
    contiguous-data im a.bounds.end_of_file a.bounds.room a.blocks.now.count a.blocks.now.words.now c.requires a.layout c.in-Contiguous.is
    c.if-undefined.false c.if-size-lt1.false e.new.self.words.now _ e.ensures.value e.ensures.entered
