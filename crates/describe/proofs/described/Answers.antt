-- Each field is the one that its reader gave.
use Rattle.dataset.specs.Dataset.{body_of}
use Rattle.describe.proofs.ReplyLaws.{fields-are}
use Rattle.describe.proofs.described.Goals as goal

pub returns : goal.returns
returns c =
    let a = c.args in
    fields-are (body_of a.image.now a.space) a.dataset a.count _ _ c.type_fields-types.result c.layout_fields-layouts.result
    c.words_in-sizes.ensures c.maxima_in-maxima.ensures c.type_fields-types.ensures c.layout_fields-layouts.ensures
