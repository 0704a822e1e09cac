-- The comparison decides.
use mathlib.Core.Path.{sym, ◌∙◌}
use Rattle.range.proofs.RangeLaws.{lower-first, lower-second}
use Rattle.range.proofs.lower.Goals as goal

pub returns-then-bytes_below : goal.returns-then-bytes_below
returns-then-bytes_below c = lower-second _ _ _ c.requires.name_inside_2 (sym c.bytes_below.ensures ∙ c.if-bytes_below.true)

pub returns : goal.returns
returns c = lower-first _ _ _ c.requires.name_inside (sym c.bytes_below.ensures ∙ c.if-bytes_below.false)
