-- What the layout reader's answer means.
use Rattle.format.specs.Result.{Result, value, answer}
use Rattle.layout.specs.declared.Layout.{Layout}
use Rattle.layout.specs.declared.Layout.TheVariants.{Compact, Contiguous}
use Rattle.std.specs.Prelude as std
use Rattle.std.specs.Prelude.{ℕ, Ok, Err}

-- a layout as the definitions have it: class 0 is compact, 1 contiguous
abbrev pub layout_of : Layout → Rattle.format.specs.Layout.Layout
layout_of (Compact address size) = record { class = 0; address = address; size = size }
layout_of (Contiguous address size) = record { class = 1; address = address; size = size }

-- the answer as the end of the message's walk
abbrev pub layout_result : std.Result Layout ℕ → Result Rattle.format.specs.Layout.Layout
layout_result (Ok l) = value (layout_of l)
layout_result (Err n) = answer n
