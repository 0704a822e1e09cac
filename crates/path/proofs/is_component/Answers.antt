-- The first test that fails decides; where all but the last pass, the last does.
use mathlib.Core.Bool.{true, not}
use Prim.Native.Nat.{ℕ, ◌≤◌}
use mathlib.Core.List.{List}
use mathlib.Core.Path.{◌≡◌, ap, sym, ◌∙◌}
use lib.ListN.{length}
use Rattle.format.specs.Limits.{name_most}
use Rattle.format.specs.Bytes.{in_range}
use Rattle.format.specs.Path.{is_component}
use Rattle.walk.proofs.Tests.{all-fails, all-passes, all-last, range-below, range-above, range_inside}
use native.Mathlib.Omega.{arith}
use Rattle.path.proofs.is_component.Goals as goal

-- there are 1 to 255 bytes
sized : (part : List ℕ) (m : ℕ) → m ≡ name_most → 1 ≤ length part → length part ≤ m → in_range 1 name_most (length part) ≡ true
sized part m e h k = range_inside 1 name_most (length part) (omega arith) (omega arith)

pub returns-then-part-lt1 : goal.returns-then-part-lt1
unfolding is_component
returns-then-part-lt1 c = all-fails _ (range-below 1 name_most (length c.args.part.now) (omega arith))

pub returns-then-limits-part : goal.returns-then-limits-part
unfolding is_component
returns-then-limits-part c = all-fails _ (range-above 1 name_most (length c.args.part.now)
    (omega (arith, c.the_limits-limits.ensures.name_most_equal)))

pub returns-then-same : goal.returns-then-same
unfolding is_component
returns-then-same c =
    all-passes _ (sized c.args.part.now _ c.the_limits-limits.ensures.name_most_equal (omega arith) (omega arith))
    (all-fails _ (ap not (sym c.same.ensures ∙ c.if-same.true)))

pub returns : goal.returns
unfolding is_component
returns c =
    all-passes _ (sized c.args.part.now _ c.the_limits-limits.ensures.name_most_equal (omega arith) (omega arith))
    (all-passes _ (ap not (sym c.same.ensures ∙ c.if-same.false)) (ap not c.contains.ensures ∙ all-last _))
