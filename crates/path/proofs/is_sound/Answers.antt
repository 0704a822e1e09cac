-- The first test that decides; behind them all, the components do.
use Prim.Native.Nat.{ℕ, ◌≤◌}
use mathlib.Core.Path.{◌≡◌}
use Rattle.format.specs.Limits.{path_most}
use Rattle.path.proofs.PathLaws.{path_empty, path-long, path-start, path-root, path-rest}
use native.Mathlib.Omega.{arith}
use Rattle.path.proofs.is_sound.Goals as goal

-- there are at most 1,024 bytes
short : (n m : ℕ) → m ≡ path_most → n ≤ m → n ≤ path_most
short n m e h = omega arith

pub returns-then-path-lt1 : goal.returns-then-path-lt1
returns-then-path-lt1 c = path_empty _ (omega arith)

pub returns-then-limits-path : goal.returns-then-limits-path
returns-then-limits-path c = path-long _ (omega (arith, c.the_limits-limits.ensures.path_most_equal))

pub returns-then-path-ne47 : goal.returns-then-path-ne47
returns-then-path-ne47 c = path-start _ (omega arith) (short _ _ c.the_limits-limits.ensures.path_most_equal (omega arith)) (λ e. omega arith)

pub returns-then-path-eq1 : goal.returns-then-path-eq1
returns-then-path-eq1 c = path-root _ (omega arith) (short _ _ c.the_limits-limits.ensures.path_most_equal (omega arith)) (omega arith) (omega arith)

pub returns : goal.returns
returns c =
    path-rest _ (omega arith) (short _ _ c.the_limits-limits.ensures.path_most_equal (omega arith)) (omega arith) _ (λ e. omega arith) c.all_components.ensures
