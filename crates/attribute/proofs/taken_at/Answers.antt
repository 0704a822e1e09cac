-- Only version 1 is padded.
use mathlib.Core.Path.{◌≡◌}
use native.Mathlib.Omega.{arith}
use Rattle.std.proofs.lemmas.Grind.{common_steps}
use Rattle.attribute.proofs.taken_at.Goals as goal

pub returns-then-padded : goal.returns-then-padded
returns-then-padded c =
    let first : c.args.version ≡ 1 = c.if-padded.true in
    grind (arith, common_steps)
