-- Of each type there is none.
use mathlib.Core.Path.{refl}
use Rattle.format.specs.Message.{of_type}
use Rattle.tally.proofs.empty.Goals as goal

pub returns : goal.returns
unfolding of_type
returns c = λ im. record { total = refl; space = refl; datatype = refl; layout = refl; table = refl }
