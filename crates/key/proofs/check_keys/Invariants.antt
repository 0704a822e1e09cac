-- Turn by turn, the walk of the keys from here on.
use Rattle.key.proofs.KeyLaws.{KeysFrom}
use Rattle.key.proofs.check_keys.Given as goal

abbrev pub invariant-loop-i : goal.invariant-loop-i
invariant-loop-i l = KeysFrom l.image l.segment l.from l.n l.i
