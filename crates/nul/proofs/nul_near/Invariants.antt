-- No byte before i is a NUL; each byte that is none moves i.
use Rattle.nul.proofs.Search.{At}
use Rattle.nul.proofs.nul_near.Given as goal

abbrev pub invariant-loop-i : goal.invariant-loop-i
invariant-loop-i l = At l.segment l.off l.most l.i
