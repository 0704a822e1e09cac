-- Writing the digits that are left gives the whole; each turn writes the lowest of them.
use mathlib.Core.Path.{sym, ◌∙◌}
use native.Mathlib.Omega.{arith}
use lib.ListN.{length-set}
use Rattle.output.proofs.OverwriteLaws.{put-digit, no_digit}
use Rattle.output.proofs.put_hex.Goals as goal

pub loop-i-preserved : goal.loop-i-preserved
loop-i-preserved c =
    let l = c.loop-i in
    (simp length-set (omega arith), put-digit l.out _ l.i l.rest _ (omega arith) c.ascii_digit.ensures ∙ l.invariant.1)

pub returns : goal.returns
returns c =
    let l = c.loop-i in
    sym (no_digit l.out _ l.i l.rest (omega arith)) ∙ l.invariant.1
