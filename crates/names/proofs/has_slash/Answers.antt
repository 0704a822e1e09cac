-- None among sixteen is none among fewer; else these are searched.
use Prim.Native.Nat.{◌+◌, ◌-◌}
use mathlib.Core.Path.{◌≡◌, sym, ◌∙◌}
use Rattle.names.proofs.StartLaws.{fewer}
use native.Mathlib.Omega.{arith}
use Rattle.names.proofs.has_slash.Goals as goal

pub returns-then-not-contains_at : goal.returns-then-not-contains_at
returns-then-not-contains_at c =
    let a = c.args in
    sym (fewer a.segment.now a.off (sym c.contains_at.ensures ∙ c.if-not-contains_at.true) a.n (omega arith))

pub returns : goal.returns
returns c =
    let a = c.args in
    let e : a.off + a.n - a.off ≡ a.n = omega arith in
    rw e at c.contains.ensures
