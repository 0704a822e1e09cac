-- The type, then the string that stands there.
use Rattle.symbol.proofs.EntryLaws.{value_none, value_read}
use native.Mathlib.Omega.{arith}
use Rattle.symbol.proofs.entry.check_value.Goals as goal

pub returns-then-kind-ne2 : goal.returns-then-kind-ne2
returns-then-kind-ne2 c = value_none _ _ _ _ _ c.if-kind-ne2.true

pub returns : goal.returns
returns c = value_read _ _ _ _ _ (omega arith) c.u32_at-off.ensures.value _ _ c.value.ensures (λ f e. grind arith) (λ e. grind arith)
