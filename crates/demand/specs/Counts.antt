-- Wrong counts: "A count is wrong if stored and true differ."
use Rattle.std.specs.Prelude.{ℕ, ◌+◌, ◌⊎◌, ◌≡◌}
use mathlib.Core.List.{List, Memᴰ}
use Rattle.format.specs.Audit.{Counted}
use Rattle.laws.specs.CountFields.{OnlyCounts}
use Rattle.demand.specs.Bytes.{HoldsCount}

-- an object of the audit whose count is wrong
pub record Wrong (os : List Counted) (o : Counted) : Type 0 where
  pub member : Memᴰ o os
  pub differ : o.stored_count ≡ o.true_count → ⊥

-- the header at this address is that of an object whose count is wrong
abbrev pub WrongAt : List Counted → ℕ → Type 0
WrongAt os h = (o : Counted) × Wrong os o × (o.address ≡ h)

-- im' differs from im only in the fields of wrong counts, and each of these holds the stored count or the true one
pub record OnlyWrong (os : List Counted) (im im' : List ℕ) : Type 0 where
  pub only : OnlyCounts (WrongAt os) im im'
  pub held : (o : Counted) → Wrong os o → HoldsCount im' (o.address + 4) o.stored_count ⊎ HoldsCount im' (o.address + 4) o.true_count
