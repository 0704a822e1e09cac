-- The blocks before this one have an address.
use Rattle.std.proofs.Common.{◌≡◌, ◌≤◌, ◌<◌, ◌*◌, ℕ, length, get_or}
use Rattle.format.specs.Bytes.{undefined_address}
use Rattle.damaged_block.proofs.entered.count_entered.Given as goal

abbrev pub invariant-loop-count : goal.invariant-loop-count
invariant-loop-count l = (4 * l.room ≤ length l.list) × ((k : ℕ) → k < l.count → get_or l.list (4 * k) 0 ≡ undefined_address → ⊥)
