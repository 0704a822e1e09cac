-- Blocks between two offsets.
use Rattle.std.specs.Prelude.{ℕ, ◌+◌, ◌≤◌, List, [], ◌∷◌}
use Rattle.format.specs.Blocks.{Block}

-- no block has a byte before low, or one from high on
abbrev pub Spanned : ℕ → ℕ → List Block → Type 0
Spanned low high [] = Unit {0}
Spanned low high (b ∷ bs) = (low ≤ b.at) × (b.at + b.size ≤ high) × Spanned low high bs
