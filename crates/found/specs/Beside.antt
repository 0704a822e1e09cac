-- Bytes that share none.
use Rattle.std.specs.Prelude.{ℕ, ◌+◌, ◌≤◌, ◌⊎◌}

-- n bytes at a, and n' bytes at a', share none
abbrev pub Beside : ℕ → ℕ → ℕ → ℕ → Type 0
Beside a n a' n' = (a + n ≤ a') ⊎ (a' + n' ≤ a)
