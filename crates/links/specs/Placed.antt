-- Where a walk is refused: in a block that was entered, or at one that can't be entered.
use Rattle.std.specs.Prelude.{ℕ, ◌+◌, ◌≤◌, ◌<◌, true, false, List, ◌⊎◌, ◌≡◌, length, get_or}
use Rattle.format.specs.Blocks.{Block, block, overlaps_any}
use Rattle.links.specs.Owners.{HoldsByte}

-- one of the blocks holds the byte x
abbrev pub HeldBy : List Block → ℕ → Type 0
HeldBy bs x = (k : ℕ) × (k < length bs) × HoldsByte (get_or bs k (block 0 0)) x

-- "To enter a block: 5, 6, 13": what the answer says of the n bytes at a, which can't be entered behind the blocks bs
pub record NotEnterable (eof room : ℕ) (bs : List Block) (answer a n : ℕ) : Type 0 where
  pub numbers : (answer ≡ 5) ⊎ (answer ≡ 6) ⊎ (answer ≡ 13)
  -- 5 "block not inside the end-of-file address"
  pub outside : answer ≡ 5 → eof < a + n
  pub inside : (answer ≡ 5 → ⊥) → a + n ≤ eof
  -- 6 "block shares a byte with one already entered"
  pub meets : answer ≡ 6 → overlaps_any bs a n ≡ true
  -- 13 "no room for the next block"
  pub full : answer ≡ 13 → room ≤ length bs
  pub apart : answer ≡ 13 → overlaps_any bs a n ≡ false
