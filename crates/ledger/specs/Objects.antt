-- The table that a function is lent.
use Rattle.std.specs.Prelude.{ℕ, ◌≡◌, length, Option, Some, None}
use Rattle.ledger.specs.declared.table.Objects.{Objects}

-- the number of objects then, where a link was counted
abbrev pub found_count : ℕ → Option (Unit {0}) → Option ℕ
found_count count (Some u) = Some count
found_count count None = None

-- the same lists are lent, whatever they hold now
pub record SameTable (o o' : Objects) : Type 0 where
  pub addresses : o'.addresses.ghost_name ≡ o.addresses.ghost_name
  pub counts : o'.counts.ghost_name ≡ o.counts.ghost_name
  pub addresses_long : length o'.addresses.now ≡ length o.addresses.now
  pub counts_long : length o'.counts.now ≡ length o.counts.now
