-- How many bytes a name has, and what its bytes tell of it.
use Rattle.std.specs.Prelude.{ℕ, ◌+◌, ◌≤◌, false, List, ◌≡◌, length, drop, if◌then◌else◌, Option, Some, None}
use Rattle.format.specs.Limits.{name_most}
use Rattle.format.specs.Bytes.{part, contains}
use Rattle.format.specs.Names.{before_nul, string_at, is_name}

-- how many bytes the name at off has; none if the string there is no name
unfoldable pub name_size : List ℕ → ℕ → Option ℕ
name_size seg off = if is_name (string_at seg off) then Some (length (string_at seg off)) else None

-- the string at off has n bytes or more, and no '/' among the first n
pub record Plain (seg : List ℕ) (off n : ℕ) : Type 0 where
  pub long : before_nul (drop off seg) ≡ n + before_nul (drop (off + n) seg)
  pub plain : contains 0x2f (part seg off n) ≡ false

-- the string at off has n bytes, at most as many as a name may have, and no '/'
pub record Slashless (seg : List ℕ) (off n : ℕ) : Type 0 where
  pub size : before_nul (drop off seg) ≡ n
  pub most : n ≤ name_most
  pub plain : contains 0x2f (string_at seg off) ≡ false
