-- What the readers of a path return, as the definitions have it.
use Rattle.std.specs.Prelude.{ℕ, ◌+◌, ◌-◌, ◌≤◌, ◌<◌, Bool, true, false, List, [], ◌∷◌, ◌≡◌, length, drop, eqb, if◌then◌else◌}
use Rattle.format.specs.Bytes.{part}
use Rattle.format.specs.Path.{path_parts, parse_path, components, bad_path}

-- the component that begins at start ends at r: it is the last, or the others begin behind the '/' at r
pub record EndsAt (path : List ℕ) (start r : ℕ) : Type 0 where
  pub after : start ≤ r
  pub inside : r ≤ length path
  pub last : r ≡ length path → path_parts (drop start path) ≡ part path start (r - start) ∷ []
  pub more : r < length path → path_parts (drop start path) ≡ part path start (r - start) ∷ path_parts (drop (r + 1) path)

-- the components of a path of a right form, which begin at place 1
abbrev pub components_of : List ℕ → List (List ℕ)
components_of path = if eqb (length path) 1 then [] else path_parts (drop 1 path)

-- r says whether the path has a right form
pub record SoundPath (path : List ℕ) (r : Bool) : Type 0 where
  pub begun : r ≡ true → 1 ≤ length path
  pub sound : r ≡ true → parse_path path ≡ components (components_of path)
  pub bad : r ≡ false → parse_path path ≡ bad_path
