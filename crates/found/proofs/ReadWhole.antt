-- An object read whole behind the superblock, for its references.
use Prim.Native.Nat.{ℕ}
use mathlib.Core.List.Memᴰ
use mathlib.Core.List.{List, [], ◌++◌, Memᴰ}
use mathlib.Core.Logic.{⊎_elim}
use mathlib.Core.Path.{◌≡◌}
use Rattle.format.specs.Blocks.{Block}
use Rattle.format.specs.Walk.{◌>>◌, done, run}
use Rattle.format.specs.Superblock.{Superblock, superblock_walk}
use Rattle.laws.specs.Shown.{Shown}
use Rattle.links.specs.Reached.{Reference, references_at}
use Rattle.found.proofs.Whole.{whole}

-- everything of the first is in the second
abbrev pub Sub : List Shown → List Shown → Type 0
Sub ss ts = (x : Shown) → Memᴰ x ss → Memᴰ x ts

pub sub-append : (ss us ts : List Shown) → Sub ss ts → Sub us ts → Sub (ss ++ us) ts
sub-append ss us ts f g x m = ⊎_elim (f x) (g x) (Memᴰ.append_cases ss m)

-- the object at this address, read whole behind the superblock with this room, with what it is then shown among ss
pub record ReadWhole (im : List ℕ) (s : Superblock) (room : ℕ) (ss : List Shown) (at : ℕ) : Type 0 where
  pub references : List Reference
  pub left : List Block
  pub ran : run im s.end_of_file room (superblock_walk s >> references_at s at) [] ≡ done references left
  pub among : Sub (whole im s.end_of_file (superblock_walk s >> references_at s at)) ss
