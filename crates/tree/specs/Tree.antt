-- What reading a group's tree returns.
use Rattle.std.specs.Prelude.{ℕ, suc, ◌+◌, ◌≤◌, List, ◌≡◌, length, Result}
use Rattle.format.specs.Bytes.{u8, u16}
use Rattle.format.specs.Walk.{run}
use Rattle.format.specs.Tree.{tree_walk}
use Rattle.walk.specs.Lent.{blocks_of, Walked}
use Rattle.symbol.specs.Entry.{group_of, state_of}
use Rattle.symbol.specs.declared.entry.Group.{Group}
use Rattle.range.specs.declared.Name.{Name}
use Rattle.visit.specs.Visit.{Visit}
use Rattle.format.specs.declared.Refusal.{Refusal}
use Rattle.symbol_node.specs.Tree.{step_end, SoundIf}

-- the height of a root that lies inside the image and has entries, else 0
pub record HeightAt (im : List ℕ) (at r : ℕ) : Type 0 where
  pub empty : r ≡ 0 → at + 32 ≤ length im → u16 im (at + 6) ≡ 0
  pub used : (r ≡ 0 → ⊥) → (u16 im (at + 6) ≡ 0 → ⊥) × (r ≡ suc (u8 im (at + 5)))

-- a tree was read as its walk reads it
pub record TreeIs {S : Type 0} (im seg ws : List ℕ) (visit : Visit S) (g : Group) (at : ℕ) (last : Name) (count : ℕ) (found : S) (ws' : List ℕ)
    (count' links' : ℕ) (found' : S) (x : Result Name Refusal) : Type 0 where
  pub walked : Walked ws ws' (step_end seg found' count' x) (run im g.bounds.end_of_file g.bounds.room
      (tree_walk (group_of seg visit g) at (state_of seg last found)) (blocks_of count ws))
  pub sound : SoundIf seg ws' g count' links' x
