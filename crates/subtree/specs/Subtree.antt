-- What reading a subtree returns.
use Rattle.std.specs.Prelude.{ℕ, ◌+◌, List, ◌∷◌, Result}
use Rattle.format.specs.Bytes.{u64}
use Rattle.format.specs.Walk.{run}
use Rattle.format.specs.Names.{Bound, string_at}
use Rattle.format.specs.Tree.{subtree}
use Rattle.walk.specs.Lent.{blocks_of, Walked}
use Rattle.range.specs.Range.{Range, RangeInside, Tight}
use Rattle.symbol.specs.Entry.{group_of, state_of}
use Rattle.symbol.specs.declared.entry.Group.{Group}
use Rattle.symbol.specs.declared.entry.NameRange.{NameRange}
use Rattle.range.specs.declared.Name.{Name}
use Rattle.visit.specs.Visit.{Visit}
use Rattle.subtree.specs.declared.Top.{Top}
use Rattle.format.specs.declared.Refusal.{Refusal}
use Rattle.symbol_node.specs.Tree.{step_end, SoundIf}

-- the range of a child between two keys
pub record ChildRange (im seg : List ℕ) (range : Range) (at : ℕ) (r : Range) : Type 0 where
  pub inside : RangeInside seg r
  pub tight : (bounds : List Bound) → Tight seg range bounds → Tight seg r (record
      { low = string_at seg (u64 im at); high = string_at seg (u64 im (at + 16)) } ∷ bounds)

-- a subtree was read as its walk reads it
pub record SubtreeIs {S : Type 0} (im seg ws : List ℕ) (visit : Visit S) (g : Group) (r : NameRange) (top : Top) (count : ℕ) (found : S) (ws' : List ℕ)
    (count' links' : ℕ) (found' : S) (x : Result Name Refusal) : Type 0 where
  pub walked : (bounds : List Bound) → Tight seg r.keys bounds →
      Walked ws ws' (step_end seg found' count' x) (run im g.bounds.end_of_file g.bounds.room
      (subtree (group_of seg visit g) top.height top.at bounds (state_of seg r.last found)) (blocks_of count ws))
  pub sound : SoundIf seg ws' g count' links' x
