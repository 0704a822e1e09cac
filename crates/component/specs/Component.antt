-- What looking up one component returns.
use Rattle.std.specs.Prelude.{ℕ, Bool, List, [], ◌≡◌, Result, Ok, Err}
use Rattle.format.specs.declared.Refusal.{Refusal}
use Rattle.format.specs.Blocks.{Block}
use Rattle.format.specs.Walk.{Walk, ret, refuse, ◌>>=◌, Outcome, done, refused, run}
use Rattle.format.specs.Tree.{group_walk}
use Rattle.format.specs.Lookup.{object, symbolic, absent, compare_name, target_walk, component_walk}
use Rattle.walk.specs.Lent.{blocks_of}
use Rattle.superblock.specs.Superblock.{superblock_of}
use Rattle.superblock.specs.declared.Superblock.{Superblock}
use Rattle.component.specs.declared.Target.{Target}
use Rattle.component.specs.declared.Target.TheVariants.{Object, Symbolic}

-- where a component leads, or the refusal
abbrev pub target_of : Result Target Refusal → Walk Rattle.format.specs.Lookup.Target
target_of (Ok (Object a)) = ret (object a)
target_of (Ok Symbolic) = ret symbolic
target_of (Err r) = refuse r

-- the run ended so, whatever blocks it entered
abbrev pub EndsAs : Result Target Refusal → Outcome Rattle.format.specs.Lookup.Target → Type 0
EndsAs (Ok (Object a)) o = (bs : List Block) × (o ≡ done (object a) bs)
EndsAs (Ok Symbolic) o = (bs : List Block) × (o ≡ done symbolic bs)
EndsAs (Err r) o = (bs : List Block) × (o ≡ refused r bs)

-- a name was looked up in a group as its walk does
pub record FoundIs (im name ws : List ℕ) (s : Superblock) (room tree heap count : ℕ) (last : Bool) (r : Result Target Refusal) : Type 0 where
  pub found : EndsAs r (run im s.end_of_file room (group_walk s.leaf_k s.internal_k tree heap (compare_name name) absent >>= target_walk last)
      (blocks_of count ws))

-- a component was looked up as its walk does
pub record ComponentIs (im name : List ℕ) (s : Superblock) (room at : ℕ) (last : Bool) (r : Result Target Refusal) : Type 0 where
  pub found : EndsAs r (run im s.end_of_file room (component_walk (superblock_of s) name last at) [])
