-- What reading the last object's header returns.
use Rattle.std.specs.Prelude.{ℕ, List, [], ◌≡◌, Result, Ok, Err}
use Rattle.format.specs.declared.Refusal.{Refusal}
use Rattle.format.specs.Blocks.{Block}
use Rattle.format.specs.Walk.{Outcome, done, refused, run, ◌>>◌}
use Rattle.format.specs.Superblock.{superblock_walk}
use Rattle.format.specs.Lookup.{Located, locate_walk}
use Rattle.superblock.specs.Superblock.{superblock_of}
use Rattle.superblock.specs.declared.Superblock.{Superblock}

-- the run ended so, whatever blocks it entered: the object at this address is of this kind, or the refusal
abbrev pub LocatedAs : ℕ → Result ℕ Refusal → Outcome Located → Type 0
LocatedAs at (Ok k) o = (bs : List Block) × (o ≡ done (record { kind = k; address = at }) bs)
LocatedAs at (Err r) o = (bs : List Block) × (o ≡ refused r bs)

abbrev pub KindIs : List ℕ → Superblock → ℕ → ℕ → Result ℕ Refusal → Type 0
KindIs im s room at r = LocatedAs at r (run im s.end_of_file room (superblock_walk (superblock_of s) >> locate_walk at) [])
