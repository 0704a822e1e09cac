-- What the descent over a group's tree returns.
use Rattle.std.specs.Prelude.{ℕ, ◌^◌, ◌≤◌, ◌<◌, List, [], length, Result, Ok, Err}
use Rattle.format.specs.Walk.{run}
use Rattle.format.specs.Names.{Bound}
use Rattle.format.specs.Entry.{GroupState}
use Rattle.format.specs.Symbols.{symbol_walk}
use Rattle.walk.specs.Lent.{blocks_of, length_sum, Lent, Ended, ended, stopped, Walked}
use Rattle.laws.specs.Blocks.{Fresh, Inside}
use Rattle.segment.specs.Segment.{Known}
use Rattle.range.specs.Range.{NameInside, RangeInside, Tight}
use Rattle.range.specs.declared.Name.{Name}
use Rattle.visit.specs.Visit.{Visit}
use Rattle.symbol.specs.Entry.{group_of, state_of}
use Rattle.symbol.specs.declared.entry.Group.{Group}
use Rattle.symbol.specs.declared.entry.NameRange.{NameRange}
use Rattle.format.specs.declared.Refusal.{Refusal}

-- What holds on the way down, with so many blocks entered, so many links found, and this last name. An entry has 40 bytes of a block, so that the
-- links found are at most the bytes of the blocks entered; these lie inside the end of file, each once.
pub record Sound (seg ws : List ℕ) (g : Group) (count links_found : ℕ) (n : Name) : Type 0 where
  pub lent : Lent ws count g.bounds.room
  pub last : NameInside seg n
  pub apart : Fresh [] (blocks_of count ws)
  pub inside : Inside g.bounds.end_of_file (blocks_of count ws)
  pub links : links_found ≤ length_sum (blocks_of count ws)

-- what holds all the way down
pub record Fixed (im seg map : List ℕ) (g : Group) : Type 0 where
  pub file : g.bounds.end_of_file ≤ length im
  pub small : g.bounds.end_of_file < 2 ^ 32
  pub leaf : g.leaf_k < 65536
  pub internal : g.internal_k < 65536
  pub known : Known seg map g.strings.head g.strings.free g.strings.ended

pub record Descending (im seg map ws : List ℕ) (g : Group) (r : NameRange) (count links : ℕ) : Type 0 where
  pub fixed : Fixed im seg map g
  pub keys : RangeInside seg r.keys
  pub sound : Sound seg ws g count links r.last

-- the last name, what was found and how many blocks were entered then, or the refusal
abbrev pub step_end : {S : Type 0} → List ℕ → S → ℕ → Result Name Refusal → Ended (GroupState S)
step_end seg found count (Ok n) = ended (state_of seg n found) count
step_end seg found count (Err r) = stopped r

abbrev pub SoundIf : List ℕ → List ℕ → Group → ℕ → ℕ → Result Name Refusal → Type 0
SoundIf seg ws g count links (Ok n) = Sound seg ws g count links n
SoundIf seg ws g count links (Err r) = Unit {0}

-- a symbol table node was read as its walk reads it
pub record SymbolsAre {S : Type 0} (im seg ws : List ℕ) (visit : Visit S) (g : Group) (r : NameRange) (at count : ℕ) (found : S) (ws' : List ℕ)
    (count' links' : ℕ) (found' : S) (x : Result Name Refusal) : Type 0 where
  pub walked : (bounds : List Bound) → Tight seg r.keys bounds →
      Walked ws ws' (step_end seg found' count' x) (run im g.bounds.end_of_file g.bounds.room
      (symbol_walk (group_of seg visit g) at bounds (state_of seg r.last found)) (blocks_of count ws))
  pub sound : SoundIf seg ws' g count' links' x
