-- What a function is lent of what an audit has found.
use Rattle.std.specs.Prelude.{ℕ, List, ◌≡◌, length}
use Rattle.format.specs.Blocks.{Block}
use Rattle.format.specs.Sharing as definitions
use Rattle.ledger.specs.Objects.{SameTable}
use Rattle.sharing.specs.Sharing.{found_of, Tables, Kept, Counting}
use Rattle.sharing.specs.declared.Found.{Found}

-- the same lists are lent, whatever they hold now
pub record SameFound (f f' : Found) : Type 0 where
  pub lent : f'.objects.ghost_name ≡ f.objects.ghost_name
  pub objects : SameTable f.objects.now f'.objects.now
  pub marks : f'.marks.ghost_name ≡ f.marks.ghost_name
  pub marks_long : length f'.marks.now ≡ length f.marks.now

-- what the lists hold, as the definition's lists
abbrev pub found_in : Found → definitions.Found
found_in f = found_of f.objects.now.addresses.now f.objects.now.counts.now f.marks.now f.objects.now.count

-- they are a table with marks, and room for so many links more
abbrev pub TablesIn : Found → ℕ → Type 0
TablesIn f spare = Tables f.objects.now.addresses.now f.objects.now.counts.now f.marks.now f.objects.now.count spare

-- they are one again, with n links more at most
abbrev pub KeptIn : Found → ℕ → Found → Type 0
KeptIn f n f' =
    Kept f.objects.now.addresses.now f.objects.now.counts.now f.objects.now.count n f'.objects.now.addresses.now f'.objects.now.counts.now f'.marks.now
    f'.objects.now.count

-- what they count is bounded by the blocks entered, with so many bytes to spare
abbrev pub CountingIn : Found → ℕ → List Block → ℕ → Type 0
CountingIn f eof bs spare = Counting f.objects.now.addresses.now f.objects.now.counts.now f.marks.now f.objects.now.count eof bs spare
