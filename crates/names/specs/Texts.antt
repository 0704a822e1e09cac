-- What the readers of strings return, as the definitions have it.
use Rattle.std.specs.Prelude.{ℕ, ◌+◌, ◌<◌, ◌≡◌, List, length, Result, Ok, Err}
use Rattle.format.specs.Bytes.{part}
use Rattle.format.specs.Names.{text, fault, outside, no_nul, bad_form, in_free_block}
use Rattle.names.specs.declared.NameFault.{NameFault}
use Rattle.names.specs.declared.NameFault.TheVariants.{Outside, NoNul, BadForm, InFreeBlock}

-- the fault that the reader's fault stands for
abbrev pub fault_of : NameFault → Rattle.format.specs.Names.NameFault
fault_of Outside = outside
fault_of NoNul = no_nul
fault_of BadForm = bad_form
fault_of InFreeBlock = in_free_block

-- what a reader's answer for the string at off stands for
abbrev pub text_of : List ℕ → ℕ → Result ℕ NameFault → Rattle.format.specs.Names.Text
text_of seg off (Ok n) = text (part seg off n)
text_of seg off (Err f) = fault (fault_of f)

-- the string and its NUL lie in the segment
abbrev pub Inside : List ℕ → ℕ → Result ℕ NameFault → Type 0
Inside seg off (Ok n) = off + n < length seg
Inside seg off (Err f) = Unit {0}

-- the string at off was read as t
pub record TextRead (seg : List ℕ) (off : ℕ) (r : Result ℕ NameFault) (t : Rattle.format.specs.Names.Text) : Type 0 where
  pub value : text_of seg off r ≡ t
  pub inside : Inside seg off r

-- the string, of which only the fault is told, was checked as t
abbrev pub CheckedAs : Result (Unit {0}) NameFault → Rattle.format.specs.Names.Text → Type 0
CheckedAs (Ok u) t = (s : List ℕ) × (text s ≡ t)
CheckedAs (Err f) t = fault (fault_of f) ≡ t
