-- What is done at an entry, as the definitions have it.
use Rattle.std.specs.Prelude.{ℕ, List, leb, if◌then◌else◌, Option, Some, None}
use Rattle.format.specs.Bytes.{same_bytes}
use Rattle.format.specs.Result.{Result, value, answer}
use Rattle.format.specs.Entry.{Entry}
use Rattle.format.specs.Lookup.{absent, hard, soft}
use Rattle.visit.specs.declared.Entry as lent
use Rattle.visit.specs.declared.Link.{Link}
use Rattle.visit.specs.declared.Link.TheVariants.{Absent, Hard, Symbolic}

-- what is made of an entry, with what was found before it
abbrev pub Visit : Type 0 → Type 0
Visit S = Entry → S → Result S

-- an entry as the definitions have it
abbrev pub entry_of : lent.Entry → Entry
entry_of e = record { name = e.name.now; type = e.kind; header = e.header }

-- a visit as the definitions have it: what is found then, or answer 12
abbrev pub visit_of : {S : Type 0} → S → Option (Unit {0}) → Result S
visit_of found (Some u) = value found
visit_of found None = answer 12

-- a link as the definitions have it
abbrev pub link_of : Link → Rattle.format.specs.Lookup.Link
link_of Absent = absent
link_of (Hard header) = hard header
link_of Symbolic = soft

-- what a lookup knows after an entry
abbrev pub link_after : List ℕ → List ℕ → ℕ → ℕ → Link → Link
link_after name wanted kind header l = if same_bytes name wanted then if leb kind 1 then Hard header else Symbolic else l
