-- Strings of a segment with the numbers of their first bytes.
use Prim.Native.Nat.{ℕ, ◌+◌, ◌≤◌}
use mathlib.Core.List.{List}
use mathlib.Core.Path.{◌≡◌, refl, sym, ◌∙◌}
use native.Mathlib.Omega.{arith}
use lib.Dec.{ltb}
use lib.ListN.{length, drop}
use Rattle.format.specs.Bytes.{part}
use Rattle.format.specs.Names.{below}
use Rattle.order.specs.BigEndian.{first_number}
use Rattle.order.proofs.BigEndianLaws.{AllBytes, bytes-part}
use Rattle.order.proofs.FirstLaws.{first-decides, second-decides, read_none, second_none}
use Rattle.range.specs.Range.{NameInside, name_in}
use Rattle.range.specs.declared.Name.{Name}

-- the string of size bytes at `at`
abbrev pub name_at : List ℕ → ℕ → ℕ → Name
name_at seg at size =
    record { at = at; size = size; first = first_number 8 (part seg at size); second = first_number 8 (drop 8 (part seg at size)) }

-- the empty string, and any other
pub empty-inside : (seg : List ℕ) → NameInside seg (record { at = 0; size = 0; first = 0; second = 0 })
empty-inside seg = record { within = omega arith; first = read_none seg 0 0 refl; second = second_none seg 0 0 (omega arith) }

pub string-inside : (seg : List ℕ) (at size : ℕ) → at + size ≤ length seg → NameInside seg (name_at seg at size)
string-inside seg at size h = record { within = h; first = refl; second = refl }

-- where the numbers of two differ, they decide
pub first_below : (seg : List ℕ) (a b : Name) → AllBytes seg → NameInside seg a → NameInside seg b → (a.first ≡ b.first → ⊥) →
    ltb a.first b.first ≡ below (name_in seg a) (name_in seg b)
first_below seg a b bytes i j d =
    rw (i.first, j.first)
    (first-decides 8 (name_in seg a) (name_in seg b) (bytes-part seg a.at a.size bytes) (bytes-part seg b.at b.size bytes)
    (λ e. d (i.first ∙ e ∙ sym j.first)))

-- where these are equal and the next differ, those decide
pub second_below : (seg : List ℕ) (a b : Name) → AllBytes seg → NameInside seg a → NameInside seg b → a.first ≡ b.first →
    (a.second ≡ b.second → ⊥) → ltb a.second b.second ≡ below (name_in seg a) (name_in seg b)
second_below seg a b bytes i j e d =
    rw (i.second, j.second)
    (second-decides (name_in seg a) (name_in seg b) (bytes-part seg a.at a.size bytes) (bytes-part seg b.at b.size bytes)
    (sym i.first ∙ e ∙ j.first) (λ w. d (i.second ∙ w ∙ sym j.second)))
