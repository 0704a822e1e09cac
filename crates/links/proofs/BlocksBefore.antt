-- The blocks entered before a fault: each lies inside, is of a kind, and, where none shares a byte with others, shares none by itself.
use Prim.Native.Nat.{ℕ, zero, suc, ◌+◌, ◌≤◌, ◌<◌}
use mathlib.Core.Bool.{Bool, true, false, ◌||◌}
use mathlib.Core.List.{List, [], ◌∷◌, ◌++◌}
use mathlib.Core.Path.{◌≡◌, refl}
use native.Mathlib.Omega.{arith}
use lib.ListN.{length, get_or}
use Rattle.format.specs.Blocks.{Block, block_of, block, overlaps, overlaps_any}
use Rattle.format.specs.declared.Refusal.{Refusal}
use Rattle.format.specs.declared.Refusal.TheVariants as refusals
use Rattle.format.specs.Walk.{kind_number, shown, length_in, answer_of, Walk}
use Rattle.format.specs.Bytes.{part}
use Rattle.laws.specs.Blocks.{Inside}
use Rattle.links.specs.Fault.{Fault, here, at_entry, later}
use Rattle.links.specs.Owners.{AllKinds}
use Rattle.links.proofs.KindsEntered.{known-kind}
use Rattle.links.proofs.Numbered.{Numbered}

-- by its place in the list
pub inside-at : (eof : ℕ) (bs : List Block) (k : ℕ) → Inside eof bs → k < length bs → (get_or bs k (block 0 0)).at + (get_or bs k (block 0 0)).size ≤ eof
inside-at eof [] k i h = absurd (omega arith)
inside-at eof (b ∷ bs) zero i h = i.0
inside-at eof (b ∷ bs) (suc k) i h = inside-at eof bs k i.1 (omega arith)

neither : (t u : Bool) → (t || u) ≡ false → (t ≡ false) × (u ≡ false)
neither true u e = let z : ◌≡◌ {A = ℕ} 0 1 = cc in absurd (omega arith)
neither false u e = (refl, e)

pub apart-at : (bs : List Block) (a n k : ℕ) → overlaps_any bs a n ≡ false → k < length bs → overlaps (get_or bs k (block 0 0)) a n ≡ false
unfolding overlaps_any
apart-at [] a n k e h = absurd (omega arith)
apart-at (b ∷ bs) a n zero e h = (neither (overlaps b a n) (overlaps_any bs a n) e).0
apart-at (b ∷ bs) a n (suc k) e h = apart-at bs a n k (neither (overlaps b a n) (overlaps_any bs a n) e).1 (omega arith)

kinds-append : (K : ℕ → Type 0) (bs : List Block) (b : Block) → AllKinds K bs → K b.kind → AllKinds K (bs ++ (b ∷ []))
kinds-append K [] b h k = (k, tt)
kinds-append K (c ∷ bs) b h k = (h.0, kinds-append K bs b h.1 k)

pub fault-kinds : {A : Type 0} (im : List ℕ) (eof room : ℕ) {w : Walk A} {bs : List Block} {r : Refusal} {ms : List Block} → Fault im eof room w bs r ms →
    AllKinds (λ v. v ≤ 8) bs → AllKinds (λ v. v ≤ 8) ms
fault-kinds im eof room here h = h
fault-kinds im eof room (at_entry g z) h = h
fault-kinds im eof room (later {v = v} {a = a} {l = l} {bs = bs} g f) h =
    fault-kinds im eof room f (kinds-append _ bs (block_of (kind_number v) a (length_in im v a l)) h (known-kind v))

-- the number of a refusal that isn't of a block
abbrev pub OfFault : (ℕ → Type 0) → Refusal → Type 0
OfFault N (refusals.Fault n at) = N n
OfFault N (refusals.NotEntered n kind a size met) = Unit {0}

own-number : (N : ℕ → Type 0) (r : Refusal) → N (answer_of r) → OfFault N r
own-number N (refusals.Fault n at) h = h
own-number N (refusals.NotEntered n kind a size met) h = tt

-- it is one of the walk's own numbers
pub fault-number : (N : ℕ → Type 0) {A : Type 0} (im : List ℕ) (eof room : ℕ) {w : Walk A} {bs : List Block} {r : Refusal} {ms : List Block} → Numbered N w →
    Fault im eof room w bs r ms → OfFault N r
unfolding Numbered
fault-number N im eof room h (here {r = r}) = own-number N r h.0
fault-number N im eof room h (at_entry g z) = tt
fault-number N im eof room h (later {v = v} {a = a} {l = l} g f) = fault-number N im eof room (h (shown v (part im a (length_in im v a l)))) f
