-- The first check that fails decides; a place behind a check knows what is left of the walk.
use Prim.Native.Nat.{ℕ, ◌≤◌}
use mathlib.Core.Bool.{true}
use mathlib.Core.List.{List}
use mathlib.Core.Path.{◌≡◌, sym, ◌∙◌}
use lib.ListN.{length}
use Rattle.format.specs.Bytes.{u32}
use borrow.Author.Tests.{le-leb, lt-leb}
use Rattle.format.specs.Datatype.{Datatype, class_read, extent, read_datatype}
use Rattle.format.specs.Result.{Result}
use Rattle.walk.proofs.Tests.{range-below, range-above, range_inside, field-most, field-above, field-least, field_below}
use Rattle.laws.proofs.Results.{passes, fails}
use Rattle.datatype.proofs.TypeChecks.{class_of, version_of, after_extent, after_size, after_class, after_version, after_length}
use Rattle.datatype.proofs.TypeChecks.{first-check, unsound-bits, own_read}
use native.Mathlib.Omega.{arith}
use Rattle.datatype.proofs.read.Goals as goal

-- at each place behind a check, what is left of the walk
long : (b : List ℕ) → 8 ≤ length b → {x : Result Datatype} → x ≡ after_length b → x ≡ read_datatype b
long b l e = first-check _ (passes _ _ (le-leb _ _ l) e)

-- what the checks of the length and of the version found
record Versioned (b : List ℕ) : Type 0 where
  long_enough : 8 ≤ length b
  version_least : 1 ≤ version_of b
  version_most : version_of b ≤ 3

versioned : (b : List ℕ) → Versioned b → {x : Result Datatype} → x ≡ after_version b → x ≡ read_datatype b
versioned b v e = long b v.long_enough (passes _ _ (range_inside 1 3 _ v.version_least v.version_most) e)

classed : (b : List ℕ) → Versioned b → class_read (class_of b) ≡ true → {x : Result Datatype} → x ≡ after_class b → x ≡ read_datatype b
classed b v k e = versioned b v (passes _ _ k e)

sized : (b : List ℕ) → Versioned b → class_read (class_of b) ≡ true → (s : ℕ) → s ≡ u32 b 4 → 1 ≤ s → {x : Result Datatype} → x ≡ after_size b →
    x ≡ read_datatype b
sized b v k s z h e = classed b v k (passes _ _ (field-least (sym z) h) e)

held : (b : List ℕ) → Versioned b → class_read (class_of b) ≡ true → (s : ℕ) → s ≡ u32 b 4 → 1 ≤ s → (n : ℕ) → n ≡ extent (class_of b) → n ≤ length b →
    {x : Result Datatype} → x ≡ after_extent b → x ≡ read_datatype b
held b v k s z h n f g e = sized b v k s z h (passes _ _ (field-most (sym f) g) e)

pub returns-then-body-lt8 : goal.returns-then-body-lt8
returns-then-body-lt8 c = first-check _ (fails _ _ (lt-leb _ _ c.if-body-lt8.true))

pub returns-then-version-lt1 : goal.returns-then-version-lt1
returns-then-version-lt1 c = long _ c.if-body-lt8.false (fails _ _ (range-below 1 3 _ c.if-version-lt1.true))

pub returns-then-version-gt3 : goal.returns-then-version-gt3
returns-then-version-gt3 c = long _ c.if-body-lt8.false (fails _ _ (range-above 1 3 _ c.if-version-gt3.true))

pub returns-then-not-class_read : goal.returns-then-not-class_read
returns-then-not-class_read c =
    let v : Versioned c.args.body.now =
    record { long_enough = c.if-body-lt8.false; version_least = c.if-version-lt1.false; version_most = c.if-version-gt3.false } in
    versioned _ v (fails _ _ (sym c.class_read.ensures ∙ c.if-not-class_read.true))

pub returns-then-size-lt1 : goal.returns-then-size-lt1
returns-then-size-lt1 c =
    let v : Versioned c.args.body.now =
    record { long_enough = c.if-body-lt8.false; version_least = c.if-version-lt1.false; version_most = c.if-version-gt3.false } in
    classed _ v (sym c.class_read.ensures ∙ c.if-not-class_read.false)
    (fails _ _ (field_below (sym c.u32_at-size.ensures.value) c.if-size-lt1.true))

pub returns-then-body-needed : goal.returns-then-body-needed
returns-then-body-needed c =
    let v : Versioned c.args.body.now =
    record { long_enough = c.if-body-lt8.false; version_least = c.if-version-lt1.false; version_most = c.if-version-gt3.false } in
    sized _ v (sym c.class_read.ensures ∙ c.if-not-class_read.false) _ c.u32_at-size.ensures.value (omega arith)
    (fails _ _ (field-above (sym c.needed.ensures) c.if-body-needed.true))

pub returns-then-not-sound : goal.returns-then-not-sound
returns-then-not-sound c =
    let v : Versioned c.args.body.now =
    record { long_enough = c.if-body-lt8.false; version_least = c.if-version-lt1.false; version_most = c.if-version-gt3.false } in
    held _ v (sym c.class_read.ensures ∙ c.if-not-class_read.false) _ c.u32_at-size.ensures.value (omega arith) _ c.needed.ensures
    c.if-body-needed.false (unsound-bits _ c.u32_at-size.ensures c.sound.ensures c.if-not-sound.true)

pub returns : goal.returns
returns c =
    let v : Versioned c.args.body.now =
    record { long_enough = c.if-body-lt8.false; version_least = c.if-version-lt1.false; version_most = c.if-version-gt3.false } in
    held _ v (sym c.class_read.ensures ∙ c.if-not-class_read.false) _ c.u32_at-size.ensures.value (omega arith) _ c.needed.ensures
    c.if-body-needed.false (own_read _ c.u32_at-size.ensures c.sound.ensures c.class_bits.ensures c.if-not-sound.false)
