-- Each step of the code is a step of the walk: the header's block, its tests, the segment's block.
use Prim.Native.Nat.{ℕ, ◌+◌, ◌-◌, ◌≤◌}
use mathlib.Core.List.{List}
use mathlib.Core.Path.{◌≡◌, refl}
use Rattle.format.specs.Bytes.{part}
use Rattle.format.specs.Blocks.{entry_answer}
use Rattle.format.specs.declared.Refusal.{Refusal}
use Rattle.format.specs.Walk.{Walk, ret, enter, fixed, fault, run, kind_number, heap_block, segment_block, shown}
use Rattle.walk.specs.Lent.{Lent, Walked, stopped, blocks_of, entering, IsEntered}
use Rattle.std.specs.Prelude.{Result, Ok, Err}
use Rattle.laws.proofs.Simulation.{Simulation, start, same-walk, refusal, block-entered, block_refused, entered-inside, returned}
use Rattle.heap.specs.Header.{OpenHeap, open_walk, HeaderRead}
use Rattle.heap.specs.declared.header.Header.{Header}
use Rattle.heap.proofs.HeaderLaws.{segment_walk, body_walk, open-parts, header-fields, header-wrong, same-header}
use Rattle.heap.proofs.SegmentLaws.{part-between}
use native.Mathlib.Omega.{arith}
use Rattle.std.proofs.lemmas.Result.{err_from_is_err_and}
use Rattle.heap.proofs.header.open.Goals as goal

module _ (im : List ℕ) (eof room at count : ℕ) (ws : List ℕ) where
  -- what is left of the walk
  abbrev Left : Walk OpenHeap → ℕ → List ℕ → Type 0
  Left w n ws₁ = Simulation im eof room (open_walk at) count ws w n ws₁

  -- the header's block is entered, or refused
  module _ (l : Lent ws count room) (ws₁ : List ℕ)
      (q : IsEntered (entry_answer eof room (blocks_of count ws) at 32) ws count (kind_number heap_block) at 32 ws₁) where
    begun : Left (enter heap_block at (fixed 32) (body_walk at)) count ws
    begun = same-walk _ (open-parts at) (start im eof room (open_walk at) count ws l)

    header-entered : (n : ℕ) →
        Ok n ≡ entering (entry_answer eof room (blocks_of count ws) at 32) (kind_number heap_block) at 32 (blocks_of count ws) count →
        Left (body_walk at (part im at 32)) n ws₁
    unfolding shown
    header-entered n p = block-entered 32 refl refl ws₁ begun q n p

    header-inside : (n : ℕ) →
        Ok n ≡ entering (entry_answer eof room (blocks_of count ws) at 32) (kind_number heap_block) at 32 (blocks_of count ws) count →
        at + 32 ≤ eof
    header-inside n p = entered-inside 32 refl refl ws₁ begun q n p

    header-refused : (r : Refusal) →
        Err r ≡ entering (entry_answer eof room (blocks_of count ws) at 32) (kind_number heap_block) at 32 (blocks_of count ws) count →
        Walked ws ws₁ (stopped r) (run im eof room (open_walk at) (blocks_of count ws))
    header-refused r p = block_refused 32 refl refl ws₁ begun q r p

  -- the header passed its tests, or failed one
  module _ {n : ℕ} {ws₁ : List ℕ} {r : Result Header ℕ} (s : Simulation im eof room (open_walk at) count ws (body_walk at (part im at 32)) n ws₁)
      (h : HeaderRead (part im at (at + 32 - at)) r) where
    header-passed : (f : Header) → r ≡ Ok f → Left (segment_walk f.size f.head f.address) n ws₁
    header-passed f e = same-walk _ (header-fields at f (part-between im at 32) (same-header e h)) s

    header-failed : (answer : ℕ) → r ≡ Err answer →
        Walked ws ws₁ (stopped (fault answer at)) (run im eof room (open_walk at) (blocks_of count ws))
    header-failed answer e = refusal (same-walk _ (header-wrong at answer (part-between im at 32) (same-header e h)) s)

  -- the segment's block is entered, or refused
  module _ (size head address n : ℕ) (ws₁ ws₂ : List ℕ)
      (s : Simulation im eof room (open_walk at) count ws (segment_walk size head address) n ws₁)
      (q : IsEntered (entry_answer eof room (blocks_of n ws₁) address size) ws₁ n (kind_number segment_block) address size ws₂) where
    segment-entered : (m : ℕ) →
        Ok m ≡ entering (entry_answer eof room (blocks_of n ws₁) address size) (kind_number segment_block) address size (blocks_of n ws₁) n →
        Left (ret (record { segment = part im address size; head = head; place = address })) m ws₂
    unfolding shown
    segment-entered m p = block-entered size refl refl ws₂ s q m p

    segment-inside : (m : ℕ) →
        Ok m ≡ entering (entry_answer eof room (blocks_of n ws₁) address size) (kind_number segment_block) address size (blocks_of n ws₁) n →
        address + size ≤ eof
    segment-inside m p = entered-inside size refl refl ws₂ s q m p

    segment-refused : (r : Refusal) →
        Err r ≡ entering (entry_answer eof room (blocks_of n ws₁) address size) (kind_number segment_block) address size (blocks_of n ws₁) n →
        Walked ws ws₂ (stopped r) (run im eof room (open_walk at) (blocks_of count ws))
    segment-refused r p = block_refused size refl refl ws₂ s q r p

pub overflow_add-behind : goal.overflow_add-behind
overflow_add-behind c =
    let a = c.args in
    let o = a.bounds in
    let b = a.blocks.now in
    let e = c.enter in
    omega (
      arith,
      header-inside a.image.now o.end_of_file o.room a.at b.count b.words.now c.requires.lent e.new.self.words.now e.ensures.entered _
          c.in_ok-enter.ensures.value,
    )

pub slice_bounds-read_header-end : goal.slice_bounds-read_header-end
slice_bounds-read_header-end c =
    let a = c.args in
    let o = a.bounds in
    let b = a.blocks.now in
    let e = c.enter in
    omega (
      arith,
      header-inside a.image.now o.end_of_file o.room a.at b.count b.words.now c.requires.lent e.new.self.words.now e.ensures.entered _
          c.in_ok-enter.ensures.value,
    )

pub returns-in_err-enter-clause-walked : goal.returns-in_err-enter-clause-walked
returns-in_err-enter-clause-walked c =
    let a = c.args in
    let o = a.bounds in
    let b = a.blocks.now in
    let e = c.enter in
    let p = err_from_is_err_and c.from_residual.result c.from_residual.ensures.1 in
    rw (p.1, p.2) (header-refused a.image.now o.end_of_file o.room a.at b.count b.words.now c.requires.lent e.new.self.words.now e.ensures.entered _
    c.in_err-enter.ensures.value)

pub returns-in_err-header-clause-walked : goal.returns-in_err-header-clause-walked
returns-in_err-header-clause-walked c =
    let a = c.args in
    let o = a.bounds in
    let b = a.blocks.now in
    let e = c.enter in
    let p = err_from_is_err_and c.from_residual-in_err-header.result c.from_residual-in_err-header.ensures.1 in
    let f : (n : ℕ) × (c.read_header.result ≡ Err n) × (c.in_err-header.field-0.0 ≡ fault n a.at) = grind arith in
    let left = header-entered a.image.now o.end_of_file o.room a.at b.count b.words.now c.requires.lent e.new.self.words.now e.ensures.entered _
    c.in_ok-enter.ensures.value in
    rw (p.1, p.2, f.2) (header-failed a.image.now o.end_of_file o.room a.at b.count b.words.now left c.read_header.ensures f.0 f.1)

pub enter-requires-2 : goal.enter-requires-2
enter-requires-2 c =
    let a = c.args in
    let o = a.bounds in
    let b = a.blocks.now in
    let e = c.enter in
    (header-entered a.image.now o.end_of_file o.room a.at b.count b.words.now c.requires.lent e.new.self.words.now e.ensures.entered _
    c.in_ok-enter.ensures.value).lent

pub returns-in_err-enter-2-clause-walked : goal.returns-in_err-enter-2-clause-walked
returns-in_err-enter-2-clause-walked c =
    let a = c.args in
    let o = a.bounds in
    let b = a.blocks.now in
    let e = c.enter in
    let h = c.in_ok-header.header in
    let p = err_from_is_err_and c.from_residual-in_err-enter-2.result c.from_residual-in_err-enter-2.ensures.1 in
    let f : c.read_header.result ≡ Ok h = grind arith in
    let left = header-entered a.image.now o.end_of_file o.room a.at b.count b.words.now c.requires.lent e.new.self.words.now e.ensures.entered _
    c.in_ok-enter.ensures.value in
    let behind = header-passed a.image.now o.end_of_file o.room a.at b.count b.words.now left c.read_header.ensures h f in
    rw (p.1, p.2) (segment-refused a.image.now o.end_of_file o.room a.at b.count b.words.now h.size h.head h.address _ e.new.self.words.now _ behind
    c.enter-2.ensures.entered _ c.in_err-enter-2.ensures.value)

pub returns-clause-walked : goal.returns-clause-walked
returns-clause-walked c =
    let a = c.args in
    let o = a.bounds in
    let b = a.blocks.now in
    let e = c.enter in
    let h = c.in_ok-header.header in
    let f : c.read_header.result ≡ Ok h = grind arith in
    let left = header-entered a.image.now o.end_of_file o.room a.at b.count b.words.now c.requires.lent
    e.new.self.words.now e.ensures.entered _ c.in_ok-enter.ensures.value in
    let behind = header-passed a.image.now o.end_of_file o.room a.at b.count b.words.now left
    c.read_header.ensures h f in
    returned
    (segment-entered a.image.now o.end_of_file o.room a.at b.count b.words.now h.size h.head h.address _
    e.new.self.words.now _ behind c.enter-2.ensures.entered _ c.in_ok-enter-2.ensures.value)

pub returns-clause-opened_inside : goal.returns-clause-opened_inside
returns-clause-opened_inside c =
    let a = c.args in
    let o = a.bounds in
    let b = a.blocks.now in
    let e = c.enter in
    let h = c.in_ok-header.header in
    let f : c.read_header.result ≡ Ok h = grind arith in
    let left = header-entered a.image.now o.end_of_file o.room a.at b.count b.words.now c.requires.lent
    e.new.self.words.now e.ensures.entered _ c.in_ok-enter.ensures.value in
    let behind = header-passed a.image.now o.end_of_file o.room a.at b.count b.words.now left
    c.read_header.ensures h f in
    let inside = segment-inside a.image.now o.end_of_file o.room a.at b.count b.words.now h.size h.head h.address _
    e.new.self.words.now _ behind c.enter-2.ensures.entered _ c.in_ok-enter-2.ensures.value in
    record { image = omega (arith, inside, c.requires.end_of_file_in_bounds); file = inside }
