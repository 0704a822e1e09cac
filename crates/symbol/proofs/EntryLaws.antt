-- Laws of the entries of a symbol table node, by the tests in their order.
use Prim.Native.Nat.{ℕ, suc, ◌+◌, ◌*◌, ◌-◌, ◌≤◌, ◌<◌}
use mathlib.Core.Bool.{Bool, true, false, ◌&&◌}
use mathlib.Core.List.{List, [], ◌∷◌}
use mathlib.Core.Path.{◌≡◌, refl, ap, sym, ◌∙◌}
use native.Mathlib.Omega.{arith}
use borrow.Author.Tests.{leb-true}
use lib.Dec.{leb}
use lib.ListN.{length, drop}
use Rattle.format.specs.Limits.{name_most}
use Rattle.std.specs.Prelude.{if◌then◌else◌, Option, Some, None, Result, Ok, Err}
use Rattle.format.specs.Bytes.{all_hold, part, little_endian, u32, u64}
use Rattle.format.specs.declared.Refusal.{Refusal}
use Rattle.format.specs.Result.{Result as Read, value, answer, check, ◌>>◌}
use Rattle.format.specs.Walk.{fault as fault_at, located, ◌>>=◌}
use Rattle.format.specs.Blocks.{Block, overlaps_any}
use Rattle.format.specs.Heap.{Heap}
use Rattle.format.specs.Names.{Bound, Text, text, fault, bad_form, in_free_block, fault_number, read_text, key_text, name_text, value_text, below, within}
use Rattle.format.specs.Names.{is_name, well_formed, outside_free}
use Rattle.format.specs.Entry.{Entry, GroupState, read_value, read_entry}
use Rattle.format.specs.Symbols.{entries}
use Rattle.free_list.specs.FreeBlocks.{chain}
use Rattle.heap.specs.Segment.{heap_with, chained_heap}
use Rattle.names.specs.Texts.{fault_of, TextRead, CheckedAs}
use Rattle.names.specs.declared.NameFault.{NameFault}
use Rattle.laws.proofs.Bind.{ret-bind, refuse-bind}
use Rattle.laws.proofs.Results.{passes, fails, gives, answers}
use Rattle.walk.proofs.Parts.{part-part, drop-part}
use Rattle.walk.proofs.Tests.{takes-then, takes-else, field-equal, field-unequal, field-most, field-above}
use Rattle.range.specs.Range.{NameInside, name_in, range_holds, Tight, Floor}
use Rattle.range.proofs.FirstBytes.{name_at, string-inside}
use Rattle.range.proofs.RangeLaws.{floor-next, second-fails}
use Rattle.visit.specs.Visit.{Visit, visit_of}
use Rattle.symbol.specs.Entry.{group_of, state_of, ValueIs, NameSound, Between, EntryIs, EntriesAre}
use Rattle.range.specs.declared.Name.{Name}
use Rattle.symbol.specs.declared.entry.Group.{Group}
use Rattle.symbol.specs.declared.entry.NameRange.{NameRange}

-- a field of the entry, read from the image
field : (im : List ℕ) (at m b n : ℕ) → 40 ≤ m → b + n ≤ 40 → little_endian (part (part im at m) b n) ≡ little_endian (part im (at + b) n)
field im at m b n l h = ap little_endian (part-part im at m b n (omega arith))

first_field : (im : List ℕ) (at m : ℕ) → 40 ≤ m → u64 (part im at m) 0 ≡ u64 im at
first_field im at m l = let e : at + 0 ≡ at = omega arith in field im at m 0 8 l (omega arith) ∙ ap (u64 im) e

-- A link's value, by the entry's type and then by the string that stands there.
module _ (im seg : List ℕ) (bs : List Block) (kind at : ℕ) where
  pub value_none : (kind ≡ 2 → ⊥) → ValueIs im seg bs kind at (Ok tt)
  unfolding read_value
  value_none n = λ m l i k. takes-else _ _ (field-unequal (sym k) n) refl

  module _ (two : kind ≡ 2) {off : ℕ} (o : off ≡ u32 im (at + 24)) where
    value_there : (m : ℕ) → 40 ≤ m → (t : Text) → t ≡ value_text (heap_with seg bs) off →
        read_text t ≡ read_text (value_text (heap_with seg bs) (u32 (part im at m) 24))
    value_there m l t e = ap read_text (e ∙ ap (value_text (heap_with seg bs)) (o ∙ sym (field im at m 24 4 l (omega arith))))

    -- x is r with the number of its fault
    pub value_read : (r : Result (Unit {0}) NameFault) (x : Result (Unit {0}) ℕ) → CheckedAs r (value_text (heap_with seg bs) off) →
        ((f : NameFault) → r ≡ Err f → x ≡ Err (fault_number (fault_of f))) → (r ≡ Ok tt → x ≡ Ok tt) → ValueIs im seg bs kind at x
    unfolding read_value
    value_read (Ok u) x t e f = rw (f refl) (λ m l i k. takes-then _ _ (field-equal (sym k) two) (gives _ (value_there m l (text t.0) t.1) refl))
    value_read (Err n) x t e f =
        rw (e n refl) (λ m l i k. takes-then _ _ (field-equal (sym k) two) (answers _ (value_there m l (fault (fault_of n)) t)))

-- a name has no more bytes than it may
name-short : (h : Heap) (off : ℕ) (t : List ℕ) → name_text h off ≡ text t → length t ≤ name_most
unfolding name_text is_name all_hold
name-short h off t e = by_key (key_text h off) e
  where
    by-outside : (u : List ℕ) (z : Bool) → length u ≤ name_most → (if z then fault in_free_block else text u) ≡ text t → length t ≤ name_most
    by-outside u true l q = let z : ◌≡◌ {A = ℕ} 0 1 = cc in absurd (omega arith)
    by-outside u false l q = let same : u ≡ t = cc in rw same at l

    by_form : (u : List ℕ) (x y : Bool) (z : Bool) → leb (length u) name_most ≡ y →
        outside_free h off (if (if x && y then z else false) then text u else fault bad_form) ≡ text t → length t ≤ name_most
    by_form u true true true p q = by-outside u (overlaps_any h.free off (length u + 1)) (leb-true (length u) name_most p) q
    by_form u true true false p q = let z : ◌≡◌ {A = ℕ} 0 1 = cc in absurd (omega arith)
    by_form u true false z p q = let z : ◌≡◌ {A = ℕ} 0 1 = cc in absurd (omega arith)
    by_form u false y z p q = let z : ◌≡◌ {A = ℕ} 0 1 = cc in absurd (omega arith)

    by_key : (k : Text) → outside_free h off (well_formed k) ≡ text t → length t ≤ name_most
    by_key (text u) q = by_form u (leb 1 (length u)) (leb (length u) name_most) _ refl q
    by_key (fault f) q = let z : ◌≡◌ {A = ℕ} 0 1 = cc in absurd (omega arith)

-- a name that was read at the entry's first field
pub name-sound : {im seg : List ℕ} {g : Group} {at off n : ℕ} {x : Result ℕ NameFault} → off ≡ u64 im at → x ≡ Ok n →
    TextRead seg off x (name_text (chained_heap seg g.strings.head g.strings.free) off) → NameSound im seg g at (name_at seg off n)
name-sound {im} {seg} {g} {at} {off} {n} o e h =
    let t : TextRead seg off (Ok n) (name_text (chained_heap seg g.strings.head g.strings.free) off) = rw e at h in
    let j : off + n < length seg = t.inside in
    record {
      inside = string-inside seg off n (omega arith);
      short = name-short (chained_heap seg g.strings.head g.strings.free) off (part seg off n) (sym t.value);
      is = rw (← o) (sym t.value);
    }

-- An entry, by its tests in their order.
module _ {S : Type 0} (im seg : List ℕ) (visit : Visit S) (g : Group) (r : NameRange) (at : ℕ) (found found' : S) where
  pub name-refused : {off : ℕ} {x : Result ℕ NameFault} {f : NameFault} → off ≡ u64 im at → x ≡ Err f →
      TextRead seg off x (name_text (chained_heap seg g.strings.head g.strings.free) off) →
      EntryIs im seg visit g r at found found' (Err (fault_at (fault_number (fault_of f)) at))
  unfolding read_entry
  name-refused {off} {x} {f} o e h =
      let t : TextRead seg off (Err f) (name_text (chained_heap seg g.strings.head g.strings.free) off) = rw e at h in
      record {
        walk =
            λ bounds m u l i. ap (located at)
            (answers _ (ap read_text (t.value ∙ ap (name_text (chained_heap seg g.strings.head g.strings.free)) (o ∙ sym (first_field im at m l)))));
        floor = tt;
      }

  module _ {n : Name} (sound : NameSound im seg g at n) where
    name-there : (m : ℕ) → 40 ≤ m → value (name_in seg n) ≡ read_text (name_text (chained_heap seg g.strings.head g.strings.free) (u64 (part im at m) 0))
    name-there m l = ap read_text (sym sound.is ∙ ap (name_text (chained_heap seg g.strings.head g.strings.free)) (sym (first_field im at m l)))

    -- its place among names and keys: both tests fail with 8
    pub place-refused : all_hold (below (name_in seg r.last) (name_in seg n) ∷ range_holds seg r.keys (name_in seg n) ∷ []) ≡ false →
        EntryIs im seg visit g r at found found' (Err (fault_at 8 at))
    unfolding read_entry all_hold
    place-refused e = record {
      walk = λ bounds m t l i. ap (located at) (gives _ (name-there m l) (go (below (name_in seg r.last) (name_in seg n)) refl bounds t _));
      floor = tt;
    }
      where
        go : (z : Bool) → below (name_in seg r.last) (name_in seg n) ≡ z → (bounds : List Bound) → Tight seg r.keys bounds → (k : Read (GroupState S)) →
            answer 8 ≡ (check (below (name_in seg r.last) (name_in seg n)) 8 >> (check (within bounds (name_in seg n)) 8 >> k))
        go false p bounds t k = fails _ _ p
        go true p bounds t k = passes _ _ p (fails _ _ (t (name_in seg n) sound.short ∙ second-fails _ _ p e))

    module _ (passed : Between seg r n) where
      placed : (bounds : List Bound) → Tight seg r.keys bounds → {x : Read (GroupState S)} (k : Read (GroupState S)) → x ≡ k →
          x ≡ (check (below (name_in seg r.last) (name_in seg n)) 8 >> (check (within bounds (name_in seg n)) 8 >> k))
      placed bounds t k e = passes _ _ passed.0 (passes _ _ (t (name_in seg n) sound.short ∙ passed.1) e)

      module _ {kind : ℕ} (k : kind ≡ u32 im (at + 16)) where
        kind-there : (m : ℕ) → 40 ≤ m → u32 (part im at m) 16 ≡ kind
        kind-there m l = field im at m 16 4 l (omega arith) ∙ sym k

        pub type-refused : 2 < kind → EntryIs im seg visit g r at found found' (Err (fault_at 8 at))
        unfolding read_entry
        type-refused h = record {
          walk =
              λ bounds m t l i. ap (located at)
              (gives _ (name-there m l) (placed bounds t _ (fails _ _ (field-above (kind-there m l) h))));
          floor = tt;
        }

        module _ (known : kind ≤ 2) where
          pub link-refused : {v : Result (Unit {0}) ℕ} {x : ℕ} → v ≡ Err x → ValueIs im seg (chain g.strings.free seg g.strings.head) kind at v →
              EntryIs im seg visit g r at found found' (Err (fault_at x at))
          unfolding read_entry
          link-refused {v} {x} e w =
              let w' : ValueIs im seg (chain g.strings.free seg g.strings.head) kind at (Err x) = rw e at w in
              record {
                walk = λ bounds m t l i.
                    ap (located at)
                    (gives _ (name-there m l) (placed bounds t _ (passes _ _ (field-most (kind-there m l) known)
                    (answers _ (w' m l i (sym (kind-there m l)))))));
                floor = tt;
              }

          module _ {v : Result (Unit {0}) ℕ} (e : v ≡ Ok tt) (w : ValueIs im seg (chain g.strings.free seg g.strings.head) kind at v) {header : ℕ}
              (h : header ≡ u64 im (at + 8)) {name : List ℕ} (q : name ≡ name_in seg n) (y : Option (Unit {0}))
              (d : visit_of found' y ≡ visit (record { name = name; type = kind; header = header }) found) where
            value_sound : ValueIs im seg (chain g.strings.free seg g.strings.head) kind at (Ok tt)
            value_sound = rw e at w

            -- what the visit is told
            visit-there : (m : ℕ) → 40 ≤ m → visit_of found' y ≡
                visit (record { name = name_in seg n; type = u32 (part im at m) 16; header = u64 (part im at m) 8 }) found
            visit-there m l =
                let e : header ≡ u64 (part im at m) 8 = h ∙ sym (field im at m 8 8 l (omega arith)) in
                d ∙ λ i. visit (record { name = q i; type = sym (kind-there m l) i; header = e i }) found

            pub visit-refused : y ≡ None → EntryIs im seg visit g r at found found' (Err (fault_at 12 at))
            unfolding read_entry
            visit-refused f = record {
              walk = λ bounds m t l i.
                  ap (located at)
                  (gives _ (name-there m l) (placed bounds t _ (passes _ _ (field-most (kind-there m l) known)
                  (gives _ (value_sound m l i (sym (kind-there m l))) (answers _ (ap (visit_of found') (sym f) ∙ visit-there m l))))));
              floor = tt;
            }

            pub visited : y ≡ Some tt → EntryIs im seg visit g r at found found' (Ok n)
            unfolding read_entry
            visited f = record {
              walk = λ bounds m t l i.
                  ap (located at)
                  (gives _ (name-there m l) (placed bounds t _ (passes _ _ (field-most (kind-there m l) known)
                  (gives _ (value_sound m l i (sym (kind-there m l))) (gives _ (ap (visit_of found') (sym f) ∙ visit-there m l) refl)))));
              floor = floor-next seg r.keys n sound.inside passed.1;
            }

-- The loop over the entries: what i entries leave to read, and what they have come to.
pub record Reading {S : Type 0} (im seg : List ℕ) (visit : Visit S) (g : Group) (r : NameRange) (from n : ℕ) (found₀ : S) (i : ℕ) (last : Name)
    (found : S) : Type 0 where
  pub inside : i ≤ n
  pub walk : (bounds : List Bound) (m : ℕ) → Tight seg r.keys bounds → 40 * n ≤ m → from + m ≤ length im →
      entries (group_of seg visit g) bounds n from (part im from m) (state_of seg r.last found₀)
      ≡ entries (group_of seg visit g) bounds (n - i) (from + 40 * i) (part im (from + 40 * i) (m - 40 * i)) (state_of seg last found)
  pub last_inside : NameInside seg last

-- before the first
pub reading-start : {S : Type 0} {im seg : List ℕ} {visit : Visit S} {g : Group} {r : NameRange} {from n : ℕ} {found₀ : S} → NameInside seg r.last →
    Reading im seg visit g r from n found₀ 0 r.last found₀
reading-start {S} {im} {seg} {visit} {g} {r} {from} {n} {found₀} h = record {
  inside = omega arith;
  walk = λ bounds m t l j.
      let a : n - 0 ≡ n = omega arith in
      let d : from + 40 * 0 ≡ from = omega arith in
      let e : m - 40 * 0 ≡ m = omega arith in
      rw (a, d, e) refl;
  last_inside = h;
}

-- the next of k + 1 entries
entries_next : {S : Type 0} (g : Rattle.format.specs.Entry.Group S) (bounds : List Bound) (k at : ℕ) (b : List ℕ) (s : GroupState S) →
    entries g bounds (suc k) at b s ≡ (located at (read_entry g bounds b s) >>= λ s'. entries g bounds k (at + 40) (drop 40 b) s')
unfolding entries
entries_next g bounds k at b s = refl

module _ {S : Type 0} {im seg : List ℕ} {visit : Visit S} {g : Group} {r : NameRange} {from n : ℕ} {found₀ : S} {i : ℕ} {last : Name} {found : S}
    (reading : Reading im seg visit g r from n found₀ i last found) where
  pub reading-end : n ≤ i → EntriesAre im seg visit g r from n found₀ found (Ok last)
  unfolding entries
  reading-end h =
      let e : n - i ≡ 0 = omega arith in
      record { walk = λ bounds m t l j. sym (reading.walk bounds m t l j ∙ rw e); last = reading.last_inside }

  module _ (some : i < n) (found' : S) where
    -- the walk from here on, by its next entry
    reading-next : (bounds : List Bound) (m : ℕ) → Tight seg r.keys bounds → 40 * n ≤ m → from + m ≤ length im →
        entries (group_of seg visit g) bounds n from (part im from m) (state_of seg r.last found₀)
        ≡ (located (from + 40 * i) (read_entry (group_of seg visit g) bounds (part im (from + 40 * i) (m - 40 * i)) (state_of seg last found))
        >>= λ s'. entries (group_of seg visit g) bounds (n - (i + 1)) (from + 40 * i + 40) (drop 40 (part im (from + 40 * i) (m - 40 * i))) s')
    reading-next bounds m t l j =
        let e : n - i ≡ suc (n - (i + 1)) = omega arith in
        reading.walk bounds m t l j ∙ rw e (entries_next _ bounds (n - (i + 1)) (from + 40 * i) _ _)

    pub reading-refused : {x : Refusal} → EntryIs im seg visit g (record { keys = r.keys; last = last }) (from + 40 * i) found found' (Err x) →
        EntriesAre im seg visit g r from n found₀ found' (Err x)
    reading-refused {x} h = record {
      walk = λ bounds m t l j. sym (reading-next bounds m t l j ∙ rw (← h.walk bounds (m - 40 * i) t (omega arith) (omega arith)) (refuse-bind x _));
      last = tt;
    }

    pub reading-again : {last' : Name} →
        EntryIs im seg visit g (record { keys = r.keys; last = last }) (from + 40 * i) found found' (Ok last') →
        Reading im seg visit g r from n found₀ (i + 1) last' found'
    reading-again {last'} h = record {
      inside = omega arith;
      walk = λ bounds m t l j.
          let e : from + 40 * i + 40 ≡ from + 40 * (i + 1) = omega arith in
          let f : m - 40 * i - 40 ≡ m - 40 * (i + 1) = omega arith in
          reading-next bounds m t l j
          ∙ rw (← h.walk bounds (m - 40 * i) t (omega arith) (omega arith))
          (ret-bind (state_of seg last' found') _ ∙ rw (drop-part im (from + 40 * i) (m - 40 * i) 40, e, f));
      last_inside = h.floor.inside;
    }

-- What holds at each turn of the loop: what was read, with the visit of the loop's start, and how many links were counted since then.
pub record Turn {S : Type 0} (visit : Visit S) (g : Group) (r : NameRange) (from n : ℕ) (found₀ : S) (links₀ i : ℕ) (last floor : Name) (found : S)
    (links : ℕ) : Type 0 where
  pub reading : Reading g.image.now g.strings.segment.now visit g r from n found₀ i last found
  pub above : Floor g.strings.segment.now r.keys (name_in g.strings.segment.now last) floor
  pub links_most : links ≤ links₀ + i
