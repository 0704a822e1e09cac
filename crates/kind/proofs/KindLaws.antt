-- Laws of the kind: the object by what there is of each type, and what its messages carry.
use Prim.Native.Nat.{ℕ, ◌+◌, ◌-◌, ◌/◌, ◌%◌, ◌≤◌}
use mathlib.Core.Bool.{Bool, true, false, ◌&&◌, ◌||◌, true≢false}
use mathlib.Core.List.{List, [], ◌∷◌}
use mathlib.Core.Path.{◌≡◌, refl, ap, sym, ◌∙◌}
use native.Mathlib.Omega.{arith}
use borrow.Author.Tests.{eq-eqb, ne_eqb}
use lib.Dec.{eqb}
use lib.ListN.{length}
use Rattle.std.specs.Prelude.{Ok, Err}
use Rattle.format.specs.Bytes.{all_hold, little_endian, u16, u64}
use Rattle.format.specs.Walk.{ret, refuse, fault, ◌>>=◌}
use Rattle.format.specs.Header.{group, dataset, committed, has_counts, object_of}
use Rattle.format.specs.Message.{Message, is_shared, of_type, the_message}
use Rattle.walk.specs.Numbers.{Number}
use Rattle.walk.proofs.Parts.{part-part}
use Rattle.tally.specs.Tally.{message_at, IsFirst, Tallied}
use Rattle.tally.specs.declared.Occurrence.{Occurrence}
use Rattle.tally.specs.declared.Occurrence.TheVariants.{Absent, Once, Repeated}
use Rattle.tally.specs.declared.Tally.{Tally}
use Rattle.message.specs.declared.Body.{Body}
use Rattle.kind.specs.Kind.{BodyAt, KindIs}
use Rattle.kind.specs.declared.HeaderRead.TheVariants.{Group, Dataset, Committed}

-- the object, by how many messages there are of the types 1, 3, 8 and 0x11
module _ (at : ℕ) (ms : List Message) where
  object-group : length (of_type 0x0001 ms) ≡ 0 → length (of_type 0x0003 ms) ≡ 0 → length (of_type 0x0008 ms) ≡ 0 → length (of_type 0x0011 ms) ≡ 1 →
      object_of at ms ≡ ret (group (u64 (the_message 0x0011 ms).body 0) (u64 (the_message 0x0011 ms).body 8))
  unfolding object_of has_counts all_hold
  object-group s d l t = rw (s, d, l, t)

  object-dataset : length (of_type 0x0001 ms) ≡ 1 → length (of_type 0x0003 ms) ≡ 1 → length (of_type 0x0008 ms) ≡ 1 → length (of_type 0x0011 ms) ≡ 0 →
      object_of at ms ≡ ret (dataset (the_message 0x0001 ms) (the_message 0x0003 ms) (the_message 0x0008 ms))
  unfolding object_of has_counts all_hold
  object-dataset s d l t = rw (s, d, l, t)

  module _ (s : length (of_type 0x0001 ms) ≡ 0) (d : length (of_type 0x0003 ms) ≡ 1) where
    module _ (l : length (of_type 0x0008 ms) ≡ 0) (t : length (of_type 0x0011 ms) ≡ 0) where
      object-committed : is_shared (the_message 0x0003 ms).flags ≡ false → object_of at ms ≡ ret committed
      unfolding object_of has_counts all_hold ◌>>=◌
      object-committed h = rw (s, d, l, t, h)

      -- "a shared flag on a committed datatype's own message"
      object-shared : is_shared (the_message 0x0003 ms).flags ≡ true → object_of at ms ≡ refuse (fault 10 at)
      unfolding object_of has_counts all_hold ◌>>=◌
      object-shared h = rw (s, d, l, t, h)

-- a field of the symbol table message
table-field : (im : List ℕ) (ms : List Message) (place k r : ℕ) → the_message 0x0011 ms ≡ message_at im 0x0011 place → k + 8 ≤ u16 im (place - 6) →
    Number im (place + k) 8 r →
    u64 (the_message 0x0011 ms).body k ≡ r
table-field im ms place k r e l n =
    ap (λ (m : Message). u64 m.body k) e ∙ ap little_endian (part-part im place (u16 im (place - 6)) k 8 l) ∙ sym n.value

-- whether there is no message of a type, and whether there is one
abbrev pub absent : Occurrence → Bool
absent Absent = true
absent (Once _) = false
absent (Repeated _) = false

abbrev pub once : Occurrence → Bool
once Absent = false
once (Once _) = true
once (Repeated _) = false

module _ (im : List ℕ) (ms : List Message) (type : ℕ) where
  is-absent : (o : Occurrence) → IsFirst im ms type o → eqb (length (of_type type ms)) 0 ≡ absent o
  is-absent Absent i = eq-eqb _ 0 i
  is-absent (Once _) i = ne_eqb _ 0 (λ e. omega (arith, e, i.0))
  is-absent (Repeated _) i = ne_eqb _ 0 (λ e. omega (arith, e, i.0))

  is-once : (o : Occurrence) → IsFirst im ms type o → eqb (length (of_type type ms)) 1 ≡ once o
  is-once Absent i = ne_eqb _ 1 (λ e. omega (arith, e, i))
  is-once (Once _) i = eq-eqb _ 1 i.0
  is-once (Repeated _) i = ne_eqb _ 1 (λ e. omega (arith, e, i.0))

pub not-absent : (o : Occurrence) → (o ≡ Absent → ⊥) → absent o ≡ false
not-absent Absent n = absurd (n refl)
not-absent (Once _) n = refl
not-absent (Repeated _) n = refl

pub not-once : (o : Occurrence) → ((p : ℕ) → o ≡ Once p → ⊥) → once o ≡ false
not-once Absent n = refl
not-once (Once p) n = absurd (n p refl)
not-once (Repeated _) n = refl

-- the header of a group, of a dataset, of a committed datatype
abbrev of_group : Occurrence → Occurrence → Occurrence → Occurrence → Bool
of_group s d l t = absent s && (absent d && (absent l && once t))

abbrev of_dataset : Occurrence → Occurrence → Occurrence → Occurrence → Bool
of_dataset s d l t = once s && (once d && (once l && absent t))

abbrev of_committed : Occurrence → Occurrence → Occurrence → Occurrence → Bool
of_committed s d l t = absent s && (once d && (absent l && absent t))

abbrev pub has_kind : Occurrence → Occurrence → Occurrence → Occurrence → Bool
has_kind s d l t = of_group s d l t || (of_dataset s d l t || of_committed s d l t)

no-other : (p q r : Bool) → (p || (q || r)) ≡ false → (p ≡ false) × (q ≡ false) × (r ≡ false)
no-other false false false e = (refl, refl, refl)
no-other true q r e = absurd (true≢false e)
no-other false true r e = absurd (true≢false e)
no-other false false true e = absurd (true≢false e)

all-four : (p q r u : Bool) → all_hold (p ∷ q ∷ r ∷ u ∷ []) ≡ (p && (q && (r && u)))
unfolding all_hold
all-four true true true true = refl
all-four true true true false = refl
all-four true true false u = refl
all-four true false r u = refl
all-four false q r u = refl

module _ (im : List ℕ) (ms : List Message) (t : Tally) (a : Tallied im ms t) where
  has-group : has_counts ms 0 0 0 1 ≡ of_group t.space t.datatype t.layout t.table
  unfolding has_counts
  has-group =
      rw (is-absent im ms 1 t.space a.space, is-absent im ms 3 t.datatype a.datatype, is-absent im ms 8 t.layout a.layout, is-once im ms 17 t.table a.table)
      (all-four _ _ _ _)

  has-dataset : has_counts ms 1 1 1 0 ≡ of_dataset t.space t.datatype t.layout t.table
  unfolding has_counts
  has-dataset =
      rw (is-once im ms 1 t.space a.space, is-once im ms 3 t.datatype a.datatype, is-once im ms 8 t.layout a.layout, is-absent im ms 17 t.table a.table)
      (all-four _ _ _ _)

  has-committed : has_counts ms 0 1 0 0 ≡ of_committed t.space t.datatype t.layout t.table
  unfolding has_counts
  has-committed =
      rw (is-absent im ms 1 t.space a.space, is-once im ms 3 t.datatype a.datatype, is-absent im ms 8 t.layout a.layout, is-absent im ms 17 t.table a.table)
      (all-four _ _ _ _)

-- What the answers say, by what the tally has of each type.
module _ (im : List ℕ) (at : ℕ) (t : Tally) where
  pub is-group : (place tree heap : ℕ) → t.space ≡ Absent → t.datatype ≡ Absent → t.layout ≡ Absent → t.table ≡ Once place → Number im place 8 tree →
      Number im (place + 8) 8 heap →
      KindIs im at t (Ok (Group tree heap))
  is-group place tree heap s d l e n o = record {
    known = λ ms count a.
        let i = rw e at a.table in
        let z : place + 0 ≡ place = omega arith in
        let k : 16 ≤ u16 im (place - 6) = i.2.long refl in (
          object-group at ms (rw s at a.space) (rw d at a.datatype) (rw l at a.layout) i.0
              ∙ ap ret (λ j. group (table-field im ms place 0 tree i.1 (omega arith) (rw z n) j) (table-field im ms place 8 heap i.1 (omega arith) o j)),
          refl,
        );
    bodies = tt;
  }

  pub is-dataset : (p q r : ℕ) (x y z : Body) → t.space ≡ Once p → t.datatype ≡ Once q → t.layout ≡ Once r → t.table ≡ Absent → BodyAt im p x →
      BodyAt im q y → BodyAt im r z →
      KindIs im at t (Ok (Dataset (record { space = x; datatype = y; layout = z })))
  is-dataset p q r x y z s d l e u v w = record {
    known = λ ms count a.
        let i = rw s at a.space in
        let j = rw d at a.datatype in
        let k = rw l at a.layout in (
          object-dataset at ms i.0 j.0 k.0 (rw e at a.table)
              ∙ ap ret (λ h. dataset ((i.1 ∙ sym (u.is 0x0001)) h) ((j.1 ∙ sym (v.is 0x0003)) h) ((k.1 ∙ sym (w.is 0x0008)) h)),
          refl,
        );
    bodies = (u.inside, v.inside, w.inside);
  }

  module _ (q : ℕ) (b : Body) (s : t.space ≡ Absent) (d : t.datatype ≡ Once q) (l : t.layout ≡ Absent) (e : t.table ≡ Absent) (u : BodyAt im q b) where
    flags-are : (ms : List Message) → Tallied im ms t → (the_message 0x0003 ms).flags ≡ b.flags
    flags-are ms a =
        let i = rw d at a.datatype in
        ap (λ (m : Message). m.flags) (i.1 ∙ sym (u.is 0x0003))

    pub is-committed : (b.flags / 2 % 2 ≡ 1 → ⊥) → KindIs im at t (Ok Committed)
    is-committed n = record {
      known = λ ms count a.
          let i = rw d at a.datatype in
          (object-committed at ms (rw s at a.space) i.0 (rw l at a.layout) (rw e at a.table) (rw (flags-are ms a) (ne_eqb _ 1 n)), refl);
      bodies = tt;
    }

    pub is-shared : b.flags / 2 % 2 ≡ 1 → KindIs im at t (Err (fault 10 at))
    is-shared n = record {
      known = λ ms count a.
          let i = rw d at a.datatype in
          object-shared at ms (rw s at a.space) i.0 (rw l at a.layout) (rw e at a.table) (rw (flags-are ms a) (eq-eqb _ 1 n));
      bodies = tt;
    }

  -- "Anything else gives 10"
  pub is-none : has_kind t.space t.datatype t.layout t.table ≡ false → KindIs im at t (Err (fault 10 at))
  unfolding object_of
  is-none n = record {
    known = λ ms count a.
        let f = no-other (of_group t.space t.datatype t.layout t.table) (of_dataset t.space t.datatype t.layout t.table)
        (of_committed t.space t.datatype t.layout t.table) n in
        rw (has-group im ms t a ∙ f.0, has-dataset im ms t a ∙ f.1, has-committed im ms t a ∙ f.2) refl;
    bodies = tt;
  }
