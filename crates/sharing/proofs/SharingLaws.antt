-- Laws of sharings: what is found after one, by what was counted and how the object was marked.
use Prim.Native.Nat.{ℕ, ◌<◌}
use mathlib.Core.Bool.{Bool, true, false, not}
use mathlib.Core.List.{List}
use mathlib.Core.Path.{◌≡◌, refl, ap, sym, ◌∙◌}
use native.Mathlib.Omega.{arith}
use borrow.Author.Tests.{eq-eqb, ne_eqb}
use lib.Dec.{eqb}
use lib.ListN.{length, get_or, set, length-set}
use Rattle.laws.proofs.Disjoint.{fresh-append}
use Rattle.laws.proofs.Growth.{inside-append}
use Rattle.laws.proofs.SumOfLengths.{lengths-append, lengths-inside}
use Rattle.sharing.specs.Lent.{TablesIn, KeptIn, CountingIn}
use Rattle.sharing.specs.Visit.{Counts}
use Rattle.sharing.specs.VisitLaws.{found_counts}
use Rattle.std.specs.Prelude.{Result, Ok, Err, Option, Some, None, unwrap_or}
use Rattle.format.specs.Attribute.{read_attribute}
use Rattle.format.specs.Sharing.{Found, place_of, share, share_each, discover_sharing, not_committed}
use Rattle.laws.proofs.Results.{passes, fails, gives, answers, bind-value}
use Rattle.walk.proofs.Tests.{takes-then, takes-else}
use Rattle.attribute.specs.Attribute.{attribute_result}
use Rattle.datatype.specs.declared.Datatype.TheVariants as datatypes
use Rattle.ledger.specs.Table.{linked_of, Discovered}
use Rattle.ledger.specs.Index as index
use Rattle.ledger.proofs.TableLaws.{discovered-sum}
use Rattle.ledger.proofs.PlaceLaws.{discovered-place, discovered-inside}
use Rattle.walk.specs.Entered.{with_count}
use Rattle.sharing.specs.Sharing.{found_of, Tables, Shared, TypeShared, KindKnown}
use Rattle.sharing.specs.Visit.{Visited}

-- A sharing of the address a, for which a search found the object o, or none; then the new object's place is n.
module _ (xs ts ms : List ℕ) (n a : ℕ) (o : Option ℕ) (t : Tables xs ts ms n 1) (f : index.Found xs n a o) (xs' ts' : List ℕ) {x : Option ℕ} where
  pub share-full : x ≡ None → Discovered xs ts n a xs' ts' x → Shared xs ts ms n a xs' ts' ms (Err 12)
  unfolding share
  share-full e d =
      let g : Discovered xs ts n a xs' ts' None = rw e at d in
      record { walk = answers _ g.walk; kept = tt; addresses_same = g.addresses_same; counts_same = g.counts_same; marks_same = refl }

  module _ (m : ℕ) (e : x ≡ Some m) (d : Discovered xs ts n a xs' ts' x) where
    counted : Discovered xs ts n a xs' ts' (Some m)
    counted = rw e at d

    place : place_of a (linked_of m xs' ts') ≡ unwrap_or o n
    place = discovered-place xs ts n a o t.table f xs' ts' m counted

    -- the place has a mark
    pub marked-place : unwrap_or o n < length ms
    marked-place = omega (arith, discovered-inside xs ts n a o t.table f xs' ts' m counted, counted.table.fits, t.marked)

    -- the mark that the definition looks at
    mark-is : {v : Bool} → not (eqb (get_or ms (unwrap_or o n) 0) 2) ≡ v → not (eqb (get_or ms (place_of a (linked_of m xs' ts')) 0) 2) ≡ v
    mark-is h = rw place h

    pub share_other : get_or ms (unwrap_or o n) 0 ≡ 2 → Shared xs ts ms n a xs' ts' ms (Err 10)
    unfolding share
    share_other h = record {
      walk = gives _ counted.walk (fails _ _ (mark-is (ap not (eq-eqb (get_or ms (unwrap_or o n) 0) 2 h))));
      kept = tt;
      addresses_same = counted.addresses_same;
      counts_same = counted.counts_same;
      marks_same = refl;
    }

    pub share-counted : (get_or ms (unwrap_or o n) 0 ≡ 2 → ⊥) → Shared xs ts ms n a xs' ts' (set ms (unwrap_or o n) 1) (Ok m)
    unfolding share
    share-counted h = record {
      walk = gives _ counted.walk (passes _ _ (mark-is (ap not (ne_eqb (get_or ms (unwrap_or o n) 0) 2 h))) (rw place));
      kept = record {
        table = counted.table;
        marked = rw length-set t.marked;
        links = omega (arith, discovered-sum xs ts n a xs' ts' m counted);
      };
      addresses_same = counted.addresses_same;
      counts_same = counted.counts_same;
      marks_same = length-set ms (unwrap_or o n) 1;
    }

-- A message, by what the audit does at it.
module _ (kind : ℕ) (body xs ts ms : List ℕ) (n : ℕ) where
  abbrev f : Found
  f = found_of xs ts ms n

  pub other-message : (kind ≡ 12 → ⊥) → Visited discover_sharing kind body f f (Ok tt)
  unfolding discover_sharing
  other-message h = λ flags place. takes-else _ _ (ne_eqb kind 12 h) refl

  -- an attribute, by what was read of it
  module _ (h : kind ≡ 12) {x : Result (Option ℕ) ℕ} (r : attribute_result x ≡ read_attribute body) where
    pub own-type : x ≡ Ok None → Visited discover_sharing kind body f f (Ok tt)
    unfolding discover_sharing share_each
    own-type g = λ flags place. takes-then _ _ (eq-eqb kind 12 h) (gives _ (rw g at r) refl)

    pub bad-attribute : (number : ℕ) → x ≡ Err number → Visited discover_sharing kind body f f (Err number)
    unfolding discover_sharing
    bad-attribute number g = λ flags place. takes-then _ _ (eq-eqb kind 12 h) (answers _ (rw g at r))

    pub shared-type : (address : ℕ) → x ≡ Ok (Some address) → (xs' ts' ms' : List ℕ) (n' : ℕ) (u : Result (Unit {0}) ℕ) →
        Shared xs ts ms n address xs' ts' ms' (with_count u n') → Visited discover_sharing kind body f (found_of xs' ts' ms' n') u
    unfolding discover_sharing share_each
    shared-type address g xs' ts' ms' n' (Ok u) s = λ flags place.
        takes-then _ _ (eq-eqb kind 12 h) (gives _ (rw g at r) (s.walk ∙ sym (bind-value (share address f))))
    shared-type address g xs' ts' ms' n' (Err number) s = λ flags place.
        takes-then _ _ (eq-eqb kind 12 h) (gives _ (rw g at r) (s.walk ∙ sym (bind-value (share address f))))

-- A dataset's datatype, by what it shares.
module _ (xs ts ms : List ℕ) (n : ℕ) where
  pub type-shared : (address : ℕ) (xs' ts' ms' : List ℕ) (r : Result ℕ ℕ) → Shared xs ts ms n address xs' ts' ms' r →
      TypeShared xs ts ms n (datatypes.Shared address) xs' ts' ms' r
  unfolding share_each
  type-shared address xs' ts' ms' r s = record { walk = s.walk ∙ sym (bind-value (share address (found_of xs ts ms n))); kept = s.kept }

  pub type-own : (class version bits size : ℕ) → Tables xs ts ms n 1 → TypeShared xs ts ms n (datatypes.Own class version bits size) xs ts ms (Ok n)
  unfolding share_each
  type-own class version bits size t = record { walk = refl; kept = record { table = t.table; marked = t.marked; links = omega arith } }

-- The kind of the object at a place, by its mark.
module _ (ms : List ℕ) (i : ℕ) where
  pub kind-shared : get_or ms i 0 ≡ 1 → KindKnown ms i ms false
  unfolding not_committed
  kind-shared h = record { walk = λ os. fails _ _ (ap not (eq-eqb (get_or ms i 0) 1 h)); marks_same = refl }

  pub kind-marked : (get_or ms i 0 ≡ 1 → ⊥) → KindKnown ms i (set ms i 2) true
  unfolding not_committed
  kind-marked h = record { walk = λ os. passes _ _ (ap not (ne_eqb (get_or ms i 0) 1 h)) refl; marks_same = length-set ms i 2 }

-- the laws of what an audit counts
pub found-counting : Counts TablesIn KeptIn CountingIn
found-counting =
    found_counts (record { apart = fresh-append; inside = inside-append; lengths = lengths-append; lengths_inside = lengths-inside })
