-- What the audit has found, from reference to reference: an object keeps its place, and what a mark says stays.
use Prim.Native.Nat.{ℕ, ◌≤◌, ◌<◌}
use mathlib.Core.Bool.{Bool, true, false, not}
use mathlib.Core.List.Memᴰ
use mathlib.Core.List.{List, [], ◌∷◌, ◌++◌, Memᴰ}
use mathlib.Core.Logic.{◌⊎◌, inl, inr, ⊎_elim}
use mathlib.Core.Path.{◌≡◌, refl, ap, ◌∙◌}
use native.Mathlib.Omega.{arith}
use borrow.Author.Tests.{eqb-true, eqb-false}
use lib.Dec.{eqb}
use lib.ListN.{length, get_or, set, length-set}
use lib.Seq.{get_or-set_same, get_or-set_other}
use Rattle.format.specs.Limits.{objects_most}
use Rattle.format.specs.Result.{Result, value, ◌>>=◌}
use Rattle.format.specs.Header.{Object, group, dataset, committed}
use Rattle.format.specs.Ledger.{Linked, in_ledger, count_link}
use Rattle.format.specs.Sharing.{Found, shared_mark, other_mark, place_of, share, share_each, not_committed, known}
use Rattle.laws.proofs.Results.{value-bind, both_values, check-value}
use Rattle.ledger.specs.Links.{Distinct}
use Rattle.ledger.proofs.LedgerLaws.{count_most, count-distinct}
use Rattle.ledger.proofs.PlaceLaws.{place_inside}
use Rattle.links.specs.Reached.{Reference, sharing, sharings_of}
use Rattle.links.specs.Trace.{count_references}
use Rattle.links.proofs.Counting.{counted-on, counting-keeps, counting-appends}
use Rattle.links.proofs.LedgerIn.{counting-in, counted-in}
use Rattle.links.proofs.Places.{place_kept}

-- every object has a mark, and no address stands twice
pub record Fits (f : Found) : Type 0 where
  pub most : length f.objects ≤ objects_most
  pub marked : objects_most ≤ length f.marks
  pub once : Distinct f.objects

-- the mark of the object at the address x
abbrev pub mark_of : ℕ → Found → ℕ
mark_of x f = get_or f.marks (place_of x f.objects) 0

-- a mark that is set stays
abbrev pub MarksStay : List ℕ → List ℕ → Type 0
MarksStay ms ms' = (k : ℕ) → (get_or ms k 0 ≡ shared_mark → get_or ms' k 0 ≡ shared_mark) × (get_or ms k 0 ≡ other_mark → get_or ms' k 0 ≡ other_mark)

-- from f, the references rs gave f'
pub record Given (f : Found) (rs : List Reference) (f' : Found) : Type 0 where
  pub counted : count_references rs f.objects ≡ value f'.objects
  pub fits : Fits f'
  pub marks : MarksStay f.marks f'.marks
  pub shared : (x : ℕ) → Memᴰ (sharing x) rs → mark_of x f' ≡ shared_mark

-- an object that stood there stands there still, at its place
pub given-in : {f f' : Found} {rs : List Reference} → Given f rs f' → (x : ℕ) → in_ledger x f.objects ≡ true → in_ledger x f'.objects ≡ true
given-in {f} {f'} {rs} g x h = counting-in rs f.objects f'.objects g.counted x h

pub given-place : {f f' : Found} {rs : List Reference} → Given f rs f' → (x : ℕ) → in_ledger x f.objects ≡ true →
    place_of x f'.objects ≡ place_of x f.objects
given-place {f} {f'} {rs} g x h =
    let a = counting-appends rs f.objects f'.objects g.counted in
    place_kept x f.objects f'.objects a.0 h a.1

-- with its mark
pub given-shared : {f f' : Found} {rs : List Reference} → Given f rs f' → (x : ℕ) → in_ledger x f.objects ≡ true → mark_of x f ≡ shared_mark →
    mark_of x f' ≡ shared_mark
given-shared {f} {f'} {rs} g x h m = rw (given-place g x h) ((g.marks (place_of x f.objects)).0 m)

pub given-other : {f f' : Found} {rs : List Reference} → Given f rs f' → (x : ℕ) → in_ledger x f.objects ≡ true → mark_of x f ≡ other_mark →
    mark_of x f' ≡ other_mark
given-other {f} {f'} {rs} g x h m = rw (given-place g x h) ((g.marks (place_of x f.objects)).1 m)

-- no reference
pub given-none : (f : Found) → Fits f → Given f [] f
unfolding count_references
given-none f h = record { counted = refl; fits = h; marks = λ k. ((λ m. m), (λ m. m)); shared = λ x m. absurd (Memᴰ.not-nil m) }

-- some, then others
pub given-on : {f f' f'' : Found} {rs ss : List Reference} → Given f rs f' → Given f' ss f'' → Given f (rs ++ ss) f''
given-on {f} {f'} {f''} {rs} {ss} g h = record {
  counted = counted-on rs ss f.objects f'.objects f''.objects g.counted h.counted;
  fits = h.fits;
  marks = λ k. ((λ m. (h.marks k).0 ((g.marks k).0 m)), (λ m. (h.marks k).1 ((g.marks k).1 m)));
  shared = λ x m.
      ⊎_elim (λ i. given-shared h x (counted-in rs f.objects f'.objects (sharing x) g.counted i) (g.shared x i)) (h.shared x)
      (Memᴰ.append_cases rs m);
}

-- references that are counted keep what fits
pub counted-fits : (f f' : Found) (rs : List Reference) → Fits f → count_references rs f.objects ≡ value f'.objects →
    length f'.marks ≡ length f.marks → Fits f'
counted-fits f f' rs h c l = record {
  most = counting-keeps (λ (os : List Linked). length os ≤ objects_most) count_most rs f.objects f'.objects c h.most;
  marked = rw l h.marked;
  once = counting-keeps Distinct count-distinct rs f.objects f'.objects c h.once;
}

not-true : (t : Bool) → not t ≡ true → t ≡ false
not-true true e = let z : ◌≡◌ {A = ℕ} 0 1 = cc in absurd (omega arith)
not-true false e = refl

-- a mark written at a place that had no other
set-stays : (ms : List ℕ) (i m : ℕ) → i < length ms → (get_or ms i 0 ≡ shared_mark → m ≡ shared_mark) → (get_or ms i 0 ≡ other_mark → m ≡ other_mark) →
    MarksStay ms (set ms i m)
set-stays ms i m l a b k = go (eqb k i) refl
  where
    go : (t : Bool) → eqb k i ≡ t →
        (get_or ms k 0 ≡ shared_mark → get_or (set ms i m) k 0 ≡ shared_mark) × (get_or ms k 0 ≡ other_mark → get_or (set ms i m) k 0 ≡ other_mark)
    go true e =
        let same : k ≡ i = eqb-true k i e in
        rw same ((λ h. get_or-set_same ms i m 0 l ∙ a h), (λ h. get_or-set_same ms i m 0 l ∙ b h))
    go false e = let there = get_or-set_other ms i k m 0 (eqb-false k i e) in ((λ h. there ∙ h), (λ h. there ∙ h))

-- a sharing: its object had no other mark, and has this one now
pub share-given : (a : ℕ) (f f' : Found) → Fits f → share a f ≡ value f' → Given f (sharing a ∷ []) f'
unfolding share count_references
share-given a f f' h e =
    let b = both_values (count_link a f.objects) _ f' e in
    let os = b.0 in
    let i = place_of a os in
    let c = check-value (not (eqb (get_or f.marks i 0) other_mark)) 10 _ f' b.2 in
    let same : f' ≡ record { objects = os; marks = set f.marks i shared_mark } = cc c.1 in
    let counted : count_references (sharing a ∷ []) f.objects ≡ value os =
    ap (λ (w : Result (List Linked)). w >>= count_references []) b.1 ∙ value-bind os (count_references []) in
    let fits = counted-fits f (record { objects = os; marks = set f.marks i shared_mark }) (sharing a ∷ []) h counted (length-set f.marks i shared_mark) in
    let there = place_inside a os (counted-in (sharing a ∷ []) f.objects os (sharing a) counted (Memᴰ.head refl)) in
    let inside : i < length f.marks = omega (arith, there, fits.most, h.marked) in
    let free = eqb-false (get_or f.marks i 0) other_mark (not-true (eqb (get_or f.marks i 0) other_mark) c.0) in
    rw same record {
      counted = counted;
      fits = fits;
      marks = set-stays f.marks i shared_mark inside (λ m. refl) (λ m. absurd (free m));
      shared = λ x m. last x a os f.marks i refl inside (Memᴰ.eq_of_singleton m);
    }
  where
    last : (x a : ℕ) (os : List Linked) (ms : List ℕ) (i : ℕ) → i ≡ place_of a os → i < length ms → sharing x ≡ sharing a →
        get_or (set ms i shared_mark) (place_of x os) 0 ≡ shared_mark
    last x a os ms i p l q =
        let same : x ≡ a = cc in
        rw (same, ← p) (get_or-set_same ms i shared_mark 0 l)

pub sharings-given : (addresses : List ℕ) (f f' : Found) → Fits f → share_each addresses f ≡ value f' → Given f (sharings_of addresses) f'
unfolding share_each sharings_of
sharings-given [] f f' h e = let same : f ≡ f' = cc in rw (← same) (given-none f h)
sharings-given (a ∷ addresses) f f' h e =
    let b = both_values (share a f) (share_each addresses) f' e in
    let g = share-given a f b.0 h b.1 in
    given-on g (sharings-given addresses b.0 f' g.fits b.2)

-- a kind that is known: of a committed datatype nothing is marked, any other object had no mark of a sharing, and has its own now
pub known-given : (at i : ℕ) (o : Object) (f f' : Found) → Fits f → in_ledger at f.objects ≡ true → place_of at f.objects ≡ i → known i o f ≡ value f' →
    Given f [] f' × ((o ≡ committed) ⊎ (mark_of at f' ≡ other_mark))
unfolding not_committed count_references
known-given at i o f f' h t p e = go o e
  where
    other : not_committed i f ≡ value f' → Given f [] f' × (mark_of at f' ≡ other_mark)
    other q =
        let c = check-value (not (eqb (get_or f.marks i 0) shared_mark)) 10 _ f' q in
        let same : f' ≡ record { objects = f.objects; marks = set f.marks i other_mark } = cc c.1 in
        let inside : i < length f.marks = omega (arith, place_inside at f.objects t, p, h.most, h.marked) in
        let free = eqb-false (get_or f.marks i 0) shared_mark (not-true (eqb (get_or f.marks i 0) shared_mark) c.0) in
        rw same (
          record {
            counted = refl;
            fits = counted-fits f (record { objects = f.objects; marks = set f.marks i other_mark }) [] h refl (length-set f.marks i other_mark);
            marks = set-stays f.marks i other_mark inside (λ m. absurd (free m)) (λ m. refl);
            shared = λ x m. absurd (Memᴰ.not-nil m);
          },
          rw p (get_or-set_same f.marks i other_mark 0 inside),
        )

    go : (k : Object) → known i k f ≡ value f' → Given f [] f' × ((k ≡ committed) ⊎ (mark_of at f' ≡ other_mark))
    go (group tree heap) q = let r = other q in (r.0, inr r.1)
    go (dataset space type layout) q = let r = other q in (r.0, inr r.1)
    go committed q = let same : f ≡ f' = cc in rw (← same) (given-none f h, inl refl)
