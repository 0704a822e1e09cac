-- A run of the audit is a trace: object after object, each walked once.
use Prim.Native.Nat.{ℕ, ◌+◌, ◌≤◌}
use mathlib.Core.List.{List, [], ◌∷◌, ◌++◌, Memᴰ}
use mathlib.Core.Logic.{◌⊎◌, inl, inr, ⊎_elim}
use mathlib.Core.Path.{◌≡◌}
use native.Mathlib.Omega.{arith}
use lib.ListN.{length, drop, length-replicate}
use Rattle.format.specs.Limits.{objects_most}
use Rattle.format.specs.Blocks.{Block}
use Rattle.format.specs.Walk.{done, run}
use Rattle.format.specs.Superblock.{Superblock, superblock_walk}
use Rattle.format.specs.Header.{Object, committed, header_walk}
use Rattle.format.specs.Ledger.{Linked, linked}
use Rattle.format.specs.Sharing.{Found, shared_mark, other_mark}
use Rattle.format.specs.Object.{object_walk}
use Rattle.format.specs.Audit.{objects_walk, root_found, audit_walk}
use Rattle.ledger.proofs.LedgerLaws.{distinct-first}
use Rattle.links.specs.Reached.{Reference, sharing, references_at}
use Rattle.links.specs.Trace.{Trace, ended, next}
use Rattle.links.proofs.Outcomes.{bind_done, done-fits}
use Rattle.links.proofs.LedgerIn.{member-in, taken-member, counted-in}
use Rattle.links.proofs.Places.{taken-place}
use Rattle.links.proofs.Marks.{Fits, mark_of, Given, given-in, given-shared, given-other, given-none, given-on}
use Rattle.links.proofs.ObjectsRun.{objects-run}
use Rattle.links.proofs.ObjectReferences.{taken-follows, followed, object-kind}

-- The object at this address was walked, and has these references. What was found in the end says what is known of it: what it shares has the mark of
-- a sharing, and if it is no committed datatype, it has the mark of another kind.
pub record ObjectWalked (im : List ℕ) (room : ℕ) (s : Superblock) (last : Found) (at : ℕ) (rs : List Reference) : Type 0 where
  pub before : List Block
  pub after : List Block
  pub fits : length before ≤ room
  pub read : run im s.end_of_file room (references_at s at) before ≡ done rs after
  pub shared : (x : ℕ) → Memᴰ (sharing x) rs → mark_of x last ≡ shared_mark
  pub object : Object
  pub behind : List Block
  pub header : run im s.end_of_file room (header_walk at) before ≡ done object behind
  pub kind : (object ≡ committed) ⊎ (mark_of at last ≡ other_mark)

module _ (im : List ℕ) (room : ℕ) (s : Superblock) where
  -- from what was found to the last, by the objects from the i-th on
  abbrev Walks : ℕ → Found → Found → Type 0
  Walks i f last = Trace (ObjectWalked im room s last) i f.objects last.objects × ((rs : List Reference) × Given f rs last)

  walks-end : (i : ℕ) (f last : Found) → Fits f → f ≡ last → drop i f.objects ≡ [] → Walks i f last
  walks-end i f last h same d = rw (← same) (ended d, ([], given-none f h))

  walks_next : (i : ℕ) (f g last : Found) (bs cs : List Block) (o : Linked) (rest : List Linked) → Fits f → length bs ≤ room → drop i f.objects ≡ o ∷ rest →
      run im s.end_of_file room (object_walk s i o.address f) bs ≡ done g cs → (Fits g → Walks (i + 1) g last) → Walks i f last
  walks_next i f g last bs cs o rest h l d e more =
      let there = member-in f.objects o (taken-member i f.objects o rest d) in
      let place = taken-place i f.objects o rest h.once d in
      let r = followed im s.end_of_file room _ _ _ bs g cs (taken-follows s i f o rest h d) e in
      let k = object-kind im room s i o.address f h there place bs g cs e in
      let later = more r.2.fits in
      let on = later.1.1 in
      let walked : ObjectWalked im room s last o.address r.0 = record {
        before = bs;
        after = cs;
        fits = l;
        read = r.1;
        shared = λ x m. given-shared on x (counted-in r.0 f.objects g.objects (sharing x) r.2.counted m) (r.2.shared x m);
        object = k.0;
        behind = k.1;
        header = k.2;
        kind = ⊎_elim inl (λ m. inr (given-other on o.address (given-in r.2 o.address there) m)) k.3;
      } in
      (next d walked r.2.counted later.0, (r.0 ++ later.1.0, given-on r.2 on))

  -- what the audit begins with
  pub root-fits : Fits (root_found s)
  unfolding objects_most
  root-fits = record { most = omega arith; marked = rw length-replicate (omega arith); once = distinct-first s.root }

  -- the whole audit
  pub audit-trace : (os : List Linked) (ms : List Block) → run im s.end_of_file room (audit_walk s) [] ≡ done os ms →
      (last : Found) × Trace (ObjectWalked im room s last) 0 (linked s.root 1 ∷ []) os
  unfolding audit_walk run
  audit-trace os ms e =
      let b = bind_done im s.end_of_file room (superblock_walk s) _ [] os ms e in
      let c = bind_done im s.end_of_file room (objects_walk s objects_most 0 (root_found s)) _ b.1 os ms b.3 in
      let fits = done-fits im s.end_of_file room (superblock_walk s) [] b.0 b.1 (omega arith) b.2 in
      let last = c.0 in
      let w = objects-run im room s last c.1 (λ i f _. Walks i f last) (λ i f _ h same _ d. walks-end i f last h same d)
      (λ i f g cs ds o rest. walks_next i f g last cs ds o rest) objects_most 0 (root_found s) b.1 (omega arith) root-fits fits c.2 in
      let same : c.0.objects ≡ os = cc c.3 in
      (c.0, rw same at w.0)
