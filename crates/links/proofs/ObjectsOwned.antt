-- The blocks of an audit, object after object: each walk, begun with an empty list, enters the same blocks as it did behind the others.
use Prim.Native.Nat.{ℕ, suc, ◌+◌, ◌≤◌}
use mathlib.Core.List.{List, [], ◌∷◌, ◌++◌, append_assoc, append-nil, flatten}
use mathlib.Core.Path.{◌≡◌, ap, sym, ◌∙◌}
use native.Mathlib.Omega.{arith}
use native.Mathlib.Numerals.{add-one}
use lib.ListN.{length, drop, length-append}
use Rattle.format.specs.Limits.{objects_most}
use Rattle.format.specs.Blocks.{Block}
use Rattle.format.specs.Walk.{done, run}
use Rattle.format.specs.Superblock.{Superblock}
use Rattle.format.specs.Ledger.{Linked}
use Rattle.format.specs.Sharing.{Found}
use Rattle.format.specs.Object.{object_walk}
use Rattle.format.specs.Audit.{objects_walk}
use Rattle.laws.proofs.Plan.{plan, blocks}
use Rattle.laws.proofs.Disjoint.{apart_none}
use Rattle.laws.proofs.Restart.{run-done, restart}
use Rattle.ledger.specs.Links.{addresses_of}
use Rattle.links.specs.Owners.{WalkEnters}
use Rattle.links.proofs.Outcomes.{done-fits}
use Rattle.links.proofs.Counting.{counting-appends}
use Rattle.links.proofs.Marks.{Fits}
use Rattle.links.proofs.ObjectsRun.{objects-run}
use Rattle.links.proofs.ObjectReferences.{taken-follows, followed}
use Rattle.links.proofs.TraceReferences.{drop-addresses, drop-first}
use Rattle.links.proofs.OneHeader.{Inner, ObjectBlocks, object-header, planned-blocks}
use Rattle.links.proofs.OwnedLaws.{EachObject}

module _ (im : List ℕ) (room : ℕ) (s : Superblock) where
  abbrev eof : ℕ
  eof = s.end_of_file

  -- object i at this address: its walk enters these blocks, one header first
  abbrev pub ObjectEnters : ℕ → ℕ → List Block → Type 0
  ObjectEnters i at bs = WalkEnters im room s i at bs × ObjectBlocks at bs

  -- the object whose turn it is, behind the blocks bs
  pub taken-enters : (i : ℕ) (f g : Found) (bs cs : List Block) (o : Linked) (rest : List Linked) → Fits f → length bs ≤ room →
      drop i f.objects ≡ o ∷ rest →
      run im eof room (object_walk s i o.address f) bs ≡ done g cs →
      (cs ≡ bs ++ blocks (plan im eof (object_walk s i o.address f))) × ObjectEnters i o.address (blocks (plan im eof (object_walk s i o.address f)))
  taken-enters i f g bs cs o rest h l d e =
      let w = object_walk s i o.address f in
      let own = blocks (plan im eof w) in
      let ran = run-done im eof w room bs cs g e in
      let long : length cs ≡ length bs + length own = ap length ran.all ∙ length-append bs own in
      let fits = done-fits im eof room w bs g cs l e in
      let alone : run im eof room w [] ≡ done g own = restart im eof w room bs cs g e room [] (apart_none own) (omega arith) in
      let r = followed im eof room _ _ _ [] g own (taken-follows s i f o rest h d) alone in
      let b = planned-blocks Inner im eof o.address w g (object-header s i o.address f) ran.ends in
      let walk : WalkEnters im room s i o.address own = record {
        before = f;
        after = g;
        walked = alone;
        references = r.0;
        read = r.1;
        size = b.size;
        others = b.others;
        header = b.header;
      } in
      (ran.all, (walk, b))

  -- from what was found and the blocks bs to the last, by the objects from the i-th on
  pub record ObjectsWalked (i : ℕ) (f : Found) (bs : List Block) (last : Found) (ms : List Block) : Type 0 where
    pub each : List (List Block)
    pub all : ms ≡ bs ++ flatten each
    pub enters : EachObject ObjectEnters i (drop i (addresses_of last.objects)) each
    pub new : List ℕ
    pub grown : addresses_of last.objects ≡ addresses_of f.objects ++ new
    pub fits : Fits last

  walked_end : (i : ℕ) (f last : Found) (bs ms : List Block) → Fits f → f ≡ last → bs ≡ ms → drop i f.objects ≡ [] → ObjectsWalked i f bs last ms
  unfolding flatten addresses_of
  walked_end i f last bs ms h same stay d =
      let none : drop i (addresses_of last.objects) ≡ [] =
      drop-addresses i last.objects ∙ ap (λ (g : Found). addresses_of (drop i g.objects)) (sym same) ∙ ap addresses_of d in
      record {
        each = [];
        all = sym stay ∙ sym (append-nil bs);
        enters = rw none tt;
        new = [];
        grown = ap (λ (g : Found). addresses_of g.objects) (sym same) ∙ sym (append-nil _);
        fits = rw same at h;
      }

  walked_next : (i : ℕ) (f g last : Found) (bs cs ms : List Block) (o : Linked) (rest : List Linked) → Fits f → length bs ≤ room →
      drop i f.objects ≡ o ∷ rest →
      run im eof room (object_walk s i o.address f) bs ≡ done g cs → (Fits g → ObjectsWalked (i + 1) g cs last ms) → ObjectsWalked i f bs last ms
  unfolding flatten addresses_of
  walked_next i f g last bs cs ms o rest h l d e more =
      let r = followed im eof room _ _ _ bs g cs (taken-follows s i f o rest h d) e in
      let t = taken-enters i f g bs cs o rest h l d e in
      let own = blocks (plan im eof (object_walk s i o.address f)) in
      let later : ObjectsWalked (suc i) g cs last ms = rw (add-one i) at (more r.2.fits) in
      let added = counting-appends r.0 f.objects g.objects r.2.counted in
      let grown : addresses_of last.objects ≡ addresses_of f.objects ++ (added.0 ++ later.new) =
      later.grown ∙ ap (λ (xs : List ℕ). xs ++ later.new) added.1 ∙ append_assoc (addresses_of f.objects) added.0 later.new in
      let first : drop i (addresses_of last.objects) ≡ o.address ∷ drop (suc i) (addresses_of last.objects) =
      rw grown
      (drop-first i (addresses_of f.objects) (added.0 ++ later.new) o.address (addresses_of rest) (drop-addresses i f.objects ∙ ap addresses_of d)) in
      record {
        each = own ∷ later.each;
        all = later.all ∙ ap (λ (xs : List Block). xs ++ flatten later.each) t.0 ∙ append_assoc bs own (flatten later.each);
        enters = rw first (t.1, later.enters);
        new = added.0 ++ later.new;
        grown = grown;
        fits = later.fits;
      }

  pub objects-owned : (f : Found) (bs : List Block) (last : Found) (ms : List Block) → Fits f → length bs ≤ room →
      run im eof room (objects_walk s objects_most 0 f) bs ≡ done last ms → ObjectsWalked 0 f bs last ms
  objects-owned f bs last ms h l e =
      objects-run im room s last ms (λ i g cs. ObjectsWalked i g cs last ms) (λ i g cs. walked_end i g last cs ms)
      (λ i g g' cs cs' o rest. walked_next i g g' last cs cs' ms o rest) objects_most 0 f bs (omega arith) h l e
