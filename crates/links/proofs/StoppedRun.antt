-- A run of the audit's objects that is refused: the objects before the refused one are done, each with its blocks.
use Prim.Native.Nat.{ℕ, zero, suc, ◌+◌, ◌≤◌}
use mathlib.Core.List.{List, [], ◌∷◌, ◌++◌, append_assoc, append-nil, flatten}
use mathlib.Core.Logic.{⊎_elim}
use mathlib.Core.Path.{◌≡◌, refl, ap, sym, ◌∙◌}
use native.Mathlib.Omega.{arith}
use native.Mathlib.Numerals.{add-one}
use lib.ListN.{length, drop}
use Rattle.format.specs.Bytes.{with_first}
use Rattle.format.specs.Blocks.{Block}
use Rattle.format.specs.declared.Refusal.{Refusal}
use Rattle.format.specs.Walk.{ret, ◌>>=◌, done, refused, run}
use Rattle.format.specs.Superblock.{Superblock}
use Rattle.format.specs.Ledger.{Linked}
use Rattle.format.specs.Sharing.{Found}
use Rattle.format.specs.Object.{object_walk}
use Rattle.format.specs.Audit.{objects_walk}
use Rattle.laws.proofs.Plan.{plan, blocks}
use Rattle.ledger.specs.Links.{addresses_of}
use Rattle.links.proofs.Outcomes.{bind-refused, done-fits}
use Rattle.links.proofs.Counting.{counting-appends}
use Rattle.links.proofs.Marks.{Fits}
use Rattle.links.proofs.ObjectReferences.{taken-follows, followed}
use Rattle.links.proofs.TraceReferences.{drop-addresses, drop-first}
use Rattle.links.proofs.OwnedLaws.{EachObject}
use Rattle.links.proofs.ObjectsOwned.{ObjectEnters, taken-enters}

module _ (im : List ℕ) (room : ℕ) (s : Superblock) (r : Refusal) (ms : List Block) where
  abbrev eof : ℕ
  eof = s.end_of_file

  -- from what was found, f, and the blocks bs to the refused object, by the objects from the i-th on
  pub record ObjectsStopped (i : ℕ) (f : Found) (bs : List Block) : Type 0 where
    pub address : ℕ
    pub found : Found
    -- the objects that are done, their addresses and their blocks
    pub addresses : List ℕ
    pub each : List (List Block)
    pub enters : EachObject (ObjectEnters im room s) i addresses each
    pub rest : List ℕ
    pub listed : drop i (addresses_of found.objects) ≡ addresses ++ (address ∷ rest)
    pub new : List ℕ
    pub grown : addresses_of found.objects ≡ addresses_of f.objects ++ new
    pub fits : Fits found
    pub stopped : run im eof room (object_walk s (i + length each) address found) (bs ++ flatten each) ≡ refused r ms

  stopped-here : (i : ℕ) (f : Found) (bs : List Block) (o : Linked) (rest : List Linked) → Fits f → drop i f.objects ≡ o ∷ rest →
      run im eof room (object_walk s i o.address f) bs ≡ refused r ms → ObjectsStopped i f bs
  unfolding flatten addresses_of
  stopped-here i f bs o rest h d e =
      let none : i + 0 ≡ i = omega arith in
      record {
        address = o.address;
        found = f;
        addresses = [];
        each = [];
        enters = tt;
        rest = addresses_of rest;
        listed = drop-addresses i f.objects ∙ ap addresses_of d;
        new = [];
        grown = sym (append-nil _);
        fits = h;
        stopped = rw (none, append-nil bs) e;
      }

  stopped-next : (i : ℕ) (f g : Found) (bs cs : List Block) (o : Linked) (rest : List Linked) → Fits f → length bs ≤ room → drop i f.objects ≡ o ∷ rest →
      run im eof room (object_walk s i o.address f) bs ≡ done g cs → (Fits g → ObjectsStopped (i + 1) g cs) → ObjectsStopped i f bs
  unfolding flatten addresses_of
  stopped-next i f g bs cs o rest h l d e more =
      let t = followed im eof room _ _ _ bs g cs (taken-follows s i f o rest h d) e in
      let taken = taken-enters im room s i f g bs cs o rest h l d e in
      let own = blocks (plan im eof (object_walk s i o.address f)) in
      let later : ObjectsStopped (suc i) g cs = rw (add-one i) at (more t.2.fits) in
      let added = counting-appends t.0 f.objects g.objects t.2.counted in
      let grown : addresses_of later.found.objects ≡ addresses_of f.objects ++ (added.0 ++ later.new) =
      later.grown ∙ ap (λ (xs : List ℕ). xs ++ later.new) added.1 ∙ append_assoc (addresses_of f.objects) added.0 later.new in
      let first : drop i (addresses_of later.found.objects) ≡ o.address ∷ drop (suc i) (addresses_of later.found.objects) =
      rw grown
      (drop-first i (addresses_of f.objects) (added.0 ++ later.new) o.address (addresses_of rest) (drop-addresses i f.objects ∙ ap addresses_of d)) in
      let number : i + suc (length later.each) ≡ suc i + length later.each = omega arith in
      let order : bs ++ (own ++ flatten later.each) ≡ cs ++ flatten later.each =
      sym (append_assoc bs own (flatten later.each)) ∙ ap (λ (xs : List Block). xs ++ flatten later.each) (sym taken.0) in
      record {
        address = later.address;
        found = later.found;
        addresses = o.address ∷ later.addresses;
        each = own ∷ later.each;
        enters = (taken.1, later.enters);
        rest = later.rest;
        listed = first ∙ ap (λ (xs : List ℕ). o.address ∷ xs) later.listed;
        new = added.0 ++ later.new;
        grown = grown;
        fits = later.fits;
        stopped = rw (number, order) later.stopped;
      }

  pub objects-stopped : (fuel i : ℕ) (f : Found) (bs : List Block) → Fits f → length bs ≤ room →
      run im eof room (objects_walk s fuel i f) bs ≡ refused r ms → ObjectsStopped i f bs
  unfolding objects_walk run
  objects-stopped zero i f bs h l e = let z : ◌≡◌ {A = ℕ} 0 1 = cc in absurd (omega arith)
  objects-stopped (suc fuel) i f bs h l e = go (drop i f.objects) refl e (λ g cs h' l' e'. objects-stopped fuel (i + 1) g cs h' l' e')
    where
      go : (left : List Linked) → drop i f.objects ≡ left →
          run im eof room (with_first left (ret f) (λ o. object_walk s i o.address f >>= λ g. objects_walk s fuel (i + 1) g)) bs ≡ refused r ms →
          ((g : Found) (cs : List Block) → Fits g → length cs ≤ room → run im eof room (objects_walk s fuel (i + 1) g) cs ≡ refused r ms →
          ObjectsStopped (i + 1) g cs) →
          ObjectsStopped i f bs
      go [] d q more = let z : ◌≡◌ {A = ℕ} 0 1 = cc in absurd (omega arith)
      go (o ∷ rest) d q more =
          ⊎_elim (λ c. stopped-here i f bs o rest h d c)
          (λ c.
          let fits = done-fits im eof room (object_walk s i o.address f) bs c.0 c.1 l c.2 in
          stopped-next i f c.0 bs c.1 o rest h l d c.2 (λ h'. more c.0 c.1 h' fits c.3))
          (bind-refused im eof room (object_walk s i o.address f) (λ g. objects_walk s fuel (i + 1) g) bs r ms q)
