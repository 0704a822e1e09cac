-- One object of the audit, held against the same object read for its references: they meet the same blocks, and what is found after the object is
-- what was found before it, with these references counted.
use Prim.Native.Nat.{ℕ, ◌+◌, ◌≤◌}
use mathlib.Core.Bool.{Bool, true, false}
use mathlib.Core.List.Memᴰ
use mathlib.Core.List.{List, [], ◌∷◌, ◌++◌, Memᴰ}
use mathlib.Core.Logic.{◌⊎◌, inl, inr, ⊎_elim}
use mathlib.Core.Path.{◌≡◌, refl, ap, sym, ◌∙◌}
use native.Mathlib.Omega.{arith}
use lib.Dec.{eqb}
use lib.ListN.{drop}
use Rattle.std.specs.Prelude.{if◌then◌else◌}
use Rattle.format.specs.Bytes.{u32}
use Rattle.format.specs.Blocks.{Block}
use Rattle.format.specs.Result.{Result, value, answer}
use Rattle.format.specs.Result as results
use Rattle.format.specs.Walk.{Walk, ret, located, ◌>>=◌, ◌>>◌, header_block, stored, Outcome, done, run}
use Rattle.format.specs.Superblock.{Superblock}
use Rattle.format.specs.Message.{Message}
use Rattle.format.specs.Header.{Object, group, dataset, committed, Headed, header_contents, header_messages, header_with, header_walk}
use Rattle.format.specs.Attribute.{read_attribute}
use Rattle.format.specs.Datatype.{Datatype}
use Rattle.format.specs.Dataspace.{Dataspace}
use Rattle.format.specs.Dataset.{head_at, storage_walk, dataset_walk}
use Rattle.format.specs.Entry.{Entry, is_hard}
use Rattle.format.specs.Ledger.{Linked, in_ledger}
use Rattle.format.specs.Sharing.{Found, other_mark, place_of, share_each, discover_sharing, shared_by, known}
use Rattle.format.specs.Object.{sharing_dataset, content_walk, object_walk}
use Rattle.laws.proofs.Bind.{ret-bind, bind-ret, bind_assoc}
use Rattle.laws.proofs.Results.{located-bind}
use Rattle.laws.proofs.Follows.{Follows, follows-bind, follows_then, follows-ret, follows-value, Ran, follows-run}
use Rattle.laws.proofs.HeaderVisits.{header-follows, header-plain}
use Rattle.group.specs.Entries.{count_entries}
use Rattle.group.proofs.Entries.{audit-entries}
use Rattle.links.specs.Reached.{Reference, hard_link, sharing, hard_links_of, sharings_of, keep_sharing, content_references, references_at}
use Rattle.links.proofs.Outcomes.{bind_done, enter-inside}
use Rattle.links.proofs.Counting.{count_entries_lem, sharings-append}
use Rattle.links.proofs.LedgerIn.{member-in, taken-member}
use Rattle.links.proofs.Places.{taken-place}
use Rattle.links.proofs.Marks.{Fits, mark_of, Given, given-in, given-place, given-other, given-none, given-on, counted-fits, sharings-given, known-given}

-- a reader that the second walk hasn't
follows-left : {A S T : Type 0} (R : S → T → Type 0) (at : ℕ) (x : Result A) (k : A → Walk S) (w : Walk T) →
    ((a : A) → x ≡ value a → Follows false R (k a) w) →
    Follows false R (located at x >>= k) w
unfolding ◌>>=◌ Follows
follows-left R at (value a) k w c = c a refl
follows-left R at (answer n) k w c = tt

-- what is found, given f and references
abbrev pub Gives : Found → Found → List Reference → Type 0
Gives f f' rs = Given f rs f'

-- a header's attributes
message-follows : (f : Found) (m : Message) (g : Found) (kept : List ℕ) (at : ℕ) → Given f (sharings_of kept) g →
    Follows false (λ g' kept'. Given f (sharings_of kept') g') (located at (discover_sharing m g)) (located at (keep_sharing m kept))
unfolding discover_sharing keep_sharing
message-follows f m g kept at r = go (eqb m.type 0x000c)
  where
    go : (t : Bool) → Follows false (λ g' kept'. Given f (sharings_of kept') g')
        (located at (if t then results.◌>>=◌ (read_attribute m.body) (λ addresses. share_each addresses g) else value g))
        (located at (if t then results.◌>>=◌ (read_attribute m.body) (λ addresses. value (kept ++ addresses)) else value kept))
    go true =
        rw (
          located-bind at (read_attribute m.body) (λ addresses. share_each addresses g),
          located-bind at (read_attribute m.body) (λ addresses. value (kept ++ addresses)),
        )
        (follows_then false _ _ _ (located at (read_attribute m.body)) λ addresses.
        follows-value _ at (share_each addresses g) (kept ++ addresses) λ g' e.
        rw (sharings-append kept addresses) (given-on r (sharings-given addresses g g' r.fits e)))
    go false = follows-ret false _ g kept r

header-references : (at : ℕ) (f : Found) → Fits f →
    Follows false (λ h h'. (h.object ≡ h'.object) × Given f (sharings_of h'.found) h.found) (header_with discover_sharing at f)
    (header_with keep_sharing at [])
unfolding sharings_of
header-references at f h =
    header-follows false discover_sharing keep_sharing (λ g kept. Given f (sharings_of kept) g) (message-follows f) at f [] (given-none f h)

-- a dataset's sharing: behind it the storage, which leaves the datatype
storage-follows : (d : Dataspace) (t : Datatype) (layout : Message) (f f' : Found) → Given f (sharings_of (shared_by t)) f' →
    Follows false (Gives f) (storage_walk d t layout >> ret f') (storage_walk d t layout >>= λ x. ret (sharings_of (shared_by x.type)))
unfolding storage_walk
storage-follows d t layout f f' g =
    simp (bind_assoc, ret-bind)
    (follows_then false _ _ _ _ λ l. follows_then false _ _ _ _ λ _. follows_then false _ _ _ _ λ _. follows-ret false _ f' _ g)

dataset-follows : (space type layout : Message) (f : Found) → Fits f →
    Follows false (Gives f) (sharing_dataset space type layout f) (dataset_walk space type layout >>= λ x. ret (sharings_of (shared_by x.type)))
unfolding sharing_dataset dataset_walk
dataset-follows space type layout f h =
    simp bind_assoc
    (follows_then false _ _ _ _ λ d. follows_then false _ _ _ _ λ t.
    follows-left _ (head_at type) (share_each (shared_by t) f) _ _ λ f' e. storage-follows d t layout f f' (sharings-given (shared_by t) f f' h e))

-- a group's hard links are no sharings
no_sharing : (es : List Entry) (x : ℕ) → Memᴰ (sharing x) (hard_links_of es) → ⊥
unfolding hard_links_of
no_sharing [] x m = Memᴰ.not-nil m
no_sharing (e ∷ es) x m = go (is_hard e) m (no_sharing es x)
  where
    go : (t : Bool) → Memᴰ (sharing x) (if t then hard_link e.header ∷ hard_links_of es else hard_links_of es) →
        (Memᴰ (sharing x) (hard_links_of es) → ⊥) → ⊥
    go true n i = ⊎_elim (λ same. let z : ◌≡◌ {A = ℕ} 0 1 = cc in absurd (omega arith)) i (Memᴰ.cases_cons n)
    go false n i = i n

links-given : (es : List Entry) (f : Found) (os : List Linked) → Fits f → count_entries es f.objects ≡ value os →
    Given f (hard_links_of es) (record { objects = os; marks = f.marks })
links-given es f os h c =
    let counted = sym (count_entries_lem es f.objects) ∙ c in
    record {
      counted = counted;
      fits = counted-fits f (record { objects = os; marks = f.marks }) (hard_links_of es) h counted refl;
      marks = λ k. ((λ m. m), (λ m. m));
      shared = λ x m. absurd (no_sharing es x m);
    }

-- behind its header
content-follows : (s : Superblock) (o : Object) (f : Found) → Fits f → Follows false (Gives f) (content_walk s o f) (content_references s o)
unfolding content_walk content_references
content-follows s (group tree heap) f h =
    follows-bind false _ _ _ _ (λ os es q. follows-ret false _ _ _ (links-given es f os h q.1)) _ _
    (audit-entries s.leaf_k s.internal_k tree heap f.objects)
content-follows s (dataset space type layout) f h = dataset-follows space type layout f h
content-follows s committed f h = follows-ret false _ f [] (given-none f h)

module _ (s : Superblock) (i at : ℕ) (f : Found) (fits : Fits f) (there : in_ledger at f.objects ≡ true) (place : place_of at f.objects ≡ i) where
  -- the kind, with the place that the object has after its attributes
  kind-given : (o : Object) (kept : List ℕ) (g g' : Found) → Given f (sharings_of kept) g → known i o g ≡ value g' →
      Given g [] g' × ((o ≡ committed) ⊎ (mark_of at g' ≡ other_mark))
  kind-given o kept g g' r e = known-given at i o g g' r.fits (given-in r at there) (given-place r at there ∙ place) e

  behind-follows : (o o' : Object) (kept : List ℕ) (g : Found) → o ≡ o' → Given f (sharings_of kept) g →
      Follows false (Gives f) (located at (known i o g) >>= λ g'. content_walk s o g') (content_references s o' >>= λ rs. ret (sharings_of kept ++ rs))
  behind-follows o o' kept g same r =
      rw (← same)
      (follows-left _ at (known i o g) (λ g'. content_walk s o g') _ λ g' e.
      let k = (kind-given o kept g g' r e).0 in
      rw (← bind-ret (content_walk s o g'))
      (follows-bind false (Gives g') (Gives f) ret _ (λ f' rs q. follows-ret false _ f' _ (given-on r (given-on k q))) _ _ (content-follows s o g' k.fits)))

  object-follows : Follows false (Gives f) (object_walk s i at f) (references_at s at)
  unfolding object_walk references_at
  object-follows =
      follows-bind false _ _ _ _ (λ h h' q. behind-follows h.object h'.object h'.found h.found q.0 q.1) _ _ (header-references at f fits)

-- the object whose turn it is
pub taken-follows : (s : Superblock) (i : ℕ) (f : Found) (o : Linked) (rest : List Linked) → Fits f → drop i f.objects ≡ o ∷ rest →
    Follows false (Gives f) (object_walk s i o.address f) (references_at s o.address)
taken-follows s i f o rest h d =
    object-follows s i o.address f h (member-in f.objects o (taken-member i f.objects o rest d)) (taken-place i f.objects o rest h.once d)

-- where the first of two runs that end alike is done, so is the second
ran-done : {S T : Type 0} (R : S → T → Type 0) (o : Outcome S) (p : Outcome T) (x : S) (ms : List Block) → o ≡ done x ms → Ran false R o p →
    (t : T) × (p ≡ done t ms) × R x t
unfolding Ran
ran-done R o p x ms e h = rw e at h

module _ (im : List ℕ) (eof room : ℕ) where
  pub followed : {S T : Type 0} (R : S → T → Type 0) (w : Walk S) (w' : Walk T) (bs : List Block) (x : S) (ms : List Block) → Follows false R w w' →
      run im eof room w bs ≡ done x ms → (t : T) × (run im eof room w' bs ≡ done t ms) × R x t
  followed R w w' bs x ms h e = ran-done R (run im eof room w bs) (run im eof room w' bs) x ms e (follows-run R false im eof room w w' bs h)

  located-ran : {A : Type 0} (at : ℕ) (r : Result A) (bs : List Block) (a : A) (ms : List Block) → run im eof room (located at r) bs ≡ done a ms → r ≡ value a
  unfolding run
  located-ran at (value b) bs a ms e = let same : b ≡ a = cc in rw same
  located-ran at (answer n) bs a ms e = let z : ◌≡◌ {A = ℕ} 0 1 = cc in absurd (omega arith)

-- a header that is done with a visit is done where it is read for its kind alone, with the same blocks and the same object
pub header-accepted : (im : List ℕ) (eof room : ℕ) {S : Type 0} (visit : Message → S → Result S) (at : ℕ) (found : S)
    (bs : List Block) (h : Headed S) (ms : List Block) →
    run im eof room (header_with visit at found) bs ≡ done h ms → run im eof room (header_walk at) bs ≡ done h.object ms
header-accepted im eof room visit at found bs h ms e =
    let p = followed im eof room _ (header_with visit at found) (header_walk at) bs h ms (header-plain visit at found) e in
    p.1 ∙ ap (λ (o : Object). done o ms) (sym p.2)

-- an object that was walked: its header is a committed datatype's, or it has the mark of another kind
module _ (im : List ℕ) (room : ℕ) (s : Superblock) (i at : ℕ) (f : Found) (fits : Fits f)
    (there : in_ledger at f.objects ≡ true) (place : place_of at f.objects ≡ i)
    (bs : List Block) (f' : Found) (ms : List Block) (e : run im s.end_of_file room (object_walk s i at f) bs ≡ done f' ms) where
  pub object-kind : (o : Object) × (cs : List Block) × (run im s.end_of_file room (header_walk at) bs ≡ done o cs)
      × ((o ≡ committed) ⊎ (mark_of at f' ≡ other_mark))
  unfolding object_walk
  object-kind =
      let eof = s.end_of_file in
      let d = bind_done im eof room (header_with discover_sharing at f) _ bs f' ms e in
      let o = d.0.object in
      let h = followed im eof room _ _ _ bs d.0 d.1 (header-references at f fits) d.2 in
      let k = bind_done im eof room (located at (known i o d.0.found)) _ d.1 f' ms d.3 in
      let kind = located-ran im eof room at _ d.1 k.0 k.1 k.2 in
      let g = kind-given s i at f fits there place o h.0.found d.0.found k.0 h.2.1 kind in
      let c = followed im eof room _ _ _ k.1 f' ms (content-follows s o k.0 g.0.fits) k.3 in
      let stays = given-in g.0 at (given-in h.2.1 at there) in
      let mark : (o ≡ committed) ⊎ (mark_of at f' ≡ other_mark) = ⊎_elim inl (λ m. inr (given-other {rs = c.0} c.2 at stays m)) g.1 in
      (o, d.1, header-accepted im eof room discover_sharing at f bs d.0 d.1 d.2, mark)

-- the header of an object that was read lies inside, with its first 16 bytes
pub header-inside : (im : List ℕ) (eof room at : ℕ) (bs : List Block) (o : Object) (ms : List Block) → run im eof room (header_walk at) bs ≡ done o ms →
    at + 16 ≤ eof
unfolding header_walk header_with header_messages
header-inside im eof room at bs o ms e =
    let d = bind_done im eof room (header_with _ at tt) _ bs o ms e in
    let h = bind_done im eof room (header_messages _ at tt) _ bs d.0 d.1 d.2 in
    omega (arith, enter-inside im eof room header_block at (stored 16 (λ p. u32 p 8)) (header_contents _ at tt) bs h.0 h.1 h.2)
