-- "Show that an object's blocks are exactly those its walk enters, and that no byte has two owners": of an audit that is done.
use Prim.Native.Nat.{ℕ, zero, suc, ◌+◌, ◌≤◌}
use mathlib.Core.List.{List, [], ◌∷◌, ◌++◌, flatten}
use mathlib.Core.Logic.{⊎_elim}
use mathlib.Core.Path.{◌≡◌, refl, ap, sym, ◌∙◌}
use native.Mathlib.Omega.{arith}
use lib.ListN.{length, get_or}
use Rattle.format.specs.Limits.{objects_most}
use Rattle.format.specs.Bytes.{undefined_address}
use Rattle.format.specs.Blocks.{Block, block_of, block, superblock_kind, no_object, entry_answer, room_of}
use Rattle.format.specs.Walk.{Walk, ◌>>=◌, done, run}
use Rattle.format.specs.Superblock.{Superblock, opened, open_image, superblock_walk}
use Rattle.format.specs.Ledger.{Linked}
use Rattle.format.specs.Audit.{objects_walk, root_found, audit_walk, audit_run}
use Rattle.laws.specs.Blocks.{Fresh}
use Rattle.walk.specs.Lent.{left}
use Rattle.laws.proofs.Growth.{run-grown}
use Rattle.laws.proofs.Disjoint.{Apart, apart-second, apart-order, fresh-apart}
use Rattle.ledger.specs.Links.{addresses_of}
use Rattle.ledger.proofs.LedgerLaws.{length-addresses}
use Rattle.links.specs.Owners.{owned_by, WalkEnters, Owned, HoldsByte, OneOwner}
use Rattle.links.proofs.Outcomes.{entered-done, bind_done, done-fits}
use Rattle.links.proofs.AuditTrace.{root-fits}
use Rattle.links.proofs.AuditSound.{audit-walked}
use Rattle.links.proofs.OneHeader.{ObjectBlocks}
use Rattle.links.proofs.OwnedLaws.{EachObject, each-length, each-object, owned-superblock, owned-object, owned-other, owned-whole, owned-headers}
use Rattle.links.proofs.ObjectsOwned.{ObjectEnters, objects-owned}

-- the superblock's walk enters its block
pub superblock-entered : (im : List ℕ) (eof room : ℕ) (s : Superblock) (x : Unit {0}) (cs : List Block) → run im eof room (superblock_walk s) [] ≡ done x cs →
    cs ≡ block_of superblock_kind 0 s.size ∷ []
unfolding superblock_walk run ◌>>=◌
superblock-entered im eof room s x cs e =
    let own = block_of superblock_kind 0 s.size ∷ [] in
    let d : done tt own ≡ done x cs = (entered-done (entry_answer eof room [] 0 s.size) _ (done tt own) [] x cs e).1 in
    let same : own ≡ cs = cc d in
    sym same

-- as many objects as there can be have numbers below all ones
pub most-objects : (n : ℕ) → n ≤ objects_most → n ≤ no_object
unfolding objects_most undefined_address
most-objects n h = omega arith

-- the superblock, then the blocks of each object
pub record Parts (im : List ℕ) (room : ℕ) (s : Superblock) (os : List Linked) (bs : List Block) : Type 0 where
  pub each : List (List Block)
  pub all : bs ≡ block_of superblock_kind 0 s.size ∷ flatten each
  pub enters : EachObject (ObjectEnters im room s) 0 (addresses_of os) each
  pub most : length os ≤ objects_most

module _ (im : List ℕ) (room : ℕ) (s : Superblock) (os : List Linked) (bs : List Block) (e : run im s.end_of_file room (audit_walk s) [] ≡ done os bs) where
  walk-parts : Parts im room s os bs
  unfolding audit_walk run
  walk-parts =
      let b = bind_done im s.end_of_file room (superblock_walk s) _ [] os bs e in
      let c = bind_done im s.end_of_file room (objects_walk s objects_most 0 (root_found s)) _ b.1 os bs b.3 in
      let first = superblock-entered im s.end_of_file room s b.0 b.1 b.2 in
      let fits = done-fits im s.end_of_file room (superblock_walk s) [] b.0 b.1 (omega arith) b.2 in
      let w = objects-owned im room s (root_found s) b.1 c.0 c.1 (root-fits im room s) fits c.2 in
      let same : c.0.objects ≡ os = cc c.3 in
      let stay : c.1 ≡ bs = cc c.3 in
      record {
        each = w.each;
        all = sym stay ∙ w.all ∙ ap (λ (xs : List Block). xs ++ flatten w.each) first;
        enters = rw same at w.enters;
        most = rw same at w.fits.most;
      }

  walk-owned : Owned im room s os bs
  walk-owned =
      let p = walk-parts in
      let each = p.each in
      let P = ObjectEnters im room s in
      let shape : (i at : ℕ) (cs : List Block) → P i at cs → ObjectBlocks at cs = λ i at cs w. w.1 in
      let as_many : length os ≡ length each = sym (length-addresses os) ∙ each-length P 0 (addresses_of os) each p.enters in
      let most : length each ≤ no_object = most-objects (length each) (omega (arith, p.most)) in
      let whole = block_of superblock_kind 0 s.size ∷ flatten each in
      let owned : Owned im room s os whole = record {
        superblock = owned-superblock P shape s.size (addresses_of os) each p.enters most;
        objects = λ i l.
            let own = owned-object P shape s.size (addresses_of os) each p.enters most i (omega arith) in
            let there = (each-object P 0 (addresses_of os) each p.enters i (rw (length-addresses os) l)).0 in
            let from : 0 + i ≡ i = omega arith in
            let enters : WalkEnters im room s i (get_or (addresses_of os) i 0) (owned_by i whole) = rw own (rw from at there) in
            enters;
        none = λ o l other. owned-other P shape s.size (addresses_of os) each p.enters most o (omega arith) other;
        whole = rw as_many (owned-whole P shape s.size (addresses_of os) each p.enters most);
        headers = owned-headers P shape s.size (addresses_of os) each p.enters most;
      } in
      rw p.all owned

-- a block and another behind it hold no common byte
apart-bytes : (b : Block) (cs : List Block) → Apart (b ∷ []) cs → (k x : ℕ) → HoldsByte b x → HoldsByte (get_or cs k (block 0 0)) x → ⊥
apart-bytes b [] h k x p q = omega (arith, q.0, q.1)
apart-bytes b (c ∷ cs) h zero x p q =
    ⊎_elim (λ l. omega (arith, l, p.0, p.1, q.0, q.1)) (λ l. omega (arith, l, p.0, p.1, q.0, q.1)) (apart-order b c.at c.size h.0)
apart-bytes b (c ∷ cs) h (suc k) x p q = apart-bytes b cs h.1 k x p q

fresh-one-owner : (before bs : List Block) → Fresh before bs → OneOwner bs
fresh-one-owner before [] h j k x p q = absurd (omega (arith, p.0, p.1))
fresh-one-owner before (b ∷ bs) h zero zero x p q = refl
fresh-one-owner before (b ∷ bs) h zero (suc k) x p q =
    absurd (apart-bytes b bs (apart-second before (b ∷ []) bs (fresh-apart (before ++ (b ∷ [])) bs h.1)) k x p q)
fresh-one-owner before (b ∷ bs) h (suc j) zero x p q =
    absurd (apart-bytes b bs (apart-second before (b ∷ []) bs (fresh-apart (before ++ (b ∷ [])) bs h.1)) j x q p)
fresh-one-owner before (b ∷ bs) h (suc j) (suc k) x p q = ap suc (fresh-one-owner (before ++ (b ∷ [])) bs h.1 j k x p q)

-- of any run that begins with an empty list, however it ends
pub left-one-owner : {A : Type 0} (im : List ℕ) (eof room : ℕ) (w : Walk A) → OneOwner (left (run im eof room w []))
left-one-owner im eof room w =
    let g = run-grown im eof room w [] (omega arith) in
    let same : g.new ≡ left (run im eof room w []) = sym g.all in
    fresh-one-owner [] (left (run im eof room w [])) (rw same at g.fresh)

pub run-one-owner : {A : Type 0} (im : List ℕ) (eof room : ℕ) (w : Walk A) (a : A) (bs : List Block) → run im eof room w [] ≡ done a bs → OneOwner bs
run-one-owner im eof room w a bs e = rw e at (left-one-owner im eof room w)

module _ (im : List ℕ) (lent : ℕ) (s : Superblock) (os : List Linked) (bs : List Block) (p : open_image im ≡ opened s)
    (e : audit_run im lent ≡ done os bs) where
  -- whose block it is
  pub audit-owned : Owned im (room_of lent) s os bs
  audit-owned = walk-owned im (room_of lent) s os bs (audit-walked im lent s os bs p e)

  -- no byte has two owners
  pub one-owner : OneOwner bs
  one-owner = run-one-owner im s.end_of_file (room_of lent) (audit_walk s) os bs (audit-walked im lent s os bs p e)
