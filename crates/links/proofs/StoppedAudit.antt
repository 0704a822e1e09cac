-- An audit that is refused behind the superblock: the refused block, or the one that holds the fault, is of the object whose walk is refused.
use Prim.Native.Nat.{ℕ, suc, ◌+◌, ◌≤◌, ◌<◌}
use mathlib.Core.List.{List, [], ◌∷◌, ◌++◌, append-nil, flatten}
use mathlib.Core.Logic.{◌⊎◌, inl, inr, ⊎_elim}
use mathlib.Core.Path.{◌≡◌, ap, sym, subst, ◌∙◌}
use native.Mathlib.Omega.{arith}
use lib.ListN.{length, length-append}
use Rattle.format.specs.Limits.{objects_most, blocks_most}
use Rattle.format.specs.Blocks.{Block, block_of, superblock_kind, no_object, last_owner, entry_answer, room_of}
use Rattle.format.specs.declared.Refusal.{Refusal}
use Rattle.format.specs.Walk.{◌>>=◌, done, refused, run}
use Rattle.format.specs.Superblock.{Superblock, opened, open_image, superblock_walk}
use Rattle.format.specs.Audit.{objects_walk, root_found, audit_walk}
use Rattle.walk.proofs.BlockList.{room_most}
use Rattle.laws.proofs.Growth.{run-grown}
use Rattle.ledger.proofs.LedgerLaws.{length-addresses}
use Rattle.links.specs.Stopped.{StoppedSuperblock, StoppedObject}
use Rattle.links.proofs.Outcomes.{bind-refused, done-fits}
use Rattle.links.proofs.AuditTrace.{root-fits}
use Rattle.links.proofs.AuditOwned.{superblock-entered, most-objects}
use Rattle.links.proofs.Opened.{opened-end}
use Rattle.links.proofs.RefusedFault.{entered-refused}
use Rattle.links.proofs.OwnedLaws.{each-length}
use Rattle.links.proofs.ObjectsOwned.{ObjectEnters}
use Rattle.links.proofs.StoppedWalk.{object-stopped}
use Rattle.links.proofs.StoppedRun.{ObjectsStopped, objects-stopped}
use Rattle.links.proofs.StoppedOwners.{each-shape, Numbers, numbers-none, last_none, numbers-own, last-own}
use Rattle.links.proofs.StoppedParts.{header_of, inner_of, stopped-object}

module _ (im : List ℕ) (room : ℕ) (s : Superblock) (r : Refusal) (bs : List Block) where
  abbrev first : List Block
  first = block_of superblock_kind 0 s.size ∷ []

  -- a superblock that can't be entered
  superblock-refused : run im s.end_of_file room (superblock_walk s) [] ≡ refused r bs → StoppedSuperblock s r bs
  unfolding superblock_walk run ◌>>=◌
  superblock-refused e =
      ⊎_elim (λ h. (sym h.2, (entry_answer s.end_of_file room [] 0 s.size, sym h.0)))
      (λ h. let d : done tt first ≡ refused r bs = h.1 in let z : ◌≡◌ {A = ℕ} 0 1 = cc d in absurd (omega arith))
      (entered-refused (entry_answer s.end_of_file room [] 0 s.size) _ (done tt first) [] r bs e)

  module _ (inside : s.end_of_file ≤ length im) (e : run im s.end_of_file room (audit_walk s) [] ≡ refused r bs) (fits : length bs ≤ blocks_most) where
    objects-object : ObjectsStopped im room s r bs 0 (root_found s) first → StoppedObject im room s r bs
    objects-object w =
        let P = ObjectEnters im room s in
        let eof = s.end_of_file in
        let before = first ++ flatten w.each in
        let o = object-stopped im eof room inside s (0 + length w.each) w.address w.found before r bs w.stopped in
        let shapes = each-shape P (λ i at cs h. h.1) 0 w.addresses w.each w.enters in
        let as_many : length w.addresses ≡ length w.each = each-length P 0 w.addresses w.each w.enters in
        let count : length w.found.objects ≡ length w.addresses + suc (length w.rest) =
        sym (length-addresses w.found.objects) ∙ ap length w.listed ∙ length-append w.addresses (w.address ∷ w.rest) in
        let below : length w.each < no_object = most-objects (suc (length w.each)) (omega (arith, as_many, count, w.fits.most)) in
        let long : length bs ≡ length before + length o.own = ap length o.all ∙ length-append before o.own in
        ⊎_elim
        (λ c.
        let same : bs ≡ before = o.all ∙ ap (λ (xs : List Block). before ++ xs) c.0 ∙ append-nil before in
        stopped-object im room s r bs w [] (same ∙ sym (append-nil before)) (rw same (numbers-none s.size w.addresses w.each shapes below))
        (header_of (length w.each) bs r below (rw same (last_none s.size w.addresses w.each shapes below)) c.1))
        (λ c.
        stopped-object im room s r bs w o.own o.all
        (subst (λ (xs : List Block). Numbers s.size w.each o.own xs) (sym o.all)
        (numbers-own s.size w.addresses w.each shapes below w.address o.own c.0))
        (inner_of eof room (length w.each) o.own bs r (omega (arith, long, fits))
        (ap (λ (xs : List Block). last_owner no_object xs) o.all
        ∙ last-own s.size w.addresses w.each shapes below w.address o.own c.0) c.1))
        o.how

    walk-stopped : StoppedSuperblock s r bs ⊎ StoppedObject im room s r bs
    unfolding audit_walk run
    walk-stopped =
        let eof = s.end_of_file in
        ⊎_elim (λ h. inl (superblock-refused h))
        (λ h.
        let cs = superblock-entered im eof room s h.0 h.1 h.2 in
        let few : length first ≤ room = rw cs at (done-fits im eof room (superblock_walk s) [] h.0 h.1 (omega arith) h.2) in
        ⊎_elim
        (λ o. inr (objects-object (objects-stopped im room s r bs objects_most 0 (root_found s) first (root-fits im room s) few (rw cs at o))))
        (λ o. let z : ◌≡◌ {A = ℕ} 0 1 = cc o.3 in absurd (omega arith))
        (bind-refused im eof room (objects_walk s objects_most 0 (root_found s)) _ h.1 r bs h.3))
        (bind-refused im eof room (superblock_walk s) _ [] r bs e)

pub audit-stopped-at : (im : List ℕ) (lent : ℕ) (s : Superblock) → open_image im ≡ opened s → (r : Refusal) (bs : List Block) →
    run im s.end_of_file (room_of lent) (audit_walk s) [] ≡ refused r bs → StoppedSuperblock s r bs ⊎ StoppedObject im (room_of lent) s r bs
audit-stopped-at im lent s p r bs e =
    let fits : length bs ≤ room_of lent = rw e at (run-grown im s.end_of_file (room_of lent) (audit_walk s) [] (omega arith)).fits in
    walk-stopped im (room_of lent) s r bs (opened-end im s p) e (omega (arith, fits, room_most lent))

-- where the superblock can't be entered, no block is
pub audit-stopped-object : (im : List ℕ) (lent : ℕ) (s : Superblock) → open_image im ≡ opened s → (r : Refusal) (bs : List Block) →
    run im s.end_of_file (room_of lent) (audit_walk s) [] ≡ refused r bs → (bs ≡ []) ⊎ StoppedObject im (room_of lent) s r bs
audit-stopped-object im lent s p r bs e = ⊎_elim (λ h. inl h.0) (λ w. inr w) (audit-stopped-at im lent s p r bs e)
