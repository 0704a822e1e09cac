-- The refused object of an audit, from its parts: the objects before it, its own blocks, their numbers and the refusal.
use Prim.Native.Nat.{ℕ, suc, ◌+◌, ◌≤◌, ◌<◌}
use mathlib.Core.List.{List, [], ◌∷◌, ◌++◌, flatten}
use mathlib.Core.Path.{◌≡◌, ap, sym, ◌∙◌}
use native.Mathlib.Omega.{arith}
use lib.ListN.{length, get_or, length-append, get_or-append}
use lib.Seq.{get_or-append_seam}
use Rattle.format.specs.Limits.{blocks_most}
use Rattle.format.specs.Blocks.{Block, block_of, superblock_kind, header_kind, no_object, owner_after, last_owner}
use Rattle.format.specs.declared.Refusal.{Refusal}
use Rattle.format.specs.declared.Refusal.TheVariants.{Fault, NotEntered}
use Rattle.format.specs.Superblock.{Superblock}
use Rattle.format.specs.Audit.{root_found}
use Rattle.ledger.specs.Links.{addresses_of}
use Rattle.ledger.proofs.LedgerLaws.{length-addresses}
use Rattle.links.specs.Owners.{owned_by, WalkEnters}
use Rattle.links.specs.Placed.{HeldBy}
use Rattle.links.specs.Stopped.{StoppedObject}
use Rattle.links.proofs.OneHeader.{Inner}
use Rattle.links.proofs.OwnedLaws.{number_before, owner-inner, owner-header, each-length, each-object}
use Rattle.links.proofs.ObjectsOwned.{ObjectEnters}
use Rattle.links.proofs.PlacedRun.{StoppedBy}
use Rattle.links.proofs.StoppedWalk.{HeaderRefused}
use Rattle.links.proofs.StoppedRun.{ObjectsStopped}
use Rattle.links.proofs.StoppedOwners.{Numbers}

-- whose block the refusal names, where number is the refused object's
pub record RefusalOf (number : ℕ) (own bs : List Block) (r : Refusal) : Type 0 where
  pub refused_of : (n kind a size met : ℕ) → r ≡ NotEntered n kind a size met → owner_after (last_owner no_object bs) kind ≡ number
  pub fault_of : (n at : ℕ) → r ≡ Fault n at → HeldBy own at

-- its header can't be entered
pub header_of : (number : ℕ) (bs : List Block) (r : Refusal) → number < no_object → last_owner no_object bs ≡ number_before number → HeaderRefused r →
    RefusalOf number [] bs r
header_of number bs r l e h = record {
  refused_of = λ n kind a size met q.
      let k : kind ≡ header_kind = rw q at h in
      rw (e, k) (owner-header number l);
  fault_of = λ n at q. let k : ⊥ = rw q at h in absurd k;
}

-- a refusal behind its header
pub inner_of : (eof room number : ℕ) (own bs : List Block) (r : Refusal) → length own ≤ blocks_most → last_owner no_object bs ≡ number →
    StoppedBy Inner eof room bs own r → RefusalOf number own bs r
inner_of eof room number own bs r l e h = record {
  refused_of = λ n kind a size met q.
      let k : StoppedBy Inner eof room bs own (NotEntered n kind a size met) = rw q at h in
      rw e (owner-inner number kind k.1);
  fault_of = λ n at q.
      let k : StoppedBy Inner eof room bs own (Fault n at) = rw q at h in
      k.0 (λ full. omega (arith, k.1 full, l));
}

module _ (im : List ℕ) (room : ℕ) (s : Superblock) (r : Refusal) (bs : List Block) where
  abbrev first : List Block
  first = block_of superblock_kind 0 s.size ∷ []

  -- the record from its parts
  pub stopped-object : (w : ObjectsStopped im room s r bs 0 (root_found s) first) (own : List Block) → bs ≡ (first ++ flatten w.each) ++ own →
      Numbers s.size w.each own bs → RefusalOf (length w.each) own bs r → StoppedObject im room s r bs
  stopped-object w own all n o =
      let P = ObjectEnters im room s in
      let as_many : length w.addresses ≡ length w.each = each-length P 0 w.addresses w.each w.enters in
      let count : length w.found.objects ≡ length w.addresses + suc (length w.rest) =
      sym (length-addresses w.found.objects) ∙ ap length w.listed ∙ length-append w.addresses (w.address ∷ w.rest) in
      let from : 0 + length w.each ≡ length w.each = omega arith in
      record {
        number = length w.each;
        address = w.address;
        found = w.found;
        counted = omega (arith, as_many, count);
        listed = rw (w.listed, ← as_many) (get_or-append_seam w.addresses w.address w.rest 0);
        before = first ++ flatten w.each;
        own = own;
        all = all;
        stopped = rw from at w.stopped;
        superblock = n.superblock;
        earlier = λ i l.
            let there = (each-object P 0 w.addresses w.each w.enters i (omega (arith, l, as_many))).0 in
            let here : 0 + i ≡ i = omega arith in
            let at : get_or (addresses_of w.found.objects) i 0 ≡ get_or w.addresses i 0 =
            rw w.listed (get_or-append w.addresses (w.address ∷ w.rest) 0 i (omega (arith, l, as_many))) in
            let enters : WalkEnters im room s i (get_or (addresses_of w.found.objects) i 0) (owned_by i bs) = rw (at, n.earlier i l) (rw here at there) in
            enters;
        last = n.last;
        none = n.none;
        refused_of = o.refused_of;
        fault_of = o.fault_of;
      }
