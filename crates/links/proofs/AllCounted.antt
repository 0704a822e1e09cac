-- "take objects in order of discovery, root first .. A hard link to a new address adds an object. An object is walked once." The ledger of an audit is
-- the root's, with the references of all its objects counted, object after object, in the ledger's own order; and what is shared is a committed
-- datatype.
use Prim.Native.Nat.{ℕ, ◌+◌, ◌≤◌}
use mathlib.Core.List.{List, [], ◌∷◌, flatten, Memᴰ}
use mathlib.Core.Logic.{⊎_elim}
use mathlib.Core.Path.{◌≡◌, ap, sym, ◌∙◌}
use native.Mathlib.Omega.{arith}
use lib.ListN.{length, length-append}
use Rattle.format.specs.Limits.{blocks_most}
use Rattle.format.specs.Blocks.{Block}
use Rattle.format.specs.Result.{value}
use Rattle.format.specs.Walk.{Walk, done, run}
use Rattle.format.specs.Superblock.{Superblock}
use Rattle.format.specs.Header.{Object, header_walk}
use Rattle.format.specs.Ledger.{Linked, linked}
use Rattle.format.specs.Sharing.{Found, shared_mark}
use Rattle.format.specs.Audit.{audit_walk}
use Rattle.laws.proofs.Plan.{plan, blocks}
use Rattle.laws.proofs.Disjoint.{apart_none}
use Rattle.laws.proofs.Restart.{run-done, restart}
use Rattle.ledger.specs.Links.{addresses_of}
use Rattle.links.specs.Reached.{Reference, sharing, references_at, HasReferences, ReferencesOfAll, IsCommitted}
use Rattle.links.specs.Trace.{count_references, Trace}
use Rattle.links.proofs.Outcomes.{done-fits}
use Rattle.links.proofs.LedgerIn.{counted-in}
use Rattle.links.proofs.Marks.{mark_of}
use Rattle.links.proofs.AuditTrace.{ObjectWalked, audit-trace}
use Rattle.links.proofs.TraceReferences.{trace-map, trace-references, each_map, each-find, flatten-find}

module _ (im : List ℕ) (room : ℕ) (s : Superblock) (most : room ≤ blocks_most) where
  -- what was read after others can be read by itself
  read-alone : {A : Type 0} (w : Walk A) (a : A) (bs ms : List Block) → length bs ≤ room → run im s.end_of_file room w bs ≡ done a ms →
      (cs : List Block) × (run im s.end_of_file blocks_most w [] ≡ done a cs)
  read-alone w a bs ms l e =
      let d = run-done im s.end_of_file w room bs ms a e in
      let f = done-fits im s.end_of_file room w bs a ms l e in
      let own = blocks (plan im s.end_of_file w) in
      let long : length ms ≡ length bs + length own = ap length d.all ∙ length-append bs own in
      (own, restart im s.end_of_file w room bs ms a e blocks_most [] (apart_none own) (omega arith))

  walked-alone : (last : Found) (at : ℕ) (rs : List Reference) → ObjectWalked im room s last at rs → HasReferences im s at rs
  walked-alone last at rs w = read-alone (references_at s at) rs w.before w.after w.fits w.read

  -- an object with the mark of a sharing is a committed datatype
  committed-alone : (last : Found) (at : ℕ) (rs : List Reference) → ObjectWalked im room s last at rs → mark_of at last ≡ shared_mark → IsCommitted im s at
  committed-alone last at rs w m =
      let h = read-alone (header_walk at) w.object w.before w.behind w.fits w.header in
      ⊎_elim (λ same. (h.0, h.1 ∙ ap (λ (o : Object). done o h.0) same)) (λ other. absurd (omega (arith, sym m ∙ other))) w.kind

  module _ (os : List Linked) (bs : List Block) (e : run im s.end_of_file room (audit_walk s) [] ≡ done os bs) where
    pub counted-trace : Trace (HasReferences im s) 0 (linked s.root 1 ∷ []) os
    counted-trace = let t = audit-trace im room s os bs e in trace-map _ _ (walked-alone t.0) t.1

    pub all-counted : (rss : List (List Reference)) × ReferencesOfAll im s (addresses_of os) rss
        × (count_references (flatten rss) (linked s.root 1 ∷ []) ≡ value os)
        × ((x : ℕ) → Memᴰ (sharing x) (flatten rss) → IsCommitted im s x)
    all-counted =
        let t = audit-trace im room s os bs e in
        let walked = ObjectWalked im room s t.0 in
        let c = trace-references walked t.1 in (
          c.0,
          each_map walked (HasReferences im s) (walked-alone t.0) (addresses_of os) c.0 c.1,
          c.2,
          λ x m.
              let by = flatten-find walked (sharing x) (addresses_of os) c.0 c.1 m in
              let own = each-find walked x os c.0 (counted-in (flatten c.0) _ os (sharing x) c.2 m) c.1 in
              committed-alone t.0 x own.0 own.1 (by.2.shared x by.3),
        )
