-- The objects are exactly the addresses reached from the root by hard links and sharings, each once. Here: exactly these addresses.
use Prim.Native.Nat.{ℕ, ◌≤◌}
use mathlib.Core.Bool.{true}
use mathlib.Core.List.{List, [], flatten}
use mathlib.Core.Path.{◌≡◌}
use Rattle.format.specs.Limits.{blocks_most}
use Rattle.format.specs.Blocks.{Block}
use Rattle.format.specs.Walk.{done, run}
use Rattle.format.specs.Superblock.{Superblock}
use Rattle.format.specs.Ledger.{Linked, in_ledger}
use Rattle.format.specs.Audit.{audit_walk}
use Rattle.links.specs.Reached.{HasReferences, Reached, at_root, by_reference}
use Rattle.links.specs.Trace.{Trace, ended, next}
use Rattle.links.proofs.LedgerIn.{member-in, taken-member, counting-within, counted-in, in-first, root_in}
use Rattle.links.proofs.TraceReferences.{each-find}
use Rattle.links.proofs.AllCounted.{counted-trace, all-counted}

-- what the ledger holds stays reached from object to object
trace-reached : (im : List ℕ) (s : Superblock) {i : ℕ} {os os' : List Linked} → Trace (HasReferences im s) i os os' →
    ((x : ℕ) → in_ledger x os ≡ true → Reached im s x) → (x : ℕ) → in_ledger x os' ≡ true → Reached im s x
trace-reached im s (ended d) h = h
trace-reached im s {i} {os} (next {o = o} {rest = rest} {ps = ps} {rs = rs} d p c t) h =
    trace-reached im s t (counting-within (Reached im s) rs os ps c (λ r m. by_reference r (h o.address (member-in os o (taken-member i os o rest d))) p m)
    h)

module _ (im : List ℕ) (room : ℕ) (s : Superblock) (most : room ≤ blocks_most) (os : List Linked) (bs : List Block)
    (e : run im s.end_of_file room (audit_walk s) [] ≡ done os bs) where
  pub objects-reached : (x : ℕ) → in_ledger x os ≡ true → Reached im s x
  objects-reached x h = trace-reached im s (counted-trace im room s most os bs e) (λ y i. rw (in-first y s.root i) at_root) x h

  reached-in : {x : ℕ} → Reached im s x → in_ledger x os ≡ true
  reached-in at_root = let c = all-counted im room s most os bs e in root_in (flatten c.0) s.root os c.2
  reached-in (by_reference {a = a} {rs = rs} r q h m) =
      let c = all-counted im room s most os bs e in
      let found = each-find (HasReferences im s) a os c.0 (reached-in q) c.1 in
      let same : rs ≡ found.0 = cc (h.1, found.1.1) in
      counted-in (flatten c.0) _ os r c.2 (found.2 r (rw same at m))

  pub reached-objects : (x : ℕ) → Reached im s x → in_ledger x os ≡ true
  reached-objects x r = reached-in r
