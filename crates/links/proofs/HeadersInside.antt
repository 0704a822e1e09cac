-- "reference count 4 (at address + 4)": every object of an audit has the first 16 bytes of its header inside the end of file, so that its count can be
-- read and written there.
use Prim.Native.Nat.{ℕ, zero, suc, ◌+◌, ◌≤◌, ◌<◌}
use mathlib.Core.List.{List, [], ◌∷◌}
use mathlib.Core.Path.{◌≡◌}
use native.Mathlib.Omega.{arith}
use lib.ListN.{length, get_or}
use Rattle.format.specs.Blocks.{Block}
use Rattle.format.specs.Walk.{done, run}
use Rattle.format.specs.Superblock.{Superblock}
use Rattle.format.specs.Ledger.{Linked}
use Rattle.format.specs.Audit.{audit_walk}
use Rattle.ledger.specs.Links.{addresses_of}
use Rattle.ledger.proofs.LedgerLaws.{length-addresses}
use Rattle.links.specs.Reached.{Reference, Each}
use Rattle.links.proofs.ObjectReferences.{header-inside}
use Rattle.links.proofs.AuditTrace.{ObjectWalked, audit-trace}
use Rattle.links.proofs.TraceReferences.{trace-references, each_map}

-- what holds of each holds of the k-th
each_at : (P : ℕ → Type 0) (addresses : List ℕ) (rss : List (List Reference)) → Each (λ a rs. P a) addresses rss → (k : ℕ) → k < length addresses →
    P (get_or addresses k 0)
unfolding Each
each_at P [] rss h k l = absurd (omega arith)
each_at P (a ∷ rest) [] h k l = absurd h
each_at P (a ∷ rest) (rs ∷ rss) h zero l = h.0
each_at P (a ∷ rest) (rs ∷ rss) h (suc k) l = each_at P rest rss h.1 k (omega arith)

pub headers-inside : (im : List ℕ) (room : ℕ) (s : Superblock) (os : List Linked) (bs : List Block) →
    run im s.end_of_file room (audit_walk s) [] ≡ done os bs →
    (k : ℕ) → k < length os → get_or (addresses_of os) k 0 + 16 ≤ s.end_of_file
headers-inside im room s os bs e k l =
    let t = audit-trace im room s os bs e in
    let r = trace-references (ObjectWalked im room s t.0) t.1 in
    let inside = each_map _ (λ a rs. a + 16 ≤ s.end_of_file) (λ a rs w. header-inside im s.end_of_file room a w.before w.object w.behind w.header)
    (addresses_of os) r.0 r.1 in
    each_at (λ a. a + 16 ≤ s.end_of_file) (addresses_of os) r.0 inside k (rw length-addresses l)
