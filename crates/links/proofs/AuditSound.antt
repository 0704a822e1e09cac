-- What an audit that is done has found, all together: of a run of its walk, and of the audit of an image with so many words lent.
use Prim.Native.Nat.{ℕ, ◌≤◌}
use mathlib.Core.List.{List, [], flatten}
use mathlib.Core.Path.{◌≡◌, refl}
use native.Mathlib.Omega.{arith}
use lib.ListN.{length}
use Rattle.format.specs.Limits.{blocks_most}
use Rattle.format.specs.Blocks.{Block, room_of}
use Rattle.format.specs.Walk.{Outcome, done, run}
use Rattle.format.specs.Superblock.{Superblock, Opening, opened, not_opened, open_image, run_opened}
use Rattle.format.specs.Ledger.{Linked}
use Rattle.format.specs.Audit.{audit_walk, audit_run}
use Rattle.walk.proofs.BlockList.{room_most}
use Rattle.laws.specs.Blocks.{Fresh, Inside}
use Rattle.links.specs.Sound.{Sound}
use Rattle.links.proofs.HeadersInside.{headers-inside}
use Rattle.links.proofs.AllCounted.{counted-trace, all-counted}
use Rattle.links.proofs.TrueCounts.{true-count, true-counts, true-sum}
use Rattle.links.proofs.EachOnce.{each-once}
use Rattle.links.proofs.ObjectsReached.{objects-reached, reached-objects}
use Rattle.links.proofs.BlocksSound.{blocks-sound}

-- the walk of an audit
pub walk-sound : (im : List ℕ) (room : ℕ) (s : Superblock) (os : List Linked) (bs : List Block) → room ≤ blocks_most →
    run im s.end_of_file room (audit_walk s) [] ≡ done os bs → Sound im s os
walk-sound im room s os bs most e =
    let c = all-counted im room s most os bs e in
    let once = each-once s.root (flatten c.0) os c.2 in
    record {
      trace = counted-trace im room s most os bs e;
      references = c.0;
      read = c.1;
      counted = c.2;
      true_count = true-count s.root (flatten c.0) os c.2 once;
      counts = true-counts s.root (flatten c.0) os c.2;
      sum = true-sum s.root (flatten c.0) os c.2;
      once = once;
      reached = objects-reached im room s most os bs e;
      found = reached-objects im room s most os bs e;
      shared = c.3;
      headers = headers-inside im room s os bs e;
    }

opened-done : {A : Type 0} (o : Opening) (f : Superblock → Outcome A) (a : A) (bs : List Block) → run_opened o f ≡ done a bs →
    (s : Superblock) × (o ≡ opened s) × (f s ≡ done a bs)
opened-done (opened s) f a bs e = (s, refl, e)
opened-done (not_opened n) f a bs e = let z : ◌≡◌ {A = ℕ} 0 1 = cc in absurd (omega arith)

-- the audit that is done was of an image that can be opened
pub audit-opened : (im : List ℕ) (lent : ℕ) (os : List Linked) (bs : List Block) → audit_run im lent ≡ done os bs →
    (s : Superblock) × (open_image im ≡ opened s) × (run im s.end_of_file (room_of lent) (audit_walk s) [] ≡ done os bs)
unfolding audit_run
audit-opened im lent os bs e = opened-done (open_image im) (λ s. run im s.end_of_file (room_of lent) (audit_walk s) []) os bs e

module _ (im : List ℕ) (lent : ℕ) (s : Superblock) (os : List Linked) (bs : List Block) (p : open_image im ≡ opened s)
    (e : audit_run im lent ≡ done os bs) where
  -- its walk is done
  pub audit-walked : run im s.end_of_file (room_of lent) (audit_walk s) [] ≡ done os bs
  audit-walked =
      let o = audit-opened im lent os bs e in
      let same : o.0 ≡ s = cc o.1 in
      rw same at o.2

  -- what the audit has found
  pub audit-sound : Sound im s os
  audit-sound = walk-sound im (room_of lent) s os bs (room_most lent) audit-walked

  -- the blocks that it has entered
  pub audit-blocks : Fresh [] bs × Inside s.end_of_file bs × (length bs ≤ room_of lent)
  audit-blocks = blocks-sound im (room_of lent) s os bs audit-walked
