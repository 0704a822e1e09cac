-- A report of a fault in a block: the place lies in the block named, which stands in the list, and in no other block of it.
use Prim.Native.Nat.{ℕ, ◌≤◌, ◌<◌}
use mathlib.Core.List.{List}
use mathlib.Core.Logic.{⊎_elim}
use mathlib.Core.Path.{◌≡◌, refl, ap}
use native.Mathlib.Omega.{arith}
use borrow.Author.Tests.{ne_eqb}
use lib.ListN.{length, get_or}
use Rattle.format.specs.Limits.{image_least}
use Rattle.format.specs.Blocks.{Block, block, no_object, superblock_kind, block_list}
use Rattle.format.specs.declared.Refusal.TheVariants.{Fault, NotEntered}
use Rattle.format.specs.Walk.{Outcome, done, refused}
use Rattle.format.specs.Superblock.{Superblock, opened, not_opened, open_image}
use Rattle.format.specs.Ledger.{Linked}
use Rattle.format.specs.Report.{listed_block, holding, report_end, unopened_block, ReportReply, report}
use Rattle.links.specs.Owners.{HoldsByte}
use Rattle.links.proofs.Opened.{opened-end, not_short}
use Rattle.links.proofs.BlocksBefore.{inside-at}
use Rattle.links.proofs.PlacedAudit.{audit-stopped, audit-placed}
use Rattle.claims.specs.Reports.{InFour, FaultNamed, SuperblockNamed, InSomeBlock}
use Rattle.claims.proofs.DamagedBlock.{listed_at, holding-is, four-at}
use Rattle.claims.proofs.ReportEnds.{outcome, report-opened, report-unopened, blocks-inside, blocks-apart}

-- the byte of a four is the byte of its block
four-holds : (lent : ℕ) (bs : List Block) (k x : ℕ) → k < length bs → InFour (block_list lent bs) k x → HoldsByte (get_or bs k (block 0 0)) x
four-holds lent bs k x l h = let f = four-at lent bs k l in (omega (arith, f.address, h.0), omega (arith, f.address, f.size, h.1))

module _ (im : List ℕ) (lent : ℕ) (s : Superblock) (p : open_image im ≡ opened s) where
  pub fault-named : (n at : ℕ) (bs : List Block) → outcome im lent s ≡ refused (Fault n at) bs → FaultNamed im (report_end im lent (refused (Fault n at) bs))
  fault-named n at bs e =
      let held = (audit-placed im lent s p n at bs e).0 in
      let k = held.0 in
      let one = blocks-apart im lent s (Fault n at) bs e in
      let is : holding no_object bs at ≡ listed_at no_object bs k = holding-is bs at k one held.1 held.2 in
      let within = inside-at s.end_of_file bs k (blocks-inside im lent s (Fault n at) bs e) held.1 in
      let f = four-at lent bs k held.1 in
      record {
        holds = rw is held.2;
        inside = rw is (omega (arith, within, opened-end im s p));
        listed = record {
          number = k;
          counted = held.1;
          address = rw is f.address;
          size = rw is f.size;
          kind = rw is f.kind;
          object = rw is f.object;
          once = λ j l h. one j k at (four-holds lent bs j at l h) held.2;
        };
      }

  by_end : (o : Outcome (List Linked)) → outcome im lent s ≡ o → InSomeBlock (report_end im lent o).answer → FaultNamed im (report_end im lent o)
  by_end (done os bs) e h = absurd (h.0 refl)
  by_end (refused (Fault n at) bs) e h = fault-named n at bs e
  by_end (refused (NotEntered n kind a size met) bs) e h =
      let entry = audit-stopped im lent s p (NotEntered n kind a size met) bs e in
      absurd (⊎_elim h.2 (⊎_elim h.3 h.4) entry.numbers)

  pub faults : InSomeBlock (report im lent).answer → FaultNamed im (report im lent)
  faults h =
      let q = report-opened im lent s p in
      rw q (by_end (outcome im lent s) refl (rw q at h))

-- the superblock of an image that can't be opened
pub unopened-named : (im : List ℕ) (lent n : ℕ) → open_image im ≡ not_opened n → InSomeBlock n → SuperblockNamed im n (report im lent)
unfolding image_least
unopened-named im lent n p h =
    let q = report-unopened im lent n p in
    let named : unopened_block n ≡ listed_block 0 image_least superblock_kind no_object = rw (ne_eqb n 1 h.1) refl in
    let long : image_least ≤ length im = not_short im n p h.1 in
    record {
      block = ap (λ (r : ReportReply). r.block) q;
      holds = rw (q, named) (omega arith, omega arith);
      inside = rw (q, named) (omega (arith, long));
    }
