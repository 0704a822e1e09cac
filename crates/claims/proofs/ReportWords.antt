-- The words of a report in C, read back from their bytes.
use Prim.Native.Nat.{ℕ, zero, suc, ◌+◌, ◌*◌, ◌/◌, ◌^◌, ◌≤◌, ◌<◌}
use mathlib.Core.Bool.{Bool, true, false}
use mathlib.Core.List.{List, [], ◌∷◌}
use mathlib.Core.Logic.{⊎_elim}
use mathlib.Core.Path.{◌≡◌, refl}
use native.Mathlib.Omega.{arith}
use borrow.Author.Tests.{le-leb, eqb-true, eqb-false}
use lib.Dec.{eqb}
use lib.ListN.{length}
use Rattle.format.specs.Limits.{image_least, blocks_most}
use Rattle.std.specs.Prelude.{if◌then◌else◌}
use Rattle.format.specs.Bytes.{undefined_address, to_words, padded}
use Rattle.format.specs.Blocks.{Block, no_object, superblock_kind, owner_after, last_owner, block_list, room_of}
use Rattle.format.specs.declared.Refusal.TheVariants.{Fault, NotEntered}
use Rattle.format.specs.Walk.{Outcome, done, refused}
use Rattle.format.specs.Superblock.{Superblock, Opening, opened, not_opened, open_image}
use Rattle.format.specs.Ledger.{Linked}
use Rattle.format.specs.Audit.{audit_walk}
use Rattle.format.specs.Report.{ListedBlock, listed_block, no_block, unopened_block, report_end, unopened, ReportReply, report, report_words, c_report}
use Rattle.walk.proofs.BlockList.{room_most}
use Rattle.laws.proofs.Growth.{run-grown}
use Rattle.laws.proofs.ImageLength.{image-small}
use Rattle.links.specs.FirstMet.{GivesMet}
use Rattle.links.proofs.RefusedFault.{refused-fault}
use Rattle.links.proofs.AuditAnswers.{not-opened-number}
use Rattle.links.proofs.BlocksBefore.{fault-kinds}
use Rattle.links.proofs.PlacedAudit.{audit-stopped}
use Rattle.demand.specs.Bytes.{IsBytes}
use Rattle.demand.proofs.Opened.{opened-range}
use Rattle.refused_words.proofs.AuditFits.{audit-fits}
use Rattle.claims.specs.CDemand3.{IsWords}
use Rattle.claims.proofs.WordsBack.{slice-words}
use Rattle.claims.proofs.MetWord.{end-small}
use Rattle.claims.proofs.ListWords.{FillsList, list_back, owner-most, all_ones, blocks-fill, run-fills}
use Rattle.claims.proofs.ReportEnds.{outcome, report-opened, report-unopened, blocks-inside, blocks-fit, own-numbers}
use Rattle.claims.proofs.ReportFaults.{fault-named}
use Rattle.claims.proofs.ReportEntries.{first-named, gives-met}

-- the list
list-fills : (im : List ℕ) (lent : ℕ) (s : Superblock) → open_image im ≡ opened s → (o : Outcome (List Linked)) → outcome im lent s ≡ o →
    FillsList lent (report_end im lent o).list
list-fills im lent s p (done os bs) e = run-fills im s.end_of_file lent (audit_walk s) os bs (end-small im s p) e
list-fills im lent s p (refused r bs) e =
    let kinds = fault-kinds im s.end_of_file (room_of lent) (refused-fault im s.end_of_file (room_of lent) (audit_walk s) [] r bs e) tt in
    blocks-fill s.end_of_file lent bs (end-small im s p) (blocks-inside im lent s r bs e) kinds (blocks-fit im lent s r bs e)

report-fills : (im : List ℕ) (lent : ℕ) → FillsList lent (report im lent).list
report-fills im lent = go (open_image im) refl
  where
    go : (o : Opening) → open_image im ≡ o → FillsList lent (report im lent).list
    go (opened s) p = rw (report-opened im lent s p) (list-fills im lent s p (outcome im lent s) refl)
    go (not_opened n) p = rw (report-unopened im lent n p) (blocks-fill 0 lent [] (omega arith) tt tt (omega arith))

pub c-lists : (im : List ℕ) (l r : ℕ) → 8 ≤ r / 8 → to_words (l / 8) (c_report im l r).list ≡ (report im (l / 8)).list
unfolding c_report
c-lists im l r h = rw (le-leb 8 (r / 8) h) (list_back l (report im (l / 8)).list (report-fills im (l / 8)))

-- what a caller reads fits its words
record BlockSmall (b : ListedBlock) : Type 0 where
  address : b.address < 2 ^ 64
  size : b.size < 2 ^ 64
  kind : b.kind < 2 ^ 64
  object : b.object < 2 ^ 64

record Small (r : ReportReply) : Type 0 where
  answer : r.answer < 2 ^ 64
  block_count : r.block_count < 2 ^ 64
  place : r.place < 2 ^ 64
  block : BlockSmall r.block
  met : r.met < 2 ^ 64

eight : (r : ReportReply) → Small r → IsWords (report_words r)
eight r h zero = h.answer
eight r h (suc zero) = h.block_count
eight r h (suc (suc zero)) = h.place
eight r h (suc (suc (suc zero))) = h.block.address
eight r h (suc (suc (suc (suc zero)))) = h.block.size
eight r h (suc (suc (suc (suc (suc zero))))) = h.block.kind
eight r h (suc (suc (suc (suc (suc (suc zero)))))) = h.block.object
eight r h (suc (suc (suc (suc (suc (suc (suc zero))))))) = h.met
eight r h (suc (suc (suc (suc (suc (suc (suc (suc k)))))))) = omega arith

none-small : BlockSmall no_block
none-small = record { address = omega arith; size = omega arith; kind = omega arith; object = omega arith }

last-most : (o : ℕ) (bs : List Block) → o ≤ no_object → last_owner o bs ≤ no_object
unfolding last_owner
last-most o [] h = h
last-most o (b ∷ bs) h = last-most (owner_after o b.kind) bs (owner-most o b.kind h)

-- no more blocks than there can be
count_small : (lent n : ℕ) → n ≤ room_of lent → n < 2 ^ 64
unfolding blocks_most
count_small lent n h = omega (arith, h, room_most lent)

-- the block met is one of the list, or 0
met-word : (im : List ℕ) (lent n kind a size met : ℕ) (bs : List Block) → GivesMet (NotEntered n kind a size met) bs → IsWords (block_list lent bs) →
    met < 2 ^ 64
met-word im lent n kind a size met bs g words = go (eqb n 6) refl
  where
    go : (t : Bool) → eqb n 6 ≡ t → met < 2 ^ 64
    go true q = let f = first-named im lent n kind a size met bs (g.six (eqb-true n 6 q)) in rw (← f.met) (words (4 * f.number))
    go false q = omega (arith, g.other (eqb-false n 6 q))

module _ (im : List ℕ) (lent : ℕ) (bytes : IsBytes im) (s : Superblock) (p : open_image im ≡ opened s) where
  fault-small : (n at : ℕ) (bs : List Block) → outcome im lent s ≡ refused (Fault n at) bs → Small (report_end im lent (refused (Fault n at) bs))
  fault-small n at bs e =
      let named = fault-named im lent s p n at bs e in
      let words = (list-fills im lent s p (refused (Fault n at) bs) e).words in
      let listed = named.listed in
      let k = listed.number in
      record {
        answer = omega (arith, (own-numbers im lent s (Fault n at) bs e).4);
        block_count = count_small lent (length bs) (blocks-fit im lent s (Fault n at) bs e);
        place = omega (arith, named.holds.1, named.inside, image-small (length im) (opened-range im s p));
        block = record {
          address = rw (← listed.address) (words (4 * k));
          size = rw (← listed.size) (words (4 * k + 1));
          kind = rw (← listed.kind) (words (4 * k + 2));
          object = rw (← listed.object) (words (4 * k + 3));
        };
        met = omega arith;
      }

  entry-small : (n kind a size met : ℕ) (bs : List Block) → outcome im lent s ≡ refused (NotEntered n kind a size met) bs →
      Small (report_end im lent (refused (NotEntered n kind a size met) bs))
  entry-small n kind a size met bs e =
      let x = NotEntered n kind a size met in
      let entry = audit-stopped im lent s p x bs e in
      let words = (list-fills im lent s p (refused x bs) e).words in
      let fits = audit-fits im lent s bytes p n kind a size met bs e in
      record {
        answer = ⊎_elim (λ q. omega (arith, q)) (⊎_elim (λ q. omega (arith, q)) (λ q. omega (arith, q))) entry.numbers;
        block_count = count_small lent (length bs) (blocks-fit im lent s x bs e);
        place = fits.0;
        block = record {
          address = fits.0;
          size = fits.1;
          kind = omega (arith, fits.2);
          object = all_ones _ (owner-most _ kind (last-most no_object bs (omega arith)));
        };
        met = met-word im lent n kind a size met bs (gives-met im lent s p x bs e) words;
      }

  end-words : (o : Outcome (List Linked)) → outcome im lent s ≡ o → Small (report_end im lent o)
  end-words (done os bs) e =
      let fits : length bs ≤ room_of lent = rw e at (run-grown im s.end_of_file (room_of lent) (audit_walk s) [] (omega arith)).fits in
      record { answer = omega arith; block_count = count_small lent (length bs) fits; place = omega arith; block = none-small; met = omega arith }
  end-words (refused (Fault n at) bs) e = fault-small n at bs e
  end-words (refused (NotEntered n kind a size met) bs) e = entry-small n kind a size met bs e

unopened-small : (n : ℕ) → BlockSmall (unopened_block n)
unfolding image_least undefined_address
unopened-small n = go (eqb n 1)
  where
    go : (t : Bool) → BlockSmall (if t then no_block else listed_block 0 image_least superblock_kind no_object)
    go true = none-small
    go false = record { address = omega arith; size = omega arith; kind = omega arith; object = omega arith }

unopened-words : (im : List ℕ) (lent n : ℕ) → open_image im ≡ not_opened n → Small (unopened lent n)
unopened-words im lent n p = record {
  answer = omega (arith, (not-opened-number im n p).1);
  block_count = omega arith;
  place = omega arith;
  block = unopened-small n;
  met = omega arith;
}

report-small : (im : List ℕ) (lent : ℕ) → IsBytes im → Small (report im lent)
report-small im lent bytes = go (open_image im) refl
  where
    go : (o : Opening) → open_image im ≡ o → Small (report im lent)
    go (opened s) p = rw (report-opened im lent s p) (end-words im lent bytes s p (outcome im lent s) refl)
    go (not_opened n) p = rw (report-unopened im lent n p) (unopened-words im lent n p)

pub c-words : (im : List ℕ) (l r : ℕ) → IsBytes im → 8 ≤ r / 8 → to_words (r / 8) (c_report im l r).reply ≡ padded (r / 8) (report_words (report im (l / 8)))
unfolding c_report
c-words im l r bytes h =
    let p = report im (l / 8) in
    rw (le-leb 8 (r / 8) h) (slice-words r (report_words p) (eight p (report-small im (l / 8) bytes)) h)
