-- From the walk of an image to the reply.
use Prim.Native.Nat.{ℕ, zero, suc, ◌≤◌, ◌<◌}
use mathlib.Core.List.{List, [], ◌∷◌}
use mathlib.Core.Path.{◌≡◌, refl, ap, ◌∙◌}
use native.Mathlib.Omega.{arith}
use lib.ListN.{length, get_or, drop, replicate, length-replicate}
use Rattle.format.specs.Limits.{objects_most}
use Rattle.format.specs.Bytes.{padded}
use Rattle.format.specs.Blocks.{Block, room_of, block_list}
use Rattle.format.specs.declared.Refusal.{Refusal}
use Rattle.format.specs.Walk.{fault, done, refused, run}
use Rattle.format.specs.Superblock as definitions
use Rattle.format.specs.Superblock.{opened, not_opened, open_image}
use Rattle.format.specs.Ledger.{Linked}
use Rattle.format.specs.Audit.{audit_walk, audit_run}
use Rattle.format.specs.Answers.{audit}
use Rattle.walk.specs.Lent.{blocks_of, places_of, handed}
use Rattle.walk.proofs.BlockList.{length-blocks_of}
use Rattle.laws.proofs.Simulation.{walked-done, walked-refused}
use Rattle.ledger.specs.Links.{addresses_of}
use Rattle.ledger.specs.Index.{index_words}
use Rattle.ledger.specs.Table.{linked_of, Table}
use Rattle.ledger.specs.Report.{Copied, Readable, StoredRead}
use Rattle.ledger.specs.declared.report.Ledger.{Ledger}
use Rattle.ledger.proofs.TableLaws.{length-linked_of, table_none}
use Rattle.ledger.proofs.ReportLaws.{counted-law, counted-copied, readable-copied}
use Rattle.superblock.specs.Superblock.{superblock_of}
use Rattle.superblock.specs.declared.Superblock.{Superblock}
use Rattle.object.specs.Object.{Bounded}
use Rattle.std.specs.Prelude.{Ok, Err}
use Rattle.links.proofs.HeadersInside.{headers-inside}
use Rattle.links.proofs.AuditAnswers.{audit-refusal}
use Rattle.audit.specs.Audit.{EmptyTable, Lists, ImageWalked, AuditedIs, AuditIs}
use Rattle.audit.specs.declared.Audited.{Audited}
use Rattle.walk.proofs.Handed.{handed-none}

-- the audit's run, by what opening the image gave
run-not-opened : (im : List ℕ) (lent n : ℕ) → not_opened n ≡ open_image im → audit_run im lent ≡ refused (fault n 0) []
unfolding audit_run
run-not-opened im lent n e = rw (← e)

run-opened : (im : List ℕ) (lent room : ℕ) (s : definitions.Superblock) → room_of lent ≡ room → opened s ≡ open_image im →
    audit_run im lent ≡ run im s.end_of_file room (audit_walk s) []
unfolding audit_run
run-opened im lent room s fit e = rw (← e, fit)

-- A refusal: whatever the working list ws has, none of it is handed over.
module _ (im : List ℕ) (lent : ℕ) (ws addresses stored counts : List ℕ) where
  refused-is : (r : Refusal) (bs : List Block) → audit_run im lent ≡ refused r bs → AuditedIs im lent (handed lent 0 ws) addresses stored counts (Err r)
  unfolding audit
  refused-is r bs e = record {
    reply = rw (e, handed-none lent ws);
    placed = tt;
    answered = λ z. absurd (omega (arith, (audit-refusal im lent r bs e).0));
  }

  -- the image can't be opened
  pub not-opened-is : (n : ℕ) → not_opened n ≡ open_image im → AuditedIs im lent (handed lent 0 ws) addresses stored counts (Err (fault n 0))
  not-opened-is n e = refused-is (fault n 0) [] (run-not-opened im lent n e)

-- the walk was refused
pub stopped-is : (im ws : List ℕ) (s : Superblock) (x : Refusal) (ws₁ addresses counts stored : List ℕ) → opened (superblock_of s) ≡ open_image im →
    ImageWalked im ws s ws₁ addresses counts (Err x) → (lent : ℕ) → room_of lent ≡ places_of (length ws) →
    AuditedIs im lent (handed lent 0 ws₁) addresses stored counts (Err x)
stopped-is im ws s x ws₁ addresses counts stored e w lent fit =
    let o = walked-refused ws ws₁ x _ w.walked in
    refused-is im lent ws₁ addresses stored counts x o.0 (run-opened im lent _ (superblock_of s) fit e ∙ o.1)

get_d-addresses : (n k : ℕ) (xs ts : List ℕ) → k < n → get_or (addresses_of (linked_of n xs ts)) k 0 ≡ get_or xs k 0
unfolding addresses_of linked_of
get_d-addresses zero k xs ts h = absurd (omega arith)
get_d-addresses (suc n) zero xs ts h = refl
get_d-addresses (suc n) (suc k) [] ts h = get_d-addresses n k [] (drop 1 ts) (omega arith) ∙ refl
get_d-addresses (suc n) (suc k) (x ∷ xs) ts h = get_d-addresses n k xs (drop 1 ts) (omega arith)

pub get_d-zeros : (n k : ℕ) → ◌≡◌ {A = ℕ} (get_or (replicate n 0) k 0) 0
get_d-zeros zero k = refl
get_d-zeros (suc n) zero = refl
get_d-zeros (suc n) (suc k) = get_d-zeros n k

-- the walk is done
module _ (im ws : List ℕ) (s : Superblock) (count objects : ℕ) (ws₁ addresses counts : List ℕ)
    (w : ImageWalked im ws s ws₁ addresses counts (Ok (record { block_count = count; objects = objects }))) where
  abbrev os : List Linked
  os = linked_of objects addresses counts

  abbrev table : Table addresses counts objects
  table = w.ready.table

  pub ran : run im s.end_of_file (places_of (length ws)) (audit_walk (superblock_of s)) [] ≡ done os (blocks_of count ws₁)
  ran = walked-done ws ws₁ os count _ w.walked

  pub listed : objects ≤ length addresses
  listed = omega (arith, table.fits, table.addresses_long)

  -- the stored counts lie inside the image
  pub readable : Bounded im s → Readable im addresses objects
  readable b = record {
    listed = listed;
    inside = λ k h.
        let i = headers-inside im (places_of (length ws)) (superblock_of s) os (blocks_of count ws₁) ran k (rw length-linked_of h) in
        omega (arith, rw (get_d-addresses objects k addresses counts h) at i, b.2);
  }

  pub count_fits : count ≤ places_of (length ws)
  count_fits = w.ready.blocks_ready.lent.counted

  -- the blocks handed over, to a list of any length
  pub list-is : (lent : ℕ) → handed lent count ws₁ ≡ block_list lent (blocks_of count ws₁)
  list-is lent = ap (padded lent) w.ready.blocks_ready.lent.numbered

  pub done-is : opened (superblock_of s) ≡ open_image im → Bounded im s → (stored₀ stored : List ℕ) → stored₀ ≡ replicate objects_most 0 →
      StoredRead im addresses objects stored₀ stored → (lent : ℕ) → room_of lent ≡ places_of (length ws) →
      AuditedIs im lent (handed lent count ws₁) addresses stored counts (Ok (record { block_count = count; objects = objects }))
  unfolding audit
  done-is e b stored₀ stored z r lent fit =
      let o = run-opened im lent _ (superblock_of s) fit e ∙ ran in
      record {
        reply = rw (o, length-blocks_of, counted-law im objects addresses stored counts r.read, list-is lent);
        placed = record {
          fits = table.fits;
          readable = readable b;
          stored_rest = λ k m. r.rest k m ∙ rw z (get_d-zeros objects_most k);
          counts_rest = λ k m. table.counts_zero k m;
        };
        answered = tt;
      }

-- zeros are an empty table, if there are enough
pub empty-table : (n : ℕ) → index_words ≤ n → EmptyTable (replicate n 0)
empty-table n h = record { long = rw length-replicate h; zeros = rw length-replicate refl }

-- lists of zeros are a table of no object, with room for every object's stored count
pub lists-table : (addresses stored counts : List ℕ) → Lists addresses stored counts → Table addresses counts 0
lists-table addresses stored counts l = table_none addresses counts l.addresses_empty.long l.addresses_empty.zeros l.counts_empty

pub stored-room : (addresses stored counts : List ℕ) (n : ℕ) → Lists addresses stored counts → n ≤ objects_most → n ≤ length stored
stored-room addresses stored counts n l h = rw (l.stored_empty, length-replicate) h

-- a refusal has no ledger
pub refused-reply : (im : List ℕ) (lent : ℕ) (ws addresses stored counts : List ℕ) (x : Refusal) →
    AuditedIs im lent ws addresses stored counts (Err x) → AuditIs im lent ws (Err x)
refused-reply im lent ws addresses stored counts x h = record { reply = h.reply; placed = tt; answered = h.answered }

-- the reply with its ledger: the addresses are copied out of the table
pub full-reply : (im : List ℕ) (lent : ℕ) (ws addresses stored counts : List ℕ) (r : Audited) → AuditedIs im lent ws addresses stored counts (Ok r) →
    (copy : List ℕ) → Copied addresses (replicate objects_most 0) r.objects copy →
    let l : Ledger = record { objects = r.objects; addresses = copy; stored = stored; true_counts = counts } in
    AuditIs im lent ws (Ok (record { block_count = r.block_count; ledger = l }))
full-reply im lent ws addresses stored counts r h copy c =
    let p = h.placed in
    record {
      reply = rw (counted-copied addresses stored counts (replicate objects_most 0) copy r.objects c) h.reply;
      placed = record {
        fits = p.fits;
        readable = readable-copied im addresses (replicate objects_most 0) copy r.objects c (rw length-replicate p.fits) p.readable;
        addresses_rest = λ k m. c.rest k m ∙ get_d-zeros objects_most k;
        stored_rest = p.stored_rest;
        counts_rest = p.counts_rest;
      };
      answered = tt;
    }
