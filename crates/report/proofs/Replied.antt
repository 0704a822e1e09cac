-- From the walk of an image, in a list that was filled before it, to the report.
use Prim.Native.Nat.{ℕ, ◌*◌, ◌≤◌}
use mathlib.Core.List.{List, []}
use mathlib.Core.Path.{◌≡◌, refl, ap, sym, ◌∙◌}
use native.Mathlib.Omega.{arith}
use lib.ListN.{length, take, replicate, length-replicate}
use lib.Seq.{length-take-le}
use Rattle.std.proofs.lemmas.List.{take-replicate}
use Rattle.format.specs.Limits.{objects_most}
use Rattle.format.specs.Bytes.{undefined_address, padded}
use Rattle.format.specs.Blocks.{Block, no_object, block_words, block_list, room_of}
use Rattle.format.specs.declared.Refusal.{Refusal}
use Rattle.format.specs.Walk.{Outcome, refused, run}
use Rattle.format.specs.Superblock.{opened, not_opened, open_image}
use Rattle.format.specs.Ledger.{Linked}
use Rattle.format.specs.Audit.{audit_walk}
use Rattle.format.specs.Report.{no_block, report}
use Rattle.walk.specs.Lent.{blocks_of, places_of, handed, stopped, Walked}
use Rattle.walk.proofs.BlockList.{lent_none, length-blocks_of, words-blocks}
use Rattle.laws.proofs.Growth.{Grown, run-grown}
use Rattle.laws.proofs.Simulation.{walked-refused}
use Rattle.ledger.specs.Table.{Table}
use Rattle.ledger.specs.Report.{counted_places, StoredRead}
use Rattle.ledger.proofs.ReportLaws.{counted-law}
use Rattle.superblock.specs.Superblock.{superblock_of}
use Rattle.superblock.specs.declared.Superblock.{Superblock}
use Rattle.object.specs.Object.{Bounded}
use Rattle.std.specs.Prelude.{Ok, Err}
use Rattle.audit.specs.Audit.{ImageWalked}
use Rattle.audit.proofs.ReplyLaws.{ran, list-is, get_d-zeros}
use Rattle.damaged_block.specs.Entered.{Leading}
use Rattle.report.specs.Report.{Fields, fields_of, unopened_fields, refused_fields, reply_of, Replies, ReportedOpened, ReportedIs}
use Rattle.damaged_block.specs.Block.{listed_of}
use Rattle.report.specs.declared.Reported.{Reported}
use Rattle.damaged_block.specs.declared.block.ListedBlock.{ListedBlock}
use Rattle.damaged_block.proofs.Filled.{count-is}

-- a report without objects
no-objects : (r : Reported) (f : Fields) (ws addresses stored counts : List ℕ) → fields_of r ≡ f → f.objects ≡ 0 →
    Replies (reply_of ws addresses stored counts f) ws addresses stored counts r
no-objects r f ws addresses stored counts e z =
    let none : r.objects ≡ 0 = ap (λ (g : Fields). g.objects) e ∙ z in
    record {
      reply = ap (reply_of ws addresses stored counts) e;
      fits = omega (arith, none);
      stored_rest = λ h. absurd (omega (arith, h, none));
      counts_rest = λ h. absurd (omega (arith, h, none));
    }

-- the image can't be opened
pub unopened-is : (im : List ℕ) (n : ℕ) (r : Reported) → not_opened n ≡ open_image im → fields_of r ≡ unopened_fields n →
    (lent : ℕ) (ws addresses stored counts : List ℕ) → ReportedIs im lent (handed lent r.block_count ws) addresses stored counts r
unfolding report counted_places block_words
unopened-is im n r o e lent ws addresses stored counts =
    let none : r.block_count ≡ 0 = ap (λ (f : Fields). f.block_count) e in
    let list : handed lent r.block_count ws ≡ block_list lent [] = rw none refl in
    rw (← o, ← list) (no-objects r (unopened_fields n) (handed lent r.block_count ws) addresses stored counts e refl)

-- the image can be opened, and the words lent have room for as many blocks
pub opened-is : (im : List ℕ) (room lent : ℕ) (s : Superblock) (r : Reported) (ws addresses stored counts : List ℕ) →
    opened (superblock_of s) ≡ open_image im → room_of lent ≡ room → ReportedOpened im room lent s ws addresses stored counts r →
    ReportedIs im lent ws addresses stored counts r
unfolding report
opened-is im room lent s r ws addresses stored counts o e h = rw (← o, e) h

-- the blocks have places, and with any number of words lent for them the report is the definition's
abbrev Reports : List ℕ → ℕ → Superblock → List ℕ → List ℕ → List ℕ → List ℕ → Reported → Type 0
Reports im room s ws addresses stored counts r =
    (r.block_count ≤ room) × ((lent : ℕ) → ReportedOpened im room lent s (handed lent r.block_count ws) addresses stored counts r)

-- a list that is all filled, by the length that it had before, and the first words of one
pub all-filled : (ws : List ℕ) (n : ℕ) → ws ≡ replicate n undefined_address → length ws ≡ n → ws ≡ replicate (length ws) undefined_address
all-filled ws n e l = e ∙ ap (λ (m : ℕ). replicate m undefined_address) (sym l)

pub filled-part : (n m word : ℕ) → n ≤ length (replicate {A = ℕ} m word) →
    take n (replicate m word) ≡ replicate (length (take n (replicate {A = ℕ} m word))) word
filled-part n m word h =
    let e = take-replicate n m word (rw length-replicate at h) in
    let l : length (take n (replicate {A = ℕ} m word)) ≡ n = length-take-le n (replicate m word) h in
    e ∙ ap (λ (k : ℕ). replicate k word) (sym l)

-- the list was as long before it was filled
pub same-long : (im : List ℕ) (m n : ℕ) (s : Superblock) (ws addresses stored counts : List ℕ) (r : Reported) → m ≡ n →
    Reports im (places_of m) s ws addresses stored counts r → Reports im (places_of n) s ws addresses stored counts r
same-long im m n s ws addresses stored counts r e h = rw e at h

module _ (im ws : List ℕ) (s : Superblock) (b : Bounded im s) where
  abbrev outcome : Outcome (List Linked)
  outcome = run im s.end_of_file (places_of (length ws)) (audit_walk (superblock_of s)) []

  -- the walk was refused, and the list holds the blocks before the fault
  module _ (x : Refusal) (ws₁ addresses₁ counts₁ : List ℕ) (same : length ws₁ ≡ length ws) (filled : ws ≡ replicate (length ws) undefined_address)
      (w : ImageWalked im ws s ws₁ addresses₁ counts₁ (Err x)) (n : ℕ) (l : Leading ws₁ n) where
    stop : (bs : List Block) × (outcome ≡ refused x bs)
    stop = walked-refused ws ws₁ x outcome w.walked

    abbrev entered : List Block
    entered = stop.0

    walked : Walked {A = List Linked} ws ws₁ (stopped x) (refused x entered)
    walked = rw stop.1 at w.walked

    grown : Grown s.end_of_file (places_of (length ws)) [] entered
    grown = rw stop.1 at (run-grown im s.end_of_file (places_of (length ws)) (audit_walk (superblock_of s)) [] (omega arith))

    count : n ≡ length entered
    count =
        let new : grown.new ≡ entered = sym grown.all in
        count-is s.end_of_file entered ws ws₁ same filled b.3 (rw new at grown.inside) grown.fits walked.held walked.rest n l

    blocks : blocks_of n ws₁ ≡ entered
    blocks = ap (λ (m : ℕ). blocks_of m ws₁) count ∙ words-blocks no_object entered ws₁ walked.held

    entered-places : n ≤ places_of (length ws)
    entered-places = omega (arith, count, grown.fits)

    pub entered-fit : 4 * n ≤ length ws₁
    entered-fit = omega (arith, entered-places, (lent_none ws).lent, same)

    pub entered-numbered : take (4 * n) ws₁ ≡ block_words no_object (blocks_of n ws₁)
    entered-numbered = ap (λ (m : ℕ). take (4 * m) ws₁) count ∙ walked.held ∙ ap (block_words no_object) (sym blocks)

    pub refused-is : (r : Reported) (addresses stored counts : List ℕ) → fields_of r ≡ refused_fields n (blocks_of n ws₁) x →
        Reports im (places_of (length ws)) s ws₁ addresses stored counts r
    unfolding counted_places
    refused-is r addresses stored counts e =
        let all : r.block_count ≡ n = ap (λ (f : Fields). f.block_count) e in
        let fields : fields_of r ≡ refused_fields (length entered) entered x =
        e ∙ ap (λ (m : ℕ). refused_fields m (blocks_of n ws₁) x) count ∙ ap (λ (bs : List Block). refused_fields (length entered) bs x) blocks in (
          omega (arith, all, entered-places),
          λ lent.
              let list : handed lent r.block_count ws₁ ≡ block_list lent entered =
              ap (λ (m : ℕ). handed lent m ws₁) (all ∙ count) ∙ ap (padded lent) walked.held in
              rw (stop.1, ← list) (no-objects r (refused_fields (length entered) entered x) (handed lent r.block_count ws₁) addresses stored counts
              fields refl),
        )

  -- the walk is done
  module _ (count objects : ℕ) (ws₁ addresses counts : List ℕ)
      (w : ImageWalked im ws s ws₁ addresses counts (Ok (record { block_count = count; objects = objects }))) where
    abbrev table : Table addresses counts objects
    table = w.ready.table

    pub done-is : (stored₀ stored : List ℕ) → stored₀ ≡ replicate objects_most 0 → StoredRead im addresses objects stored₀ stored →
        (block : ListedBlock) → listed_of block ≡ no_block →
        Reports im (places_of (length ws)) s ws₁ addresses stored counts
        (record { answer = 0; block_count = count; place = 0; block = block; met = 0; objects = objects })
    done-is stored₀ stored z q block e = (
      w.ready.blocks_ready.lent.counted,
      λ lent. record {
        reply = rw (
          ran im ws s count objects ws₁ addresses counts w,
          length-blocks_of count ws₁,
          e,
          counted-law im objects addresses stored counts q.read,
          list-is im ws s count objects ws₁ addresses counts w lent,
        ) refl;
        fits = table.fits;
        stored_rest = λ h k m. q.rest k m ∙ rw z (get_d-zeros objects_most k);
        counts_rest = λ h k m. table.counts_zero k m;
      },
    )
