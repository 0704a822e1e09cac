-- What the audit returns and leaves, as document 01's reply.
use Rattle.std.specs.Prelude.{ℕ, ◌≤◌, List, [], ◌≡◌, ◌≢◌, length, get_or, replicate, Result, Ok, Err, IfOk, IfErr}
use Rattle.format.specs.Limits.{objects_most}
use Rattle.format.specs.declared.Refusal.{Refusal}
use Rattle.format.specs.Walk.{answer_of, met_of, run}
use Rattle.format.specs.Ledger.{Linked}
use Rattle.format.specs.Audit.{audit_walk}
use Rattle.format.specs.Answers.{AuditReply, audit}
use Rattle.walk.specs.Lent.{places_of, Ended, ended, stopped, Walked}
use Rattle.superblock.specs.Superblock.{superblock_of}
use Rattle.superblock.specs.declared.Superblock.{Superblock}
use Rattle.ledger.specs.Index.{index_words}
use Rattle.ledger.specs.Links.{link_sum}
use Rattle.ledger.specs.Table.{linked_of, Table}
use Rattle.group.specs.Group.{Ready}
use Rattle.ledger.specs.Report.{counted_places, counted_of, Readable}
use Rattle.ledger.specs.declared.report.Ledger.{Ledger}
use Rattle.audit.specs.declared.Audited.{Audited}
use Rattle.audit.specs.declared.Reply.{Reply}

-- the ledger, with the number of blocks then entered, or the refusal
abbrev pub ledger_end : List ℕ → List ℕ → Result Audited Refusal → Ended (List Linked)
ledger_end addresses counts (Ok a) = ended (linked_of a.objects addresses counts) a.block_count
ledger_end addresses counts (Err r) = stopped r

-- The lists as a group is read with them, the links of the table counted, and the table of objects.
pub record TableReady (ws addresses counts : List ℕ) (eof room count objects : ℕ) : Type 0 where
  pub blocks_ready : Ready ws eof room count (link_sum (linked_of objects addresses counts))
  pub table : Table addresses counts objects

abbrev pub ReadyIf : List ℕ → List ℕ → List ℕ → ℕ → ℕ → Result Audited Refusal → Type 0
ReadyIf ws addresses counts eof room (Ok a) = TableReady ws addresses counts eof room a.block_count a.objects
ReadyIf ws addresses counts eof room (Err r) = Unit {0}

-- the walk of an opened image was walked, in the whole of the list lent, with this table of objects
pub record ImageWalked (im ws : List ℕ) (s : Superblock) (ws' addresses' counts' : List ℕ) (r : Result Audited Refusal) : Type 0 where
  pub walked : Walked ws ws' (ledger_end addresses' counts' r) (run im s.end_of_file (places_of (length ws)) (audit_walk (superblock_of s)) [])
  pub ready : ReadyIf ws' addresses' counts' s.end_of_file (places_of (length ws)) r

-- a list of zeros with room for all addresses and for their order
pub record EmptyTable (addresses : List ℕ) : Type 0 where
  pub long : index_words ≤ length addresses
  pub zeros : addresses ≡ replicate (length addresses) 0

-- the table of objects "starts empty"
pub record Lists (addresses stored counts : List ℕ) : Type 0 where
  pub addresses_empty : EmptyTable addresses
  pub stored_empty : stored ≡ replicate objects_most 0
  pub counts_empty : counts ≡ replicate objects_most 0

-- from the n-th on the places are zeros
abbrev pub ZerosFrom : ℕ → List ℕ → Type 0
ZerosFrom n l = (k : ℕ) → n ≤ k → get_or l k 0 ≡ 0

-- a refusal's reply: the answer, with 6 the block met, and else zeros
abbrev pub refused_reply : List ℕ → Refusal → AuditReply
refused_reply ws r = record { number = answer_of r; met = met_of r; block_count = 0; objects = []; list = ws }

-- how many blocks are handed over: none with a refusal
abbrev pub blocks_audited : Result Audited Refusal → ℕ
blocks_audited (Ok a) = a.block_count
blocks_audited (Err r) = 0

abbrev pub blocks_replied : Result Reply Refusal → ℕ
blocks_replied (Ok a) = a.block_count
blocks_replied (Err r) = 0

-- the reply of an audit that returns the number of blocks and leaves the ledger
abbrev pub replied : Ledger → Result ℕ Refusal → Result Reply Refusal
replied l (Ok n) = Ok (record { block_count = n; ledger = l })
replied l (Err r) = Err r

-- the reply of document 01, by what was returned and left
abbrev pub reply_of : List ℕ → List ℕ → List ℕ → List ℕ → Result Audited Refusal → AuditReply
reply_of ws addresses stored counts (Ok a) =
    record { number = 0; met = 0; block_count = a.block_count; objects = counted_places a.objects addresses stored counts; list = ws }
reply_of ws addresses stored counts (Err r) = refused_reply ws r

-- an audit that is done found so many objects: they have places, the count of each lies inside the image, and all other counts are zeros
pub record Placed (im addresses stored counts : List ℕ) (objects : ℕ) : Type 0 where
  pub fits : objects ≤ objects_most
  pub readable : Readable im addresses objects
  pub stored_rest : ZerosFrom objects stored
  pub counts_rest : ZerosFrom objects counts

-- The reply is the definition's, and no refusal has the answer 0. No reply shows what a refusal leaves in the table and the counts, nor what stands
-- behind the addresses.
pub record AuditedIs (im : List ℕ) (lent : ℕ) (ws addresses stored counts : List ℕ) (r : Result Audited Refusal) : Type 0 where
  pub reply : reply_of ws addresses stored counts r ≡ audit im lent
  pub placed : IfOk r (λ a. Placed im addresses stored counts a.objects)
  pub answered : IfErr r (λ x. answer_of x ≢ 0)

-- the reply of document 01, by what was returned with a ledger and left in the list
abbrev pub with_ledger : List ℕ → Result Reply Refusal → AuditReply
with_ledger ws (Ok a) = record { number = 0; met = 0; block_count = a.block_count; objects = counted_of a.ledger; list = ws }
with_ledger ws (Err r) = refused_reply ws r

-- a ledger's objects have places, the count of each lies inside the image, and all other places are zeros
pub record LedgerPlaced (im : List ℕ) (l : Ledger) : Type 0 where
  pub fits : l.objects ≤ objects_most
  pub readable : Readable im l.addresses l.objects
  pub addresses_rest : ZerosFrom l.objects l.addresses
  pub stored_rest : ZerosFrom l.objects l.stored
  pub counts_rest : ZerosFrom l.objects l.true_counts

-- the reply is the definition's, with such a ledger, and no refusal has the answer 0
pub record AuditIs (im : List ℕ) (lent : ℕ) (ws : List ℕ) (r : Result Reply Refusal) : Type 0 where
  pub reply : with_ledger ws r ≡ audit im lent
  pub placed : IfOk r (λ a. LedgerPlaced im a.ledger)
  pub answered : IfErr r (λ x. answer_of x ≢ 0)
