-- What the report returns and leaves, as the definition's reply.
use Rattle.std.specs.Prelude.{ℕ, ◌≤◌, ◌<◌, List, [], ◌≡◌, replicate}
use Rattle.format.specs.Limits.{objects_most}
use Rattle.format.specs.Blocks.{Block}
use Rattle.format.specs.declared.Refusal.{Refusal}
use Rattle.format.specs.Walk.{answer_of, met_of, run}
use Rattle.format.specs.Audit.{audit_walk}
use Rattle.format.specs.Report.{ListedBlock, damaged, damage_place, unopened_block, ReportReply, report_end, report}
use Rattle.superblock.specs.Superblock.{superblock_of}
use Rattle.superblock.specs.declared.Superblock.{Superblock}
use Rattle.ledger.specs.Report.{counted_places, counted_of, Empty, Copied}
use Rattle.ledger.specs.declared.report.Ledger.{Ledger}
use Rattle.audit.specs.Audit.{ZerosFrom}
use Rattle.damaged_block.specs.Block.{listed_of}
use Rattle.report.specs.declared.Reported.{Reported}
use Rattle.report.specs.declared.Reply.{Reply}

-- what is returned, with the definition's block
pub record Fields : Type 0 where
  pub answer : ℕ
  pub block_count : ℕ
  pub place : ℕ
  pub block : ListedBlock
  pub met : ℕ
  pub objects : ℕ

abbrev pub fields_of : Reported → Fields
fields_of r = record {
  answer = r.answer;
  block_count = r.block_count;
  place = r.place;
  block = listed_of r.block;
  met = r.met;
  objects = r.objects;
}

abbrev pub unopened_fields : ℕ → Fields
unopened_fields n = record { answer = n; block_count = 0; place = 0; block = unopened_block n; met = 0; objects = 0 }

abbrev pub refused_fields : ℕ → List Block → Refusal → Fields
refused_fields count bs r =
    record { answer = answer_of r; block_count = count; place = damage_place r; block = damaged bs r; met = met_of r; objects = 0 }

-- the definition's reply, by what was returned and left
abbrev pub reply_of : List ℕ → List ℕ → List ℕ → List ℕ → Fields → ReportReply
reply_of ws addresses stored counts f = record {
  answer = f.answer;
  block_count = f.block_count;
  place = f.place;
  block = f.block;
  met = f.met;
  objects = counted_places f.objects addresses stored counts;
  list = ws;
}

-- The reply is this one, and its objects have places. Where there are objects, all other counts are zeros; no reply shows what a refusal leaves
-- there, nor what stands behind the addresses.
pub record Replies (expected : ReportReply) (ws addresses stored counts : List ℕ) (r : Reported) : Type 0 where
  pub reply : reply_of ws addresses stored counts (fields_of r) ≡ expected
  pub fits : r.objects ≤ objects_most
  pub stored_rest : 0 < r.objects → ZerosFrom r.objects stored
  pub counts_rest : 0 < r.objects → ZerosFrom r.objects counts

-- of an image with this superblock and room for so many blocks, and of any image
abbrev pub ReportedOpened : List ℕ → ℕ → ℕ → Superblock → List ℕ → List ℕ → List ℕ → List ℕ → Reported → Type 0
ReportedOpened im room lent s ws addresses stored counts r =
    Replies (report_end im lent (run im s.end_of_file room (audit_walk (superblock_of s)) [])) ws addresses stored counts r

abbrev pub ReportedIs : List ℕ → ℕ → List ℕ → List ℕ → List ℕ → List ℕ → Reported → Type 0
ReportedIs im lent ws addresses stored counts r = Replies (report im lent) ws addresses stored counts r

-- the definition's reply, by what was returned with a ledger and left in the list
abbrev pub with_ledger : List ℕ → Reply → ReportReply
with_ledger ws r = record {
  answer = r.answer;
  block_count = r.block_count;
  place = r.place;
  block = listed_of r.block;
  met = r.met;
  objects = counted_of r.ledger;
  list = ws;
}

-- the reply is the definition's, its objects have places, and all other places are zeros
pub record ReportIs (im : List ℕ) (lent : ℕ) (ws : List ℕ) (r : Reply) : Type 0 where
  pub reply : with_ledger ws r ≡ report im lent
  pub fits : r.ledger.objects ≤ objects_most
  pub addresses_rest : ZerosFrom r.ledger.objects r.ledger.addresses
  pub stored_rest : ZerosFrom r.ledger.objects r.ledger.stored
  pub counts_rest : ZerosFrom r.ledger.objects r.ledger.true_counts

-- what is reported, with a ledger
abbrev pub reply_with : Reported → Ledger → Reply
reply_with r l = record { answer = r.answer; block_count = r.block_count; place = r.place; block = r.block; met = r.met; ledger = l }

-- a ledger of the objects whose addresses stand at the head of a table, and an empty one where there is none
pub record LedgerOf (objects : ℕ) (table stored counts : List ℕ) (l : Ledger) : Type 0 where
  pub none : objects ≡ 0 → Empty l
  pub filled : 0 < objects → l ≡ record { objects = objects; addresses = l.addresses; stored = stored; true_counts = counts }
  pub copied : 0 < objects → Copied table (replicate objects_most 0) objects l.addresses
