-- The damage report: "a separate report that names a damaged block by its address, so a lab can see it in a hex dump". It is always made: the audit's
-- answer is a field of it, and the list and the fields are left also where that answer isn't 0.
use Rattle.std.specs.Prelude.{ℕ, ◌+◌, ◌/◌, List, [], ◌∷◌, Bool, ◌&&◌, length, leb, ltb, eqb, if◌then◌else◌}
use Rattle.format.specs.Limits.{image_least}
use Rattle.format.specs.Blocks.{Block, superblock_kind, no_object, owner_after, last_owner, block_list, room_of}
use Rattle.format.specs.declared.Refusal.{Refusal}
use Rattle.format.specs.declared.Refusal.TheVariants.{Fault, NotEntered}
use Rattle.format.specs.Walk.{Outcome, done, refused, run, answer_of, met_of}
use Rattle.format.specs.Superblock.{Opening, opened, not_opened, open_image}
use Rattle.format.specs.Ledger.{Linked}
use Rattle.format.specs.Audit.{Counted, counted_in, audit_walk}
use Rattle.format.specs.Front.{CReply, short_reply, padded_bytes}

-- a block as the list has it: its four words
pub record ListedBlock : Type 0 where
  pub address : ℕ
  pub size : ℕ
  pub kind : ℕ
  pub object : ℕ

abbrev pub listed_block : ℕ → ℕ → ℕ → ℕ → ListedBlock
listed_block a n v o = record { address = a; size = n; kind = v; object = o }

-- where there is no block to name: zeros, of no kind
abbrev pub no_block : ListedBlock
no_block = listed_block 0 0 0 0

-- the byte x of the image lies in the block
unfoldable pub holds_byte : Block → ℕ → Bool
holds_byte b x = leb b.at x && ltb x (b.at + b.size)

-- the block in which the byte x lies, where o is the object of the block before these. Blocks share no byte, so that there is one at most
unfoldable pub holding : ℕ → List Block → ℕ → ListedBlock
holding o [] x = no_block
holding o (b ∷ bs) x =
    let p = owner_after o b.kind in
    let rest = holding p bs x in
    if holds_byte b x then listed_block b.at b.size b.kind p else rest

-- The damaged block: the one in which the place of the fault lies; or the one that can't be entered, as it is pointed to, with the object whose walk
-- wants it
abbrev pub damaged : List Block → Refusal → ListedBlock
damaged bs (Fault n at) = holding no_object bs at
damaged bs (NotEntered n kind a size met) = listed_block a size kind (owner_after (last_owner no_object bs) kind)

-- the place of the fault, or the address of the block that can't be entered
abbrev pub damage_place : Refusal → ℕ
damage_place (Fault n at) = at
damage_place (NotEntered n kind a size met) = a

pub record ReportReply : Type 0 where
  -- the audit's answer
  pub answer : ℕ
  -- how many blocks were entered: all, or those before the fault
  pub block_count : ℕ
  pub place : ℕ
  pub block : ListedBlock
  -- with answer 6 the address of the first block entered that the damaged one meets
  pub met : ℕ
  -- those of a file that the audit accepts
  pub objects : List Counted
  pub list : List ℕ

abbrev pub report_end : List ℕ → ℕ → Outcome (List Linked) → ReportReply
report_end im lent (done os bs) =
    record { answer = 0; block_count = length bs; place = 0; block = no_block; met = 0; objects = counted_in im os; list = block_list lent bs }
report_end im lent (refused r bs) = record {
  answer = answer_of r;
  block_count = length bs;
  place = damage_place r;
  block = damaged bs r;
  met = met_of r;
  objects = [];
  list = block_list lent bs;
}

-- what an image that can't be opened is damaged in: with 1 there is no block to name; 2, 3 and 4 are met in the superblock, of which so much is there
abbrev pub unopened_block : ℕ → ListedBlock
unopened_block n = if eqb n 1 then no_block else listed_block 0 image_least superblock_kind no_object

abbrev pub unopened : ℕ → ℕ → ReportReply
unopened lent n =
    record { answer = n; block_count = 0; place = 0; block = unopened_block n; met = 0; objects = []; list = block_list lent [] }

abbrev pub report_opened : List ℕ → ℕ → Opening → ReportReply
report_opened im lent (opened s) = report_end im lent (run im s.end_of_file (room_of lent) (audit_walk s) [])
report_opened im lent (not_opened n) = unopened lent n

-- an image, and the number of words lent for the block list
unfoldable pub report : List ℕ → ℕ → ReportReply
report im lent = report_opened im lent (open_image im)

-- the words of a report in C: answer, block count, place, the block's four words, the block met
abbrev pub report_words : ReportReply → List ℕ
report_words r =
    r.answer ∷ r.block_count ∷ r.place ∷ r.block.address ∷ r.block.size ∷ r.block.kind ∷ r.block.object ∷ r.met ∷ []

abbrev pub c_report_end : ℕ → ℕ → ReportReply → CReply
c_report_end l r p = record { number = 0; list = padded_bytes l p.list; reply = padded_bytes r (report_words p) }

-- slices of l and r bytes for the list and the reply: the report is always made and the number 0, but "under" 8 "words gives 13 first"
unfoldable pub c_report : List ℕ → ℕ → ℕ → CReply
c_report im l r =
    let p = c_report_end l r (report im (l / 8)) in
    if leb 8 (r / 8) then p else short_reply l r
