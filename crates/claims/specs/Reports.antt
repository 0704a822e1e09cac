-- The damage report: "a separate report that names a damaged block by its address, so a lab can see it in a hex dump". What is said of every report, of
-- the library and of C.
use Rattle.std.specs.Prelude.{ℕ, ◌+◌, ◌*◌, ◌/◌, ◌≤◌, ◌<◌, true, false, List, [], ◌∷◌, ◌⊎◌, ◌≡◌, length, get_or}
use Rattle.format.specs.Bytes.{to_words, padded}
use Rattle.format.specs.Blocks.{Block, block, no_object, overlaps, room_of, block_list}
use Rattle.format.specs.declared.Refusal.{Refusal}
use Rattle.format.specs.Walk.{refused, run}
use Rattle.format.specs.Superblock.{Superblock, opened, not_opened, open_image}
use Rattle.format.specs.Audit.{Counted, audit_walk}
use Rattle.format.specs.Answers.{audit}
use Rattle.format.specs.Report.{ListedBlock, no_block, unopened_block, ReportReply, report, report_words, c_report}
use Rattle.laws.specs.Shown.{shown_by, AllSame}
use Rattle.links.specs.Fours.{ListHolds}
use Rattle.links.specs.Stopped.{StoppedSuperblock, StoppedObject}
use Rattle.demand.specs.Bytes.{IsBytes}
use Rattle.claims.specs.Zeros.{c_zeros}

-- the byte x lies in the block
abbrev pub InBlock : ListedBlock → ℕ → Type 0
InBlock b x = (b.address ≤ x) × (x < b.address + b.size)

-- the byte x lies in the k-th block of a list
abbrev pub InFour : List ℕ → ℕ → ℕ → Type 0
InFour ws k x = (get_or ws (4 * k) 0 ≤ x) × (x < get_or ws (4 * k) 0 + get_or ws (4 * k + 1) 0)

-- the k-th block of a list shares no byte with this one, or shares one
abbrev pub FourApart : List ℕ → ℕ → ListedBlock → Type 0
FourApart ws k b = overlaps (block (get_or ws (4 * k) 0) (get_or ws (4 * k + 1) 0)) b.address b.size ≡ false

abbrev pub FourMeets : List ℕ → ℕ → ListedBlock → Type 0
FourMeets ws k b = overlaps (block (get_or ws (4 * k) 0) (get_or ws (4 * k + 1) 0)) b.address b.size ≡ true

-- the block named stands in the list, and no other block of the list holds the place
pub record InList (r : ReportReply) : Type 0 where
  pub number : ℕ
  pub counted : number < r.block_count
  -- its four words
  pub address : get_or r.list (4 * number) 0 ≡ r.block.address
  pub size : get_or r.list (4 * number + 1) 0 ≡ r.block.size
  pub kind : get_or r.list (4 * number + 2) 0 ≡ r.block.kind
  pub object : get_or r.list (4 * number + 3) 0 ≡ r.block.object
  pub once : (k : ℕ) → k < r.block_count → InFour r.list k r.place → k ≡ number

-- a fault in an image that can be opened and whose next block wasn't refused: the place lies in the block named, which lies inside the image and stands
-- in the list
pub record FaultNamed (im : List ℕ) (r : ReportReply) : Type 0 where
  pub holds : InBlock r.block r.place
  pub inside : r.block.address + r.block.size ≤ length im
  pub listed : InList r

-- 2, 3 and 4 of an image that can't be opened: the superblock is named, with as many bytes as every image has
pub record SuperblockNamed (im : List ℕ) (n : ℕ) (r : ReportReply) : Type 0 where
  pub block : r.block ≡ unopened_block n
  pub holds : InBlock r.block r.place
  pub inside : r.block.address + r.block.size ≤ length im

-- with 6: the block met is the first of the list that shares a byte with the one named
pub record FirstOfList (r : ReportReply) : Type 0 where
  pub number : ℕ
  pub counted : number < r.block_count
  pub met : get_or r.list (4 * number) 0 ≡ r.met
  pub meets : FourMeets r.list number r.block
  pub first : (k : ℕ) → k < number → FourApart r.list k r.block

-- 5, 6 and 13: the block named is the one that can't be entered, with its address as the place
pub record EntryNamed (s : Superblock) (lent : ℕ) (r : ReportReply) : Type 0 where
  pub place : r.place ≡ r.block.address
  -- 5: its end lies above the end of file; that of no block of the list does
  pub outside : r.answer ≡ 5 → s.end_of_file < r.block.address + r.block.size
  pub list_inside : (k : ℕ) → k < r.block_count → get_or r.list (4 * k) 0 + get_or r.list (4 * k + 1) 0 ≤ s.end_of_file
  -- 6
  pub meets : r.answer ≡ 6 → FirstOfList r
  -- 13: there are as many blocks as there is room, and it shares no byte with one of them
  pub full : r.answer ≡ 13 → r.block_count ≡ room_of lent
  pub apart : r.answer ≡ 13 → (k : ℕ) → k < r.block_count → FourApart r.list k r.block

-- whose block is named, of a report whose answer isn't 0
pub record ObjectNamed (im : List ℕ) (lent : ℕ) (s : Superblock) : Type 0 where
  -- the refusal of the audit's walk and the blocks before it, which the list holds
  pub refusal : Refusal
  pub blocks : List Block
  pub walked : run im s.end_of_file (room_of lent) (audit_walk s) [] ≡ refused refusal blocks
  pub count : (report im lent).block_count ≡ length blocks
  pub list : ListHolds blocks (report im lent).list
  -- the superblock can't be entered, and has no object; or the walk of an object is refused, and the block named has its number
  pub object : (StoppedSuperblock s refusal blocks × ((report im lent).block.object ≡ no_object)) ⊎
      ((w : StoppedObject im (room_of lent) s refusal blocks) × ((report im lent).block.object ≡ w.number))

-- the answers to a fault in a block: none of 0, 1, 5, 6 and 13
abbrev pub InSomeBlock : ℕ → Type 0
InSomeBlock n = (n ≡ 0 → ⊥) × (n ≡ 1 → ⊥) × (n ≡ 5 → ⊥) × (n ≡ 6 → ⊥) × (n ≡ 13 → ⊥)

-- the answers to a block that can't be entered
abbrev pub AtEntry : ℕ → Type 0
AtEntry n = (n ≡ 5) ⊎ (n ≡ 6) ⊎ (n ≡ 13)

-- objects without their stored counts
unfoldable pub true_counts : List Counted → List Counted
true_counts [] = []
true_counts (o ∷ os) = record { address = o.address; stored_count = 0; true_count = o.true_count } ∷ true_counts os

-- a report without the stored counts, which no walk is shown
abbrev pub without_stored : ReportReply → ReportReply
without_stored r = record {
  answer = r.answer;
  block_count = r.block_count;
  place = r.place;
  block = r.block;
  met = r.met;
  objects = true_counts r.objects;
  list = r.list;
}

-- two images are opened alike and show the audit's walk the same
pub record ShowSame (im im' : List ℕ) (lent : ℕ) : Type 0 where
  pub openings : open_image im ≡ open_image im'
  pub walks : (s : Superblock) → open_image im ≡ opened s → AllSame im im' (shown_by im s.end_of_file (room_of lent) (audit_walk s) [])

-- the report of an accepted file, by the audit's reply
abbrev pub sound_report : List ℕ → ℕ → ReportReply
sound_report im lent = record {
  answer = 0;
  block_count = (audit im lent).block_count;
  place = 0;
  block = no_block;
  met = 0;
  objects = (audit im lent).objects;
  list = (audit im lent).list;
}

-- the report of an image whose length is out of range
abbrev pub length_report : ℕ → ReportReply
length_report lent = record { answer = 1; block_count = 0; place = 0; block = no_block; met = 0; objects = []; list = block_list lent [] }

pub record Reports : Type 0 where
  -- the answer and the block met are the audit's
  pub answers : (im : List ℕ) (lent : ℕ) → (report im lent).answer ≡ (audit im lent).number
  pub mets : (im : List ℕ) (lent : ℕ) → (report im lent).met ≡ (audit im lent).met
  pub sound : (im : List ℕ) (lent : ℕ) → (audit im lent).number ≡ 0 → report im lent ≡ sound_report im lent
  pub lengths : (im : List ℕ) (lent : ℕ) → (audit im lent).number ≡ 1 → report im lent ≡ length_report lent
  pub faults : (im : List ℕ) (lent : ℕ) (s : Superblock) → open_image im ≡ opened s → InSomeBlock (report im lent).answer → FaultNamed im (report im lent)
  pub unopened : (im : List ℕ) (lent n : ℕ) → open_image im ≡ not_opened n → InSomeBlock n → SuperblockNamed im n (report im lent)
  pub entries : (im : List ℕ) (lent : ℕ) (s : Superblock) → open_image im ≡ opened s → AtEntry (report im lent).answer →
      EntryNamed s lent (report im lent)
  pub objects : (im : List ℕ) (lent : ℕ) (s : Superblock) → open_image im ≡ opened s → ((audit im lent).number ≡ 0 → ⊥) → ObjectNamed im lent s
  pub agree : (im im' : List ℕ) (lent : ℕ) → ShowSame im im' lent → without_stored (report im lent) ≡ without_stored (report im' lent)
  -- in C: always made where the reply has its eight words, else 13 and zeros
  pub c_numbers : (im : List ℕ) (l r : ℕ) → 8 ≤ r / 8 → (c_report im l r).number ≡ 0
  pub c_short : (im : List ℕ) (l r : ℕ) → r / 8 < 8 → c_report im l r ≡ c_zeros l r 13
  -- the words that a caller reads from the bytes are the library's
  pub c_lists : (im : List ℕ) (l r : ℕ) → 8 ≤ r / 8 → to_words (l / 8) (c_report im l r).list ≡ (report im (l / 8)).list
  pub c_replies : (im : List ℕ) (l r : ℕ) → IsBytes im → 8 ≤ r / 8 →
      to_words (r / 8) (c_report im l r).reply ≡ padded (r / 8) (report_words (report im (l / 8)))
