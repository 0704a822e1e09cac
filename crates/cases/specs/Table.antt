-- The starred small files of document 01 as one table: in each row a call of the definitions, and the whole reply that 01 gives to it.
-- The comment above a row is the sentence of 01, or of an item of document 02. The last rows are about file C, which has sharings.
use Rattle.std.specs.Prelude.{ℕ, ◌+◌, ◌*◌, List, [], ◌∷◌, ◌++◌, length, set}
use Rattle.format.specs.Limits.{objects_most}
use Rattle.format.specs.Bytes.{padded}
use Rattle.format.specs.Blocks.{no_object}
use Rattle.format.specs.Audit.{Counted}
use Rattle.format.specs.Answers.{AuditReply, LookupReply, DescribeReply, MendReply, UndoReply, audit, lookup, describe, mend, undo}
use Rattle.format.specs.Front.{CReply, CMend, object_words, c_audit, c_lookup, c_describe, c_mend}
use Rattle.format.specs.Command.{command}
use Rattle.cases.specs.Files.{ascii, zeros, file_e, file_h, name_a, name_b, file_c}

-- a list with its length before it
abbrev pub sized : List ℕ → List ℕ
sized ws = length ws ∷ ws

-- A reply as one list of numbers: its fields in order, each list with its length. So two replies that differ give two lists that differ.
abbrev pub audited : AuditReply → List ℕ
audited r = (r.number ∷ r.met ∷ r.block_count ∷ sized (object_words r.objects)) ++ sized r.list

abbrev pub found : LookupReply → List ℕ
found r = r.number ∷ r.met ∷ r.kind ∷ r.address ∷ r.block_count ∷ sized r.list

abbrev pub described : DescribeReply → List ℕ
described r =
    (r.number ∷ r.met ∷ r.block_count ∷ r.rank ∷ sized r.sizes) ++ sized r.maxima ++
    (r.class ∷ r.version ∷ r.bits ∷ r.size ∷ r.shared ∷ r.layout_class ∷ r.data_address ∷ r.data_size ∷ sized r.list)

abbrev pub mended : MendReply → List ℕ
mended r = (r.number ∷ r.met ∷ r.block_count ∷ r.entries ∷ r.writes ∷ sized r.list) ++ sized r.log ++ sized r.image

abbrev pub reverted : UndoReply → List ℕ
reverted r = r.number ∷ r.writes ∷ sized r.image

abbrev pub in_c : CReply → List ℕ
in_c r = r.number ∷ (sized r.list ++ sized r.reply)

abbrev pub mended_in_c : CMend → List ℕ
mended_in_c r = r.number ∷ (sized r.list ++ sized r.log ++ sized r.reply ++ sized r.image)

-- the bytes of an audit's reply in C: "C's 770 words become 3,074"
abbrev pub audit_reply : ℕ
audit_reply = 8 * (2 + 3 * objects_most)

-- a row: the reply of the definitions, and the reply of document 01
pub record Case : Type 0 where
  pub actual : List ℕ
  pub expected : List ℕ

infix 5 ◌is◌
abbrev pub ◌is◌ : List ℕ → List ℕ → Case
a is e = record { actual = a; expected = e }

-- an audit with answer 0
abbrev pub audit_done : (block_count : ℕ) → List Counted → (list : List ℕ) → List ℕ
audit_done n objects list = audited (record { number = 0; met = 0; block_count = n; objects = objects; list = list })

abbrev pub counted : (address stored_count true_count : ℕ) → Counted
counted a s t = record { address = a; stored_count = s; true_count = t }

-- an audit with another answer, so many words being lent: "Any number but 0 returns zeros in every other field, zero-fills every list lent
-- for writing"
abbrev pub audit_refused : (number lent : ℕ) → List ℕ
audit_refused n lent = audited (record { number = n; met = 0; block_count = 0; objects = []; list = zeros lent })

-- "Answer 6 now also returns the address of the first block entered that it meets": of each call
abbrev pub audit_met : (met lent : ℕ) → List ℕ
audit_met met lent = audited (record { number = 6; met = met; block_count = 0; objects = []; list = zeros lent })

abbrev pub lookup_met : (met lent : ℕ) → List ℕ
lookup_met met lent = found (record { number = 6; met = met; kind = 0; address = 0; block_count = 0; list = zeros lent })

abbrev pub describe_met : (met lent : ℕ) → List ℕ
describe_met met lent = described (record {
  number = 6;
  met = met;
  block_count = 0;
  rank = 0;
  sizes = zeros 32;
  maxima = zeros 32;
  class = 0;
  version = 0;
  bits = 0;
  size = 0;
  shared = 0;
  layout_class = 0;
  data_address = 0;
  data_size = 0;
  list = zeros lent;
})

abbrev pub mend_met : (image : List ℕ) → (met lent log_lent : ℕ) → List ℕ
mend_met image met lent log_lent =
    mended (record { number = 6; met = met; block_count = 0; entries = 0; writes = 0; list = zeros lent; log = zeros log_lent; image = image })

-- a lookup that finds a dataset, kind 2; "At lookup's end the list is all zeros and the block count 0."
abbrev pub dataset_found : (address lent : ℕ) → List ℕ
dataset_found a lent = found (record { number = 0; met = 0; kind = 2; address = a; block_count = 0; list = zeros lent })

abbrev pub lookup_refused : (number lent : ℕ) → List ℕ
lookup_refused n lent = found (record { number = n; met = 0; kind = 0; address = 0; block_count = 0; list = zeros lent })

-- "four words: address, length, kind .. and the number of the object it was walked for"
abbrev pub four : (address length kind object : ℕ) → List ℕ
four a n v o = a ∷ n ∷ v ∷ o ∷ []

-- E's "Blocks in order: 0/96, 96/40, 680/32, 712/88, 136/544", with their kinds, the root's but for the superblock
abbrev pub blocks_e : List ℕ
blocks_e = four 0 96 1 no_object ++ four 96 40 2 0 ++ four 680 32 4 0 ++ four 712 88 5 0 ++ four 136 544 6 0

-- H's "8 blocks": after those of E the symbol table node, the dataset's header and its data
abbrev pub blocks_h : List ℕ
blocks_h = blocks_e ++ four 800 328 7 0 ++ four 1128 96 2 1 ++ four 1224 4 8 1

-- H with the names in order and the dataset's stored count: the true one, 2, and a wrong one
abbrev pub sound_h : List ℕ
sound_h = file_h name_a name_b 2

abbrev pub wrong_h : List ℕ
wrong_h = file_h name_a name_b 1

-- the command's output for H with its stored count of 1
abbrev pub output_h : List ℕ
output_h =
    ascii "0000000000000002\n" ++
    ascii "00000000000000600000000100000001\n" ++
    ascii "00000000000004680000000100000002\n"

-- C, and the blocks that its audit enters
abbrev pub sharing_c : List ℕ
sharing_c = file_c []

abbrev pub begin_c : List ℕ
begin_c = four 0 96 1 no_object ++ four 96 80 2 0 ++ four 720 32 4 0 ++ four 752 88 5 0 ++ four 176 544 6 0 ++ four 840 328 7 0

abbrev pub blocks_c : List ℕ
blocks_c = begin_c ++ four 1256 40 2 1 ++ four 1168 88 2 2

-- the same where the attribute shares nothing: "d" comes before "t"
abbrev pub blocks_unshared : List ℕ
blocks_unshared = begin_c ++ four 1168 88 2 1 ++ four 1256 40 2 2

-- the command's output for C
abbrev pub output_c : List ℕ
output_c =
    ascii "0000000000000003\n" ++
    ascii "00000000000000600000000100000001\n" ++
    ascii "00000000000004e80000000100000003\n" ++
    ascii "00000000000004900000000100000001\n"

-- C with the shared flag on the message of the committed datatype "t"
abbrev pub flagged_c : List ℕ
flagged_c = set sharing_c 1276 2

-- H with its root's header said to be at 0, in the superblock; with its heap's segment said to be at 130, in the root's header; and with its data
-- said to be at 799, in the segment and in the symbol table node behind that
abbrev pub root_in_superblock : List ℕ
root_in_superblock = set sound_h 64 0

abbrev pub segment_in_header : List ℕ
segment_in_header = set (set sound_h 704 130) 705 0

abbrev pub data_in_two : List ℕ
data_in_two = set (set sound_h 1202 31) 1203 3

-- undo of all that a mender did
abbrev pub undo_all : MendReply → UndoReply
undo_all m = undo m.image m.log m.entries m.entries

-- E is lent 23 words at first, so that three stay zero, and H and C are lent 32, the words of their 8 blocks.
unfoldable pub table : List Case
table =
    -- E: Blocks in order: 0/96, 96/40, 680/32, 712/88, 136/544. One object, true count 1.
    (audited (audit (file_e 800) 23) is audit_done 5 (counted 96 1 1 ∷ []) (blocks_e ++ zeros 3)) ∷
    -- E with room for 5 pairs is 0; "Room and document 01's pairs are counted in fours"
    (audited (audit (file_e 800) 20) is audit_done 5 (counted 96 1 1 ∷ []) blocks_e) ∷
    -- 4 pairs is 13
    (audited (audit (file_e 800) 19) is audit_refused 13 19) ∷
    -- End of file 799 is 5
    (audited (audit (file_e 799) 20) is audit_refused 5 20) ∷
    -- 801 is 4
    (audited (audit (file_e 801) 20) is audit_refused 4 20) ∷
    -- H: .. 8 blocks, true count 2
    (audited (audit sound_h 32) is audit_done 8 (counted 96 1 1 ∷ counted 1128 2 2 ∷ []) blocks_h) ∷
    -- Stored 1
    (audited (audit wrong_h 32) is audit_done 8 (counted 96 1 1 ∷ counted 1128 1 2 ∷ []) blocks_h) ∷
    -- gives the log 1132, 4294967298 (two words lent for the log, a write limit of 1; the true count is written)
    (mended (mend wrong_h 32 2 1) is mended (record {
      number = 0;
      met = 0;
      block_count = 8;
      entries = 1;
      writes = 1;
      list = blocks_h;
      log = 1132 ∷ 4294967298 ∷ [];
      image = sound_h;
    })) ∷
    -- then the old counts of the last n entries, or of all .., are written (H is as it was before the mender)
    (reverted (undo_all (mend wrong_h 32 2 1)) is reverted (record { number = 0; writes = 1; image = wrong_h })) ∷
    -- and the output
    (command wrong_h is output_h) ∷
    -- "/a" and "/b" in H both give 1128
    (found (lookup sound_h (ascii "/a") 32) is dataset_found 1128 32) ∷
    (found (lookup sound_h (ascii "/b") 32) is dataset_found 1128 32) ∷
    -- "/c" is 15
    (found (lookup sound_h (ascii "/c") 32) is lookup_refused 15 32) ∷
    -- "/a/b" is 17
    (found (lookup sound_h (ascii "/a/b") 32) is lookup_refused 17 32) ∷
    -- "/a/" is 14
    (found (lookup sound_h (ascii "/a/") 32) is lookup_refused 14 32) ∷
    -- Description looks up .., then reads the dataset's messages on the header's list, enters its data and leaves that list.
    (described (describe sound_h (ascii "/a") 27) is described (record {
      number = 0;
      met = 0;
      block_count = 3;
      rank = 1;
      sizes = 4 ∷ zeros 31;
      maxima = 4 ∷ zeros 31;
      class = 0;
      version = 1;
      bits = 0;
      size = 1;
      shared = 0;
      layout_class = 1;
      data_address = 1224;
      data_size = 4;
      list = four 0 96 1 no_object ++ four 1128 96 2 0 ++ four 1224 4 8 0 ++ zeros 15;
    })) ∷
    -- the same with 23 words, which are 5 fours: the group of the first component needs 6
    (described (describe sound_h (ascii "/a") 23) is described (record {
      number = 13;
      met = 0;
      block_count = 0;
      rank = 0;
      sizes = zeros 32;
      maxima = zeros 32;
      class = 0;
      version = 0;
      bits = 0;
      size = 0;
      shared = 0;
      layout_class = 0;
      data_address = 0;
      data_size = 0;
      list = zeros 23;
    })) ∷
    -- Answer 6 now also returns the address of the first block entered that it meets (the superblock, at 0)
    (audited (audit root_in_superblock 32) is audit_met 0 32) ∷
    -- (the root's header, from each call)
    (audited (audit segment_in_header 32) is audit_met 96 32) ∷
    (found (lookup segment_in_header (ascii "/a") 32) is lookup_met 96 32) ∷
    (described (describe segment_in_header (ascii "/a") 32) is describe_met 96 32) ∷
    (mended (mend segment_in_header 32 2 1) is mend_met segment_in_header 96 32 2) ∷
    -- in C the first word
    (in_c (c_audit segment_in_header 256 audit_reply) is in_c (record { number = 6; list = zeros 256; reply = padded audit_reply (0x60 ∷ []) })) ∷
    (in_c (c_lookup segment_in_header (ascii "/a") 256 24) is in_c (record { number = 6; list = zeros 256; reply = 0x60 ∷ zeros 23 })) ∷
    (in_c (c_describe segment_in_header (ascii "/a") 256 592) is in_c (record { number = 6; list = zeros 256; reply = 0x60 ∷ zeros 591 })) ∷
    (mended_in_c (c_mend segment_in_header 256 16 24 1) is mended_in_c (record {
      number = 6;
      list = zeros 256;
      log = zeros 16;
      reply = 0x60 ∷ zeros 23;
      image = segment_in_header;
    })) ∷
    -- (of the two that the data meets, the segment was entered before)
    (audited (audit data_in_two 32) is audit_met 712 32) ∷
    -- Names "b", "a" in that order: 8.
    (audited (audit (file_h name_b name_a 2) 32) is audit_refused 8 32) ∷
    -- "true count is now hard links plus such sharings"; an attribute's address is discovered "with its header's messages" (C: "t" has one name and two
    -- sharings, and is the second object, before "d")
    (audited (audit sharing_c 32) is audit_done 8 (counted 96 1 1 ∷ counted 1256 1 3 ∷ counted 1168 1 1 ∷ []) blocks_c) ∷
    -- gives the log 1260, 4294967299 (room for one entry, a write limit of 1)
    (mended (mend sharing_c 32 2 1) is mended (record {
      number = 0;
      met = 0;
      block_count = 8;
      entries = 1;
      writes = 1;
      list = blocks_c;
      log = 1260 ∷ 4294967299 ∷ [];
      image = set sharing_c 1260 3;
    })) ∷
    -- and the output
    (command sharing_c is output_c) ∷
    -- each attribute whose flags say so (flags 0: only "d" shares "t", which is found by its name, behind "d")
    (audited (audit (set sharing_c 145 0) 32) is audit_done 8 (counted 96 1 1 ∷ counted 1168 1 1 ∷ counted 1256 1 2 ∷ []) blocks_unshared) ∷
    -- Only the audit reads attribute messages, of versions 1 to 3 (version 4)
    (audited (audit (set sharing_c 144 4) 32) is audit_refused 3 32) ∷
    (found (lookup (set sharing_c 144 4) (ascii "/d") 32) is dataset_found 1168 32) ∷
    -- as does a shared flag on a committed datatype's own message (it gives 10, also for a lookup of it and through it)
    (audited (audit flagged_c 32) is audit_refused 10 32) ∷
    (found (lookup flagged_c (ascii "/t") 32) is lookup_refused 10 32) ∷
    (found (lookup flagged_c (ascii "/t/x") 32) is lookup_refused 10 32) ∷
    -- "/d" is still found
    (found (lookup flagged_c (ascii "/d") 32) is dataset_found 1168 32) ∷
    []
