-- Which block a damage report names: files E, H and C with bytes changed, and the file of which a part of the dataset's header is continued. The comment
-- above a row says what was changed; `Damaged` says where the blocks of these files are.
use Rattle.std.specs.Prelude.{ℕ, List, [], ◌∷◌, ◌++◌, set, take}
use Rattle.format.specs.Bytes.{padded}
use Rattle.format.specs.Blocks.{no_object}
use Rattle.format.specs.Front.{object_words, padded_bytes}
use Rattle.format.specs.Report.{ReportReply, report, report_words, c_report}
use Rattle.cases.specs.Files.{zeros, file_e, file_continued}
use Rattle.cases.specs.Table.{Case, ◌is◌, sized, four, in_c, blocks_h, sound_h, wrong_h, begin_c, sharing_c}
use Rattle.cases.specs.Table.{root_in_superblock, segment_in_header, data_in_two}

-- a report as one list of numbers: its fields in order, each list with its length
abbrev pub reported : ReportReply → List ℕ
reported r = (report_words r ++ sized (object_words r.objects)) ++ sized r.list

-- the report of a damaged file: answer, block count, place, the block named, the block met; and of 32 words lent the blocks entered
abbrev pub named : (answer count place : ℕ) → (block : List ℕ) → (met : ℕ) → (blocks : List ℕ) → List ℕ
named answer count place block met blocks = ((answer ∷ count ∷ place ∷ []) ++ block ++ (met ∷ sized [])) ++ sized (padded 32 blocks)

-- the blocks of the file whose header is continued
abbrev pub blocks_continued : List ℕ
blocks_continued = take 24 blocks_h ++ four 1128 64 2 1 ++ four 1192 56 3 1

unfoldable pub report_table : List Case
report_table =
    -- H, whose dataset stores the count 1: the audit's objects and blocks, and no block is named
    (reported (report wrong_h 32) is (0 ∷ 8 ∷ (zeros 6 ++ sized (96 ∷ 1 ∷ 1 ∷ 1128 ∷ 1 ∷ 2 ∷ []))) ++ sized blocks_h) ∷
    -- 95 bytes: no block; the signature: the superblock
    (reported (report (take 95 sound_h) 32) is named 1 0 0 (zeros 4) 0 []) ∷
    (reported (report (set sound_h 0 0) 32) is named 2 0 0 (four 0 96 1 no_object) 0 []) ∷
    -- end of file is one byte before the segment's
    (reported (report (file_e 799) 32) is named 5 3 712 (four 712 88 5 0) 0 (take 12 blocks_h)) ∷
    -- the tree node's signature; the first entry's name; the dataspace's rank; the number of messages
    (reported (report (set sound_h 136 0) 32) is named 7 5 136 (four 136 544 6 0) 0 (take 20 blocks_h)) ∷
    (reported (report (set sound_h 808 255) 32) is named 9 6 808 (four 800 328 7 0) 0 (take 24 blocks_h)) ∷
    (reported (report (set sound_h 1153 33) 32) is named 11 7 1144 (four 1128 96 2 1) 0 (take 28 blocks_h)) ∷
    (reported (report (set sound_h 1130 4) 32) is named 10 7 1128 (four 1128 96 2 1) 0 (take 28 blocks_h)) ∷
    -- the root's header in the superblock; the segment in the root's header; the data in two blocks
    (reported (report root_in_superblock 32) is named 6 1 0 (four 0 16 2 0) 0 (take 4 blocks_h)) ∷
    (reported (report segment_in_header 32) is named 6 3 130 (four 130 88 5 0) 96 (take 12 blocks_h)) ∷
    (reported (report data_in_two 32) is named 6 7 799 (four 799 4 8 1) 712 (take 28 blocks_h)) ∷
    -- room for 7 blocks
    (reported (report sound_h 28) is (13 ∷ 7 ∷ 1224 ∷ (four 1224 4 8 1 ++ (0 ∷ sized []))) ++ sized (take 28 blocks_h)) ∷
    -- the dataspace stands in the header, the datatype in the continuation, which is entered last
    (reported (report (set file_continued 1153 33) 32) is named 11 8 1144 (four 1128 64 2 1) 0 blocks_continued) ∷
    (reported (report (set file_continued 1204 0) 32) is named 11 8 1192 (four 1192 56 3 1) 0 blocks_continued) ∷
    -- an attribute whose datatype has 9 bytes; "d", which is shared and is no committed datatype
    (reported (report (set sharing_c 148 9) 32) is named 10 2 136 (four 96 80 2 0) 0 (take 8 begin_c)) ∷
    (reported (report (set sharing_c 156 144) 32) is named 10 7 1168 (four 1168 88 2 1) 0 (begin_c ++ four 1168 88 2 1)) ∷
    -- in C: the number is 0 with eight words for the reply; with seven it is 13, and zeros
    (in_c (c_report (set sound_h 808 255) 256 71) is in_c (record {
      number = 0;
      list = padded_bytes 256 (take 24 blocks_h);
      reply = padded_bytes 71 ((9 ∷ 6 ∷ 808 ∷ four 800 328 7 0) ++ (0 ∷ []));
    })) ∷
    (in_c (c_report (set sound_h 808 255) 256 63) is in_c (record { number = 13; list = zeros 256; reply = zeros 63 })) ∷
    []
