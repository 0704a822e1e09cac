-- Where faults are met: files E and H of document 01 and file C with one or two bytes changed, so that each kind of place and each kind of block is
-- named. The comment above a row says what was changed. In H the superblock is at 0, the root's header at 96, its tree node at 136, its heap at 680
-- with the segment at 712, its symbol table node at 800, the dataset's header at 1128 and the data at 1224. In C the root's header is at 96 with its
-- attribute message at 136, whose body is at 144 and whose shared part is at 154; the header of "d" is at 1168 with its messages at 1184, 1200 and
-- 1224, that of "t" at 1256.
use Rattle.std.specs.Prelude.{ℕ, List, [], ◌∷◌, set, take}
use Rattle.format.specs.declared.Refusal.TheVariants.{Fault, NotEntered}
use Rattle.format.specs.Walk.{Outcome, done, refused}
use Rattle.format.specs.Audit.{audit_run}
use Rattle.format.specs.Lookup.{lookup_run}
use Rattle.format.specs.Describe.{describe_run}
use Rattle.cases.specs.Files.{ascii, message, file_e, file_continued, file_c}
use Rattle.cases.specs.Table.{Case, ◌is◌, sound_h, sharing_c, flagged_c}

-- the answer, and the place of the fault
abbrev pub fault : (number place : ℕ) → List ℕ
fault number place = number ∷ place ∷ []

-- the answer; kind, address and length of the block that can't be entered; the block that it meets
abbrev pub not_entered : (number kind at size met : ℕ) → List ℕ
not_entered number kind at size met = number ∷ kind ∷ at ∷ size ∷ met ∷ []

-- how a run was refused, as one list of numbers; none if it was done
abbrev pub refusal : {A : Type 0} → Outcome A → List ℕ
refusal (done a bs) = []
refusal (refused (Fault number place) bs) = fault number place
refusal (refused (NotEntered number kind at size met) bs) = not_entered number kind at size met

-- the refusal of the audit of an image, 1,024 blocks being lent
abbrev pub audited : List ℕ → List ℕ
audited im = refusal (audit_run im 4096)

-- H with this byte at this place
abbrev pub damaged : (place byte : ℕ) → List ℕ
damaged place byte = audited (set sound_h place byte)

-- H with two bytes changed
abbrev pub damaged_twice : (place byte place' byte' : ℕ) → List ℕ
damaged_twice place byte place' byte' = audited (set (set sound_h place byte) place' byte')

-- the file of which a part of the dataset's header is continued, with this byte at this place
abbrev pub continued : (place byte : ℕ) → List ℕ
continued place byte = audited (set file_continued place byte)

-- C with this byte at this place, and with two bytes changed
abbrev pub sharing : (place byte : ℕ) → List ℕ
sharing place byte = audited (set sharing_c place byte)

abbrev pub sharing_twice : (place byte place' byte' : ℕ) → List ℕ
sharing_twice place byte place' byte' = audited (set (set sharing_c place byte) place' byte')

unfoldable pub damaged_table : List Case
damaged_table =
    -- 95 bytes are too few
    (audited (take 95 sound_h) is fault 1 0) ∷
    -- the signature
    (damaged 0 0 is fault 2 0) ∷
    -- offsets of 4 bytes
    (damaged 13 4 is fault 3 0) ∷
    -- K of leaves is 0
    (damaged 16 0 is fault 4 0) ∷
    -- the root's header is said to be at 0, in the superblock
    (damaged 64 0 is not_entered 6 2 0 16 0) ∷
    -- the root's header: its version, and its first message's type
    (damaged 96 2 is fault 3 96) ∷
    (damaged 112 2 is fault 3 112) ∷
    -- the heap's signature, a segment of 7 bytes, and a free block at 87 of 88
    (damaged 680 0 is fault 7 680) ∷
    (damaged 688 7 is fault 9 680) ∷
    (damaged 696 87 is fault 9 712) ∷
    -- the segment is said to be at 130, in the root's header
    (damaged_twice 704 130 705 0 is not_entered 6 5 130 88 96) ∷
    -- end of file is one byte before the segment's
    (audited (file_e 799) is not_entered 5 5 712 88 0) ∷
    -- the tree node: its signature, its type; an empty root of level 1
    (damaged 136 0 is fault 7 136) ∷
    (damaged 140 1 is fault 8 136) ∷
    (audited (set (file_e 800) 141 1) is fault 8 136) ∷
    -- the root has level 1, and its child would be a tree node
    (damaged 141 1 is not_entered 5 6 800 544 0) ∷
    -- the first key, and the second, behind the segment
    (damaged 160 88 is fault 9 160) ∷
    (damaged 176 88 is fault 9 176) ∷
    -- the symbol table node: its signature, and nine entries
    (damaged 800 0 is fault 7 800) ∷
    (damaged 806 9 is fault 8 800) ∷
    -- the first entry's name lies behind the segment
    (damaged 808 255 is fault 9 808) ∷
    -- the second entry: its name is the first one's; its type; its link value lies in the free block
    (damaged 848 8 is fault 8 848) ∷
    (damaged 864 3 is fault 8 848) ∷
    (damaged_twice 864 2 872 30 is fault 9 848) ∷
    -- the second entry leads to a header behind the end of file: 16 bytes of it are known
    (damaged 857 5 is not_entered 5 2 1384 16 0) ∷
    -- the dataset's header: its version, the number of its messages, no dataspace among them, and 8 bytes more than there are
    (damaged 1128 2 is fault 3 1128) ∷
    (damaged 1130 4 is fault 10 1128) ∷
    (damaged 1144 0 is fault 10 1128) ∷
    (damaged 1136 88 is not_entered 5 2 1128 104 0) ∷
    -- the second message: its type, and its size
    (damaged 1168 2 is fault 3 1168) ∷
    (damaged 1170 12 is fault 10 1168) ∷
    -- the dataspace's version and rank, the datatype's size, the layout's version
    (damaged 1152 0 is fault 3 1144) ∷
    (damaged 1153 33 is fault 11 1144) ∷
    (damaged 1180 0 is fault 11 1168) ∷
    (damaged 1200 2 is fault 3 1192) ∷
    -- 5 elements of 1 byte in 4 bytes: the layout message is at fault
    (damaged 1160 5 is fault 11 1192) ∷
    -- the data begins behind the end of file; in the symbol table node; in the segment's last byte, before that node
    (damaged 1203 5 is not_entered 5 8 1480 4 0) ∷
    (damaged 1203 3 is not_entered 6 8 968 4 800) ∷
    (damaged_twice 1202 31 1203 3 is not_entered 6 8 799 4 712) ∷
    -- H itself with room for 7 blocks: none is left for the data
    (refusal (audit_run sound_h 28) is not_entered 13 8 1224 4 0) ∷
    -- a header with a continuation, which is entered last: the dataspace stands in the header, datatype and layout in the continuation
    (continued 0 0x89 is []) ∷
    (continued 1153 33 is fault 11 1144) ∷
    (continued 1204 0 is fault 11 1192) ∷
    -- a message of the continuation; the number of all messages; a layout of another type, so that there is no kind; an attribute whose parts leave
    -- its body; the continuation's length
    (continued 1216 2 is fault 3 1216) ∷
    (continued 1130 5 is fault 10 1128) ∷
    (continued 1216 4 is fault 10 1128) ∷
    (continued 1216 12 is fault 10 1216) ∷
    (continued 1184 80 is not_entered 5 3 1192 80 0) ∷
    -- the attribute of C: flags 2 and 3, version 4, a datatype of 9 bytes, a dataspace of 99
    (sharing 145 2 is fault 3 136) ∷
    (sharing 145 3 is fault 3 136) ∷
    (sharing 144 4 is fault 3 136) ∷
    (sharing 148 9 is fault 10 136) ∷
    (sharing 150 99 is fault 10 136) ∷
    -- version 1, whose padded parts take 40 bytes of 32; version 3, whose shared part would begin a byte later and gives another address
    (sharing 144 1 is fault 10 136) ∷
    (sharing 144 3 is not_entered 5 2 72057594037927940 16 0) ∷
    -- the shared part's version is 1; the shared flag on the attribute message
    (sharing 154 1 is fault 3 136) ∷
    (sharing 140 2 is fault 3 136) ∷
    -- the attribute shares 96, the root itself: its kind is known behind its last message, so that a message of type 2 is met before
    (sharing_twice 156 96 157 0 is fault 10 96) ∷
    (audited (set (set (file_c (message 2 0 [])) 156 96) 157 0) is fault 3 176) ∷
    -- the attribute shares "d", whose kind is known later
    (sharing 156 144 is fault 10 1168) ∷
    -- "d" shares itself, and so it does with a layout of version 0; a dataspace of version 0 is met before
    (sharing 1210 144 is fault 10 1200) ∷
    (sharing_twice 1210 144 1232 0 is fault 10 1200) ∷
    (sharing_twice 1210 144 1192 0 is fault 3 1184) ∷
    -- the shared flag on the message of "t"
    (audited flagged_c is fault 10 1256) ∷
    (refusal (lookup_run flagged_c (ascii "/t") 32) is fault 10 1256) ∷
    -- what a path is answered names no place
    (refusal (lookup_run sound_h (ascii "a") 32) is fault 14 0) ∷
    (refusal (lookup_run sound_h (ascii "/c") 32) is fault 15 0) ∷
    (refusal (lookup_run sound_h (ascii "/a/b") 32) is fault 17 0) ∷
    (refusal (describe_run sound_h (ascii "/") 32) is fault 20 0) ∷
    []
