-- The small files of document 01, and a file C with sharings (document 02, Item 2), field by field. The fields of a structure stand in the order of
-- its table in FF, the HDF5 File Format Specification, and the comment beside a field is its name there. Offsets and lengths take 8 bytes.
use Rattle.std.specs.Prelude.{ℕ, ◌+◌, ◌*◌, ◌/◌, List, [], ◌∷◌, ◌++◌, replicate, length}
use Prim.Native.Char.{code}
use Prim.Native.String.{String}
use Rattle.format.specs.Bytes.{to_bytes, padded, undefined_address}

-- the bytes of a text; every text here is ASCII
abbrev pub ascii : String → List ℕ
ascii String.[] = []
ascii (String.◌∷◌ c cs) = code c ∷ ascii cs

abbrev pub zeros : ℕ → List ℕ
zeros n = replicate n 0

-- FF III.C, "Layout: Symbol Table Entry": 40 bytes
abbrev pub symbol_entry : (name_offset header cache_type : ℕ) → (scratch : List ℕ) → List ℕ
symbol_entry name_offset header cache_type scratch =
    to_bytes 8 name_offset ++  -- Link Name Offset
    to_bytes 8 header ++  -- Object Header Address
    to_bytes 4 cache_type ++  -- Cache Type
    zeros 4 ++  -- Reserved (zero)
    padded 16 scratch  -- Scratch-pad Space

-- where the heap's header, its data segment and a symbol table node stand: behind the root group's B-tree node, of 544 bytes
abbrev pub heap_behind : (tree : ℕ) → ℕ
heap_behind tree = tree + 544

abbrev pub segment_behind : (tree : ℕ) → ℕ
segment_behind tree = tree + 576

abbrev pub symbols_behind : (tree : ℕ) → ℕ
symbols_behind tree = tree + 664

-- FF II.A, "Layout: Superblock (Versions 0 and 1)", version 0: 96 bytes. The root group's header is at 96; its entry is of cache type 1,
-- with the addresses of the group's B-tree and heap.
abbrev pub superblock : (end_of_file tree : ℕ) → List ℕ
superblock end_of_file tree =
    (0x89 ∷ 0x48 ∷ 0x44 ∷ 0x46 ∷ 0x0d ∷ 0x0a ∷ 0x1a ∷ 0x0a ∷ []) ++  -- Format Signature
    to_bytes 1 0 ++  -- Version # of Superblock
    to_bytes 1 0 ++  -- Version # of File's Free Space Storage
    to_bytes 1 0 ++  -- Version # of Root Group Symbol Table Entry
    zeros 1 ++  -- Reserved (zero)
    to_bytes 1 0 ++  -- Version Number of Shared Header Message Format
    to_bytes 1 8 ++  -- Size of Offsets
    to_bytes 1 8 ++  -- Size of Lengths
    zeros 1 ++  -- Reserved (zero)
    to_bytes 2 4 ++  -- Group Leaf Node K
    to_bytes 2 16 ++  -- Group Internal Node K
    to_bytes 4 0 ++  -- File Consistency Flags
    to_bytes 8 0 ++  -- Base Address
    to_bytes 8 undefined_address ++  -- Address of File Free space Info
    to_bytes 8 end_of_file ++  -- End of File Address
    to_bytes 8 undefined_address ++  -- Driver Information Block Address
    symbol_entry 0 96 1 (to_bytes 8 tree ++ to_bytes 8 (heap_behind tree))  -- Root Group Symbol Table Entry

-- FF IV.A.1.a, "Layout: Version 1 Object Header": 16 bytes, then the messages, of so many bytes together
abbrev pub object_header : (message_count reference_count size : ℕ) → (messages : List ℕ) → List ℕ
object_header message_count reference_count size messages =
    to_bytes 1 1 ++  -- Version
    zeros 1 ++  -- Reserved (zero)
    to_bytes 2 message_count ++  -- Total Number of Header Messages
    to_bytes 4 reference_count ++  -- Object Reference Count
    to_bytes 4 size ++  -- Object Header Size
    zeros 4 ++  -- Reserved (zero)
    messages

-- one message: 8 bytes, then its data, of so many bytes with the zeros at its end
abbrev pub flagged : (type size flags : ℕ) → (body : List ℕ) → List ℕ
flagged type size flags body =
    to_bytes 2 type ++  -- Header Message Type
    to_bytes 2 size ++  -- Size of Header Message Data
    to_bytes 1 flags ++  -- Header Message Flags
    zeros 3 ++  -- Reserved (zero)
    padded size body  -- Header Message Data

abbrev pub message : (type size : ℕ) → (body : List ℕ) → List ℕ
message type size body = flagged type size 0 body

-- FF IV.A.2.r, "Layout: Symbol Table Message"
abbrev pub symbol_table : (tree : ℕ) → List ℕ
symbol_table tree =
    to_bytes 8 tree ++  -- v1 B-tree Address
    to_bytes 8 (heap_behind tree)  -- Local Heap Address

-- the root group's header, 40 bytes
abbrev pub root_header : List ℕ
root_header = object_header 1 1 24 (message 0x0011 16 (symbol_table 136))

-- FF III.A.1, "Layout: B-tree Nodes": 544 bytes. A node of level 0 with no siblings. K is 16, so there is room for 33 keys and 32 children;
-- the unused ones, at the end, are zeros.
abbrev pub tree_node : (entries_used : ℕ) → (keys_and_children : List ℕ) → List ℕ
tree_node entries_used keys_and_children =
    ascii "TREE" ++  -- Signature
    to_bytes 1 0 ++  -- Node Type
    to_bytes 1 0 ++  -- Node Level
    to_bytes 2 entries_used ++  -- Entries Used
    to_bytes 8 undefined_address ++  -- Address of Left Sibling
    to_bytes 8 undefined_address ++  -- Address of Right Sibling
    padded (33 * 8 + 32 * 8) keys_and_children  -- Key 1, Address of Child 1, Key 2, ..

-- FF III.D, "Layout: Local Heap": 32 bytes
abbrev pub heap_header : (free_head segment : ℕ) → List ℕ
heap_header free_head segment =
    ascii "HEAP" ++  -- Signature
    to_bytes 1 0 ++  -- Version
    zeros 3 ++  -- Reserved (zero)
    to_bytes 8 88 ++  -- Data Segment Size
    to_bytes 8 free_head ++  -- Offset to Head of Free-list
    to_bytes 8 segment  -- Address of Data Segment

-- a string of the heap's data segment, in 8 bytes: "Objects within a local heap should be aligned on an 8-byte boundary."
abbrev pub heap_string : String → List ℕ
heap_string s = padded 8 (ascii s)

-- the last free block of the segment: "the value '1' if this is the last free block", then "the size of this free block"
abbrev pub free_block : (size : ℕ) → List ℕ
free_block size = padded size (to_bytes 8 1 ++ to_bytes 8 size)

-- E: "800 bytes, K 4 and 16; header at 96 (40 long), tree 136 (544), heap 680 (32), segment 712 (88)". The root group is empty. End of file
-- is 800 but in the cases that change it.
abbrev pub file_e : (end_of_file : ℕ) → List ℕ
file_e end_of_file =
    superblock end_of_file 136 ++  -- at 0
    root_header ++  -- at 96
    tree_node 0 [] ++  -- at 136
    heap_header 8 712 ++  -- at 680
    (heap_string "" ++ free_block 80)  -- at 712, the data segment; the free block is at its offset 8

-- FF III.B, "Layout: Symbol Table Node": 328 bytes, with two entries. K is 4, so there is room for 8; the unused ones, at the end, are zeros.
abbrev pub symbol_node : (first second : List ℕ) → List ℕ
symbol_node first second =
    ascii "SNOD" ++  -- Signature
    to_bytes 1 1 ++  -- Version Number
    zeros 1 ++  -- Reserved (zero)
    to_bytes 2 2 ++  -- Number of Symbols
    padded (8 * 40) (first ++ second)  -- Group Entries

-- FF IV.A.2.b, "Layout: Dataspace Message - Version 1": one dimension of 4 elements
abbrev pub dataspace : List ℕ
dataspace =
    to_bytes 1 1 ++  -- Version
    to_bytes 1 1 ++  -- Dimensionality
    to_bytes 1 0 ++  -- Flags
    zeros 5 ++  -- Reserved
    to_bytes 8 4  -- Dimension #1 Size

-- FF IV.A.2.d, "Layout: Datatype Message" and "Layout: Fixed-point Property Description": unsigned integers of one byte
abbrev pub datatype : List ℕ
datatype =
    to_bytes 1 0x10 ++  -- Class and Version: version 1 in the top 4 bits, class 0 in the bottom 4 bits
    to_bytes 3 0 ++  -- Class Bit Field
    to_bytes 4 1 ++  -- Size
    to_bytes 2 0 ++  -- Bit Offset
    to_bytes 2 8  -- Bit Precision

-- FF IV.A.2.i, "Layout: Data Layout Message (Version 3)" and "Layout: Contiguous Storage Property Description"
abbrev pub data_layout : (address size : ℕ) → List ℕ
data_layout address size =
    to_bytes 1 3 ++  -- Version
    to_bytes 1 1 ++  -- Layout Class
    to_bytes 8 address ++  -- Address
    to_bytes 8 size  -- Size

-- the dataset's header, 96 bytes
abbrev pub dataset_header : (reference_count : ℕ) → List ℕ
dataset_header reference_count =
    object_header 3 reference_count 80 (message 0x0001 16 dataspace ++ message 0x0003 16 datatype ++ message 0x0008 24 (data_layout 1224 4))

-- where the names "a" and "b" stand in the heap of H
abbrev pub name_a : ℕ
name_a = 8

abbrev pub name_b : ℕ
name_b = 16

-- H: "E plus SNOD at 800 (328), names "a" and "b" for a dataset header at 1128 (96 long) with four bytes at 1224. End 1228". So the tree has
-- one child; key 1 is the empty string, and key 2 is "b", the greatest name below that child. The cases choose the names of the two
-- entries, by heap offset, and the dataset's stored reference count.
abbrev pub begin_h : (end_of_file first_name second_name : ℕ) → List ℕ
begin_h end_of_file first_name second_name =
    superblock end_of_file 136 ++  -- at 0
    root_header ++  -- at 96
    tree_node 1 (to_bytes 8 0 ++ to_bytes 8 800 ++ to_bytes 8 name_b) ++  -- at 136: Key 1, Address of Child 1, Key 2
    heap_header 24 712 ++  -- at 680
    (heap_string "" ++ heap_string "a" ++ heap_string "b" ++ free_block 64) ++  -- at 712, the data segment; the free block is at its offset 24
    symbol_node (symbol_entry first_name 1128 0 []) (symbol_entry second_name 1128 0 [])  -- at 800

abbrev pub file_h : (first_name second_name reference_count : ℕ) → List ℕ
file_h first_name second_name reference_count =
    begin_h 1228 first_name second_name ++
    dataset_header reference_count ++  -- at 1128
    (1 ∷ 2 ∷ 3 ∷ 4 ∷ [])  -- at 1224, the data

-- H with a dataset header of 64 bytes: a dataspace message, then a continuation message (FF IV.A.2.q) for the 56 bytes behind the header, which hold
-- the datatype and the layout message. The data stands behind them.
abbrev pub file_continued : List ℕ
file_continued =
    begin_h 1252 name_a name_b ++
    object_header 4 2 48 (message 0x0001 16 dataspace ++ message 0x0010 16 (to_bytes 8 1192 ++ to_bytes 8 56)) ++  -- at 1128
    (message 0x0003 16 datatype ++ message 0x0008 24 (data_layout 1248 4)) ++  -- at 1192, the continuation
    (1 ∷ 2 ∷ 3 ∷ 4 ∷ [])  -- at 1248, the data

-- FF IV.A.2.b, "Layout: Dataspace Message - Version 1": one element, without a dimension
abbrev pub scalar : List ℕ
scalar =
    to_bytes 1 1 ++  -- Version
    to_bytes 1 0 ++  -- Dimensionality
    to_bytes 1 0 ++  -- Flags
    zeros 5  -- Reserved

-- FF IV.A.2, "Layout: Shared Message (Version 2)": 10 bytes
abbrev pub shared_part : (address : ℕ) → List ℕ
shared_part address =
    to_bytes 1 2 ++  -- Version
    to_bytes 1 2 ++  -- Type
    to_bytes 8 address  -- Address

-- FF IV.A.2.m, "Layout: Attribute Message (Version 2)": an attribute "a" of one byte whose datatype is shared
abbrev pub attribute : (address : ℕ) → List ℕ
attribute address =
    to_bytes 1 2 ++  -- Version
    to_bytes 1 1 ++  -- Flags: the datatype is shared
    to_bytes 2 2 ++  -- Name Size
    to_bytes 2 10 ++  -- Datatype Size
    to_bytes 2 8 ++  -- Dataspace Size
    padded 2 (ascii "a") ++  -- Name
    shared_part address ++  -- Datatype
    scalar ++  -- Dataspace
    to_bytes 1 0  -- Data

-- the header of a dataset without data whose datatype is the object at this address, 88 bytes; flag bit 1 of the datatype message says so
abbrev pub sharing_header : (address : ℕ) → List ℕ
sharing_header address =
    object_header 3 1 72 (message 0x0001 8 scalar ++ flagged 0x0003 16 2 (shared_part address) ++ message 0x0008 24 (data_layout undefined_address 0))

-- the header of a committed datatype, 40 bytes
abbrev pub committed_header : List ℕ
committed_header = object_header 1 1 24 (message 0x0003 16 datatype)

-- C: 1,296 bytes, K 4 and 16; root header at 96 (80 long), tree 176 (544), heap 720 (32), segment 752 (88), SNOD 840 (328) with the names "d" and
-- "t", header of the dataset "d" at 1168 (88 long), header of the committed datatype "t" at 1256 (40 long). Behind its symbol table message the root
-- has an attribute; this attribute and "d" share "t". Stored counts are 1. A case may put messages without data, of 8 bytes each, behind the
-- attribute: all that follows moves on.
abbrev pub file_c : (behind : List ℕ) → List ℕ
file_c behind =
    let tree = 176 + length behind in
    let d = tree + 992 in
    let t = tree + 1080 in
    superblock (tree + 1120) tree ++  -- at 0
    object_header (2 + length behind / 8) 1 (64 + length behind)
    (message 0x0011 16 (symbol_table tree) ++ message 0x000c 32 (attribute t) ++ behind) ++  -- at 96
    tree_node 1 (to_bytes 8 0 ++ to_bytes 8 (symbols_behind tree) ++ to_bytes 8 16) ++  -- at 176: Key 1, Address of Child 1, Key 2, which is "t"
    heap_header 24 (segment_behind tree) ++  -- at 720
    (heap_string "" ++ heap_string "d" ++ heap_string "t" ++ free_block 64) ++  -- at 752, the data segment; the free block is at its offset 24
    symbol_node (symbol_entry 8 d 0 []) (symbol_entry 16 t 0 []) ++  -- at 840
    sharing_header t ++  -- at 1168
    committed_header  -- at 1256
