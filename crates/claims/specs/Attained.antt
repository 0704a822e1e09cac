-- The lists of numbers are exact: each number is attained by its call, most often on file H of document 01 with one byte changed.
use Rattle.std.specs.Prelude.{ℕ, zero, suc, ◌+◌, ◌*◌, ◌/◌, ◌%◌, List, [], ◌∷◌, ◌++◌, ◌≡◌, set}
use Rattle.format.specs.Limits.{objects_most}
use Rattle.format.specs.Bytes.{to_bytes, padded, overwrite}
use Rattle.format.specs.Answers.{audit, lookup, describe, mend, undo}
use Rattle.format.specs.Front.{c_audit, c_lookup, c_describe, c_mend, c_undo}
use Rattle.cases.specs.Files.{ascii, zeros, symbol_entry, superblock, root_header, tree_node, heap_header}
use Rattle.cases.specs.Table.{sound_h, wrong_h}
use Rattle.claims.specs.Numbers.{audit_numbers, lookup_numbers, describe_numbers, mend_numbers, undo_numbers, c_undo_numbers}

-- H with this byte at this place
abbrev pub changed : ℕ → ℕ → List ℕ
changed place byte = set sound_h place byte

-- the images on which an audit and a lookup of "/a" give 1 to 9: no byte; no signature; superblock version 2; a leaf K of 0; the root's tree
-- behind the end of file; at the root's header; no TREE; node type 1; a segment of 0 bytes
abbrev pub faulty : List (List ℕ)
faulty = [] ∷ zeros 96 ∷ changed 8 2 ∷ changed 16 0 ∷ changed 122 1 ∷ changed 120 96 ∷ changed 136 0 ∷ changed 140 1 ∷ changed 688 0 ∷ []

-- 10: the dataset's header says one message more than there are; 11: 5 elements of 1 byte in 4 bytes
abbrev pub miscounted : List ℕ
miscounted = changed 1130 4

abbrev pub misfilled : List ℕ
misfilled = changed 1160 5

-- 16: the entry "a" is a symbolic link, whose value is the empty string at the heap's offset 0
abbrev pub linking : List ℕ
linking = changed 824 2

-- 12: a group with as many names as there may be objects, of three letters each, for as many addresses; the root is one object more. n names are
-- left, the i-th is next
unfoldable pub names : ℕ → ℕ → List ℕ
names zero i = []
names (suc n) i = (65 + i / 256) ∷ (65 + i / 16 % 16) ∷ (65 + i % 16) ∷ 0 ∷ names n (i + 1)

unfoldable pub links : ℕ → ℕ → List ℕ
links zero i = []
links (suc n) i = symbol_entry (8 + 4 * i) (1000 + i) 0 [] ++ links n (i + 1)

-- the bytes of the segment, which is at 712, and the leaf K, so that all entries are in one symbol node behind it
abbrev pub crowded_segment : ℕ
crowded_segment = 8 + 4 * objects_most

abbrev pub crowded_k : ℕ
crowded_k = objects_most / 2 + 1

abbrev pub crowded : List ℕ
crowded =
    set (set (superblock (720 + crowded_segment + 80 * crowded_k) 136) 16 (crowded_k % 256)) 17 (crowded_k / 256) ++
    root_header ++
    tree_node 1 (to_bytes 8 0 ++ to_bytes 8 (712 + crowded_segment) ++ to_bytes 8 (4 + 4 * objects_most)) ++
    overwrite (heap_header 1 712) 8 (to_bytes 8 crowded_segment) ++
    (zeros 8 ++ names objects_most 0) ++
    (ascii "SNOD" ++ to_bytes 1 1 ++ zeros 1 ++ to_bytes 2 objects_most ++ padded (80 * crowded_k) (links objects_most 0))

-- the images on which an audit gives 0 to 12, and a lookup of "/a" 0 to 10
abbrev pub audit_images : List (List ℕ)
audit_images = sound_h ∷ faulty ++ (miscounted ∷ misfilled ∷ crowded ∷ [])

abbrev pub lookup_images : List (List ℕ)
lookup_images = sound_h ∷ faulty ++ (miscounted ∷ [])

-- the number that each of these images gives
unfoldable pub numbers_of : (List ℕ → ℕ) → List (List ℕ) → List ℕ
numbers_of f [] = []
numbers_of f (im ∷ ims) = f im ∷ numbers_of f ims

-- for a call's number of an image and the words lent: the numbers of these images, and 13 with room for 7 blocks
abbrev pub audit_attained : (List ℕ → ℕ → ℕ) → List ℕ
audit_attained f = numbers_of (λ im. f im 32) audit_images ++ (f sound_h 28 ∷ [])

-- for a call's number of an image, a path and the words lent: the numbers of these images; 13 with room for one block; 14 without a '/' first; 15 for a name
-- that isn't there; 16 and 17 with a symbolic link and a dataset before the last component
abbrev pub lookup_attained : (List ℕ → List ℕ → ℕ → ℕ) → List ℕ
lookup_attained f =
    numbers_of (λ im. f im (ascii "/a") 32) lookup_images ++
    (f sound_h (ascii "/a") 4 ∷
    f sound_h (ascii "a") 32 ∷
    f sound_h (ascii "/c") 32 ∷
    f linking (ascii "/a/b") 32 ∷
    f sound_h (ascii "/a/b") 32 ∷
    [])

-- these; 11 for 5 elements in 4 bytes, 20 for a group
abbrev pub describe_attained : (List ℕ → List ℕ → ℕ → ℕ) → List ℕ
describe_attained f = lookup_attained f ++ (f misfilled (ascii "/a") 32 ∷ f sound_h (ascii "/") 32 ∷ [])

-- for a call's number of an image, the words lent and the words of the log: the audit's, and 18 for a log of one word
abbrev pub mend_attained : (List ℕ → ℕ → ℕ → ℕ) → List ℕ
mend_attained f = audit_attained (λ im lent. f im lent 2) ++ (f wrong_h 32 1 ∷ [])

-- for a call's number of an image, a log and its entries: 0 with nothing to undo; 1 for no byte; 18 for fewer words than entries; 19 for a field, given by
-- this log, that leaves the image
abbrev pub undo_attained : List ℕ → (List ℕ → List ℕ → ℕ → ℕ) → List ℕ
undo_attained outside f = f sound_h [] 0 ∷ f [] [] 0 ∷ f sound_h [] 1 ∷ f sound_h outside 1 ∷ []

-- the numbers attained are the call's list, in its order
pub record Attained : Type 0 where
  pub audits : audit_attained (λ im lent. (audit im lent).number) ≡ audit_numbers
  pub lookups : lookup_attained (λ im path lent. (lookup im path lent).number) ≡ lookup_numbers
  pub descriptions : describe_attained (λ im path lent. (describe im path lent).number) ≡ describe_numbers
  pub mends : mend_attained (λ im lent log_lent. (mend im lent log_lent 1).number) ≡ mend_numbers
  pub undos : undo_attained (2000 ∷ 0 ∷ []) (λ im log e. (undo im log e 0).number) ≡ undo_numbers

-- the bytes of an audit's reply
abbrev pub reply_bytes : ℕ
reply_bytes = 8 * (2 + 3 * objects_most)

-- the same in C, with 8 bytes for a word and room for an audit's reply
pub record CAttained : Type 0 where
  pub audits : audit_attained (λ im lent. (c_audit im (lent * 8) reply_bytes).number) ≡ audit_numbers
  pub lookups : lookup_attained (λ im path lent. (c_lookup im path (lent * 8) reply_bytes).number) ≡ lookup_numbers
  pub descriptions : describe_attained (λ im path lent. (c_describe im path (lent * 8) reply_bytes).number) ≡ describe_numbers
  pub mends : mend_attained (λ im lent log_lent. (c_mend im (lent * 8) (log_lent * 8) reply_bytes 1).number) ≡ mend_numbers
  -- "Under 770, 3 or 1 words gives 13 first, in C only", "C's 770 words become 3,074"
  pub undos : undo_attained (to_bytes 8 2000 ++ zeros 8) (λ im log e. (c_undo im log 8 e 0).number) ++ ((c_undo [] [] 0 0 0).number ∷ []) ≡ c_undo_numbers
