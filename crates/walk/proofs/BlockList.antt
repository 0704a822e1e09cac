-- Laws of the lent list of words, of the blocks that it holds, and of entering one.
use mathlib.Core.Path.{◌≡◌, refl, ap, ◌∙◌}
use mathlib.Core.Bool.{Bool, true, false}
use mathlib.Core.List.{List, [], ◌∷◌, ◌++◌}
use Prim.Native.Nat.{ℕ, suc, zero, ◌+◌, ◌-◌, ◌*◌, ◌/◌, ◌≤◌, ◌<◌, min}
use native.Mathlib.Omega.{arith}
use native.Mathlib.Numerals.{add-one}
use borrow.Author.Tests.{lt-ltb, le-ltb, le-leb, lt-leb, ltb-true, leb-true}
use lib.ListN.{length, take, drop, get_or, replicate}
use lib.Seq.{get_or-drop}
use lib.Dec.{leb, ltb}
use Rattle.format.specs.Limits.{blocks_most}
use Rattle.std.specs.Prelude.{if◌then◌else◌, Ok, Err}
use Rattle.format.specs.Blocks.{Block, block_of, owner_after, block_words, overlaps_any, entry_answer, room_of}
use Rattle.format.specs.declared.Refusal.{Refusal}
use Rattle.format.specs.Walk.{not_entered}
use Rattle.block_index.specs.Index.{places_for}
use Rattle.block_index.proofs.IndexLaws.{indexed-none}
use Rattle.walk.specs.Lent.{blocks_of, places_of, work_words, Lent, entering}

-- the room that so many words give
pub room-is : (words : ℕ) → room_of words ≡ min blocks_most (words / 4)
unfolding room_of
room-is words = refl

pub places_is : (words : ℕ) → places_of words ≡ min blocks_most (places_for words)
unfolding places_of
places_is words = refl

pub room_most : (words : ℕ) → room_of words ≤ blocks_most
room_most words = omega (arith, room-is words)

pub places-most : (words : ℕ) → places_of words ≤ blocks_most
places-most words = omega (arith, places_is words)

-- a working list of the words for so many blocks has their places, as a caller's list of four words a block has
pub places-work : (room : ℕ) → room ≤ blocks_most → places_of (work_words room) ≡ room
places-work room h = omega (arith, places_is (work_words room))

pub room-fours : (room : ℕ) → room ≤ blocks_most → room_of (4 * room) ≡ room
room-fours room h = omega (arith, room-is (4 * room))

-- a list cleared from its first word on
pub all-cleared : (ws ws' : List ℕ) → ws' ≡ take 0 ws ++ replicate (length ws - 0) 0 → ws' ≡ replicate (length ws) 0
all-cleared ws ws' e = let z : length ws - 0 ≡ length ws = omega arith in rw z at e

-- a whole list is lent with no block entered
pub lent_none : (ws : List ℕ) → Lent ws 0 (places_of (length ws))
unfolding blocks_of block_words
lent_none ws = record { counted = omega arith; lent = omega (arith, places_is (length ws)); numbered = refl; indexed = indexed-none ws }

pub length-blocks_of : (c : ℕ) (ws : List ℕ) → length (blocks_of c ws) ≡ c
unfolding blocks_of
length-blocks_of zero ws = refl
length-blocks_of (suc c) ws = ap suc (length-blocks_of c (drop 4 ws))

-- blocks are read back from their words
words-first : (o n : ℕ) (b : Block) (bs : List Block) (ws : List ℕ) → take (suc (suc (suc (suc (4 * n))))) ws ≡ block_words o (b ∷ bs) →
    ((rest : List ℕ) → take (4 * n) rest ≡ block_words (owner_after o b.kind) bs → blocks_of n rest ≡ bs) →
    blocks_of (suc n) ws ≡ b ∷ bs
unfolding blocks_of block_words
words-first o n b bs [] e next = let z : ◌≡◌ {A = ℕ} 0 1 = cc e in absurd (omega arith)
words-first o n b bs (x ∷ []) e next = let z : ◌≡◌ {A = ℕ} 0 1 = cc e in absurd (omega arith)
words-first o n b bs (x ∷ y ∷ []) e next = let z : ◌≡◌ {A = ℕ} 0 1 = cc e in absurd (omega arith)
words-first o n b bs (x ∷ y ∷ z ∷ []) e next = let z : ◌≡◌ {A = ℕ} 0 1 = cc e in absurd (omega arith)
words-first o n b bs (x ∷ y ∷ z ∷ w ∷ ws) e next =
    let first : x ≡ b.at = cc e in
    let second : y ≡ b.size = cc e in
    let third : z ≡ b.kind = cc e in
    let behind : take (4 * n) ws ≡ block_words (owner_after o b.kind) bs = cc e in
    rw (first, second, third, next ws behind)

pub words-blocks : (o : ℕ) (bs : List Block) (ws : List ℕ) → take (4 * length bs) ws ≡ block_words o bs → blocks_of (length bs) ws ≡ bs
unfolding blocks_of
words-blocks o [] ws e = refl
words-blocks o (b ∷ bs) ws e =
    let f : 4 * suc (length bs) ≡ suc (suc (suc (suc (4 * length bs)))) = omega arith in
    words-first o (length bs) b bs ws (rw f at e) (words-blocks (owner_after o b.kind) bs)

-- the block of number i, by its words
abbrev pub block_at : List ℕ → ℕ → Block
block_at ws i = block_of (get_or ws (4 * i + 2) 0) (get_or ws (4 * i) 0) (get_or ws (4 * i + 1) 0)

block-behind : (ws : List ℕ) (i : ℕ) → block_at (drop 4 ws) i ≡ block_at ws (suc i)
block-behind ws i =
    let e : 4 * suc i ≡ 4 + 4 * i = omega arith in
    let f : 4 * suc i + 1 ≡ 4 + (4 * i + 1) = omega arith in
    let g : 4 * suc i + 2 ≡ 4 + (4 * i + 2) = omega arith in
    rw (get_or-drop, get_or-drop, get_or-drop, f, g, e)

-- the blocks from number i on are that block and those behind it
blocks-split : (c i : ℕ) (ws : List ℕ) → i < c → drop i (blocks_of c ws) ≡ block_at ws i ∷ drop (suc i) (blocks_of c ws)
unfolding blocks_of
blocks-split zero i ws h = absurd (omega arith)
blocks-split (suc c) zero ws h = refl
blocks-split (suc c) (suc i) ws h =
    blocks-split c i (drop 4 ws) (omega arith) ∙ ap (λ (b : Block). b ∷ drop (suc i) (blocks_of c (drop 4 ws))) (block-behind ws i)

pub blocks-next : (c i : ℕ) (ws : List ℕ) → i < c → drop i (blocks_of c ws) ≡ block_at ws i ∷ drop (i + 1) (blocks_of c ws)
blocks-next c i ws h = rw (add-one i) (blocks-split c i ws h)

-- What entering a block answers, by the tests that lead there.
module _ (eof room : ℕ) (bs : List Block) (a n : ℕ) where
  pub entry_answer-outside : eof < a + n → entry_answer eof room bs a n ≡ 5
  unfolding entry_answer
  entry_answer-outside h = simp (lt-leb (a + n) eof h)

  pub entry_answer-overlap : a + n ≤ eof → true ≡ overlaps_any bs a n → entry_answer eof room bs a n ≡ 6
  unfolding entry_answer
  entry_answer-overlap h k = simp (le-leb (a + n) eof h, ← k)

  pub entry_answer-full : a + n ≤ eof → false ≡ overlaps_any bs a n → room ≤ length bs → entry_answer eof room bs a n ≡ 13
  unfolding entry_answer
  entry_answer-full h k l = simp (le-leb (a + n) eof h, ← k, le-ltb (length bs) room l)

  pub entry_answer-open : a + n ≤ eof → false ≡ overlaps_any bs a n → length bs < room → entry_answer eof room bs a n ≡ 0
  unfolding entry_answer
  entry_answer-open h k l = simp (le-leb (a + n) eof h, ← k, lt-ltb (length bs) room l)

  -- an entered block is inside, shares no byte with one before it, and had room
  pub entry_answer-zero : entry_answer eof room bs a n ≡ 0 → (a + n ≤ eof) × (overlaps_any bs a n ≡ false) × (length bs < room)
  unfolding entry_answer
  entry_answer-zero e = go (leb (a + n) eof) (overlaps_any bs a n) (ltb (length bs) room) refl refl refl e
    where
      go : (t u v : Bool) → leb (a + n) eof ≡ t → overlaps_any bs a n ≡ u → ltb (length bs) room ≡ v →
          ◌≡◌ {A = ℕ} (if t then if u then 6 else if v then 0 else 13 else 5) 0 → (a + n ≤ eof) × (overlaps_any bs a n ≡ false) × (length bs < room)
      go true true v p q r s = absurd (omega arith)
      go true false true p q r s = (leb-true _ _ p, q, ltb-true _ _ r)
      go true false false p q r s = absurd (omega arith)
      go false u v p q r s = absurd (omega arith)

-- what was answered, by what was returned
module _ (kind a n : ℕ) (bs : List Block) where
  pub entered-zero : (answer c m : ℕ) → Ok m ≡ entering answer kind a n bs c → (answer ≡ 0) × (m ≡ c + 1)
  entered-zero zero c m e = (refl, cc)
  entered-zero (suc answer) c m e = let z : ◌≡◌ {A = ℕ} 0 1 = cc in absurd (omega arith)

  pub refused-suc : (answer c : ℕ) (r : Refusal) → Err r ≡ entering answer kind a n bs c →
      (h : ℕ) × (answer ≡ suc h) × (r ≡ not_entered (suc h) kind a n bs)
  refused-suc zero c m e = let z : ◌≡◌ {A = ℕ} 0 1 = cc in absurd (omega arith)
  refused-suc (suc answer) c m e = (answer, refl, cc)
