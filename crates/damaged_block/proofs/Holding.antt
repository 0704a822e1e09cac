-- The block that holds a byte, found in the words of a list.
use Prim.Native.Nat.{ℕ, zero, suc, ◌+◌, ◌-◌, ◌*◌, ◌/◌, ◌≤◌, ◌<◌}
use mathlib.Core.Bool.{Bool, true, false, ◌&&◌, and-false}
use mathlib.Core.List.{List, [], ◌∷◌}
use mathlib.Core.Path.{◌≡◌, refl, ap, sym, ◌∙◌}
use native.Mathlib.Omega.{arith}
use native.Mathlib.Numerals.{add-one}
use borrow.Author.Tests.{lt-ltb, le-ltb, le-leb, lt-leb, ltb-true, ltb-false}
use lib.Dec.{ltb, leb}
use lib.ListN.{length, get_or, take, drop, drop_of_length-le}
use Rattle.std.proofs.lemmas.List.{take_all}
use Rattle.format.specs.Blocks.{Block, block, no_object, owner_after, last_owner, block_words}
use Rattle.format.specs.Report.{ListedBlock, no_block, holds_byte, holding}
use Rattle.walk.specs.Lent.{blocks_of}
use Rattle.walk.proofs.BlockList.{length-blocks_of, words-blocks, block_at, blocks-next}
use Rattle.walk.proofs.Owners.{length-block_words}
use Rattle.damaged_block.specs.Block.{four_at}
use Rattle.damaged_block.proofs.Filled.{four-of}

-- whether a byte lies in a block, by the tests
module _ (a n x : ℕ) where
  -- by the distance from the block's start
  pub holds-from : a ≤ x → ltb (x - a) n ≡ holds_byte (block a n) x
  unfolding holds_byte
  holds-from h = go (ltb (x - a) n) refl
    where
      go : (t : Bool) → ltb (x - a) n ≡ t → t ≡ (leb a x && ltb x (a + n))
      go true p = let l = ltb-true (x - a) n p in simp (le-leb a x h, lt-ltb x (a + n) (omega arith))
      go false p = let l = ltb-false (x - a) n p in simp (le-ltb x (a + n) (omega arith), and-false)

  pub holds-before : x < a → leb a x ≡ holds_byte (block a n) x
  unfolding holds_byte
  holds-before h = simp (lt-leb a x h)

-- the blocks whose words a list is
module _ (ws : List ℕ) (bs : List Block) (is : ws ≡ block_words no_object bs) where
  pub words-count : length ws / 4 ≡ length bs
  words-count = omega (arith, ap length is, length-block_words no_object bs)

  all : take (4 * length bs) ws ≡ ws
  all = take_all (4 * length bs) ws (omega (arith, ap length is, length-block_words no_object bs))

  pub words-are : blocks_of (length ws / 4) ws ≡ bs
  words-are = rw words-count (words-blocks no_object bs ws (all ∙ is))

  pub words-numbered : take (4 * (length ws / 4)) ws ≡ block_words no_object (blocks_of (length ws / 4) ws)
  words-numbered = rw (words-are, words-count) (all ∙ is)

-- the object of the block behind the first i
last_more : (o i : ℕ) (bs rest : List Block) (b : Block) → drop i bs ≡ b ∷ rest →
    last_owner o (take (suc i) bs) ≡ owner_after (last_owner o (take i bs)) b.kind
unfolding last_owner
last_more o zero [] rest b e = let z : ◌≡◌ {A = ℕ} 0 1 = cc in absurd (omega arith)
last_more o (suc i) [] rest b e = let z : ◌≡◌ {A = ℕ} 0 1 = cc in absurd (omega arith)
last_more o zero (c ∷ bs) rest b e = let same : c ≡ b = cc in rw same refl
last_more o (suc i) (c ∷ bs) rest b e = last_more (owner_after o c.kind) i bs rest b e

-- The search, before block number i: `whole` is what it will have found. One turn of it, by the words of that block.
module _ (c i : ℕ) (ws : List ℕ) (x : ℕ) (whole : ListedBlock) where
  abbrev blocks : List Block
  blocks = blocks_of c ws

  abbrev pub Behind : ℕ → Type 0
  Behind k = whole ≡ holding (last_owner no_object (take k blocks)) (drop k blocks) x

  module _ (numbered : take (4 * c) ws ≡ block_words no_object (blocks_of c ws)) (h : i < c) (e : Behind i) where
    number : get_or ws (4 * i + 3) 0 ≡ last_owner no_object (take (suc i) blocks)
    number = (four-of blocks ws (rw length-blocks_of numbered) i (rw length-blocks_of h)).object

    next : last_owner no_object (take (suc i) blocks) ≡ owner_after (last_owner no_object (take i blocks)) (get_or ws (4 * i + 2) 0)
    next = last_more no_object i blocks (drop (i + 1) blocks) (block_at ws i) (blocks-next c i ws h)

    turn : whole ≡ holding (last_owner no_object (take i blocks)) (block_at ws i ∷ drop (i + 1) blocks) x
    turn = e ∙ ap (λ (bs : List Block). holding (last_owner no_object (take i blocks)) bs x) (blocks-next c i ws h)

    pub found_here : true ≡ holds_byte (block (get_or ws (4 * i) 0) (get_or ws (4 * i + 1) 0)) x → four_at ws i ≡ whole
    unfolding holding holds_byte
    found_here t = sym (turn ∙ rw (← t, number, next) refl)

    pub found-later : false ≡ holds_byte (block (get_or ws (4 * i) 0) (get_or ws (4 * i + 1) 0)) x → Behind (i + 1)
    unfolding holding holds_byte
    found-later t = rw (add-one i, next, ← (add-one i)) (turn ∙ rw (← t) refl)

  pub found_none : c ≤ i → Behind i → no_block ≡ whole
  unfolding holding
  found_none h e =
      let none : drop i blocks ≡ [] = drop_of_length-le blocks {i = i} (rw length-blocks_of h) in
      sym (e ∙ ap (λ (bs : List Block). holding (last_owner no_object (take i blocks)) bs x) none)
