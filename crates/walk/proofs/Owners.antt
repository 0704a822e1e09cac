-- Laws of the numbers of objects in the list, and of a block written behind the others.
use Prim.Native.Nat.{ℕ, suc, ◌+◌, ◌-◌, ◌*◌, ◌≤◌, ◌<◌}
use mathlib.Core.List.{List, [], ◌∷◌, ◌++◌, append_assoc}
use mathlib.Core.Path.{◌≡◌, refl, ap, sym, ◌∙◌}
use native.Mathlib.Omega.{arith}
use borrow.Author.Tests.{eq-eqb, ne_eqb}
use lib.ListN.{length, take, get_or, set, length-set, length-append}
use lib.Seq.{get_or-take, get_or-set_other, take-suc-set, take-take}
use Rattle.format.specs.Blocks.{Block, block_of, superblock_kind, header_kind, no_object, owner_after, last_owner, block_words}
use Rattle.block_index.specs.Index.{first_from}
use Rattle.walk.specs.Lent.{blocks_of, Lent, Added, with_four, appended}
use Rattle.walk.proofs.BlockList.{length-blocks_of, words-blocks}

-- the number of a block's object, by its kind and the object before it
module _ (o v : ℕ) where
  pub owner-superblock : v ≡ superblock_kind → owner_after o v ≡ no_object
  unfolding owner_after
  owner-superblock e = rw e

  pub owner-same : (v ≡ superblock_kind → ⊥) → (v ≡ header_kind → ⊥) → owner_after o v ≡ o
  unfolding owner_after
  owner-same e f = simp (ne_eqb v superblock_kind e, ne_eqb v header_kind f)

  pub owner-first : v ≡ header_kind → o ≡ no_object → owner_after o v ≡ 0
  unfolding owner_after
  owner-first e f = rw e (simp (eq-eqb o no_object f))

  pub owner-next : v ≡ header_kind → (o ≡ no_object → ⊥) → owner_after o v ≡ o + 1
  unfolding owner_after
  owner-next e f = rw e (simp (ne_eqb o no_object f))

pub length-block_words : (o : ℕ) (bs : List Block) → length (block_words o bs) ≡ 4 * length bs
unfolding block_words
length-block_words o [] = refl
length-block_words o (b ∷ bs) = omega (arith, length-block_words (owner_after o b.kind) bs)

-- the last word of some blocks is the number of the last one's object
last_word : (o d : ℕ) (b : Block) (bs : List Block) → get_or (block_words o (b ∷ bs)) (4 * length bs + 3) d ≡ last_owner o (b ∷ bs)
unfolding block_words last_owner
last_word o d b [] = refl
last_word o d b (c ∷ bs) =
    let e : 4 * suc (length bs) + 3 ≡ suc (suc (suc (suc (4 * length bs + 3)))) = omega arith in
    rw e (last_word (owner_after o b.kind) d c bs)

pub last-number : (o : ℕ) (bs : List Block) → get_or (block_words o bs) (length (block_words o bs) - 1) o ≡ last_owner o bs
unfolding block_words last_owner
last-number o [] = refl
last-number o (b ∷ bs) =
    let i : length (block_words o (b ∷ bs)) - 1 ≡ 4 * length bs + 3 = omega (arith, length-block_words o (b ∷ bs)) in
    rw i (last_word o o b bs)

-- the words of one block more
words_snoc : (o : ℕ) (bs : List Block) (b : Block) →
    block_words o (bs ++ (b ∷ [])) ≡ block_words o bs ++ (b.at ∷ b.size ∷ b.kind ∷ owner_after (last_owner o bs) b.kind ∷ [])
unfolding block_words last_owner
words_snoc o [] b = refl
words_snoc o (c ∷ bs) b =
    let p = owner_after o c.kind in ap (λ (ws : List ℕ). c.at ∷ c.size ∷ c.kind ∷ p ∷ ws) (words_snoc p bs b)

-- four words written, with those before them
take-four : (ws : List ℕ) (k a n v o : ℕ) → k + 4 ≤ length ws → take (k + 4) (with_four ws k a n v o) ≡ take k ws ++ (a ∷ n ∷ v ∷ o ∷ [])
take-four ws k a n v o h =
    let e : k + 4 ≡ suc (k + 3) = omega arith in
    let f : k + 3 ≡ suc (k + 2) = omega arith in
    let g : k + 2 ≡ suc (k + 1) = omega arith in
    let i : k + 1 ≡ suc k = omega arith in
    let first = take-suc-set ws k a (omega arith) in
    let second = take-suc-set (set ws k a) (k + 1) n (simp length-set (omega arith)) in
    let third = take-suc-set (set (set ws k a) (k + 1) n) (k + 2) v (simp length-set (omega arith)) in
    let fourth = take-suc-set (set (set (set ws k a) (k + 1) n) (k + 2) v) (k + 3) o (simp length-set (omega arith)) in
    rw (e, fourth, f, third, g, second, i, first) (simp append_assoc)

pub four-other : (ws : List ℕ) (k i a n v o : ℕ) → k + 4 ≤ i → get_or (with_four ws k a n v o) i 0 ≡ get_or ws i 0
four-other ws k i a n v o h =
    get_or-set_other (set (set (set ws k a) (k + 1) n) (k + 2) v) (k + 3) i o 0 (omega arith)
    ∙ get_or-set_other (set (set ws k a) (k + 1) n) (k + 2) i v 0 (omega arith)
    ∙ get_or-set_other (set ws k a) (k + 1) i n 0 (omega arith)
    ∙ get_or-set_other ws k i a 0 (omega arith)

-- a block written behind the others, with its object's number
module _ (ws : List ℕ) (c room kind a n : ℕ) (l : Lent ws c room) (h : c < room) where
  appended-words : take (4 * (c + 1)) (appended ws c kind a n) ≡ block_words no_object (blocks_of c ws ++ (block_of kind a n ∷ []))
  appended-words =
      let e : 4 * (c + 1) ≡ 4 * c + 4 = omega arith in
      rw (e, words_snoc, ← l.numbered) (take-four ws (4 * c) a n kind _ (omega (arith, l.lent)))

-- a list with one block more, up to its index and in it
module _ (ws ws' : List ℕ) (c room kind a n : ℕ) (l : Lent ws c room) (h : c < room) (d : Added ws c kind a n ws') where
  added-words : take (4 * (c + 1)) ws' ≡ block_words no_object (blocks_of c ws ++ (block_of kind a n ∷ []))
  added-words =
      let most : 4 * (c + 1) ≤ first_from (length ws) = omega (arith, l.lent) in
      sym (take-take (4 * (c + 1)) (first_from (length ws)) ws' most) ∙ ap (take (4 * (c + 1))) d.head
      ∙ take-take (4 * (c + 1)) (first_from (length ws)) (appended ws c kind a n) most ∙ appended-words ws c room kind a n l h

  pub added-blocks : blocks_of (c + 1) ws' ≡ blocks_of c ws ++ (block_of kind a n ∷ [])
  added-blocks =
      let bs = blocks_of c ws ++ (block_of kind a n ∷ []) in
      let long : length bs ≡ c + 1 = length-append (blocks_of c ws) (block_of kind a n ∷ []) ∙ rw length-blocks_of in
      rw long at (words-blocks no_object bs ws' (rw long added-words))

  pub added-lent : Lent ws' (c + 1) room
  added-lent = record { counted = omega arith; lent = omega (arith, l.lent, d.long); numbered = rw added-blocks added-words; indexed = d.indexed }

  pub added-rest : (k : ℕ) → 4 * (c + 1) ≤ k → k < first_from (length ws) → get_or ws' k 0 ≡ get_or ws k 0
  added-rest k m u =
      sym (get_or-take (first_from (length ws)) ws' k 0 u) ∙ ap (λ (x : List ℕ). get_or x k 0) d.head
      ∙ get_or-take (first_from (length ws)) (appended ws c kind a n) k 0 u ∙ four-other ws (4 * c) k a n kind _ (omega arith)
