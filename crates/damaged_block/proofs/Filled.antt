-- How many blocks a refused walk has entered, in a list that was filled with the undefined address before it.
use Prim.Native.Nat.{ℕ, ◌+◌, ◌*◌, ◌^◌, ◌≤◌, ◌<◌}
use mathlib.Core.Bool.{Bool, true, false}
use mathlib.Core.List.{List, ◌++◌}
use mathlib.Core.Path.{◌≡◌, refl, ap, sym, ◌∙◌}
use native.Mathlib.Omega.{arith}
use borrow.Author.Tests.{ltb-true, ltb-false, eqb-true, eqb-false}
use lib.Dec.{ltb, eqb}
use lib.ListN.{length, get_or, take, drop, replicate, get_or-replicate, take-append-drop}
use Rattle.format.specs.Bytes.{undefined_address}
use Rattle.format.specs.Blocks.{Block, block, no_object, block_words}
use Rattle.block_index.specs.Index.{first_from}
use Rattle.walk.specs.Lent.{places_of}
use Rattle.laws.specs.Blocks.{Inside}
use Rattle.links.specs.Fours.{Four, number_at}
use Rattle.links.proofs.BlockWords.{list-holds}
use Rattle.links.proofs.BlocksBefore.{inside-at}
use Rattle.damaged_block.specs.Entered.{Leading}

-- one block more has an address
pub addressed-more : (ws : List ℕ) (n : ℕ) → ((k : ℕ) → k < n → get_or ws (4 * k) 0 ≡ undefined_address → ⊥) → (get_or ws (4 * n) 0 ≡ undefined_address → ⊥) →
    (k : ℕ) → k < n + 1 → get_or ws (4 * k) 0 ≡ undefined_address → ⊥
addressed-more ws n before here k h e = go (eqb k n) refl
  where
    go : (t : Bool) → eqb k n ≡ t → ⊥
    go true q = here (rw (eqb-true k n q) at e)
    go false q = before k (omega (arith, eqb-false k n q)) e

-- the fours of a list that begins with the words of blocks
pub four-of : (bs : List Block) (ws : List ℕ) → take (4 * length bs) ws ≡ block_words no_object bs → (k : ℕ) → k < length bs →
    Four ws k (get_or bs k (block 0 0)) (number_at k bs)
four-of bs ws e k h =
    let whole : block_words no_object bs ++ drop (4 * length bs) ws ≡ ws =
    ap (λ (front : List ℕ). front ++ drop (4 * length bs) ws) (sym e) ∙ take-append-drop (4 * length bs) ws in
    rw whole at ((list-holds bs (drop (4 * length bs) ws)).four k h)

-- What is known of a list behind a refusal: it was filled before the walk, and its first words are those of the blocks entered.
module _ (eof : ℕ) (bs : List Block) (ws ws' : List ℕ) (same : length ws' ≡ length ws) (filled : ws ≡ replicate (length ws) undefined_address)
    (small : eof < 2 ^ 32) (inside : Inside eof bs) (fits : length bs ≤ places_of (length ws))
    (held : take (4 * length bs) ws' ≡ block_words no_object bs)
    (rest : (k : ℕ) → 4 * length bs ≤ k → k < first_from (length ws) → get_or ws' k 0 ≡ get_or ws k 0) where
  has_address : (k : ℕ) → k < length bs → get_or ws' (4 * k) 0 ≡ undefined_address → ⊥
  unfolding undefined_address
  has_address k h e = omega (arith, e, (four-of bs ws' held k h).address, inside-at eof bs k inside h)

  has-none : length bs < places_of (length ws) → get_or ws' (4 * length bs) 0 ≡ undefined_address
  unfolding places_of
  has-none h =
      let there : 4 * length bs < length ws = omega arith in
      rest (4 * length bs) (omega arith) (omega arith)
      ∙ ap (λ (l : List ℕ). get_or l (4 * length bs) 0) filled
      ∙ get_or-replicate (length ws) (4 * length bs) undefined_address 0 there

  -- the blocks before the first four without an address are those
  pub count-is : (n : ℕ) → Leading ws' n → n ≡ length bs
  count-is n l = go (ltb n (length bs)) (ltb (length bs) n) refl refl
    where
      go : (t u : Bool) → ltb n (length bs) ≡ t → ltb (length bs) n ≡ u → n ≡ length bs
      go true u p q =
          let h : n < length bs = ltb-true _ _ p in
          let within : n < places_of (length ws') = rw same (omega (arith, fits)) in
          absurd (has_address n h (l.after within))
      go false true p q =
          let h : length bs < n = ltb-true _ _ q in
          let room : n ≤ places_of (length ws) = rw same at l.within in
          absurd (l.before (length bs) h (has-none (omega (arith, room))))
      go false false p q = omega (arith, ltb-false n (length bs) p, ltb-false (length bs) n q)
