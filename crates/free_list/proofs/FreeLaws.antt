-- Laws of the free list.
use Prim.Native.Nat.{ℕ, suc, ◌+◌, ◌-◌, ◌≤◌, ◌<◌}
use mathlib.Core.Bool.{Bool, true, false, not}
use mathlib.Core.List.{List, [], ◌∷◌, ◌++◌}
use mathlib.Core.Path.{◌≡◌, refl, sym, ◌∙◌}
use native.Mathlib.Nat.{sub-zero}
use native.Mathlib.Omega.{arith}
use native.Mathlib.Numerals.{add-one}
use borrow.Author.Tests.{leb-true, eq-eqb, ne_eqb}
use lib.Dec.{leb, eqb}
use lib.ListN.{length, get_or}
use Rattle.std.specs.Prelude.{if◌then◌else◌}
use Rattle.format.specs.Bytes.{all_hold, u64, undefined_address}
use Rattle.format.specs.Blocks.{Block, block, overlaps_any}
use Rattle.format.specs.Result.{Result, value, answer, check, ◌>>=◌, ◌>>◌}
use Rattle.format.specs.FreeList.{free_blocks, free_list}
use Rattle.free_map.proofs.RangeLaws.{map-none}
use Rattle.free_list.specs.Spanned.{Spanned}
use Rattle.free_list.specs.FreeBlocks.{chain, block_sound, Held, BlockAdded}
use Rattle.free_list.proofs.ChainLaws.{follow, follow-next, chain_snoc, chained-snoc}

-- a sound block lies in the segment, and begins with its two fields
pub sound-inside : (seg : List ℕ) (met : List Block) (off : ℕ) → block_sound seg met off ≡ true →
    (off + 16 ≤ length seg) × (off + u64 seg (off + 8) ≤ length seg)
unfolding block_sound all_hold
sound-inside seg met off e =
    go (leb (off + 16) (length seg)) refl (leb 16 (u64 seg (off + 8))) (leb (off + u64 seg (off + 8)) (length seg)) refl _ e
  where
    go : (t : Bool) → leb (off + 16) (length seg) ≡ t → (u v : Bool) → leb (off + u64 seg (off + 8)) (length seg) ≡ v → (w : Bool) →
        (if t then if u then if v then w else false else false else false) ≡ true → (off + 16 ≤ length seg) × (off + u64 seg (off + 8) ≤ length seg)
    go true p true true r w q = (leb-true (off + 16) (length seg) p, leb-true (off + u64 seg (off + 8)) (length seg) r)
    go true p true false r w q = let z : ◌≡◌ {A = ℕ} 0 1 = cc in absurd (omega arith)
    go true p false v r w q = let z : ◌≡◌ {A = ℕ} 0 1 = cc in absurd (omega arith)
    go false p u v r w q = let z : ◌≡◌ {A = ℕ} 0 1 = cc in absurd (omega arith)

-- the free blocks from the one at off on, by its tests
free_step : (fuel : ℕ) (seg : List ℕ) (off : ℕ) (met : List Block) →
    free_blocks (suc fuel) seg off met
    ≡ if block_sound seg met off
    then if eqb (u64 seg off) 1 then value (met ++ (block off (u64 seg (off + 8)) ∷ [])) else free_blocks fuel seg (u64 seg off)
    (met ++ (block off (u64 seg (off + 8)) ∷ []))
    else answer 9
unfolding free_blocks block_sound all_hold ◌>>=◌
free_step fuel seg off met =
    go (leb (off + 16) (length seg)) (leb 16 (u64 seg (off + 8))) (leb (off + u64 seg (off + 8)) (length seg)) (not (overlaps_any met off (u64 seg (off + 8))))
    _
  where
    go : (t u v w : Bool) (x : Result (List Block)) →
        (check t 9 >> (check u 9 >> (check v 9 >> (check w 9 >> x)))) ≡ if all_hold (t ∷ u ∷ v ∷ w ∷ []) then x else answer 9
    go false u v w x = refl
    go true false v w x = refl
    go true true false w x = refl
    go true true true false x = refl
    go true true true true x = refl

-- no list
pub free-none : (seg : List ℕ) (head : ℕ) → (eqb head 1 ≡ true) → free_list seg head ≡ value (chain 0 seg head)
unfolding free_list chain
free-none seg head e = rw e

pub free-undefined : (seg : List ℕ) (head : ℕ) → (eqb head 1 ≡ false) → eqb head undefined_address ≡ true → free_list seg head ≡ value (chain 0 seg head)
unfolding free_list chain
free-undefined seg head e f = rw (e, f)

-- no block is held yet
pub none-held : {seg map : List ℕ} {head : ℕ} → ((k : ℕ) → get_or map k 0 ≡ 0) → Held seg map head 0
unfolding chain
none-held z = record { chained = tt; mapped = λ p. map-none z }

-- The list, where `met` blocks are met and held, and the next one stands at `at`.
pub record Following (seg map : List ℕ) (head at met : ℕ) : Type 0 where
  pub place : at ≡ follow met seg head
  pub left : free_list seg head ≡ free_blocks (length seg - met) seg at (chain met seg head)
  pub held : Held seg map head met

pub free-start : (seg map : List ℕ) (head : ℕ) → (eqb head 1 ≡ false) → eqb head undefined_address ≡ false → ((k : ℕ) → get_or map k 0 ≡ 0) →
    Following seg map head head 0
unfolding free_list chain follow
free-start seg map head e f z = record { place = refl; left = rw (e, f, sub-zero); held = none-held z }

-- One turn, by the block at `at`.
module _ {seg map map' : List ℕ} {head at met : ℕ} {r : Bool} (f : Following seg map head at met) (t : BlockAdded seg map head met at map' r)
    (h : met < length seg) where
  more : chain met seg head ++ (block at (u64 seg (at + 8)) ∷ []) ≡ chain (met + 1) seg head
  more = rw (f.place, add-one) (chain_snoc met seg head)

  step : free_list seg head
      ≡ if r
      then if eqb (u64 seg at) 1 then value (chain (met + 1) seg head) else free_blocks (length seg - (met + 1)) seg (u64 seg at) (chain (met + 1) seg head)
      else answer 9
  step =
      let k : length seg - met ≡ suc (length seg - (met + 1)) = omega arith in
      f.left ∙ rw k (free_step (length seg - (met + 1)) seg at (chain met seg head) ∙ rw (more, ← t.sound))

  pub block-unsound : r ≡ false → free_list seg head ≡ answer 9
  block-unsound p = step ∙ rw p

  pub block_inside : r ≡ true → (at + 16 ≤ length seg) × (at + u64 seg (at + 8) ≤ length seg)
  block_inside p = sound-inside seg (chain met seg head) at (sym t.sound ∙ p)

  pub block_held : r ≡ true → Held seg map' head (met + 1)
  block_held p = record {
    chained = rw add-one (chained-snoc met seg head f.held.chained (rw (← f.place) (block_inside p).0));
    mapped = λ l. rw more at (t.added p l);
  }

  -- the blocks, where those before lie between low and high
  pub block-spanned : {own low high low' high' : ℕ} → Spanned low high (chain met seg head) → own ≡ u64 seg (at + 8) →
      ((bs : List Block) → Spanned low high bs → Spanned low' high' (bs ++ (block at own ∷ []))) → Spanned low' high' (chain (met + 1) seg head)
  block-spanned s e w = rw more at (rw e at (w (chain met seg head) s))

  pub block_last : r ≡ true → u64 seg at ≡ 1 → free_list seg head ≡ value (chain (met + 1) seg head)
  block_last p q = step ∙ rw (p, eq-eqb (u64 seg at) 1 q)

  pub block_more : {next : ℕ} → r ≡ true → next ≡ u64 seg at → (next ≡ 1 → ⊥) → Following seg map' head next (met + 1)
  block_more p n q = record {
    place = n ∙ rw (add-one, follow-next, ← f.place);
    left = rw n (step ∙ rw (p, ne_eqb (u64 seg at) 1 (λ e. q (n ∙ e))));
    held = block_held p;
  }

-- as many blocks as the segment has bytes are too many
pub free-long : {seg map : List ℕ} {head at met : ℕ} → Following seg map head at met → length seg ≤ met → free_list seg head ≡ answer 9
unfolding free_blocks
free-long {seg} {map} {head} {at} {met} f h = let z : length seg - met ≡ 0 = omega arith in f.left ∙ rw z
