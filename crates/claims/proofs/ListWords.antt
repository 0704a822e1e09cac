-- A block list holds 64-bit words, as many as were lent, so that a caller in C reads them back from its bytes.
use Prim.Native.Nat.{ℕ, zero, suc, ◌+◌, ◌-◌, ◌/◌, ◌^◌, ◌≤◌, ◌<◌}
use mathlib.Core.Bool.{Bool, true, false, not}
use mathlib.Core.List.{List, [], ◌∷◌, ◌++◌, append-nil}
use mathlib.Core.Path.{◌≡◌, refl, sym}
use native.Mathlib.Omega.{arith}
use borrow.Author.Tests.{eqb-false, leb-true, leb-false}
use lib.Dec.{eqb, leb}
use lib.ListN.{length, replicate, length-append, length-replicate}
use Rattle.std.specs.Prelude.{if◌then◌else◌}
use Rattle.format.specs.Bytes.{undefined_address, to_words}
use Rattle.format.specs.Blocks.{Block, superblock_kind, header_kind, no_object, owner_after, block_words, block_list, room_of}
use Rattle.format.specs.Walk.{Walk, done, run}
use Rattle.format.specs.Front.{padded_bytes}
use Rattle.walk.proofs.Owners.{length-block_words}
use Rattle.laws.specs.Blocks.{Inside}
use Rattle.laws.proofs.Growth.{Grown, run-grown}
use Rattle.laws.proofs.Restart.{run-done}
use Rattle.links.specs.Owners.{AllKinds}
use Rattle.links.proofs.KindsEntered.{enters-known, plan-kinds}
use Rattle.demand.proofs.LogRead.{zero-at}
use Rattle.claims.specs.CDemand3.{IsWords}
use Rattle.claims.proofs.WordsBack.{slice-words}

-- what is read back: words that fill their slice
pub record FillsList (lent : ℕ) (ws : List ℕ) : Type 0 where
  pub words : IsWords ws
  pub whole : length ws ≡ lent

pub list_back : (l : ℕ) (ws : List ℕ) → FillsList (l / 8) ws → to_words (l / 8) (padded_bytes l ws) ≡ ws
list_back l ws f =
    let none : l / 8 - length ws ≡ 0 = omega (arith, f.whole) in
    rw (slice-words l ws f.words (omega (arith, f.whole)), none) (append-nil ws)

pub zeros-fill : (lent : ℕ) → FillsList lent (replicate lent 0)
zeros-fill lent = record { words = λ k. omega (arith, zero-at lent k); whole = length-replicate lent 0 }

-- a number is at most all ones
pub owner-most : (o v : ℕ) → o ≤ no_object → owner_after o v ≤ no_object
unfolding owner_after
owner-most o v h = go (eqb v superblock_kind) (eqb v header_kind) (eqb o no_object) refl
  where
    go : (t u w : Bool) → eqb o no_object ≡ w → (if t then no_object else if not u then o else if w then 0 else o + 1) ≤ no_object
    go true u w e = omega arith
    go false false w e = h
    go false true true e = omega arith
    go false true false e = below (leb (o + 1) no_object) refl
      where
        below : (t : Bool) → leb (o + 1) no_object ≡ t → o + 1 ≤ no_object
        below true l = leb-true _ _ l
        below false l = absurd (eqb-false o no_object e (omega (arith, h, leb-false (o + 1) no_object l)))

pub all_ones : (x : ℕ) → x ≤ no_object → x < 2 ^ 64
unfolding undefined_address
all_ones x h = omega arith

module _ (eof : ℕ) (small : eof < 2 ^ 32) (n : ℕ) where
  block_words_lem : (o : ℕ) (bs : List Block) → o ≤ no_object → Inside eof bs → AllKinds (λ v. v ≤ 8) bs → IsWords (block_words o bs ++ replicate n 0)
  unfolding block_words
  block_words_lem o [] m i k j = omega (arith, zero-at n j)
  block_words_lem o (b ∷ bs) m i k zero = omega (arith, i.0)
  block_words_lem o (b ∷ bs) m i k (suc zero) = omega (arith, i.0)
  block_words_lem o (b ∷ bs) m i k (suc (suc zero)) = omega (arith, k.0)
  block_words_lem o (b ∷ bs) m i k (suc (suc (suc zero))) = all_ones (owner_after o b.kind) (owner-most o b.kind m)
  block_words_lem o (b ∷ bs) m i k (suc (suc (suc (suc j)))) = block_words_lem (owner_after o b.kind) bs (owner-most o b.kind m) i.1 k.1 j

-- the list of blocks that lie inside and are no more than the room
pub blocks-fill : (eof lent : ℕ) (bs : List Block) → eof < 2 ^ 32 → Inside eof bs → AllKinds (λ v. v ≤ 8) bs → length bs ≤ room_of lent →
    FillsList lent (block_list lent bs)
unfolding room_of undefined_address
blocks-fill eof lent bs small inside kinds fits = record {
  words = block_words_lem eof small (lent - length (block_words no_object bs)) no_object bs (omega arith) inside kinds;
  whole = simp (length-append, length-replicate) (omega (arith, length-block_words no_object bs, fits));
}

-- the list of a run that is done, begun with no block
pub run-fills : {A : Type 0} (im : List ℕ) (eof lent : ℕ) (w : Walk A) (a : A) (bs : List Block) → eof < 2 ^ 32 → run im eof (room_of lent) w [] ≡ done a bs →
    FillsList lent (block_list lent bs)
run-fills im eof lent w a bs small e =
    let g : Grown eof (room_of lent) [] bs = rw e at (run-grown im eof (room_of lent) w [] (omega arith)) in
    let new : g.new ≡ bs = sym g.all in
    let all = (run-done im eof w (room_of lent) [] bs a e).all in
    let kinds : AllKinds (λ v. v ≤ 8) bs = rw all (plan-kinds (λ v. v ≤ 8) im eof w (enters-known w)) in
    blocks-fill eof lent bs small (rw new at g.inside) kinds g.fits
