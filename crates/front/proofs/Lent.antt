-- The words lent for the block list, and the list as bytes.
use Prim.Native.Nat.{ℕ, ◌*◌, ◌/◌, ◌-◌, ◌≤◌}
use mathlib.Core.Path.{◌≡◌, sym}
use mathlib.Core.List.{List}
use native.Mathlib.Omega.{arith}
use lib.ListN.{length, take, replicate}
use lib.Seq.{take_at}
use Rattle.format.specs.Limits.{blocks_most}
use Rattle.format.specs.Blocks.{Block, room_of, no_object, block_words, block_list}
use Rattle.format.specs.Front.{padded_bytes}
use Rattle.walk.proofs.BlockList.{room_most}
use Rattle.walk.proofs.Owners.{length-block_words}
use Rattle.words.proofs.Words.{padded-twice}

-- the room of the words that a room needs
pub room_of-room : (k : ℕ) → room_of (4 * room_of k) ≡ room_of k
unfolding room_of
room_of-room k = omega arith

-- the words that a room needs are there
pub room-lent : (k : ℕ) → 4 * room_of k ≤ k
unfolding room_of
room-lent k = omega arith

-- the blocks of a room fit a list for all blocks, and their words are lent
pub room_fits : (room k : ℕ) → room ≡ room_of k → (room ≤ blocks_most) × (4 * room ≤ k)
room_fits room k e = (omega (arith, room_most k), omega (arith, room-lent k))

-- the words of fewer blocks are no more room
pub less-words : (m all : ℕ) → m ≤ all → room_of (4 * m) ≤ room_of (4 * all)
unfolding room_of
less-words m all h = omega arith

-- Block lists in so many words lent, as the bytes of a slice of l: what matters are the blocks.
module _ (l lent : ℕ) (bs : List Block) (fits : 4 * length bs ≤ lent) (h : lent ≤ l / 8) where
  pub list-bytes : padded_bytes l (block_list lent bs) ≡ padded_bytes l (block_words no_object bs)
  list-bytes = padded-twice l lent (block_words no_object bs) (omega (arith, length-block_words no_object bs)) (omega arith)

  -- the words of the blocks are enough
  pub used-bytes : padded_bytes l (take (4 * length bs) (block_list lent bs)) ≡ padded_bytes l (block_list lent bs)
  used-bytes =
      let long = length-block_words no_object bs in
      let used = take_at (block_words no_object bs) (replicate (lent - length (block_words no_object bs)) 0) (4 * length bs) long in
      rw used (sym list-bytes)
