-- A call in a working list for so many blocks, and the words of the list that are its blocks.
use Prim.Native.Nat.{ℕ, ◌*◌, ◌-◌, ◌≤◌}
use mathlib.Core.Path.{◌≡◌, sym, ◌∙◌}
use mathlib.Core.List.{List, ◌++◌}
use native.Mathlib.Omega.{arith}
use lib.ListN.{length, take, drop, replicate}
use lib.Seq.{take_at, length-take-le}
use Rattle.format.specs.Blocks.{room_of}
use Rattle.walk.specs.Lent.{places_of, work_words, handed}
use Rattle.walk.proofs.BlockList.{room-is, places_is}
use Rattle.front.proofs.Part.{came-back}

-- The first n words of a list zs are a working list for so many blocks, and four words a block are as much room.
pub record Working (room n : ℕ) (zs : List ℕ) : Type 0 where
  pub there : n ≤ length zs
  pub long : n ≡ length (take n zs)
  pub fit : room_of (4 * room) ≡ places_of (length (take n zs))

pub working : (room n : ℕ) (zs : List ℕ) → n ≡ work_words room → work_words room ≤ length zs → Working room n zs
working room n zs words h =
    let there : n ≤ length zs = omega (arith, words) in
    let long : length (take n zs) ≡ work_words room = length-take-le n zs there ∙ words in
    record {
      there = there;
      long = sym (length-take-le n zs there);
      fit = rw long (omega (arith, room-is (4 * room), places_is (work_words room)));
    }

-- They came back as ys, with so many blocks: the words of these in the whole list are those that a list of four words a block is handed.
pub record Worked (room n : ℕ) (zs ys : List ℕ) (count : ℕ) : Type 0 where
  pub counted : count ≤ room
  pub fits : 4 * count ≤ length (ys ++ drop n zs)
  pub long : 4 * count ≡ length (take (4 * count) (ys ++ drop n zs))
  pub words : take (4 * count) (ys ++ drop n zs) ≡ take (4 * count) (handed (4 * room) count ys)
  pub whole : length (ys ++ drop n zs) ≡ length zs

pub worked : (room n : ℕ) (zs ys : List ℕ) (count : ℕ) → n ≡ work_words room → work_words room ≤ length zs → length ys ≡ length (take n zs) →
    count ≤ places_of (length (take n zs)) → Worked room n zs ys count
worked room n zs ys count is lent back h =
    let w = working room n zs is lent in
    let held : 4 * count ≤ length ys = omega (arith, back, h, places_is (length (take n zs))) in
    let b = came-back ys zs n (4 * count) back held in
    let used = length-take-le (4 * count) ys held in
    record {
      counted = omega (arith, h, w.fit, room-is (4 * room));
      fits = b.fits;
      long = b.long;
      words = b.words ∙ sym (take_at (take (4 * count) ys) (replicate (4 * room - length (take (4 * count) ys)) 0) (4 * count) used);
      whole = b.whole;
    }
