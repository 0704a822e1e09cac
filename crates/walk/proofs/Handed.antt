-- A call in a working list of its own, and what it hands over to the caller's list.
use Prim.Native.Nat.{ℕ, ◌-◌, ◌*◌, ◌≤◌}
use mathlib.Core.List.{List, ◌++◌}
use mathlib.Core.Path.{◌≡◌, ap, sym, ◌∙◌}
use native.Mathlib.Omega.{arith}
use lib.ListN.{length, take, drop, replicate, length-replicate, length-append, take-append-drop}
use lib.Seq.{take-append-le, length-take-le}
use Rattle.format.specs.Limits.{blocks_most}
use Rattle.format.specs.Bytes.{padded}
use Rattle.format.specs.Blocks.{room_of}
use Rattle.walk.specs.Lent.{places_of, work_words, handed}
use Rattle.walk.proofs.BlockList.{room-is, room_most, places_is, places-work}

-- of no block there are zeros alone
pub handed-none : (lent : ℕ) (ws : List ℕ) → handed lent 0 ws ≡ replicate lent 0
handed-none lent ws = let z : lent - 0 ≡ lent = omega arith in rw z

-- a working list for all blocks, before its use: one word throughout
abbrev pub work : (word : ℕ) → List ℕ
work word = replicate (work_words blocks_most) word

-- The first n words of a list zs have the room of a caller's list of so many words.
pub record Working (lent n : ℕ) (zs : List ℕ) : Type 0 where
  pub there : n ≤ length zs
  pub long : length (take n zs) ≡ n
  pub fit : room_of lent ≡ places_of (length (take n zs))

pub working : (lent room n word : ℕ) → room ≡ room_of lent → n ≡ work_words room → Working lent n (work word)
working lent room n word is words =
    let there : n ≤ length (work word) = omega (arith, is, words, room_most lent, length-replicate {A = ℕ} (work_words blocks_most) word) in
    let long = length-take-le n (work word) there in
    let same : length (take n (work word)) ≡ work_words (room_of lent) = long ∙ words ∙ ap work_words is in
    record { there = there; long = long; fit = rw same (sym (places-work (room_of lent) (room_most lent))) }

-- They came back as ys with so many blocks, which fit the caller's list; the words behind them are not handed over.
pub record HandedOver (lent n : ℕ) (zs ys : List ℕ) (count : ℕ) : Type 0 where
  pub fits : 4 * count ≤ lent
  pub whole : length (ys ++ drop n zs) ≡ length zs
  pub there : 4 * count ≤ length (ys ++ drop n zs)
  pub same : handed lent count (ys ++ drop n zs) ≡ handed lent count ys

pub handed-over : (lent n : ℕ) (zs ys : List ℕ) (count : ℕ) → Working lent n zs → length ys ≡ length (take n zs) → count ≤ places_of (length (take n zs)) →
    HandedOver lent n zs ys count
handed-over lent n zs ys count w back counted =
    let all : length (take n zs ++ drop n zs) ≡ length zs = ap length (take-append-drop n zs) in
    let split = length-append ys (drop n zs) in
    let held : 4 * count ≤ length ys = omega (arith, back, counted, places_is (length (take n zs))) in
    record {
      fits = omega (arith, counted, w.fit, room-is lent);
      whole = omega (arith, all, back, split, length-append (take n zs) (drop n zs));
      there = omega (arith, held, split);
      same = ap (padded lent) (take-append-le (4 * count) ys (drop n zs) held);
    }

-- So it is of a working list with the caller's room.
pub working-over : (lent room n word : ℕ) (ys : List ℕ) (count : ℕ) → room ≡ room_of lent → n ≡ work_words room → length ys ≡ length (take n (work word)) →
    count ≤ places_of (length (take n (work word))) → HandedOver lent n (work word) ys count
working-over lent room n word ys count is words back counted = handed-over lent n (work word) ys count (working lent room n word is words) back counted
