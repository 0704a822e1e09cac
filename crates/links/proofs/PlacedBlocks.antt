-- The bytes that a list of blocks holds, as blocks are entered.
use Prim.Native.Nat.{ℕ, ◌+◌, ◌≤◌, ◌<◌}
use mathlib.Core.List.{List, [], ◌∷◌, ◌++◌}
use mathlib.Core.Path.{◌≡◌}
use native.Mathlib.Omega.{arith}
use lib.ListN.{length, length-append, get_or-append}
use lib.Seq.{get_or-append_seam}
use Rattle.format.specs.Blocks.{Block, block_of, block}
use Rattle.links.specs.Placed.{HeldBy}

-- every byte from a on, up to the end e, is held
abbrev pub HeldUpTo : List Block → ℕ → ℕ → Type 0
HeldUpTo bs a e = (x : ℕ) → a ≤ x → x < e → HeldBy bs x

-- the blocks cs hold what bs hold, and are no fewer
pub record Kept (bs cs : List Block) : Type 0 where
  pub held : (x : ℕ) → HeldBy bs x → HeldBy cs x
  pub longer : length bs ≤ length cs

-- the blocks cs are bs and one more, of n bytes at a
pub record OneMore (bs : List Block) (a n : ℕ) (cs : List Block) : Type 0 where
  pub kept : Kept bs cs
  pub held : HeldUpTo cs a (a + n)
  pub longer : length bs < length cs

pub kept_same : (bs : List Block) → Kept bs bs
kept_same bs = record { held = λ x h. h; longer = omega arith }

pub kept_on : {bs cs ds : List Block} → Kept bs cs → Kept cs ds → Kept bs ds
kept_on p q = record { held = λ x h. q.held x (p.held x h); longer = omega (arith, p.longer, q.longer) }

pub one_more : (bs : List Block) (v a n : ℕ) → OneMore bs a n (bs ++ (block_of v a n ∷ []))
one_more bs v a n = record { kept = record { held = stays; longer = omega (arith, count) }; held = new; longer = omega (arith, count) }
  where
    count : length (bs ++ (block_of v a n ∷ [])) ≡ length bs + 1
    count = length-append bs (block_of v a n ∷ [])

    stays : (x : ℕ) → HeldBy bs x → HeldBy (bs ++ (block_of v a n ∷ [])) x
    stays x h = (h.0, omega (arith, h.1, count), rw (get_or-append bs (block_of v a n ∷ []) (block 0 0) h.0 h.1) h.2)

    new : HeldUpTo (bs ++ (block_of v a n ∷ [])) a (a + n)
    new x l m = (length bs, omega (arith, count), rw (get_or-append_seam bs (block_of v a n) [] (block 0 0)) (l, m))
