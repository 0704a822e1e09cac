-- The verdict of the index is that of the scan.
use Prim.Native.Nat.{ℕ, ◌≤◌}
use mathlib.Core.Bool.{Bool, true, false}
use mathlib.Core.List.{List}
use mathlib.Core.Path.{◌≡◌, refl, sym}
use native.Mathlib.Omega.{arith}
use lib.ListN.{length}
use Rattle.format.specs.Limits.{blocks_most}
use Rattle.format.specs.Blocks.{Block, overlaps_any, first_met}
use Rattle.block_index.specs.Index.{start_of}
use Rattle.block_index.specs.Search.{FoundIn, FirstMet}
use Rattle.block_index.specs.declared.index.Found.{Found}
use Rattle.walk.proofs.Verdict.{all_apart, met-first, one-met}
use Rattle.disjoint_blocks.specs.Holds.{Holds}
use Rattle.disjoint_blocks.proofs.Held.{held}
use Rattle.claims.specs.Verdict.{SameVerdict}

module _ (bs : List Block) (ws : List ℕ) (room a n : ℕ) (h : Holds ws room bs) where
  same-verdict : (r : Found) → FoundIn ws (length bs) a n r → r.met ≡ overlaps_any bs a n
  same-verdict r f = go r.met refl
    where
      go : (t : Bool) → r.met ≡ t → t ≡ overlaps_any bs a n
      go true e = let m = f.meets e in rw h.blocks at (sym (one-met a n (length bs) ws m.0 m.1 m.2))
      go false e = rw h.blocks at (sym (all_apart a n (length bs) ws (f.apart e)))

  same_first : (b : ℕ) → FirstMet ws (length bs) a n b → start_of ws b ≡ first_met bs a n
  same_first b f = rw h.blocks at (sym (met-first a n (length bs) ws b f).1)

compared-few : (ws : List ℕ) (count a n : ℕ) (r : Found) → FoundIn ws count a n r → count ≤ blocks_most → r.tests ≤ 32
unfolding blocks_most
compared-few ws count a n r f h = let m = f.tests 22 (omega arith) in omega (arith, m)

pub same-verdicts : SameVerdict
same-verdicts = record {
  held = held;
  verdict = λ bs ws room a n r h. same-verdict bs ws room a n h r;
  first = λ bs ws room a n b h. same_first bs ws room a n h b;
  few = compared-few;
}
