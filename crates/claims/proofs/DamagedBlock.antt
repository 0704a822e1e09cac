-- The block that holds a byte, by its place in the list.
use Prim.Native.Nat.{ℕ, zero, suc, ◌+◌, ◌*◌, ◌<◌}
use mathlib.Core.Bool.{Bool, true, false}
use mathlib.Core.List.{List, [], ◌∷◌}
use mathlib.Core.Path.{◌≡◌, refl}
use native.Mathlib.Omega.{arith}
use borrow.Author.Tests.{le-leb, lt-ltb}
use lib.ListN.{length, get_or, take}
use Rattle.std.specs.Prelude.{if◌then◌else◌}
use Rattle.format.specs.Blocks.{Block, block, no_object, owner_after, last_owner, overlaps, block_list}
use Rattle.format.specs.Report.{ListedBlock, listed_block, holds_byte, holding}
use Rattle.links.specs.Owners.{HoldsByte, OneOwner}
use Rattle.links.specs.Fours.{Four, number_at}
use Rattle.links.proofs.BlockWords.{list-holds}
use Rattle.links.proofs.StoppedDamaged.{holds-true}

held_test : (b : Block) (x : ℕ) → HoldsByte b x → holds_byte b x ≡ true
unfolding holds_byte
held_test b x h = simp (le-leb b.at x h.0, lt-ltb x (b.at + b.size) h.1)

-- the k-th block as the list has it, where o is the number of the block before them
abbrev pub listed_at : ℕ → List Block → ℕ → ListedBlock
listed_at o bs k = let b = get_or bs k (block 0 0) in listed_block b.at b.size b.kind (last_owner o (take (suc k) bs))

holding-only : (o : ℕ) (bs : List Block) (x k : ℕ) → k < length bs → HoldsByte (get_or bs k (block 0 0)) x →
    ((j : ℕ) → HoldsByte (get_or bs j (block 0 0)) x → j ≡ k) → holding o bs x ≡ listed_at o bs k
unfolding holding last_owner
holding-only o [] x k l h only = absurd (omega arith)
holding-only o (b ∷ bs) x zero l h only = rw (held_test b x h) refl
holding-only o (b ∷ bs) x (suc k) l h only =
    go (holds_byte b x) refl (holding-only (owner_after o b.kind) bs x k (omega arith) h (λ j q. omega (arith, only (suc j) q)))
  where
    go : (t : Bool) → holds_byte b x ≡ t → holding (owner_after o b.kind) bs x ≡ listed_at (owner_after o b.kind) bs k →
        (if t then listed_block b.at b.size b.kind (owner_after o b.kind) else holding (owner_after o b.kind) bs x) ≡ listed_at o (b ∷ bs) (suc k)
    go true e rest = absurd (omega (arith, only 0 (holds-true b x e)))
    go false e rest = rest

-- no byte has two owners, so that the block named is the one that holds the byte
pub holding-is : (bs : List Block) (x k : ℕ) → OneOwner bs → k < length bs → HoldsByte (get_or bs k (block 0 0)) x →
    holding no_object bs x ≡ listed_at no_object bs k
holding-is bs x k one l h = holding-only no_object bs x k l h (λ j q. one j k x q h)

-- the four words of the k-th block
pub four-at : (lent : ℕ) (bs : List Block) (k : ℕ) → k < length bs → Four (block_list lent bs) k (get_or bs k (block 0 0)) (number_at k bs)
four-at lent bs k h = (list-holds bs _).four k h

-- what the words say of shared bytes is what the block says
pub four-overlaps : (lent : ℕ) (bs : List Block) (a n k : ℕ) → k < length bs →
    overlaps (block (get_or (block_list lent bs) (4 * k) 0) (get_or (block_list lent bs) (4 * k + 1) 0)) a n ≡ overlaps (get_or bs k (block 0 0)) a n
unfolding overlaps
four-overlaps lent bs a n k h = let f = four-at lent bs k h in rw (f.address, f.size) refl
