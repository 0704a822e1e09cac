-- The words of a block list, block by block, and an object's blocks read off them.
use Prim.Native.Nat.{ℕ, zero, suc, ◌+◌, ◌*◌, ◌<◌}
use mathlib.Core.List.{List, [], ◌∷◌, ◌++◌}
use mathlib.Core.Path.{◌≡◌, refl}
use native.Mathlib.Omega.{arith}
use lib.ListN.{length, get_or, take}
use Rattle.format.specs.Blocks.{Block, block, no_object, owner_after, last_owner, block_words}
use Rattle.links.specs.Owners.{owned_after}
use Rattle.links.specs.Fours.{Four, read_owned, ListHolds}

four-behind : (ws : List ℕ) (x y z w k o : ℕ) (b : Block) → Four ws k b o → Four (x ∷ y ∷ z ∷ w ∷ ws) (suc k) b o
four-behind ws x y z w k o b f =
    let e : 4 * suc k ≡ suc (suc (suc (suc (4 * k)))) = omega arith in
    let e₁ : 4 * suc k + 1 ≡ suc (suc (suc (suc (4 * k + 1)))) = omega arith in
    let e₂ : 4 * suc k + 2 ≡ suc (suc (suc (suc (4 * k + 2)))) = omega arith in
    let e₃ : 4 * suc k + 3 ≡ suc (suc (suc (suc (4 * k + 3)))) = omega arith in
    record { address = rw e f.address; size = rw e₁ f.size; kind = rw e₂ f.kind; object = rw e₃ f.object }

words-four : (o : ℕ) (bs : List Block) (rest : List ℕ) (k : ℕ) → k < length bs →
    Four (block_words o bs ++ rest) k (get_or bs k (block 0 0)) (last_owner o (take (suc k) bs))
unfolding block_words last_owner
words-four o [] rest k h = absurd (omega arith)
words-four o (b ∷ bs) rest zero h = record { address = refl; size = refl; kind = refl; object = refl }
words-four o (b ∷ bs) rest (suc k) h =
    let p = owner_after o b.kind in
    four-behind (block_words p bs ++ rest) b.at b.size b.kind p k (last_owner p (take (suc k) bs)) (get_or bs k (block 0 0))
    (words-four p bs rest k (omega arith))

words-owned : (p o : ℕ) (bs : List Block) (rest : List ℕ) → read_owned (length bs) o (block_words p bs ++ rest) ≡ owned_after p o bs
unfolding read_owned owned_after block_words
words-owned p o [] rest = refl
words-owned p o (b ∷ bs) rest = rw (words-owned (owner_after p b.kind) o bs rest)

pub list-holds : (bs : List Block) (rest : List ℕ) → ListHolds bs (block_words no_object bs ++ rest)
list-holds bs rest = record { four = words-four no_object bs rest; read = λ o. words-owned no_object o bs rest }
