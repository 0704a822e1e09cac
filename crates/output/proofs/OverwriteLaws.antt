-- Laws of bytes written one after the other, and of the digits of a number.
use Prim.Native.Nat.{ℕ, zero, suc, ◌+◌, ◌-◌, ◌/◌, ◌%◌, ◌≤◌, ◌<◌}
use mathlib.Core.List.{List, [], ◌∷◌, ◌++◌}
use mathlib.Core.Path.{◌≡◌, refl, sym, ◌∙◌}
use native.Mathlib.Omega.{arith}
use native.Mathlib.Nat.{add-zero, zero-add}
use lib.ListN.{length, drop, set, length-append}
use lib.Seq.{set_comm, drop_at}
use Rattle.format.specs.Bytes.{overwrite}
use Rattle.format.specs.Command.{digit, hex}
use Rattle.walk.proofs.Overwrite.{overwrite-split}

-- two runs of bytes, the second behind the first
pub overwrite-append : (b : List ℕ) (a : ℕ) (xs ys : List ℕ) → overwrite b a (xs ++ ys) ≡ overwrite (overwrite b a xs) (a + length xs) ys
unfolding overwrite
overwrite-append b a [] ys = rw add-zero
overwrite-append b a (x ∷ xs) ys =
    let e : a + suc (length xs) ≡ a + 1 + length xs = omega arith in
    rw e (overwrite-append (set b a x) (a + 1) xs ys)

-- the last byte written first
overwrite-last : (b : List ℕ) (a : ℕ) (xs : List ℕ) (v : ℕ) → overwrite b a (xs ++ (v ∷ [])) ≡ overwrite (set b (a + length xs) v) a xs
unfolding overwrite
overwrite-last b a [] v = rw add-zero
overwrite-last b a (x ∷ xs) v =
    let e : a + suc (length xs) ≡ a + 1 + length xs = omega arith in
    rw (e, overwrite-last (set b a x) (a + 1) xs v, set_comm b a (a + 1 + length xs) x v (λ q. omega (arith, q)))

-- what stands behind bytes written from the start on
pub overwrite-behind : (b vs : List ℕ) → length vs ≤ length b → drop (length vs) (overwrite b 0 vs) ≡ drop (length vs) b
overwrite-behind b vs h = rw (overwrite-split b 0 vs (omega arith), drop_at vs (drop (0 + length vs) b) (length vs) refl, zero-add)

pub length-hex : (n x : ℕ) → length (hex n x) ≡ n
unfolding hex
length-hex zero x = refl
length-hex (suc n) x = length-append (hex n (x / 16)) (digit (x % 16) ∷ []) ∙ omega (arith, length-hex n (x / 16))

-- the lowest digit written, and the others left to write
next-digit : (b : List ℕ) (a n x : ℕ) → overwrite b a (hex (suc n) x) ≡ overwrite (set b (a + n) (digit (x % 16))) a (hex n (x / 16))
unfolding hex
next-digit b a n x = overwrite-last b a (hex n (x / 16)) (digit (x % 16)) ∙ rw length-hex

pub put-digit : (b : List ℕ) (a n x d : ℕ) → 0 < n → d ≡ digit (x % 16) → overwrite (set b (a + (n - 1)) d) a (hex (n - 1) (x / 16)) ≡ overwrite b a (hex n x)
put-digit b a n x d h e =
    let s : suc (n - 1) ≡ n = omega arith in
    rw e (sym (next-digit b a (n - 1) x) ∙ rw s)

-- no digit is left
pub no_digit : (b : List ℕ) (a n x : ℕ) → n ≡ 0 → overwrite b a (hex n x) ≡ b
unfolding overwrite hex
no_digit b a n x e = rw e
