-- The bytes of a number that was read from bytes are these.
use Prim.Native.Nat.{ℕ, suc, ◌+◌, ◌*◌, ◌/◌, ◌%◌, ◌^◌, ◌≤◌, ◌<◌}
use mathlib.Core.Bool.{Bool, true, false}
use mathlib.Core.List.{List, [], ◌∷◌}
use mathlib.Core.Path.{◌≡◌, refl, ap, sym, ◌∙◌}
use native.Mathlib.Nat.{pow-suc}
use native.Mathlib.Omega.{arith}
use borrow.Author.Tests.{ltb-true, ltb-false}
use lib.Dec.{ltb}
use lib.ListN.{length, get_or, length-take, get_or-eq_default}
use Rattle.format.specs.Bytes.{little_endian, to_bytes, part, u32}
use Rattle.walk.proofs.Parts.{part-byte, part_length}
use Rattle.demand.specs.Bytes.{IsBytes, HoldsCount}

to_bytes-little_endian : (bs : List ℕ) → IsBytes bs → to_bytes (length bs) (little_endian bs) ≡ bs
unfolding to_bytes little_endian
to_bytes-little_endian [] h = refl
to_bytes-little_endian (b ∷ bs) h =
    let low : (b + 256 * little_endian bs) % 256 ≡ b = omega (arith, h 0) in
    let high : (b + 256 * little_endian bs) / 256 ≡ little_endian bs = omega (arith, h 0) in
    rw (low, high, to_bytes-little_endian bs (λ k. h (suc k)))

little_endian-small : (bs : List ℕ) → IsBytes bs → little_endian bs < 256 ^ length bs
unfolding little_endian
little_endian-small [] h = omega arith
little_endian-small (b ∷ bs) h = rw pow-suc (omega (arith, h 0, little_endian-small bs (λ k. h (suc k))))

pub part_bytes : (im : List ℕ) (a n : ℕ) → IsBytes im → IsBytes (part im a n)
part_bytes im a n h k = go (ltb k n) refl
  where
    go : (t : Bool) → ltb k n ≡ t → get_or (part im a n) k 0 < 256
    go true e = rw (part-byte im a n k (ltb-true k n e)) (h (a + k))
    go false e =
        let l : length (part im a n) ≤ k = simp length-take (omega (arith, ltb-false k n e)) in
        let none : get_or (part im a n) k 0 ≡ 0 = get_or-eq_default (part im a n) 0 l in
        omega arith

-- a field of an image holds the count that is read from it, which fits four bytes
module _ (im : List ℕ) (b : IsBytes im) (a : ℕ) (inside : a + 4 ≤ length im) where
  long : length (part im a 4) ≡ 4
  long = part_length im a 4 inside

  pub count_held : HoldsCount im a (u32 im a)
  count_held = sym (ap (λ (n : ℕ). to_bytes n (u32 im a)) (sym long) ∙ to_bytes-little_endian (part im a 4) (part_bytes im a 4 b))

  pub count_small : u32 im a < 2 ^ 32
  count_small = let l : u32 im a < 256 ^ length (part im a 4) = little_endian-small (part im a 4) (part_bytes im a 4 b) in rw long at l
