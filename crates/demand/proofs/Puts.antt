-- A count that is written: its own field, and the fields beside it.
use Prim.Native.Nat.{ℕ, ◌+◌, ◌^◌, ◌≤◌, ◌<◌}
use mathlib.Core.Bool.{Bool, true, false}
use mathlib.Core.List.{List}
use mathlib.Core.Logic.{◌⊎◌, inl, inr, ⊎_elim}
use mathlib.Core.Path.{◌≡◌, refl, ap, sym, ◌∙◌}
use native.Mathlib.Omega.{arith}
use borrow.Author.Tests.{leb-true, leb-false, ltb-true, ltb-false}
use lib.ListN.{length, get_or}
use lib.Dec.{leb, ltb}
use Rattle.format.specs.Bytes.{to_bytes, part, little_endian, u32}
use Rattle.format.specs.Log.{put_count}
use Rattle.walk.proofs.Overwrite.{length-overwrite, overwrite-outside, part-overwrite, part-overwrite-outside}
use Rattle.walk.proofs.LittleEndian.{length-to_bytes, little_endian-to_bytes}
use Rattle.found.specs.Beside.{Beside}
use Rattle.demand.specs.Bytes.{HoldsCount}

-- a field that holds a count below 2^32 is read as this count
pub count-read : (im : List ℕ) (a x : ℕ) → HoldsCount im a x → x < 2 ^ 32 → u32 im a ≡ x
count-read im a x h l = ap little_endian h ∙ little_endian-to_bytes 4 x (omega arith)

module _ (im : List ℕ) (a x : ℕ) where
  pub put-length : length (put_count im a x) ≡ length im
  put-length = length-overwrite im a (to_bytes 4 x)

  pub put-held : a + 4 ≤ length im → HoldsCount (put_count im a x) a x
  put-held l =
      let four : length (to_bytes 4 x) ≡ 4 = length-to_bytes 4 x in
      ap (part (put_count im a x) a) (sym four) ∙ part-overwrite im a (to_bytes 4 x) (omega arith)

  pub put-beside : (b : ℕ) → Beside b 4 a 4 → part (put_count im a x) b 4 ≡ part im b 4
  put-beside b h =
      let four : length (to_bytes 4 x) ≡ 4 = length-to_bytes 4 x in
      part-overwrite-outside im a (to_bytes 4 x) b 4 (⊎_elim (λ l. inl l) (λ l. inr (omega arith)) h)

  pub put-elsewhere : (i : ℕ) → ((a ≤ i) × (i < a + 4) → ⊥) → get_or (put_count im a x) i 0 ≡ get_or im i 0
  put-elsewhere i o = overwrite-outside im a (to_bytes 4 x) i (go (leb a i) refl)
    where
      go : (t : Bool) → leb a i ≡ t → (i < a) ⊎ (a + length (to_bytes 4 x) ≤ i)
      go true e = inr (go' (ltb i (a + 4)) refl)
        where
          go' : (u : Bool) → ltb i (a + 4) ≡ u → a + length (to_bytes 4 x) ≤ i
          go' true k = absurd (o (leb-true a i e, ltb-true i (a + 4) k))
          go' false k = omega (arith, length-to_bytes 4 x, ltb-false i (a + 4) k)
      go false e = inl (leb-false a i e)
