-- What opening an image has tested, and what it gives where a test fails.
use Prim.Native.Nat.{ℕ}
use mathlib.Core.Bool.{Bool, true, false, not}
use mathlib.Core.List.{List}
use mathlib.Core.Path.{◌≡◌, refl}
use native.Mathlib.Omega.{arith}
use lib.ListN.{length}
use lib.Dec.{eqb}
use Rattle.format.specs.Limits.{image_least, image_most}
use Rattle.std.specs.Prelude.{if◌then◌else◌}
use Rattle.format.specs.Bytes.{in_range, u64}
use Rattle.format.specs.Superblock.{Superblock, Opening, opened, not_opened, signature, superblock_read, superblock_sound, superblock_fields, open_image}

-- all four tests hold
pub record Tested (im : List ℕ) : Type 0 where
  pub ranged : in_range image_least image_most (length im) ≡ true
  pub signed : eqb (u64 im 0) signature ≡ true
  pub read : superblock_read im ≡ true
  pub sound : superblock_sound im ≡ true

-- a thing holds of the opening if it holds of each of the four refusals, and of the fields where all tests hold
opening : (im : List ℕ) (P : Opening → Type 0) → P (not_opened 1) → P (not_opened 2) → P (not_opened 3) → P (not_opened 4) →
    (Tested im → P (opened (superblock_fields im))) → P (open_image im)
unfolding open_image
opening im P one two three four all =
    go (in_range image_least image_most (length im)) (eqb (u64 im 0) signature) (superblock_read im) (superblock_sound im) refl refl refl refl
  where
    go : (t u v w : Bool) → in_range image_least image_most (length im) ≡ t → eqb (u64 im 0) signature ≡ u → superblock_read im ≡ v → superblock_sound im ≡ w →
        P (if not t then not_opened 1 else if not u then not_opened 2 else if not v then not_opened 3 else if not w then not_opened 4
        else opened (superblock_fields im))
    go false u v w a b c d = one
    go true false v w a b c d = two
    go true true false w a b c d = three
    go true true true false a b c d = four
    go true true true true a b c d = all (record { ranged = a; signed = b; read = c; sound = d })

module _ (im : List ℕ) where
  -- an image that is opened has its fields read
  pub opened-tested : (s : Superblock) → open_image im ≡ opened s → Tested im × (superblock_fields im ≡ s)
  opened-tested s = opening im (λ o. o ≡ opened s → Tested im × (superblock_fields im ≡ s)) (none 1) (none 2) (none 3) (none 4) (λ t e. (t, cc))
    where
      none : (n : ℕ) → not_opened n ≡ opened s → Tested im × (superblock_fields im ≡ s)
      none n e = let z : ◌≡◌ {A = ℕ} 0 1 = cc in absurd (omega arith)

  -- "1, 2, 3, 4 for the superblock"
  pub not-opened-one : (N : ℕ → Type 0) → N 1 → N 2 → N 3 → N 4 → (n : ℕ) → open_image im ≡ not_opened n → N n
  not-opened-one N one two three four n =
      opening im (λ o. o ≡ not_opened n → N n) (is 1 one) (is 2 two) (is 3 three) (is 4 four)
      (λ t e. let z : ◌≡◌ {A = ℕ} 0 1 = cc in absurd (omega arith))
    where
      is : (m : ℕ) → N m → not_opened m ≡ not_opened n → N n
      is m h e = let same : m ≡ n = cc in rw (← same) h
