-- The checks of the dataspace message, one after the other.
use Prim.Native.Nat.{ℕ, ◌+◌, ◌*◌, ◌≤◌, ◌<◌}
use mathlib.Core.Bool.{Bool, true, false}
use mathlib.Core.List.{List}
use mathlib.Core.Path.{◌≡◌, refl, sym, ◌∙◌}
use native.Mathlib.Omega.{arith}
use borrow.Author.Tests.{eq-eqb, ne_eqb, le-leb, lt-leb}
use lib.Dec.{eqb, leb}
use lib.ListN.{length, drop}
use Rattle.format.specs.Limits.{rank_most}
use Rattle.std.specs.Prelude.{if◌then◌else◌}
use Rattle.format.specs.Bytes.{◌implies◌, u8, to_words}
use Rattle.format.specs.Dataspace.{Dataspace, all_at_most, read_dataspace}
use Rattle.format.specs.Result.{Result, value, answer, check, ◌>>◌}
use Rattle.laws.proofs.Results.{passes, fails}
use Rattle.std.specs.Prelude.{Ok, Err}
use Rattle.dataspace.specs.Dataspace.{space_of, SpaceRead}

-- what follows the check of the length, of the version, of the rank, of the flags, of the sizes
module _ (b : List ℕ) where
  abbrev sizes : List ℕ
  sizes = to_words (u8 b 1) (drop 8 b)

  abbrev maxima : List ℕ
  maxima = to_words (u8 b 1) (drop (8 + 8 * u8 b 1) b)

  abbrev stored : Bool
  stored = eqb (u8 b 2) 1

  abbrev pub after_sizes : Result Dataspace
  after_sizes = do
    check (stored implies leb (8 + 16 * u8 b 1) (length b)) 11
    check (stored implies all_at_most sizes maxima) 11
    value (record { sizes = sizes; maxima = if stored then maxima else sizes })

  abbrev pub after_flags : Result Dataspace
  after_flags = check (leb (8 + 8 * u8 b 1) (length b)) 11 >> after_sizes

  abbrev pub after_rank : Result Dataspace
  after_rank = check (leb (u8 b 2) 1) 3 >> after_flags

  abbrev pub after_version : Result Dataspace
  after_version = check (leb (u8 b 1) rank_most) 11 >> after_rank

  abbrev pub after_length : Result Dataspace
  after_length = check (eqb (u8 b 0) 1) 3 >> after_version

  pub first-check : {x : Result Dataspace} → x ≡ (check (leb 8 (length b)) 11 >> after_length) → x ≡ read_dataspace b
  unfolding read_dataspace
  first-check e = e

-- the rank was read as k
module _ (b : List ℕ) {k : ℕ} (e : k ≡ u8 b 1) where
  pub none-stored : (u8 b 2 ≡ 1 → ⊥) → value (space_of b k false) ≡ after_sizes b
  none-stored h = rw (← e, ne_eqb (u8 b 2) 1 h) (passes 11 _ refl (passes 11 _ refl refl))

  module _ (h : u8 b 2 ≡ 1) where
    pub maxima-short : length b < 8 + 8 * k + 8 * k → answer 11 ≡ after_sizes b
    maxima-short l = rw (← e, eq-eqb (u8 b 2) 1 h) (fails 11 _ (lt-leb (8 + 16 * k) (length b) (omega arith)))

    module _ (l : 8 + 8 * k + 8 * k ≤ length b) {t : Bool} (f : t ≡ all_at_most (to_words k (drop 8 b)) (to_words k (drop (8 + 8 * k) b))) where
      pub maxima-low : t ≡ false → answer 11 ≡ after_sizes b
      maxima-low g = rw (← e, eq-eqb (u8 b 2) 1 h) (passes 11 _ (le-leb (8 + 16 * k) (length b) (omega arith)) (fails 11 _ (sym f ∙ g)))

      pub maxima-stored : t ≡ true → value (space_of b k true) ≡ after_sizes b
      maxima-stored g = rw (← e, eq-eqb (u8 b 2) 1 h) (passes 11 _ (le-leb (8 + 16 * k) (length b) (omega arith)) (passes 11 _ (sym f ∙ g) refl))

-- what each return shows
pub refused-space : {b : List ℕ} {n : ℕ} → answer n ≡ read_dataspace b → SpaceRead b (Err n)
refused-space e = record { walk = e; ranked = omega arith; sizes = omega arith; maxima = omega arith }

pub plain-space : {b : List ℕ} {k : ℕ} → value (space_of b k false) ≡ read_dataspace b → k ≤ rank_most → 8 + 8 * k ≤ length b →
    SpaceRead b (Ok (record { rank = k; maxima_stored = false }))
plain-space e r h = record { walk = e; ranked = r; sizes = h; maxima = h }

pub stored-space : {b : List ℕ} {k : ℕ} → value (space_of b k true) ≡ read_dataspace b → k ≤ rank_most → 8 + 8 * k + 8 * k ≤ length b →
    SpaceRead b (Ok (record { rank = k; maxima_stored = true }))
stored-space e r h = record { walk = e; ranked = r; sizes = omega arith; maxima = omega arith }
