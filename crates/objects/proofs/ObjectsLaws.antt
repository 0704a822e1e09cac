-- The loop over objects against the walk of all objects.
use Prim.Native.Nat.{ℕ, zero, suc, ◌+◌, ◌-◌, ◌≤◌, ◌<◌}
use mathlib.Core.List.{List}
use mathlib.Core.Path.{◌≡◌, refl}
use native.Mathlib.Omega.{arith}
use lib.ListN.{length, get_or}
use Rattle.format.specs.Limits.{objects_most}
use Rattle.format.specs.declared.Refusal.{Refusal}
use Rattle.format.specs.Walk.{Walk, ret, ◌>>=◌, run}
use Rattle.format.specs.Sharing.{Found}
use Rattle.format.specs.Superblock.{Superblock}
use Rattle.format.specs.Object.{object_walk}
use Rattle.format.specs.Audit.{objects_walk}
use Rattle.walk.specs.Lent.{blocks_of, Walked, ended, stopped}
use Rattle.laws.proofs.Simulation.{Simulation, same-walk, returned, callee-done, callee-stopped}
use Rattle.ledger.specs.Table.{Table}
use Rattle.sharing.specs.Sharing.{found_of}
use Rattle.ledger.proofs.TableLaws.{drop-linked_of, drop_past}
use Rattle.superblock.specs.Superblock.{superblock_of}
use Rattle.superblock.specs.declared.File.{File}
use Rattle.walk.specs.declared.blocks.Blocks.{Blocks}
use Rattle.walk.specs.Entered.{SameWords}
use Rattle.sharing.specs.declared.Found as lent
use Rattle.sharing.specs.Lent.{SameFound}
use Rattle.object.specs.Object.{ListedWith}

module _ (s : Superblock) (i n : ℕ) (addresses counts marks : List ℕ) (t : Table addresses counts n) where
  abbrev f : Found
  f = found_of addresses counts marks n

  -- an object is left: it is walked next
  next-object : i < n → objects_walk s (objects_most - i) i f ≡ (object_walk s i (get_or addresses i 0) f >>= objects_walk s (objects_most - (i + 1)) (i + 1))
  unfolding objects_walk
  next-object h =
      let f : objects_most - i ≡ suc (objects_most - (i + 1)) = omega (arith, t.fits) in
      rw (f, drop-linked_of n i addresses counts (omega (arith, t.fits, t.addresses_long)) (omega (arith, t.fits, t.counts_long)) h)

  -- none is left
  no-object : (fuel : ℕ) → n ≤ i → objects_walk s fuel i f ≡ ret f
  unfolding objects_walk
  no-object zero h = refl
  no-object (suc fuel) h = rw (drop_past n i addresses counts h)

module _ (im : List ℕ) (eof room : ℕ) (s : Superblock) {w₀ : Walk Found} {n₀ : ℕ} {ws₀ : List ℕ} {entered : ℕ} {ws : List ℕ} (i n : ℕ)
    (addresses counts marks : List ℕ) (t : Table addresses counts n)
    (m : Simulation im eof room w₀ n₀ ws₀ (objects_walk s (objects_most - i) i (found_of addresses counts marks n)) entered ws) where
  pub objects-done : n ≤ i → Walked ws₀ ws (ended (found_of addresses counts marks n) entered) (run im eof room w₀ (blocks_of n₀ ws₀))
  objects-done h = returned (same-walk (ret (found_of addresses counts marks n)) (no-object s i n addresses counts marks t (objects_most - i) h) m)

  module _ (h : i < n) (ws₁ : List ℕ) where
    abbrev at-object : Simulation im eof room w₀ n₀ ws₀ (object_walk s i (get_or addresses i 0) (found_of addresses counts marks n) >>= objects_walk s
        (objects_most - (i + 1)) (i + 1)) entered ws
    at-object = same-walk _ (next-object s i n addresses counts marks t h) m

    pub object-stopped : (x : Refusal) → Walked ws ws₁ (stopped x) (run im eof room (object_walk s i (get_or addresses i 0) (found_of addresses counts marks n))
        (blocks_of entered ws)) → Walked ws₀ ws₁ (stopped x) (run im eof room w₀ (blocks_of n₀ ws₀))
    object-stopped x r = callee-stopped ws₁ (object_walk s i (get_or addresses i 0) (found_of addresses counts marks n)) _ at-object r

    pub object-done : (g : Found) (c : ℕ) → length ws₁ ≡ length ws →
        Walked ws ws₁ (ended g c) (run im eof room (object_walk s i (get_or addresses i 0) (found_of addresses counts marks n)) (blocks_of entered ws)) →
        Simulation im eof room w₀ n₀ ws₀ (objects_walk s (objects_most - (i + 1)) (i + 1) g) c ws₁
    object-done g c same r = callee-done ws₁ (object_walk s i (get_or addresses i 0) (found_of addresses counts marks n)) _ at-object same r

-- The loop over all objects, in the values that were lent as b₀ and f₀ and are now b and f.
pub record Loop (file : File) (b₀ : Blocks) (f₀ : lent.Found) (b : Blocks) (f : lent.Found) (i : ℕ) : Type 0 where
  pub listed : ListedWith file b f 0
  pub come : Simulation file.image.now file.superblock.end_of_file file.room
      (objects_walk (superblock_of file.superblock) objects_most 0
      (found_of f₀.objects.now.addresses.now f₀.objects.now.counts.now f₀.marks.now f₀.objects.now.count)) b₀.count b₀.words.now
      (objects_walk (superblock_of file.superblock) (objects_most - i) i
      (found_of f.objects.now.addresses.now f.objects.now.counts.now f.marks.now f.objects.now.count)) b.count b.words.now
  pub kept : SameWords b₀ b
  pub kept_found : SameFound f₀ f
