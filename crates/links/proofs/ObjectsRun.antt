-- A run of the audit's objects, one after the other: what holds at its end, and of each object before the next, holds from any object on.
use Prim.Native.Nat.{ℕ, zero, suc, ◌+◌, ◌≤◌}
use mathlib.Core.List.{List, [], ◌∷◌}
use mathlib.Core.Path.{◌≡◌, refl}
use native.Mathlib.Omega.{arith}
use lib.ListN.{length, drop, drop_of_length-le}
use Rattle.format.specs.Limits.{objects_most}
use Rattle.format.specs.Bytes.{with_first}
use Rattle.format.specs.Blocks.{Block}
use Rattle.format.specs.Walk.{ret, ◌>>=◌, done, run}
use Rattle.format.specs.Superblock.{Superblock}
use Rattle.format.specs.Ledger.{Linked}
use Rattle.format.specs.Sharing.{Found}
use Rattle.format.specs.Object.{object_walk}
use Rattle.format.specs.Audit.{objects_walk}
use Rattle.links.proofs.Outcomes.{bind_done, done-fits}
use Rattle.links.proofs.Marks.{Fits}

-- W i f bs: from what was found, f, and the blocks bs to the last, by the objects from the i-th on
module _ (im : List ℕ) (room : ℕ) (s : Superblock) (last : Found) (ms : List Block) (W : ℕ → Found → List Block → Type 0)
    (end : (i : ℕ) (f : Found) (bs : List Block) → Fits f → f ≡ last → bs ≡ ms → drop i f.objects ≡ [] → W i f bs)
    (next : (i : ℕ) (f g : Found) (bs cs : List Block) (o : Linked) (rest : List Linked) → Fits f → length bs ≤ room → drop i f.objects ≡ o ∷ rest →
    run im s.end_of_file room (object_walk s i o.address f) bs ≡ done g cs → (Fits g → W (i + 1) g cs) → W i f bs) where
  -- with the fuel that is left
  pub objects-run : (fuel i : ℕ) (f : Found) (bs : List Block) → objects_most ≤ i + fuel → Fits f → length bs ≤ room →
      run im s.end_of_file room (objects_walk s fuel i f) bs ≡ done last ms → W i f bs
  unfolding objects_walk run
  objects-run zero i f bs n h l e = end i f bs h (cc) (cc) (drop_of_length-le f.objects {i = i} (omega (arith, h.most)))
  objects-run (suc fuel) i f bs n h l e =
      go (drop i f.objects) refl e (λ g cs h' l' e'. objects-run fuel (i + 1) g cs (omega arith) h' l' e')
    where
      go : (left : List Linked) → drop i f.objects ≡ left →
          run im s.end_of_file room (with_first left (ret f) (λ o. object_walk s i o.address f >>= λ g. objects_walk s fuel (i + 1) g)) bs ≡ done last ms →
          ((g : Found) (cs : List Block) → Fits g → length cs ≤ room → run im s.end_of_file room (objects_walk s fuel (i + 1) g) cs ≡ done last ms →
          W (i + 1) g cs) →
          W i f bs
      go [] d r more = end i f bs h (cc) (cc) d
      go (o ∷ rest) d r more =
          let b = bind_done im s.end_of_file room (object_walk s i o.address f) (λ g. objects_walk s fuel (i + 1) g) bs last ms r in
          let fits = done-fits im s.end_of_file room (object_walk s i o.address f) bs b.0 b.1 l b.2 in
          next i f b.0 bs b.1 o rest h l d b.2 (λ h'. more b.0 b.1 h' fits b.3)
