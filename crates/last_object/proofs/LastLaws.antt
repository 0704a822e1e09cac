-- The steps of the code that reads the last object's header against the steps of its walk.
use Prim.Native.Nat.{ℕ}
use mathlib.Core.List.{List, []}
use mathlib.Core.Path.{◌≡◌}
use lib.ListN.{length}
use Rattle.format.specs.declared.Refusal.{Refusal}
use Rattle.format.specs.Walk.{Walk, ret, ◌>>=◌, ◌>>◌, run}
use Rattle.format.specs.Superblock.{superblock_walk}
use Rattle.format.specs.Header as headers
use Rattle.format.specs.Header.{header_walk}
use Rattle.format.specs.Lookup as lookup
use Rattle.format.specs.Lookup.{kind_number, locate_walk}
use Rattle.walk.specs.Lent.{blocks_of, Lent, ended, stopped, Walked}
use Rattle.laws.proofs.Simulation.{Simulation, start, callee-done, callee-stopped, walked-refused}
use Rattle.superblock.specs.Superblock.{superblock_of}
use Rattle.superblock.specs.declared.Superblock.{Superblock}
use Rattle.last_object.specs.Last.{KindIs}
use Rattle.std.specs.Prelude.{Ok, Err}

module _ (im ws : List ℕ) (s : Superblock) (room at : ℕ) (l : Lent ws 0 room) (ws₁ : List ℕ) where
  abbrev eof : ℕ
  eof = s.end_of_file

  abbrev whole : Walk lookup.Located
  whole = superblock_walk (superblock_of s) >> locate_walk at

  pub superblock-stopped : (x : Refusal) → Walked ws ws₁ (stopped x) (run im eof room (superblock_walk (superblock_of s)) []) → KindIs im s room at (Err x)
  unfolding blocks_of
  superblock-stopped x h = walked-refused ws ws₁ x _ (callee-stopped ws₁ (superblock_walk (superblock_of s)) _ (start im eof room whole 0 ws l) h)

  module _ (n : ℕ) (same : length ws₁ ≡ length ws) (h : Walked ws ws₁ (ended tt n) (run im eof room (superblock_walk (superblock_of s)) [])) where
    pub at-header : Simulation im eof room whole 0 ws (header_walk at >>= λ o. ret (record { kind = kind_number o; address = at })) n ws₁
    unfolding locate_walk blocks_of
    at-header = callee-done ws₁ (superblock_walk (superblock_of s)) _ (start im eof room whole 0 ws l) same h

    module _ (ws₂ : List ℕ) where
      pub header-stopped : (x : Refusal) → Walked ws₁ ws₂ (stopped x) (run im eof room (header_walk at) (blocks_of n ws₁)) → KindIs im s room at (Err x)
      unfolding blocks_of
      header-stopped x k = walked-refused ws ws₂ x _ (callee-stopped ws₂ (header_walk at) _ at-header k)

      pub header-known : (o : headers.Object) (m : ℕ) → length ws₂ ≡ length ws₁ → Walked ws₁ ws₂ (ended o m)
          (run im eof room (header_walk at) (blocks_of n ws₁)) → KindIs im s room at (Ok (kind_number o))
      unfolding blocks_of run
      header-known o m same₂ k = (blocks_of m ws₂, (callee-done ws₂ (header_walk at) _ at-header same₂ k).same_run)
