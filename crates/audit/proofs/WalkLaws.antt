-- The audit's walk: the superblock, then all objects.
use Prim.Native.Nat.{ℕ, zero, suc, ◌≤◌, ◌<◌, ◌^◌}
use mathlib.Core.List.{List, [], ◌∷◌}
use mathlib.Core.Path.{◌≡◌, ap, ◌∙◌}
use native.Mathlib.Omega.{arith}
use lib.ListN.{length, replicate, length-replicate}
use Rattle.format.specs.Limits.{objects_most}
use Rattle.format.specs.Blocks.{Block, block_of, entry_answer}
use Rattle.format.specs.declared.Refusal.{Refusal}
use Rattle.format.specs.Walk.{Walk, ret, ◌>>=◌, Outcome, done, refused, if_entered, run}
use Rattle.format.specs.Superblock.{superblock_walk}
use Rattle.format.specs.Ledger.{Linked}
use Rattle.format.specs.Audit.{objects_walk, root_found, audit_walk}
use Rattle.walk.specs.Lent.{blocks_of, length_sum, places_of, Lent, ended, stopped, Walked}
use Rattle.laws.proofs.SumOfLengths.{grown-apart, grown-inside}
use Rattle.laws.proofs.Simulation.{Simulation, start, returned, walked-done, callee-done, callee-stopped}
use Rattle.ledger.specs.Links.{link_sum}
use Rattle.ledger.specs.Table.{linked_of, Started}
use Rattle.ledger.proofs.LedgerLaws.{sum_first}
use Rattle.sharing.specs.Sharing.{found_of}
use Rattle.superblock.specs.Superblock.{superblock_of}
use Rattle.superblock.specs.declared.Superblock.{Superblock}
use Rattle.object.proofs.ObjectLaws.{room-lent}
use Rattle.object.specs.Object.{Listed, ObjectRead, FoundWalked}
use Rattle.std.specs.Prelude.{Result, Ok, Err}
use Rattle.audit.specs.declared.Audited.{Audited}
use Rattle.audit.specs.Audit.{TableReady, ImageWalked}

-- the superblock, where it was entered, is the only block
one-entered : (answer : ℕ) (f : ℕ → Refusal) (b : Block) (bs : List Block) →
    ◌≡◌ {A = Outcome (Unit {0})} (if_entered answer (done tt (b ∷ [])) (λ m. refused (f m) [])) (done tt bs) → bs ≡ b ∷ []
one-entered zero f b bs e = cc
one-entered (suc answer) f b bs e = let z : ◌≡◌ {A = ℕ} 0 1 = cc in absurd (omega arith)

-- the lists that an object is walked with, as the next group is read with them
listed-ready : {ws addresses counts marks : List ℕ} {eof room count objects spare : ℕ} → Listed ws addresses counts marks eof room count objects spare →
    TableReady ws addresses counts eof room count objects
listed-ready h = record {
  blocks_ready = record { lent = h.lent; apart = h.counting.apart; inside = h.counting.inside; links = omega (arith, h.counting.links) };
  table = h.counting.table;
}

-- the numbers that are returned of a walk
abbrev pub audited : Result ObjectRead Refusal → Result Audited Refusal
audited (Ok o) = Ok (record { block_count = o.count; objects = o.objects })
audited (Err r) = Err r

module _ (im ws : List ℕ) (s : Superblock) (room : ℕ) (is : room ≡ places_of (length ws)) (ws₁ : List ℕ) where
  abbrev eof : ℕ
  eof = s.end_of_file

  abbrev w : Walk (List Linked)
  w = audit_walk (superblock_of s)

  abbrev list-lent : Lent ws 0 room
  list-lent = room-lent ws room is

  -- the superblock can't be entered
  pub superblock-stopped : (addresses counts : List ℕ) (x : Refusal) → Walked ws ws₁ (stopped x) (run im eof room (superblock_walk (superblock_of s)) []) →
      ImageWalked im ws s ws₁ addresses counts (Err x)
  unfolding audit_walk blocks_of
  superblock-stopped addresses counts x h = record {
    walked = rw (← is) (callee-stopped ws₁ (superblock_walk (superblock_of s)) _
        (start im eof room w 0 ws list-lent) h);
    ready = tt;
  }

  module _ (n : ℕ) (same : length ws₁ ≡ length ws) (h : Walked ws ws₁ (ended tt n) (run im eof room (superblock_walk (superblock_of s)) [])) where
    -- it is entered, as the first block
    entered-one : blocks_of n ws₁ ≡ block_of 1 0 s.size ∷ []
    unfolding superblock_walk run ◌>>=◌
    entered-one = one-entered (entry_answer eof room [] 0 s.size) _ (block_of 1 0 s.size) (blocks_of n ws₁) (walked-done ws ws₁ tt n _ h)

    -- no other block adds to the lengths
    entered-length : length_sum (blocks_of n ws₁) ≡ s.size
    unfolding length_sum
    entered-length = rw entered-one (omega arith)

    at-objects : Simulation im eof room w 0 ws (objects_walk (superblock_of s) objects_most 0 (root_found (superblock_of s)) >>= λ f. ret f.objects) n ws₁
    unfolding audit_walk blocks_of
    at-objects = callee-done ws₁ (superblock_walk (superblock_of s)) _ (start im eof room w 0 ws list-lent) same h

    module _ (addresses₀ counts₀ addresses counts marks : List ℕ) (t : Started addresses₀ counts₀ s.root addresses counts)
        (zeros : marks ≡ replicate objects_most 0) where
      -- the table holds the root, with one link
      pub root-listed : 1 ≤ s.size → eof < 2 ^ 32 → Listed ws₁ addresses counts marks eof room n 1 0
      unfolding blocks_of
      root-listed l small =
          let e : link_sum (linked_of 1 addresses counts) ≡ 1 = ap link_sum t.ledger ∙ sum_first s.root in
          record {
            lent = at-objects.lent;
            counting = record {
              small = small;
              apart = grown-apart at-objects.blocks tt;
              inside = grown-inside at-objects.blocks tt;
              table = t.table;
              marked = rw (zeros, length-replicate) (omega arith);
              links = omega (arith, e, entered-length);
            };
          }

      -- and nothing is known of it
      root-found : found_of addresses counts marks 1 ≡ root_found (superblock_of s)
      root-found = rw (t.ledger, zeros)

      pub objects-read : (ws₂ addresses₂ counts₂ marks₂ : List ℕ) (r : Result ObjectRead Refusal) → length ws₂ ≡ length ws₁ →
          FoundWalked im ws₁ addresses counts marks s room (objects_walk (superblock_of s) objects_most 0) n 1 ws₂ addresses₂ counts₂ marks₂ r →
          ImageWalked im ws s ws₂ addresses₂ counts₂ (audited r)
      unfolding blocks_of
      objects-read ws₂ addresses₂ counts₂ marks₂ (Ok o) long l =
          let k = rw root-found at l.walked in
          record { walked = rw (← is) (returned (callee-done ws₂ _ _ at-objects long k)); ready = rw (← is) (listed-ready l.listed) }
      objects-read ws₂ addresses₂ counts₂ marks₂ (Err x) long l =
          let k = rw root-found at l.walked in
          record { walked = rw (← is) (callee-stopped ws₂ _ _ at-objects k); ready = tt }

-- the lists end as the values that were lent over them
pub ends-so : {im ws : List ℕ} {s : Superblock} {ws₁ ws₂ addresses₁ addresses₂ counts₁ counts₂ : List ℕ} {r₁ r₂ : Result Audited Refusal} → ws₂ ≡ ws₁ →
    addresses₂ ≡ addresses₁ → counts₂ ≡ counts₁ → r₂ ≡ r₁ → ImageWalked im ws s ws₁ addresses₁ counts₁ r₁ → ImageWalked im ws s ws₂ addresses₂ counts₂ r₂
ends-so e f g h w = rw (e, f, g, h) w
