-- The steps of the code that reads a tree node against the steps of its walk.
use Prim.Native.Nat.{ℕ, ◌+◌, ◌-◌, ◌*◌, ◌≤◌, ◌<◌}
use mathlib.Core.List.{List}
use mathlib.Core.Path.{◌≡◌, refl, ap, sym, ◌∙◌}
use native.Mathlib.Omega.{arith}
use lib.Dec.{eqb, leb}
use lib.ListN.{length, get_or, drop}
use Rattle.format.specs.Limits.{level_most}
use Rattle.format.specs.Bytes.{part, u8, u16, u32}
use Rattle.format.specs.Blocks.{entry_answer}
use Rattle.format.specs.declared.Refusal.{Refusal}
use Rattle.format.specs.Walk.{fault, ret, refuse, shown, check, ◌>>=◌, ◌>>◌, run}
use Rattle.format.specs.Heap.{Heap}
use Rattle.format.specs.Tree.{TREE, node_walk, keys_walk}
use Rattle.walk.specs.Lent.{blocks_of, Lent, Walked, ended, stopped, entering, IsEntered}
use Rattle.walk.specs.Numbers.{Number}
use Rattle.std.specs.Prelude.{Ok, Err}
use Rattle.walk.proofs.BlockList.{entered-zero}
use Rattle.walk.proofs.Parts.{part-byte, part-number, part-first-number, drop-part}
use Rattle.laws.proofs.Simulation.{Simulation, start, same-walk, returned, passed, failed}
use Rattle.laws.proofs.Simulation.{block-entered, block_refused, entered-inside, callee-done, callee-stopped, callee-value, callee-refusal}
use Rattle.walk.proofs.Tests.{field-equal, field-unequal, field-most, field-above, field-least, field_below}
use Rattle.node.specs.Node.{branch_walk}

module _ (im : List ℕ) (eof room : ℕ) (ws : List ℕ) (count at k : ℕ) (l : Lent ws count room) where
  abbrev size : ℕ
  size = 32 + 32 * k

  abbrev b : List ℕ
  b = part im at size

  begun : Simulation im eof room (node_walk k at) count ws (node_walk k at) count ws
  begun = start im eof room (node_walk k at) count ws l

  module _ (ws₁ : List ℕ) (q : IsEntered (entry_answer eof room (blocks_of count ws) at size) ws count 6 at size ws₁) where
    pub node-refused : (x : Refusal) → Err x ≡ entering (entry_answer eof room (blocks_of count ws) at size) 6 at size (blocks_of count ws) count →
        Walked ws ws₁ (stopped x) (run im eof room (node_walk k at) (blocks_of count ws))
    unfolding node_walk ◌>>=◌
    node-refused x e = block_refused size refl refl ws₁ begun q x e

    module _ (m : ℕ) (e : Ok m ≡ entering (entry_answer eof room (blocks_of count ws) at size) 6 at size (blocks_of count ws) count) where
      node-inside : at + size ≤ eof
      unfolding node_walk ◌>>=◌
      node-inside = entered-inside size refl refl ws₁ begun q m e

      pub node-there : eof ≤ length im → at + size ≤ length im
      node-there h = omega (arith, node-inside)

      pub node-counted : m ≡ count + 1
      node-counted = (entered-zero 6 at size (blocks_of count ws) (entry_answer eof room (blocks_of count ws) at size) count m e).1

      at-signature : Simulation im eof room (node_walk k at) count ws
          (check (eqb (u32 b 0) TREE) (fault 7 at) >> (check (eqb (u8 b 4) 0) (fault 8 at) >>
          (check (leb (u8 b 5) level_most) (fault 8 at) >> (check (leb (u16 b 6) (2 * k)) (fault 8 at) >> ret b)))) m ws₁
      unfolding node_walk ◌>>=◌ shown
      at-signature = block-entered size refl refl ws₁ begun q m e

      module _ (signature : ℕ) (s : Number im at 4 signature) where
        signature-there : u32 b 0 ≡ signature
        signature-there = part-first-number im at size 4 (omega arith) ∙ sym s.value

        pub signature-wrong : (signature ≡ TREE → ⊥) → Walked ws ws₁ (stopped (fault 7 at)) (run im eof room (node_walk k at) (blocks_of count ws))
        signature-wrong h = failed (eqb (u32 b 0) TREE) (fault 7 at) _ (field-unequal signature-there h) at-signature

        module _ (h : signature ≡ TREE) where
          at-type : Simulation im eof room (node_walk k at) count ws (check (eqb (u8 b 4) 0) (fault 8 at) >>
              (check (leb (u8 b 5) level_most) (fault 8 at) >> (check (leb (u16 b 6) (2 * k)) (fault 8 at) >> ret b))) m ws₁
          at-type = passed (eqb (u32 b 0) TREE) (fault 7 at) _ (field-equal signature-there h) at-signature

          byte-there : (i : ℕ) → i < 32 → u8 b i ≡ get_or im (at + i) 0
          byte-there i o = part-byte im at size i (omega arith)

          pub type-wrong : (get_or im (at + 4) 0 ≡ 0 → ⊥) → Walked ws ws₁ (stopped (fault 8 at)) (run im eof room (node_walk k at) (blocks_of count ws))
          type-wrong o = failed (eqb (u8 b 4) 0) (fault 8 at) _ (field-unequal (byte-there 4 (omega arith)) o) at-type

          module _ (o : get_or im (at + 4) 0 ≡ 0) where
            at_level : Simulation im eof room (node_walk k at) count ws (check (leb (u8 b 5) level_most) (fault 8 at) >>
                (check (leb (u16 b 6) (2 * k)) (fault 8 at) >> ret b)) m ws₁
            at_level = passed (eqb (u8 b 4) 0) (fault 8 at) _ (field-equal (byte-there 4 (omega arith)) o) at-type

            pub level-wrong : level_most < get_or im (at + 5) 0 → Walked ws ws₁ (stopped (fault 8 at)) (run im eof room (node_walk k at) (blocks_of count ws))
            level-wrong p = failed (leb (u8 b 5) level_most) (fault 8 at) _ (field-above (byte-there 5 (omega arith)) p) at_level

            module _ (p : get_or im (at + 5) 0 ≤ level_most) (used : ℕ) (u : Number im (at + 6) 2 used) where
              at-entries : Simulation im eof room (node_walk k at) count ws (check (leb (u16 b 6) (2 * k)) (fault 8 at) >> ret b) m ws₁
              at-entries = passed (leb (u8 b 5) level_most) (fault 8 at) _ (field-most (byte-there 5 (omega arith)) p) at_level

              used-there : u16 b 6 ≡ used
              used-there = part-number im at size 6 2 (omega arith) ∙ sym u.value

              pub entries-wrong : 2 * k < used → Walked ws ws₁ (stopped (fault 8 at)) (run im eof room (node_walk k at) (blocks_of count ws))
              entries-wrong x = failed (leb (u16 b 6) (2 * k)) (fault 8 at) _ (field-above used-there x) at-entries

              pub node-read : used ≤ 2 * k → Walked ws ws₁ (ended b m) (run im eof room (node_walk k at) (blocks_of count ws))
              node-read x = returned (passed (leb (u16 b 6) (2 * k)) (fault 8 at) _ (field-most used-there x) at-entries)

-- A node with its level, entries and keys.
module _ (im : List ℕ) (eof room : ℕ) (ws : List ℕ) (count at k level : ℕ) (h : Heap) (l : Lent ws count room) (ws₁ : List ℕ) where
  abbrev whole : List ℕ
  whole = part im at (32 + 32 * k)

  pub branch-stopped : (x : Refusal) → Walked ws ws₁ (stopped x) (run im eof room (node_walk k at) (blocks_of count ws)) →
      Walked ws ws₁ (stopped x) (run im eof room (branch_walk h k level at) (blocks_of count ws))
  unfolding branch_walk
  branch-stopped x w = callee-stopped ws₁ (node_walk k at) _ (start im eof room (branch_walk h k level at) count ws l) w

  module _ (m : ℕ) (same : length ws₁ ≡ length ws) (w : Walked ws ws₁ (ended whole m) (run im eof room (node_walk k at) (blocks_of count ws))) where
    at-own-level : Simulation im eof room (branch_walk h k level at) count ws
        (check (eqb (u8 whole 5) level) (fault 8 at) >> (check (leb 1 (u16 whole 6)) (fault 8 at) >>
        (keys_walk h (u16 whole 6 + 1) (at + 24) (drop 24 whole) >> ret whole))) m ws₁
    unfolding branch_walk
    at-own-level = callee-done ws₁ (node_walk k at) _ (start im eof room (branch_walk h k level at) count ws l) same w

    module _ (own : ℕ) (o : own ≡ get_or im (at + 5) 0) where
      own-there : u8 whole 5 ≡ own
      own-there = part-byte im at (32 + 32 * k) 5 (omega arith) ∙ sym o

      pub own-level-wrong : (own ≡ level → ⊥) → Walked ws ws₁ (stopped (fault 8 at)) (run im eof room (branch_walk h k level at) (blocks_of count ws))
      own-level-wrong x = failed (eqb (u8 whole 5) level) (fault 8 at) _ (field-unequal own-there x) at-own-level

      module _ (x : own ≡ level) (used : ℕ) (u : used ≡ u16 im (at + 6)) where
        entries-there : u16 whole 6 ≡ used
        entries-there = part-number im at (32 + 32 * k) 6 2 (omega arith) ∙ sym u

        at-used : Simulation im eof room (branch_walk h k level at) count ws (check (leb 1 (u16 whole 6)) (fault 8 at) >>
            (keys_walk h (u16 whole 6 + 1) (at + 24) (drop 24 whole) >> ret whole)) m ws₁
        at-used = passed (eqb (u8 whole 5) level) (fault 8 at) _ (field-equal own-there x) at-own-level

        pub empty-node : used < 1 → Walked ws ws₁ (stopped (fault 8 at)) (run im eof room (branch_walk h k level at) (blocks_of count ws))
        empty-node y = failed (leb 1 (u16 whole 6)) (fault 8 at) _ (field_below entries-there y) at-used

        module _ (y : 1 ≤ used) where
          at-keys : Simulation im eof room (branch_walk h k level at) count ws (keys_walk h (used + 1) (at + 24) (part im (at + 24) (8 + 32 * k)) >> ret whole)
              m ws₁
          at-keys =
              let e : 32 + 32 * k - 24 ≡ 8 + 32 * k = omega arith in
              let d : drop 24 whole ≡ part im (at + 24) (8 + 32 * k) = drop-part im at (32 + 32 * k) 24 ∙ ap (part im (at + 24)) e in
              same-walk _ (rw (entries-there, d)) (passed (leb 1 (u16 whole 6)) (fault 8 at) _ (field-least entries-there y) at-used)

          pub keys-wrong : (z : Refusal) → refuse z ≡ keys_walk h (used + 1) (at + 24) (part im (at + 24) (8 + 32 * k)) →
              Walked ws ws₁ (stopped z) (run im eof room (branch_walk h k level at) (blocks_of count ws))
          keys-wrong z e = callee-refusal _ _ z (sym e) at-keys

          pub branch_read : ret tt ≡ keys_walk h (used + 1) (at + 24) (part im (at + 24) (8 + 32 * k)) →
              Walked ws ws₁ (ended whole m) (run im eof room (branch_walk h k level at) (blocks_of count ws))
          branch_read e = returned (callee-value _ _ tt (sym e) at-keys)
