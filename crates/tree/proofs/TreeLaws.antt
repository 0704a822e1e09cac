-- Laws of a tree's root: one with entries is a subtree, and an empty one.
use Prim.Native.Nat.{ℕ, suc, ◌+◌, ◌*◌}
use mathlib.Core.List.{List, []}
use lib.Dec.{eqb, leb}
use Rattle.format.specs.Limits.{level_most}
use Rattle.format.specs.Blocks.{Block}
use mathlib.Core.Path.{◌≡◌, refl, ap, sym, ◌∙◌}
use native.Mathlib.Omega.{arith}
use lib.ListN.{length}
use Rattle.std.specs.Prelude.{if◌then◌else◌, None}
use Rattle.format.specs.Bytes.{part, u8, u16, u32}
use Rattle.format.specs.declared.Refusal.{Refusal}
use Rattle.format.specs.Walk.{fault, Kind, shown, tree_block, Walk, ret, enter_block, check, ◌>>=◌, ◌>>◌, run}
use Rattle.format.specs.Names.{within}
use Rattle.format.specs.Entry.{GroupState}
use Rattle.format.specs.Tree.{TREE, tree_walk, node_walk, branches, subtree}
use Rattle.walk.specs.Lent.{blocks_of, Lent, ended, stopped, Walked}
use Rattle.laws.proofs.Bind.{bind_assoc, ret-bind}
use Rattle.walk.proofs.Parts.{part-byte, part-number}
use mathlib.Core.Bool.{true, false}
use Rattle.walk.proofs.Tests.{field-equal, field-unequal, field-least}
use Rattle.laws.proofs.Simulation.{passed, failed, chosen-then, Simulation, start, same-walk, returned, callee-done, callee-stopped}
use Rattle.range.specs.Range.{Tight}

-- two walks that enter the same block and go on alike with its bytes run alike
run-enter-same : (im : List ℕ) (eof room : ℕ) (bs : List Block) {A : Type 0} (v : Kind) (a n : ℕ) (f f' : List ℕ → Walk A) →
    f (shown v (part im a n)) ≡ f' (shown v (part im a n)) → run im eof room (enter_block v a n >>= f) bs ≡ run im eof room (enter_block v a n >>= f') bs
unfolding run ◌>>=◌
run-enter-same im eof room bs v a n f f' e = rw e

-- a node's tests, and what follows
abbrev node_tests : {A : Type 0} → ℕ → ℕ → List ℕ → Walk A → Walk A
node_tests k at b rest = check (eqb (u32 b 0) TREE) (fault 7 at) >> (check (eqb (u8 b 4) 0) (fault 8 at) >>
    (check (leb (u8 b 5) level_most) (fault 8 at) >> (check (leb (u16 b 6) (2 * k)) (fault 8 at) >> rest)))

node-then : {A : Type 0} (k at : ℕ) (f : List ℕ → Walk A) → node_walk k at >>= f ≡ enter_block tree_block at (32 + 32 * k) >>= λ b. node_tests k at b (f b)
unfolding node_walk
node-then k at f = simp (bind_assoc, ret-bind)

module _ {S : Type 0} (im : List ℕ) (g : Rattle.format.specs.Entry.Group S) (at : ℕ) (s : GroupState S) where
  abbrev root_bytes : List ℕ
  root_bytes = part im at (32 + 32 * g.internal_k)

  -- what follows the root's tests, and what follows those of a node of this level
  abbrev after_root : List ℕ → Walk (GroupState S)
  after_root b = if eqb (u16 b 6) 0 then check (eqb (u8 b 5) 0) (fault 8 at) >> ret s else branches g.heap (subtree g (u8 b 5)) at b [] s

  abbrev after_node : ℕ → List ℕ → Walk (GroupState S)
  after_node level b = check (eqb (u8 b 5) level) (fault 8 at) >> (check (leb 1 (u16 b 6)) (fault 8 at) >> branches g.heap (subtree g level) at b [] s)

  root-entries : u16 root_bytes 6 ≡ u16 im (at + 6)
  root-entries = part-number im at (32 + 32 * g.internal_k) 6 2 (omega arith)

  root-level : u8 root_bytes 5 ≡ u8 im (at + 5)
  root-level = part-byte im at (32 + 32 * g.internal_k) 5 (omega arith)

  same_after : (u16 im (at + 6) ≡ 0 → ⊥) → after_root root_bytes ≡ after_node (u8 im (at + 5)) root_bytes
  unfolding ◌>>=◌
  same_after h =
      let a : eqb (u16 root_bytes 6) 0 ≡ false = field-unequal root-entries h in
      let c : leb 1 (u16 root_bytes 6) ≡ true = field-least root-entries (omega (arith, h)) in
      let d : eqb (u8 root_bytes 5) (u8 im (at + 5)) ≡ true = field-equal root-level refl in
      rw (a, d, c) (ap (λ (x : ℕ). branches g.heap (subtree g x) at root_bytes [] s) root-level)

  -- a root with entries is a subtree of the root's level
  pub root-used : (eof room : ℕ) (bs : List Block) → (u16 im (at + 6) ≡ 0 → ⊥) → run im eof room (tree_walk g at s) bs ≡ run im eof room
      (subtree g (suc (u8 im (at + 5))) at [] s) bs
  unfolding tree_walk subtree shown
  root-used eof room bs h =
      ap (λ (w : Walk (GroupState S)). run im eof room w bs) (node-then g.internal_k at after_root)
      ∙ run-enter-same im eof room bs tree_block at (32 + 32 * g.internal_k) _ _ (ap (node_tests g.internal_k at root_bytes) (same_after h))
      ∙ sym (ap (λ (w : Walk (GroupState S)). run im eof room w bs) (node-then g.internal_k at (after_node (u8 im (at + 5)))))

  -- an empty root, or one that can't be read
  module _ (eof room : ℕ) (ws : List ℕ) (count : ℕ) (l : Lent ws count room) (k : ℕ) (kk : g.internal_k ≡ k) (ws₁ : List ℕ) where
    root-start : Simulation im eof room (tree_walk g at s) count ws (node_walk k at >>= after_root) count ws
    unfolding tree_walk
    root-start = same-walk _ (ap (λ (x : ℕ). node_walk x at >>= after_root) kk) (start im eof room (tree_walk g at s) count ws l)

    pub root-stopped : (x : Refusal) → Walked ws ws₁ (stopped x) (run im eof room (node_walk k at) (blocks_of count ws)) → Walked ws ws₁ (stopped x)
        (run im eof room (tree_walk g at s) (blocks_of count ws))
    root-stopped x h = callee-stopped ws₁ (node_walk k at) _ root-start h

    module _ (m : ℕ) (same : length ws₁ ≡ length ws) (e : u16 im (at + 6) ≡ 0) (h : Walked ws ws₁ (ended (part im at (32 + 32 * k)) m)
        (run im eof room (node_walk k at) (blocks_of count ws))) where
      pub root-empty : Simulation im eof room (tree_walk g at s) count ws (check (eqb (u8 (part im at (32 + 32 * k)) 5) 0) (fault 8 at) >> ret s) m ws₁
      root-empty = chosen-then _ _ _ (field-equal (part-number im at (32 + 32 * k) 6 2 (omega arith)) e)
          (callee-done ws₁ (node_walk k at) after_root root-start same h)

      module _ (level : ℕ) (o : level ≡ u8 im (at + 5)) where
        level-there : u8 (part im at (32 + 32 * k)) 5 ≡ level
        level-there = part-byte im at (32 + 32 * k) 5 (omega arith) ∙ sym o

        pub empty-level-wrong : (level ≡ 0 → ⊥) → Walked ws ws₁ (stopped (fault 8 at)) (run im eof room (tree_walk g at s) (blocks_of count ws))
        empty-level-wrong x = failed _ (fault 8 at) _ (field-unequal level-there x) root-empty

        pub empty-read : level ≡ 0 → Walked ws ws₁ (ended s m) (run im eof room (tree_walk g at s) (blocks_of count ws))
        empty-read x = returned (passed _ (fault 8 at) _ (field-equal level-there x) root-empty)

-- the whole tree has no keys above it
pub no-bounds : (seg : List ℕ) → Tight seg None []
unfolding within
no-bounds seg t l = refl
