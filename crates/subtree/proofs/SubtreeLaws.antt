-- Laws of the tree below a node: its keys and children, one after the other.
use Prim.Native.Nat.{ℕ, suc, ◌+◌, ◌-◌, ◌*◌, ◌≤◌, ◌<◌}
use mathlib.Core.List.{List, ◌∷◌}
use mathlib.Core.Path.{◌≡◌, ap, sym, ◌∙◌}
use native.Mathlib.Omega.{arith}
use lib.ListN.{length, drop}
use Rattle.format.specs.Bytes.{part, u16, u64}
use Rattle.format.specs.declared.Refusal.{Refusal}
use Rattle.format.specs.Walk.{Walk, ret, ◌>>=◌, run}
use Rattle.format.specs.Heap.{Heap}
use Rattle.format.specs.Names.{Bound, string_at, below, within}
use Rattle.format.specs.Entry.{GroupState}
use Rattle.format.specs.Symbols.{symbol_walk}
use Rattle.format.specs.Tree.{children, branches, subtree}
use Rattle.walk.specs.Lent.{blocks_of, Lent, Ended, ended, stopped, Walked}
use Rattle.laws.proofs.Bind.{bind_assoc, ret-bind}
use Rattle.walk.proofs.Parts.{part-number, part-first-number, drop-part}
use Rattle.laws.proofs.Simulation.{Simulation, start, same-walk, callee-done, callee-stopped}
use Rattle.laws.proofs.Growth.{Grown}
use Rattle.laws.proofs.SumOfLengths.{grown-apart, grown-inside, grown-lengths}
use Rattle.walk.specs.Entered.{SameWords}
use Rattle.walk.specs.declared.blocks.Blocks.{Blocks}
use Rattle.range.specs.Range.{Tight}
use Rattle.range.specs.declared.Name.{Name}
use Rattle.visit.specs.Visit.{Visit}
use Rattle.symbol.specs.declared.entry.Group.{Group}
use Rattle.symbol.specs.Entry.{group_of, state_of}
use Rattle.symbol.specs.declared.entry.NameRange.{NameRange}
use Rattle.subtree.specs.declared.Top.{Top}
use Rattle.node.specs.Node.{branch_walk}
use Rattle.symbol_node.specs.Tree.{Sound}

-- two keys that compare alike with a name are the same bounds for it
pub within-alike : (low low' high high' : List ℕ) (bounds : List Bound) (t : List ℕ) → below low t ≡ below low' t → below high t ≡ below high' t →
    within (record { low = low; high = high } ∷ bounds) t ≡ within (record { low = low'; high = high' } ∷ bounds) t
unfolding within
within-alike low low' high high' bounds t e f = rw (e, f)

-- a node below: its own walk, then its children
subtree-split : {S : Type 0} (g : Rattle.format.specs.Entry.Group S) (level at : ℕ) (bounds : List Bound) (s : GroupState S) →
    subtree g (suc level) at bounds s ≡ branch_walk g.heap g.internal_k level at >>= λ b. children g.heap (subtree g level) (u16 b 6) (drop 24 b)
    bounds s
unfolding subtree branches branch_walk
subtree-split g level at bounds s = sym (simp (bind_assoc, ret-bind))

-- the keys on both sides of a child, the first of which stands at `at`
abbrev pub keys_at : List ℕ → List ℕ → ℕ → Bound
keys_at im seg at = record { low = string_at seg (u64 im at); high = string_at seg (u64 im (at + 16)) }

-- the first of n + 1 children, then the others; the keys and addresses stand from `from` on
children-next : {S : Type 0} (h : Heap) (walk : ℕ → List Bound → GroupState S → Walk (GroupState S)) (n : ℕ) (im : List ℕ) (from m : ℕ) (bounds : List Bound)
    (s : GroupState S) → 24 ≤ m →
    children h walk (suc n) (part im from m) bounds s ≡
    walk (u64 im (from + 8)) (keys_at im h.segment from ∷ bounds) s >>= λ t. children h walk n (part im (from + 16) (m - 16)) bounds t
unfolding children
children-next h walk n im from m bounds s l =
    rw (part-first-number im from m 8 (omega arith), part-number im from m 8 8 (omega arith), part-number im from m 16 8 (omega arith), drop-part im from m 16)

-- the children from the ith on
abbrev pub children_from : {S : Type 0} → Rattle.format.specs.Entry.Group S → ℕ → List ℕ → ℕ → ℕ → ℕ → ℕ → List Bound → GroupState S →
    Walk (GroupState S)
children_from g level im from m n i bounds s = children g.heap (subtree g level) (n - i) (part im (from + 16 * i) (m - 16 * i)) bounds s

module _ {S : Type 0} (g : Rattle.format.specs.Entry.Group S) (level : ℕ) (im : List ℕ) (from m n : ℕ) (bounds : List Bound) where
  pub children-end : (i : ℕ) (s : GroupState S) → n ≤ i → children_from g level im from m n i bounds s ≡ ret s
  unfolding children
  children-end i s h = let z : n - i ≡ 0 = omega arith in rw z

  pub children-turn : (i : ℕ) (s : GroupState S) → i < n → 16 * n + 8 ≤ m →
      children_from g level im from m n i bounds s ≡
      subtree g level (u64 im (from + 16 * i + 8)) (keys_at im g.heap.segment (from + 16 * i) ∷ bounds) s
      >>= λ t. children_from g level im from m n (i + 1) bounds t
  children-turn i s h l =
      let a : n - i ≡ suc (n - (i + 1)) = omega arith in
      let d : from + 16 * (i + 1) ≡ from + 16 * i + 16 = omega arith in
      let e : m - 16 * (i + 1) ≡ m - 16 * i - 16 = omega arith in
      rw (a, d, e) (children-next g.heap (subtree g level) (n - (i + 1)) im (from + 16 * i) (m - 16 * i) bounds s (omega arith))

  -- a walk that has come to the ith child: that child's subtree at its address, then the other children
  pub children-here : {eof room : ℕ} {w : Walk (GroupState S)} {n₀ n₁ : ℕ} {ws₀ ws₁ : List ℕ} (i : ℕ) (s : GroupState S) → i < n → 16 * n + 8 ≤ m →
      (child : ℕ) → child ≡ u64 im (from + 16 * i + 8) →
      Simulation im eof room w n₀ ws₀ (children_from g level im from m n i bounds s) n₁ ws₁ →
      Simulation im eof room w n₀ ws₀ (subtree g level child (keys_at im g.heap.segment (from + 16 * i) ∷ bounds) s
      >>= λ t. children_from g level im from m n (i + 1) bounds t) n₁ ws₁
  children-here i s h l child e u = rw e (same-walk _ (children-turn i s h l) u)

-- A node was read: what is left are its children.
module _ {S : Type 0} (im : List ℕ) (eof room : ℕ) (ws : List ℕ) (count : ℕ) (l : Lent ws count room) (g : Rattle.format.specs.Entry.Group S) (k : ℕ)
    (kk : g.internal_k ≡ k) (height level at : ℕ)
    (hh : height ≡ suc level) (bounds : List Bound) (s : GroupState S) (ws₁ : List ℕ) where
  abbrev w : Walk (GroupState S)
  w = subtree g height at bounds s

  abbrev node : List ℕ
  node = part im at (32 + 32 * k)

  split : Simulation im eof room w count ws (branch_walk g.heap k level at >>= λ b. children g.heap (subtree g level) (u16 b 6) (drop 24 b) bounds s)
      count ws
  split =
      same-walk (branch_walk g.heap k level at >>= λ b. children g.heap (subtree g level) (u16 b 6) (drop 24 b) bounds s)
      (ap (λ (x : ℕ). subtree g x at bounds s) hh ∙ subtree-split g level at bounds s ∙ ap
      (λ (x : ℕ). branch_walk g.heap x level at >>= λ b. children g.heap (subtree g level) (u16 b 6) (drop 24 b) bounds s) kk)
      (start im eof room w count ws l)

  pub node-stopped : (x : Refusal) → Walked ws ws₁ (stopped x) (run im eof room (branch_walk g.heap k level at) (blocks_of count ws)) → Walked ws ws₁
      (stopped x) (run im eof room w (blocks_of count ws))
  node-stopped x h = callee-stopped ws₁ (branch_walk g.heap k level at) _ split h

  pub node_done : (m n : ℕ) → length ws₁ ≡ length ws → n ≡ u16 im (at + 6) → Walked ws ws₁ (ended node m)
      (run im eof room (branch_walk g.heap k level at) (blocks_of count ws)) →
      Simulation im eof room w count ws (children_from g level im (at + 24) (8 + 32 * k) n 0 bounds s) m ws₁
  node_done m n same e h =
      let z : 32 + 32 * k - 24 ≡ 8 + 32 * k = omega arith in
      let d : drop 24 node ≡ part im (at + 24) (8 + 32 * k) = drop-part im at (32 + 32 * k) 24 ∙ ap (part im (at + 24)) z in
      let u : u16 node 6 ≡ n = part-number im at (32 + 32 * k) 6 2 (omega arith) ∙ sym e in
      let a : n - 0 ≡ n = omega arith in
      let f : at + 24 + 16 * 0 ≡ at + 24 = omega arith in
      let q : 8 + 32 * k - 16 * 0 ≡ 8 + 32 * k = omega arith in
      let r : children g.heap (subtree g level) (u16 node 6) (drop 24 node) bounds s ≡ children_from g level im (at + 24) (8 + 32 * k) n 0 bounds s = rw
      (u, d, a, f, q) in
      same-walk _ r (callee-done ws₁ (branch_walk g.heap k level at) _ split same h)

-- at height 0 a symbol table node
pub leaf_walked : {S : Type 0} (im : List ℕ) (eof room : ℕ) (ws : List ℕ) (count : ℕ) (g : Rattle.format.specs.Entry.Group S) (height at : ℕ)
    (bounds : List Bound) (s : GroupState S) (ws₁ : List ℕ) (r : Ended (GroupState S)) →
    height ≡ 0 → Walked ws ws₁ r (run im eof room (symbol_walk g at bounds s) (blocks_of count ws)) → Walked ws ws₁ r
    (run im eof room (subtree g height at bounds s) (blocks_of count ws))
unfolding subtree
leaf_walked im eof room ws count g height at bounds s ws₁ r e h = rw e h

-- what is sound stays so with more blocks
pub sound_more : (seg ws : List ℕ) (g : Group) (count links : ℕ) (last : Name) (ws₁ : List ℕ) (n : ℕ) → Sound seg ws g count links last →
    Lent ws₁ n g.bounds.room →
    Grown g.bounds.end_of_file g.bounds.room (blocks_of count ws) (blocks_of n ws₁) →
    Sound seg ws₁ g n links last
sound_more seg ws g count links last ws₁ n h l m = record {
  lent = l;
  last = h.last;
  apart = grown-apart m h.apart;
  inside = grown-inside m h.inside;
  links = omega (arith, h.links, grown-lengths m);
}

-- What holds at each turn of the loop over a node's children: the walk of the subtree, with the visit of the loop's start, has come to the ith child.
pub record Turn {S : Type 0} (visit : Visit S) (g : Group) (r : NameRange) (top : Top) (blocks₀ : Blocks) (found₀ : S) (n : ℕ) (blocks : Blocks) (i : ℕ)
    (last : Name) (found : S) (links : ℕ) : Type 0 where
  pub sound : Sound g.strings.segment.now blocks.words.now g blocks.count links last
  pub walk : (bounds : List Bound) → Tight g.strings.segment.now r.keys bounds →
      Simulation g.image.now g.bounds.end_of_file g.bounds.room
      (subtree (group_of g.strings.segment.now visit g) top.height top.at bounds (state_of g.strings.segment.now r.last found₀))
      blocks₀.count blocks₀.words.now
      (children_from (group_of g.strings.segment.now visit g) (top.height - 1) g.image.now (top.at + 24) (8 + 32 * g.internal_k) n i bounds
      (state_of g.strings.segment.now last found))
      blocks.count blocks.words.now
  pub words : SameWords blocks₀ blocks

-- the same words are lent after two steps
pub words-kept : {b b' b'' : Blocks} → SameWords b b' → SameWords b' b'' → SameWords b b''
words-kept h k = record { same = k.same ∙ h.same; long = k.long ∙ h.long }
