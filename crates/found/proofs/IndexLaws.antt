-- The index of a group: its names rise, and it is refused with a number of the audit's, or with 17.
use Prim.Native.Nat.{ℕ, ◌≤◌}
use mathlib.Core.Bool.{false}
use mathlib.Core.List.{List, []}
use mathlib.Core.Logic.{◌⊎◌, inl, inr}
use mathlib.Core.Path.{◌≡◌, refl}
use native.Mathlib.Omega.{arith}
use Rattle.format.specs.Blocks.{Block}
use Rattle.format.specs.declared.Refusal.{Refusal}
use Rattle.format.specs.Walk.{answer_of, ◌>>=◌, Outcome, done, refused, run}
use Rattle.format.specs.Superblock.{Superblock, superblock_walk}
use Rattle.format.specs.Header.{Object, group, dataset, committed, header_walk}
use Rattle.format.specs.Entry.{Entry}
use Rattle.laws.proofs.Follows.{Ran}
use Rattle.group.specs.Entries.{entries_walk, Rising}
use Rattle.group.proofs.Entries.{entries-rise}
use Rattle.links.proofs.Outcomes.{bind_done}
use Rattle.links.proofs.Numbered.{run-number}
use Rattle.found.specs.Leads.{index_of, index_walk, IndexIs}
use Rattle.found.proofs.NumberedLookup.{index-numbered}

ran-value : {S T : Type 0} (R : S → T → Type 0) (o : Outcome S) (p : Outcome T) (x : S) (ms : List Block) → o ≡ done x ms → Ran false R o p → (t : T) × R x t
unfolding Ran
ran-value R o p x ms e h = let r = rw e at h in (r.0, r.2)

-- the numbers with which an index is refused
abbrev IndexNumber : ℕ → Type 0
IndexNumber n = (n ≤ 13) ⊎ (n ≡ 17)

module _ (im : List ℕ) (s : Superblock) (room : ℕ) where
  entries-rising : (o : Object) (bs : List Block) (es : List Entry) (ms : List Block) → run im s.end_of_file room (index_of s o) bs ≡ done es ms → Rising es
  unfolding index_of run
  entries-rising (group tree heap) bs es ms e =
      let o = run im s.end_of_file room (entries_walk s.leaf_k s.internal_k tree heap) bs in
      let r = ran-value _ o o es ms e
      (entries-rise im s.end_of_file room s.leaf_k s.internal_k tree heap bs) in
      r.1.1.0
  entries-rising (dataset space type layout) bs es ms e = let z : ◌≡◌ {A = ℕ} 0 1 = cc in absurd (omega arith)
  entries-rising committed bs es ms e = let z : ◌≡◌ {A = ℕ} 0 1 = cc in absurd (omega arith)

  -- a sound index is that of a group
  pub index-object : (at : ℕ) (es : List Entry) (bs : List Block) → IndexIs im s room at es bs →
      (o : Object) × (cs ds : List Block) × (run im s.end_of_file room (superblock_walk s) [] ≡ done tt cs) ×
      (run im s.end_of_file room (header_walk at) cs ≡ done o ds) ×
      (run im s.end_of_file room (index_of s o) ds ≡ done es bs)
  unfolding index_walk
  index-object at es bs i =
      let b = bind_done im s.end_of_file room (superblock_walk s) (λ _. header_walk at >>= index_of s) [] es bs i in
      let h = bind_done im s.end_of_file room (header_walk at) (index_of s) b.1 es bs b.3 in
      (h.0, b.1, h.1, b.2, h.2, h.3)

  pub index-rising : (at : ℕ) (es : List Entry) (bs : List Block) → IndexIs im s room at es bs → Rising es
  index-rising at es bs i = let h = index-object at es bs i in entries-rising h.0 h.2 es bs h.5

  -- no step of the index refuses with 15 or 16
  pub index_number : (at : ℕ) (r : Refusal) (ms : List Block) → run im s.end_of_file room (index_walk s at) [] ≡ refused r ms →
      (answer_of r ≤ 13) ⊎ (answer_of r ≡ 17)
  index_number at r ms e =
      run-number IndexNumber (inl (omega arith)) (inl (omega arith)) (inl (omega arith)) im s.end_of_file room (index_walk s at) [] r ms
      (index-numbered IndexNumber (inl (omega arith)) (inl (omega arith)) (inl (omega arith)) (inl (omega arith)) (inl (omega arith)) (inl (omega arith))
      (inr refl) s at) e
