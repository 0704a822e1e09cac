-- The steps of the code that looks up a component against the steps of its walk.
use Prim.Native.Nat.{ℕ}
use mathlib.Core.Bool.{Bool}
use mathlib.Core.List.{List, []}
use mathlib.Core.Path.{◌≡◌, refl, ap, sym, subst, ◌∙◌}
use native.Mathlib.Omega.{arith}
use lib.ListN.{length}
use Rattle.format.specs.Blocks.{Block}
use Rattle.format.specs.declared.Refusal.{Refusal}
use Rattle.format.specs.Walk.{Walk, refuse, fault, ◌>>=◌, Outcome, run, and_then}
use Rattle.format.specs.Superblock.{superblock_walk}
use Rattle.format.specs.Message.{Message}
use Rattle.format.specs.Header as headers
use Rattle.format.specs.Header.{header_walk}
use Rattle.format.specs.Tree.{group_walk}
use Rattle.format.specs.Lookup as lookup
use Rattle.format.specs.Lookup.{compare_name, find_walk, target_walk, component_walk}
use Rattle.walk.specs.Lent.{blocks_of, Lent, ended, stopped, Walked}
use Rattle.laws.proofs.Bind.{run_bind}
use Rattle.laws.proofs.SumOfLengths.{grown-apart, grown-inside}
use Rattle.laws.proofs.Simulation.{Simulation, start, callee-done, callee-stopped, walked-done, walked-refused}
use Rattle.std.specs.Prelude.{Result, Ok, Err}
use Rattle.group.specs.Group.{Ready, GroupIs}
use Rattle.superblock.specs.Superblock.{superblock_of}
use Rattle.superblock.specs.declared.Superblock.{Superblock}
use Rattle.component.specs.Component.{target_of, EndsAs, FoundIs, ComponentIs}
use Rattle.component.specs.declared.Target.{Target}
use Rattle.component.specs.declared.Target.TheVariants.{Object, Symbolic}

-- a walk that is known to end so
ends_as : (im : List ℕ) (eof room : ℕ) (r : Result Target Refusal) (bs : List Block) → EndsAs r (run im eof room (target_of r) bs)
unfolding run
ends_as im eof room (Ok (Object a)) bs = (bs, refl)
ends_as im eof room (Ok Symbolic) bs = (bs, refl)
ends_as im eof room (Err n) bs = (bs, refl)

module _ (im name ws : List ℕ) (s : Superblock) (room tree heap count : ℕ) (last : Bool) (ws₁ : List ℕ) (count₁ links₁ : ℕ)
    (link : lookup.Link) where
  abbrev eof : ℕ
  eof = s.end_of_file

  abbrev w : Walk lookup.Link
  w = group_walk s.leaf_k s.internal_k tree heap (compare_name name) lookup.absent

  -- what follows the group's walk
  bound : {o : Outcome lookup.Link} → run im eof room w (blocks_of count ws) ≡ o →
      run im eof room (w >>= target_walk last) (blocks_of count ws) ≡ and_then o (λ l cs. run im eof room (target_walk last l) cs)
  bound e =
      run_bind im eof room w (target_walk last) (blocks_of count ws) ∙ ap
      (λ (x : Outcome lookup.Link). and_then x (λ l cs. run im eof room (target_walk last l) cs)) e

  -- the group was read with the lookup's own visit
  abbrev Read : Result (Unit {0}) Refusal → Type 0
  Read r = GroupIs im ws (compare_name name) eof room s.leaf_k s.internal_k tree heap count lookup.absent ws₁ count₁ links₁ link r

  -- the group is not sound
  pub group-stopped : (x : Refusal) → Read (Err x) → FoundIs im name ws s room tree heap count last (Err x)
  group-stopped x g = let o = walked-refused ws ws₁ x _ g.walked in record { found = (o.0, bound o.1) }

  -- it is sound, and its entries say where the name leads
  pub group-found : (r : Result Target Refusal) → Read (Ok tt) → target_of r ≡ target_walk last link →
      FoundIs im name ws s room tree heap count last r
  group-found r g e =
      let bs = blocks_of count₁ ws₁ in
      let o = walked-done ws ws₁ link count₁ _ g.walked in
      let q : run im eof room (w >>= target_walk last) (blocks_of count ws) ≡ run im eof room (target_of r) bs = bound o ∙ ap
      (λ (v : Walk lookup.Target). run im eof room v bs) (sym e) in
      record { found = subst (EndsAs r) (sym q) (ends_as im eof room r bs) }

module _ (im name ws : List ℕ) (s : Superblock) (room at : ℕ) (last : Bool) (l : Lent ws 0 room) (ws₁ : List ℕ) where
  abbrev whole : Walk lookup.Target
  whole = component_walk (superblock_of s) name last at

  pub superblock-stopped : (x : Refusal) →
      Walked ws ws₁ (stopped x) (run im s.end_of_file room (superblock_walk (superblock_of s)) []) →
      ComponentIs im name s room at last (Err x)
  unfolding component_walk blocks_of
  superblock-stopped x h =
      record {
        found = walked-refused ws ws₁ x _ (callee-stopped ws₁ (superblock_walk (superblock_of s)) _ (start im s.end_of_file room whole 0 ws l) h);
      }

  module _ (n : ℕ) (same : length ws₁ ≡ length ws) (h : Walked ws ws₁ (ended tt n) (run im s.end_of_file room (superblock_walk (superblock_of s)) [])) where
    pub at-header : Simulation im s.end_of_file room whole 0 ws (header_walk at >>= λ o. find_walk (superblock_of s) name o >>= target_walk last) n ws₁
    unfolding component_walk blocks_of
    at-header = callee-done ws₁ (superblock_walk (superblock_of s)) _ (start im s.end_of_file room whole 0 ws l) same h

    module _ (ws₂ : List ℕ) where
      pub header-stopped : (x : Refusal) →
          Walked ws₁ ws₂ (stopped x) (run im s.end_of_file room (header_walk at) (blocks_of n ws₁)) →
          ComponentIs im name s room at last (Err x)
      unfolding blocks_of
      header-stopped x k = record { found = walked-refused ws ws₂ x _ (callee-stopped ws₂ (header_walk at) _ at-header k) }

      module _ (o : headers.Object) (m : ℕ) (same₂ : length ws₂ ≡ length ws₁)
          (k : Walked ws₁ ws₂ (ended o m) (run im s.end_of_file room (header_walk at) (blocks_of n ws₁))) where
        pub at-kind : Simulation im s.end_of_file room whole 0 ws (find_walk (superblock_of s) name o >>= target_walk last) m ws₂
        at-kind = callee-done ws₂ (header_walk at) _ at-header same₂ k

        -- it is no group
        not-a-group : find_walk (superblock_of s) name o ≡ refuse (fault 17 0) →
            ComponentIs im name s room at last (Err (fault 17 0))
        unfolding blocks_of run ◌>>=◌
        not-a-group e = record { found = (blocks_of m ws₂, at-kind.same_run ∙ rw e refl) }

      module _ (m : ℕ) (same₂ : length ws₂ ≡ length ws₁) where
        pub committed-found : Walked ws₁ ws₂ (ended headers.committed m) (run im s.end_of_file room (header_walk at) (blocks_of n ws₁)) →
            ComponentIs im name s room at last (Err (fault 17 0))
        unfolding find_walk
        committed-found k = not-a-group headers.committed m same₂ k refl

        pub dataset-found : (space type layout : Message) →
            Walked ws₁ ws₂ (ended (headers.dataset space type layout) m) (run im s.end_of_file room (header_walk at) (blocks_of n ws₁)) →
            ComponentIs im name s room at last (Err (fault 17 0))
        unfolding find_walk
        dataset-found space type layout k = not-a-group (headers.dataset space type layout) m same₂ k refl

        module _ (tree heap : ℕ)
            (k : Walked ws₁ ws₂ (ended (headers.group tree heap) m) (run im s.end_of_file room (header_walk at) (blocks_of n ws₁))) where
          -- the blocks for the group; no link is counted
          pub group-ready : Ready ws₂ s.end_of_file room m 0
          unfolding blocks_of
          group-ready =
              let a = at-kind (headers.group tree heap) m same₂ k in
              record { lent = a.lent; apart = grown-apart a.blocks tt; inside = grown-inside a.blocks tt; links = omega arith }

          pub group-is : (r : Result Target Refusal) → FoundIs im name ws₂ s room tree heap m last r →
              ComponentIs im name s room at last r
          unfolding find_walk blocks_of
          group-is r f = record {
            found = subst (EndsAs r) (sym (at-kind (headers.group tree heap) m same₂ k).same_run) f.found;
          }
