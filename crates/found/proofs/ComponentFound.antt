-- "A name is found exactly when the group's sound index holds it and the header it links to is sound; absent only from a sound index." Here: one name in
-- one group.
use Prim.Native.Nat.{ℕ}
use mathlib.Core.Bool.{Bool, true, false}
use mathlib.Core.List.{List, []}
use mathlib.Core.Logic.{⊎_elim, ◌↔◌}
use mathlib.Core.Path.{◌≡◌, refl, ap, sym, ◌∙◌}
use native.Mathlib.Omega.{arith}
use Rattle.format.specs.Blocks.{Block}
use Rattle.format.specs.Walk.{Outcome, done, fault, run}
use Rattle.format.specs.Superblock.{Superblock}
use Rattle.format.specs.Entry.{Entry, is_hard}
use Rattle.format.specs.Lookup.{Link, absent, hard, soft, Target, object, symbolic, target_walk, component_walk}
use Rattle.group.specs.Entries.{link_to, remembered}
use Rattle.group.proofs.Entries.{not-remembered}
use Rattle.found.specs.Leads.{index_walk, IndexIs, Holds, Lacks}
use Rattle.found.specs.Found.{RefusedWith}
use Rattle.links.proofs.Outcomes.{then-done}
use Rattle.found.proofs.Outcomes.{then-refused}
use Rattle.found.proofs.Index.{component-run}
use Rattle.found.proofs.Names.{says-entry, says-hard, says-soft, says-absent}
use Rattle.found.proofs.TargetEnds.{target-object, target-symbolic, target-absent, target-early}
use Rattle.found.proofs.IndexLaws.{index-rising, index_number}

module _ (im : List ℕ) (eof room : ℕ) where
  -- what the index says, put as the end of the component
  index-then : (s : Superblock) (name : List ℕ) (is_last : Bool) (at : ℕ) (es : List Entry) (bs : List Block) (l : Link) →
      run im eof room (index_walk s at) [] ≡ done es bs → remembered name es absent ≡ l →
      run im eof room (component_walk s name is_last at) [] ≡ run im eof room (target_walk is_last l) bs
  index-then s name is_last at es bs l i r = component-run s name im eof room is_last at ∙ rw (i, r)

module _ (im : List ℕ) (s : Superblock) (room : ℕ) (name : List ℕ) (is_last : Bool) (at : ℕ) where
  abbrev component : Outcome Target
  component = run im s.end_of_file room (component_walk s name is_last at) []

  abbrev ending : List Entry → List Block → Outcome Target
  ending es bs = run im s.end_of_file room (target_walk is_last (remembered name es absent)) bs

  entry-link : (e : Entry) (bs : List Block) (h : Holds im s room at name e bs) → remembered name h.entries absent ≡ link_to e
  entry-link e bs h = says-entry name h.entries (index-rising im s room at h.entries bs h.index) e h.member h.named

  -- it leads to the object at a exactly if the sound index holds it as a hard link to a
  pub component-found : (a : ℕ) (bs : List Block) →
      (component ≡ done (object a) bs) ↔ ((e : Entry) × Holds im s room at name e bs × (is_hard e ≡ true) × (e.header ≡ a))
  unfolding target_walk run
  component-found a bs = (forth, back)
    where
      forth : component ≡ done (object a) bs → (e : Entry) × Holds im s room at name e bs × (is_hard e ≡ true) × (e.header ≡ a)
      forth c =
          let b = then-done (run im s.end_of_file room (index_walk s at) []) ending (object a) bs
          (sym (component-run s name im s.end_of_file room is_last at) ∙ c) in
          let t = target-object im s.end_of_file room is_last (remembered name b.0 absent) b.1 a bs b.3 in
          let i : IndexIs im s room at b.0 bs = rw t.1 at b.2 in
          let h = says-hard name b.0 (index-rising im s room at b.0 bs i) a t.0 in
          (h.0, record { entries = b.0; index = i; member = h.1; named = h.2 }, h.3, h.4)

      back : (e : Entry) × Holds im s room at name e bs × (is_hard e ≡ true) × (e.header ≡ a) → component ≡ done (object a) bs
      back h =
          let l : remembered name h.1.entries absent ≡ hard a = entry-link h.0 bs h.1 ∙ rw h.2 (ap hard h.3) in
          index-then im s.end_of_file room s name is_last at h.1.entries bs (hard a) h.1.index l

  -- it leads to a symbolic link exactly if the sound index holds it as one and it is the last
  pub component-symbolic : (bs : List Block) →
      (component ≡ done symbolic bs) ↔ ((e : Entry) × Holds im s room at name e bs × (is_hard e ≡ false) × (is_last ≡ true))
  unfolding target_walk run
  component-symbolic bs = (forth, back)
    where
      forth : component ≡ done symbolic bs → (e : Entry) × Holds im s room at name e bs × (is_hard e ≡ false) × (is_last ≡ true)
      forth c =
          let b = then-done (run im s.end_of_file room (index_walk s at) []) ending symbolic bs
          (sym (component-run s name im s.end_of_file room is_last at) ∙ c) in
          let t = target-symbolic im s.end_of_file room is_last (remembered name b.0 absent) b.1 bs b.3 in
          let i : IndexIs im s room at b.0 bs = rw t.2 at b.2 in
          let h = says-soft name b.0 (index-rising im s room at b.0 bs i) t.0 in
          (h.0, record { entries = b.0; index = i; member = h.1; named = h.2 }, h.3, t.1)

      back : (e : Entry) × Holds im s room at name e bs × (is_hard e ≡ false) × (is_last ≡ true) → component ≡ done symbolic bs
      back h =
          let l : remembered name h.1.entries absent ≡ soft = entry-link h.0 bs h.1 ∙ rw h.2 in
          index-then im s.end_of_file room s name is_last at h.1.entries bs soft h.1.index l ∙ rw h.3

  -- it is absent exactly if the sound index holds no entry of the name
  pub component-absent : (bs : List Block) → RefusedWith component 15 bs ↔ Lacks im s room at name bs
  unfolding target_walk run
  component-absent bs = (forth, back)
    where
      forth : RefusedWith component 15 bs → Lacks im s room at name bs
      forth c =
          ⊎_elim (λ r. ⊎_elim (λ n. absurd (omega (arith, c.2))) (λ n. absurd (omega (arith, c.2))) (index_number im s room at c.0 bs r))
          (λ b.
          let t = target-absent im s.end_of_file room is_last (remembered name b.0 absent) b.1 c.0 bs c.2 b.3 in
          let i : IndexIs im s room at b.0 bs = rw t.1 at b.2 in
          record { entries = b.0; index = i; none = says-absent name b.0 (index-rising im s room at b.0 bs i) t.0 })
          (then-refused (run im s.end_of_file room (index_walk s at) []) ending c.0 bs (sym (component-run s name im s.end_of_file room is_last at) ∙ c.1))

      back : Lacks im s room at name bs → RefusedWith component 15 bs
      back h = (
        fault 15 0,
        index-then im s.end_of_file room s name is_last at h.entries bs absent h.index
            (not-remembered name h.entries absent h.none),
        refl,
      )

  -- it is a symbolic link before the last component exactly if the sound index holds it as one and it isn't the last
  pub component-early : (bs : List Block) → RefusedWith component 16 bs ↔ ((e : Entry) × Holds im s room at name e bs × (is_hard e ≡ false) × (is_last ≡ false))
  unfolding target_walk run
  component-early bs = (forth, back)
    where
      forth : RefusedWith component 16 bs → (e : Entry) × Holds im s room at name e bs × (is_hard e ≡ false) × (is_last ≡ false)
      forth c =
          ⊎_elim (λ r. ⊎_elim (λ n. absurd (omega (arith, c.2))) (λ n. absurd (omega (arith, c.2))) (index_number im s room at c.0 bs r))
          (λ b.
          let t = target-early im s.end_of_file room is_last (remembered name b.0 absent) b.1 c.0 bs c.2 b.3 in
          let i : IndexIs im s room at b.0 bs = rw t.2 at b.2 in
          let h = says-soft name b.0 (index-rising im s room at b.0 bs i) t.0 in
          (h.0, record { entries = b.0; index = i; member = h.1; named = h.2 }, h.3, t.1))
          (then-refused (run im s.end_of_file room (index_walk s at) []) ending c.0 bs (sym (component-run s name im s.end_of_file room is_last at) ∙ c.1))

      back : (e : Entry) × Holds im s room at name e bs × (is_hard e ≡ false) × (is_last ≡ false) → RefusedWith component 16 bs
      back h =
          let l : remembered name h.1.entries absent ≡ soft = entry-link h.0 bs h.1 ∙ rw h.2 in
          (fault 16 0, index-then im s.end_of_file room s name is_last at h.1.entries bs soft h.1.index l ∙ rw h.3, refl)
