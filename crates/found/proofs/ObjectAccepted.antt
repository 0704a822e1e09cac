-- An object that the audit has read: with any room its header is sound or there is no room for it, and so are the index of a group and a dataset's messages.
use Prim.Native.Nat.{ℕ, ◌≤◌}
use mathlib.Core.Bool.{Bool, true, false}
use mathlib.Core.List.{List, []}
use mathlib.Core.Logic.{◌⊎◌, inl, inr, ⊎_elim}
use mathlib.Core.Path.{◌≡◌, refl, ap, sym, ◌∙◌}
use Rattle.format.specs.Blocks.{Block}
use Rattle.format.specs.declared.Refusal.{Refusal}
use Rattle.format.specs.Walk.{fault, answer_of, Walk, ret, refuse, ◌>>=◌, ◌>>◌, done, run, and_then}
use Rattle.format.specs.Superblock.{Superblock, superblock_walk}
use Rattle.format.specs.Header.{Object, group, dataset, committed, header_walk}
use Rattle.format.specs.Dataset.{dataset_walk}
use Rattle.format.specs.Lookup.{Link, absent, hard, soft, target_walk, component_walk, kind_number, locate_walk}
use Rattle.format.specs.Describe.{dataset_of, describe_walk}
use Rattle.laws.proofs.Bind.{run_bind, bind_assoc}
use Rattle.laws.specs.Shown.{Shown}
use Rattle.group.specs.Entries.{remembered}
use Rattle.links.specs.Reached.{hard_links_of, content_references}
use Rattle.links.proofs.Outcomes.{bind_done}
use Rattle.found.specs.Leads.{index_of, index_walk}
use Rattle.found.proofs.Index.{component-run}
use Rattle.found.proofs.ReadWhole.{ReadWhole}
use Rattle.found.proofs.ObjectAgain.{Steps, read-steps}
use Rattle.links.proofs.Numbered.{Only, only_then}
use Rattle.found.proofs.OnlyRefused.{done-unless, only-full}

-- enough is the room with which it was read; 13 is asked of N unless there is so much
module _ (N : ℕ → Type 0) (im : List ℕ) (s : Superblock) (enough : ℕ) (ss : List Shown) (at : ℕ) (r : ReadWhole im s enough ss at) (room : ℕ)
    (full : N 13 ⊎ (enough ≤ room)) where
  abbrev eof : ℕ
  eof = s.end_of_file

  steps : Steps im s enough at r.left
  steps = read-steps im s enough at r.references r.left r.ran

  header-done : run im eof enough (superblock_walk s >> header_walk at) [] ≡ done steps.object steps.second
  header-done = run_bind im eof enough (superblock_walk s) (λ _. header_walk at) [] ∙ rw steps.superblock steps.header

  behind-header : {B : Type 0} (f : Object → Walk B) (lent : ℕ) →
      run im eof lent (superblock_walk s >>= λ _. header_walk at >>= f) [] ≡
      and_then (run im eof lent (superblock_walk s >> header_walk at) []) (λ o cs. run im eof lent (f o) cs)
  behind-header f lent =
      ap (λ (w : Walk _). run im eof lent w []) (sym (bind_assoc (superblock_walk s) (λ _. header_walk at) f))
      ∙ run_bind im eof lent (superblock_walk s >> header_walk at) f []

  -- what comes behind the header is done, or is refused with one of the numbers
  abbrev Ends : {B : Type 0} → Walk B → Type 0
  Ends {B} w = ((x : B) × (ms : List Block) × (run im eof enough w steps.second ≡ done x ms)) ⊎ ((q : Refusal) × N (answer_of q) × (w ≡ refuse q))

  refused-only : {B : Type 0} (w : Walk B) (q : Refusal) → N (answer_of q) → w ≡ refuse q → (cs : List Block) → Only N (run im eof room w cs)
  unfolding run
  refused-only w q h e cs = rw e h

  object-only : {B : Type 0} (f : Object → Walk B) → Ends (f steps.object) → Only N (run im eof room (superblock_walk s >>= λ _. header_walk at >>= f) [])
  object-only f (inl h) =
      only-full N im eof (superblock_walk s >>= λ _. header_walk at >>= f) enough h.0 h.1 (behind-header f enough ∙ rw header-done h.2) room full
  object-only f (inr h) =
      rw (behind-header f room)
      (⊎_elim (λ q. rw q (refused-only (f steps.object) h.0 h.1 h.2 steps.second)) (λ q. rw q.2 q.3)
      (done-unless N im eof (superblock_walk s >> header_walk at) enough steps.object steps.second header-done room full))

  -- the header, for its kind and address
  pub locate-only : Only N (run im eof room (superblock_walk s >> locate_walk at) [])
  unfolding locate_walk run
  locate-only = object-only (λ o. ret (record { kind = kind_number o; address = at })) (inl (_, _, refl))

  -- the index: of an object that isn't a group 17
  module _ (other : N 17) where
    index-ends : (o : Object) → run im eof enough (content_references s o) steps.second ≡ done steps.behind r.left → Ends (index_of s o)
    unfolding content_references index_of
    index-ends (group tree heap) e =
        let b = bind_done im eof enough (index_of s (group tree heap)) (λ es. ret (hard_links_of es)) steps.second steps.behind r.left e in
        inl (b.0, b.1, b.2)
    index-ends (dataset space type layout) e = inr (fault 17 0, other, refl)
    index-ends committed e = inr (fault 17 0, other, refl)

    index-only : Only N (run im eof room (index_walk s at) [])
    unfolding index_walk
    index-only = object-only (index_of s) (index-ends steps.object steps.content)

    target-only : N 15 → N 16 → (is_last : Bool) (l : Link) (cs : List Block) → Only N (run im eof room (target_walk is_last l) cs)
    unfolding target_walk run
    target-only absence early is_last absent cs = absence
    target-only absence early is_last (hard a) cs = tt
    target-only absence early true soft cs = tt
    target-only absence early false soft cs = early

    -- a component: 15 and 16 besides
    pub component-only : N 15 → N 16 → (name : List ℕ) (is_last : Bool) → Only N (run im eof room (component_walk s name is_last at) [])
    component-only absence early name is_last =
        rw (component-run s name im eof room is_last at)
        (only_then N (run im eof room (index_walk s at) []) (λ es bs. run im eof room (target_walk is_last (remembered name es absent)) bs) index-only
        (λ es bs. target-only absence early is_last (remembered name es absent) bs))

  -- a description: of an object that isn't a dataset 20
  module _ (other : N 20) where
    dataset-ends : (o : Object) → run im eof enough (content_references s o) steps.second ≡ done steps.behind r.left → Ends (dataset_of o)
    unfolding content_references dataset_of
    dataset-ends (group tree heap) e = inr (fault 20 0, other, refl)
    dataset-ends (dataset space type layout) e =
        let d = bind_done im eof enough (dataset_walk space type layout) _ steps.second steps.behind r.left e in
        inl (d.0, d.1, d.2)
    dataset-ends committed e = inr (fault 20 0, other, refl)

    pub describe-only : Only N (run im eof room (superblock_walk s >> describe_walk at) [])
    unfolding describe_walk
    describe-only = object-only dataset_of (dataset-ends steps.object steps.content)
