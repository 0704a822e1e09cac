-- A lookup or a description is refused exactly where it comes to a fault, with the fault's refusal and blocks; and it comes to one fault at most.
use Prim.Native.Nat.{ℕ}
use mathlib.Core.List.{List, [], ◌∷◌, ◌++◌}
use mathlib.Core.Logic.{◌⊎◌, inl, inr, ⊎_elim}
use mathlib.Core.Path.{◌≡◌, refl, sym, ◌∙◌}
use Rattle.format.specs.Bytes.{is_empty}
use Rattle.format.specs.Blocks.{Block, room_of}
use Rattle.format.specs.declared.Refusal.{Refusal}
use Rattle.format.specs.Walk.{Walk, fault, no_place, Outcome, done, refused, ◌>>◌}
use Rattle.format.specs.Superblock.{Superblock, Opening, opened, not_opened, open_image, superblock_walk}
use Rattle.format.specs.Path.{Parsed, components, bad_path, parse_path}
use Rattle.format.specs.Lookup.{component_walk, follow, follow_path, locate_walk, lookup_run}
use Rattle.format.specs.Describe.{describe_walk, describe_run}
use Rattle.links.proofs.RefusedFault.{refused-fault, fault-refused}
use Rattle.found.specs.Found.{Asked}
use Rattle.found.specs.PathFault.{PathFault, malformed, unopened, at_component, at_last, LookupFault, AtSymbolic, DescribeFault}
use Rattle.found.proofs.Outcomes.{done_refused}
use Rattle.found.proofs.Following.{follow-object, follow-ends, follow-symbolic, follow-cases}
use Rattle.found.proofs.Asking.{asked-follow}

module _ (im path : List ℕ) (lent : ℕ) {A : Type 0} (last : ℕ → Walk A) (x : Outcome A) where
  abbrev Followed : Refusal → List Block → Type 0
  Followed r bs = PathFault im path lent last r bs ⊎ (AtSymbolic im path lent × (x ≡ refused r bs))

  -- a path that is refused comes to a fault, or leads to a symbolic link, for which x is the end
  follow-fault : (ps : List (List ℕ)) (s : Superblock) → Asked im path ps s → (r : Refusal) (bs : List Block) →
      follow im s (room_of lent) last x ps s.root ≡ refused r bs → Followed r bs
  follow-fault ps s q r bs e =
      ⊎_elim
      (λ h. inl (at_last q h.1 (refused-fault im s.end_of_file (room_of lent) (superblock_walk s >> last h.0) [] r bs (sym h.2 ∙ e))))
      (⊎_elim (λ h. inr ((ps, s, q, h.0), sym h.1 ∙ e))
      (λ h.
      let t = h.2 in
      let one = sym h.3 ∙ e in
      let same : h.0 ≡ r = cc in
      let blocks : h.1 ≡ bs = cc in
      let stops = rw (same, blocks) at t.stops in
      inl
      (at_component t.before t.next t.after (rw t.all at q) t.leads
      (refused-fault im s.end_of_file (room_of lent) (component_walk s t.next (is_empty t.after) t.reached) [] r bs stops))))
      (follow-cases im s (room_of lent) last x ps s.root)

  pub path-fault : (r : Refusal) (bs : List Block) → follow_path im (parse_path path) lent last x ≡ refused r bs → Followed r bs
  path-fault r bs e = go (parse_path path) (open_image im) refl refl
    where
      go : (q : Parsed) (o : Opening) → parse_path path ≡ q → open_image im ≡ o → Followed r bs
      go (components ps) (opened s) p w =
          let asked : Asked im path ps s = record { parsed = p; walkable = w } in
          follow-fault ps s asked r bs (sym (asked-follow im path lent last x ps s asked) ∙ e)
      go (components ps) (not_opened n) p w =
          let end : refused (fault n 0) [] ≡ refused r bs = rw (p, w) at e in
          let same : fault n 0 ≡ r = cc in
          let none : [] ≡ bs = cc in
          rw (← same, ← none) (inl (unopened p w))
      go bad_path o p w =
          let end : refused (fault 14 no_place) [] ≡ refused r bs = rw p at e in
          let same : fault 14 no_place ≡ r = cc in
          let none : [] ≡ bs = cc in
          rw (← same, ← none) (inl (malformed p))

  pub fault-path : {r : Refusal} {bs : List Block} → PathFault im path lent last r bs → follow_path im (parse_path path) lent last x ≡ refused r bs
  unfolding follow
  fault-path (malformed p) = rw p
  fault-path (unopened p w) = rw (p, w)
  fault-path (at_component before next after {s = s} q l f) =
      asked-follow im path lent last x (before ++ (next ∷ after)) s q ∙ follow-object im s (room_of lent) last x l (next ∷ after)
      ∙ rw (fault-refused im s.end_of_file (room_of lent) f)
  fault-path (at_last {ps = ps} {s = s} q l f) =
      asked-follow im path lent last x ps s q ∙ follow-ends im s (room_of lent) last x l ∙ fault-refused im s.end_of_file (room_of lent) f

  pub symbolic-path : AtSymbolic im path lent → follow_path im (parse_path path) lent last x ≡ x
  symbolic-path h = asked-follow im path lent last x h.0 h.1 h.2 ∙ follow-symbolic im h.1 (room_of lent) last x h.3

module _ (im path : List ℕ) (lent : ℕ) where
  -- each refusal of a lookup has a cause
  pub lookup-refused-fault : (r : Refusal) (bs : List Block) → lookup_run im path lent ≡ refused r bs → LookupFault im path lent r bs
  unfolding lookup_run
  lookup-refused-fault r bs e =
      ⊎_elim (λ f. f) (λ h. absurd (done_refused _ [] r bs h.1)) (path-fault im path lent locate_walk (done (record { kind = 4; address = 0 }) []) r bs e)

  pub lookup-fault-refused : (r : Refusal) (bs : List Block) → LookupFault im path lent r bs → lookup_run im path lent ≡ refused r bs
  unfolding lookup_run
  lookup-fault-refused r bs f = fault-path im path lent locate_walk (done (record { kind = 4; address = 0 }) []) f

  -- and one
  pub lookup-fault-one : (r r' : Refusal) (bs bs' : List Block) → LookupFault im path lent r bs → LookupFault im path lent r' bs' → (r ≡ r') × (bs ≡ bs')
  lookup-fault-one r r' bs bs' f f' =
      let e = lookup-fault-refused r bs f in
      let e' = lookup-fault-refused r' bs' f' in
      (cc, cc)

  -- the same of a description
  pub describe-refused-fault : (r : Refusal) (bs : List Block) → describe_run im path lent ≡ refused r bs → DescribeFault im path lent r bs
  unfolding describe_run
  describe-refused-fault r bs e =
      ⊎_elim (λ f. inl f)
      (λ h.
      let end = h.1 in
      inr (h.0, cc, cc))
      (path-fault im path lent describe_walk (refused (fault 20 no_place) []) r bs e)

  pub describe-fault-refused : (r : Refusal) (bs : List Block) → DescribeFault im path lent r bs → describe_run im path lent ≡ refused r bs
  unfolding describe_run
  describe-fault-refused r bs f =
      ⊎_elim (λ h. fault-path im path lent describe_walk (refused (fault 20 no_place) []) h)
      (λ h. rw (h.1, h.2) (symbolic-path im path lent describe_walk (refused (fault 20 no_place) []) h.0)) f

  pub describe-fault-one : (r r' : Refusal) (bs bs' : List Block) → DescribeFault im path lent r bs → DescribeFault im path lent r' bs' →
      (r ≡ r') × (bs ≡ bs')
  describe-fault-one r r' bs bs' f f' =
      let e = describe-fault-refused r bs f in
      let e' = describe-fault-refused r' bs' f' in
      (cc, cc)
