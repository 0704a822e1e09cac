-- With no less room an audit, a lookup and a description run as they did, unless they ended for want of room.
use Prim.Native.Nat.{ℕ, ◌≤◌}
use mathlib.Core.List.{List, [], ◌∷◌}
use mathlib.Core.Path.{◌≡◌, refl, ap, ◌∙◌}
use Rattle.format.specs.Bytes.{is_empty}
use Rattle.format.specs.Blocks.{room_of}
use Rattle.format.specs.Walk.{Walk, ◌>>◌, Outcome, done, refused, run, and_then}
use Rattle.format.specs.Superblock.{Superblock, Opening, opened, not_opened, open_image, run_opened, superblock_walk}
use Rattle.format.specs.Audit.{audit_walk, audit_run}
use Rattle.format.specs.Path.{Parsed, components, bad_path, parse_path}
use Rattle.format.specs.Lookup.{Target, object, symbolic, component_walk, from_target, follow, follow_path, locate_walk, lookup_run}
use Rattle.format.specs.Describe.{describe_walk, describe_run}
use Rattle.laws.proofs.MoreRoom.{HadRoom, had-room-first, more_room}

module _ (im : List ℕ) (room room' : ℕ) (l : room ≤ room') (s : Superblock) {A : Type 0} (last : ℕ → Walk A) (x : Outcome A) where
  follow-more : (ps : List (List ℕ)) (at : ℕ) → HadRoom (follow im s room last x ps at) → follow im s room' last x ps at ≡ follow im s room last x ps at
  unfolding follow
  follow-more [] at h = more_room im s.end_of_file room room' l (superblock_walk s >> last at) [] h
  follow-more (p ∷ ps) at h =
      let w = component_walk s p (is_empty ps) at in
      let o = run im s.end_of_file room w [] in
      let same : run im s.end_of_file room' w [] ≡ o = more_room im s.end_of_file room room' l w [] (had-room-first o _ h) in
      ap (λ (q : Outcome Target). and_then q (λ t bs. from_target t (λ a. follow im s room' last x ps a) x)) same ∙ go o h (follow-more ps)
    where
      go : (o : Outcome Target) → HadRoom (and_then o (λ t bs. from_target t (λ a. follow im s room last x ps a) x)) →
          ((a : ℕ) → HadRoom (follow im s room last x ps a) → follow im s room' last x ps a ≡ follow im s room last x ps a) →
          and_then o (λ t bs. from_target t (λ a. follow im s room' last x ps a) x) ≡ and_then o (λ t bs. from_target t (λ a. follow im s room last x ps a) x)
      go (done (object a) bs) k rest = rest a k
      go (done symbolic bs) k rest = refl
      go (refused r bs) k rest = refl

opened-more : {A : Type 0} (f f' : Superblock → Outcome A) → ((s : Superblock) → HadRoom (f s) → f' s ≡ f s) → (o : Opening) → HadRoom (run_opened o f) →
    run_opened o f' ≡ run_opened o f
opened-more f f' c (opened s) h = c s h
opened-more f f' c (not_opened n) h = refl

module _ (im : List ℕ) (lent more : ℕ) (l : room_of lent ≤ room_of more) where
  path-more : {A : Type 0} (last : ℕ → Walk A) (x : Outcome A) (q : Parsed) → HadRoom (follow_path im q lent last x) →
      follow_path im q more last x ≡ follow_path im q lent last x
  path-more last x (components ps) h =
      opened-more (λ s. follow im s (room_of lent) last x ps s.root) (λ s. follow im s (room_of more) last x ps s.root)
      (λ s k. follow-more im (room_of lent) (room_of more) l s last x ps s.root k) (open_image im) h
  path-more last x bad_path h = refl

  pub audit-run-more : HadRoom (audit_run im lent) → audit_run im more ≡ audit_run im lent
  unfolding audit_run
  audit-run-more h =
      opened-more (λ s. run im s.end_of_file (room_of lent) (audit_walk s) []) (λ s. run im s.end_of_file (room_of more) (audit_walk s) [])
      (λ s k. more_room im s.end_of_file (room_of lent) (room_of more) l (audit_walk s) [] k) (open_image im) h

  pub lookup-run-more : (path : List ℕ) → HadRoom (lookup_run im path lent) → lookup_run im path more ≡ lookup_run im path lent
  unfolding lookup_run
  lookup-run-more path h = path-more locate_walk _ (parse_path path) h

  pub describe-run-more : (path : List ℕ) → HadRoom (describe_run im path lent) → describe_run im path more ≡ describe_run im path lent
  unfolding describe_run
  describe-run-more path h = path-more describe_walk _ (parse_path path) h
