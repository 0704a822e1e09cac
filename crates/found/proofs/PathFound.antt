-- How a path that is followed ends: done, at the object or the symbolic link that it leads to; absent, in a group whose sound index lacks a component.
use Prim.Native.Nat.{ℕ}
use mathlib.Core.List.{List, [], ◌∷◌, ◌++◌}
use mathlib.Core.Logic.{◌⊎◌, inl, inr, ⊎_elim, ◌↔◌}
use mathlib.Core.Path.{◌≡◌, ap, sym, ◌∙◌}
use native.Mathlib.Omega.{arith}
use Rattle.format.specs.Bytes.{is_empty}
use Rattle.format.specs.Blocks.{Block, room_of}
use Rattle.format.specs.Walk.{Walk, fault, answer_of, Outcome, done, run, ◌>>◌}
use Rattle.format.specs.Superblock.{Superblock, superblock_walk}
use Rattle.format.specs.Path.{parse_path}
use Rattle.format.specs.Lookup.{object, symbolic, follow, follow_path}
use Rattle.found.specs.Leads.{Leads}
use Rattle.found.specs.Found.{RefusedWith, Asked, IsAbsent}
use Rattle.found.proofs.Outcomes.{done_refused}
use Rattle.found.proofs.ComponentFound.{component-absent}
use Rattle.found.proofs.Following.{follow-object, follow-ends, follow-symbolic, follow-cases}
use Rattle.found.proofs.Asking.{asked-follow, asked-or-not}

module _ (im path : List ℕ) (lent : ℕ) {A : Type 0} (last : ℕ → Walk A) (x : Outcome A) where
  abbrev followed : Outcome A
  followed = follow_path im (parse_path path) lent last x

  -- it leads to an object whose walk is done so, or to a symbolic link, for which x is the end
  abbrev pub DoneAt : Superblock → List (List ℕ) → A → List Block → Type 0
  DoneAt s ps v bs =
      ((a : ℕ) × Leads im s (room_of lent) s.root ps (object a) × (run im s.end_of_file (room_of lent) (superblock_walk s >> last a) [] ≡ done v bs)) ⊎
      (Leads im s (room_of lent) s.root ps symbolic × (x ≡ done v bs))

  pub path-done : (v : A) (bs : List Block) → (followed ≡ done v bs) ↔ ((ps : List (List ℕ)) × (s : Superblock) × Asked im path ps s × DoneAt s ps v bs)
  path-done v bs = (forth, back)
    where
      ends : (ps : List (List ℕ)) (s : Superblock) → follow im s (room_of lent) last x ps s.root ≡ done v bs → DoneAt s ps v bs
      ends ps s e =
          ⊎_elim (λ h. inl (h.0, h.1, sym h.2 ∙ e))
          (⊎_elim (λ h. inr (h.0, sym h.1 ∙ e)) (λ h. absurd (done_refused v bs h.0 h.1 (sym e ∙ h.3))))
          (follow-cases im s (room_of lent) last x ps s.root)

      forth : followed ≡ done v bs → (ps : List (List ℕ)) × (s : Superblock) × Asked im path ps s × DoneAt s ps v bs
      forth e =
          ⊎_elim (λ w. (w.0, w.1, w.2, ends w.0 w.1 (sym w.3 ∙ e))) (λ r. absurd (done_refused v bs (fault r.0 0) [] (sym e ∙ r.2)))
          (asked-or-not im path lent last x)

      back : (ps : List (List ℕ)) × (s : Superblock) × Asked im path ps s × DoneAt s ps v bs → followed ≡ done v bs
      back f =
          asked-follow im path lent last x f.0 f.1 f.2
          ∙ ⊎_elim (λ h. follow-ends im f.1 (room_of lent) last x h.1 ∙ h.2) (λ h. follow-symbolic im f.1 (room_of lent) last x h.0 ∙ h.1) f.3

  -- 15 comes from a component only, if neither the walk of the object found nor the end of a symbolic link refuses with it
  pub path-absent : (bs : List Block) → ((s : Superblock) (room a : ℕ) → RefusedWith (run im s.end_of_file room (superblock_walk s >> last a) []) 15 bs → ⊥) →
      (RefusedWith x 15 bs → ⊥) →
      RefusedWith followed 15 bs ↔ IsAbsent im path lent bs
  unfolding follow
  path-absent bs never none = (forth, back)
    where
      missing : (ps : List (List ℕ)) (s : Superblock) → Asked im path ps s → RefusedWith (follow im s (room_of lent) last x ps s.root) 15 bs →
          IsAbsent im path lent bs
      missing ps s q e =
          ⊎_elim (λ h. absurd (never s (room_of lent) h.0 (e.0, sym h.2 ∙ e.1, e.2)))
          (⊎_elim (λ h. absurd (none (e.0, sym h.1 ∙ e.1, e.2)))
          (λ h.
          let t = h.2 in
          let one = sym h.3 ∙ e.1 in
          let same : h.0 ≡ e.0 = cc in
          let blocks : h.1 ≡ bs = cc in
          let stops = rw (same, blocks) at t.stops in
          record {
            before = t.before;
            next = t.next;
            after = t.after;
            superblock = s;
            asked = rw t.all at q;
            at = t.reached;
            leads = t.leads;
            lacks = (component-absent im s (room_of lent) t.next (is_empty t.after) t.reached bs).0 (e.0, stops, e.2);
          }))
          (follow-cases im s (room_of lent) last x ps s.root)

      forth : RefusedWith followed 15 bs → IsAbsent im path lent bs
      forth e =
          ⊎_elim (λ w. missing w.0 w.1 w.2 (e.0, sym w.3 ∙ e.1, e.2))
          (λ r.
          let one = sym r.2 ∙ e.1 in
          let same : fault r.0 0 ≡ e.0 = cc in
          let number : r.0 ≡ 15 = ap answer_of same ∙ e.2 in
          ⊎_elim (λ h. absurd (omega arith)) (λ h. absurd (omega (arith, h.0))) r.1)
          (asked-or-not im path lent last x)

      back : IsAbsent im path lent bs → RefusedWith followed 15 bs
      back f =
          let c = (component-absent im f.superblock (room_of lent) f.next (is_empty f.after) f.at bs).1 f.lacks in (
            c.0,
            asked-follow im path lent last x (f.before ++ (f.next ∷ f.after)) f.superblock f.asked
                ∙ follow-object im f.superblock (room_of lent) last x f.leads (f.next ∷ f.after)
                ∙ rw c.1,
            c.2,
          )
