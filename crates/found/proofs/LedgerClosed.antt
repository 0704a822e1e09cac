-- On an image that the audit accepts, every path leads to objects of the ledger only.
use Prim.Native.Nat.{ℕ}
use mathlib.Core.Bool.{Bool, true, false}
use mathlib.Core.List.Memᴰ
use mathlib.Core.List.{List, [], ◌∷◌, ◌++◌, Memᴰ}
use mathlib.Core.Logic.{⊎_elim}
use mathlib.Core.Path.{◌≡◌, refl, ap, sym, ◌∙◌}
use native.Mathlib.Omega.{arith}
use Rattle.format.specs.Limits.{blocks_most}
use Rattle.std.specs.Prelude.{if◌then◌else◌}
use Rattle.format.specs.Blocks.{Block}
use Rattle.format.specs.Walk.{Walk, ret, done, run}
use Rattle.format.specs.Superblock.{Superblock}
use Rattle.format.specs.Header.{Object, group, dataset, committed, header_with, header_walk}
use Rattle.format.specs.Entry.{Entry, is_hard}
use Rattle.format.specs.Ledger.{Linked, in_ledger}
use Rattle.format.specs.Lookup.{Target, object}
use Rattle.laws.proofs.Plan.{Plan, value, fault, step, plan, EndsIn}
use Rattle.laws.proofs.Restart.{run-done}
use Rattle.group.specs.Entries.{entries_walk}
use Rattle.links.specs.Reached.{Reference, hard_link, hard_links_of, sharings_of, keep_sharing, content_references, references_at, HasReferences, by_reference}
use Rattle.links.specs.Sound.{Sound}
use Rattle.links.proofs.Outcomes.{bind_done}
use Rattle.links.proofs.ObjectReferences.{header-accepted}
use Rattle.links.proofs.TraceReferences.{each-find}
use Rattle.found.specs.Leads as leads
use Rattle.found.specs.Leads.{index_of, IndexIs, Holds, Leads}
use Rattle.found.proofs.IndexLaws.{index-object}

-- a plan ends in one value
ends-one : {A : Type 0} (p : Plan A) (a b : A) → EndsIn a p → EndsIn b p → a ≡ b
ends-one (value c) a b e f = sym e ∙ f
ends-one (fault r) a b e f = absurd e
ends-one (step c p) a b e f = ends-one p a b e f

-- so a walk that is done has one value, wherever it began and with any room
done-one : {A : Type 0} (im : List ℕ) (eof : ℕ) (w : Walk A) (room room' : ℕ) (bs bs' ms ms' : List Block) (a b : A) →
    run im eof room w bs ≡ done a ms → run im eof room' w bs' ≡ done b ms' → a ≡ b
done-one im eof w room room' bs bs' ms ms' a b e f =
    ends-one (plan im eof w) a b (run-done im eof w room bs ms a e).ends (run-done im eof w room' bs' ms' b f).ends

-- a hard link of an entry is among those of all
link-among : (es : List Entry) (e : Entry) → Memᴰ e es → is_hard e ≡ true → Memᴰ (hard_link e.header) (hard_links_of es)
unfolding hard_links_of
link-among [] e m h = absurd (Memᴰ.not-nil m)
link-among (f ∷ es) e m h = ⊎_elim here (λ i. there (is_hard f) (link-among es e i h)) (Memᴰ.cases_cons m)
  where
    here : e ≡ f → Memᴰ (hard_link e.header) (if is_hard f then hard_link f.header ∷ hard_links_of es else hard_links_of es)
    here same = rw (← same, h) (Memᴰ.head refl)

    there : (t : Bool) → Memᴰ (hard_link e.header) (hard_links_of es) →
        Memᴰ (hard_link e.header) (if t then hard_link f.header ∷ hard_links_of es else hard_links_of es)
    there true i = Memᴰ.tail i
    there false i = i

module _ (im : List ℕ) (s : Superblock) (room : ℕ) where
  -- the hard links of a sound index are the references behind the header
  index-content : (o : Object) (bs : List Block) (es : List Entry) (ms bs' : List Block) (rs : List Reference) (ms' : List Block) →
      run im s.end_of_file room (index_of s o) bs ≡ done es ms → run im s.end_of_file blocks_most (content_references s o) bs' ≡ done rs ms' →
      hard_links_of es ≡ rs
  unfolding index_of content_references run
  index-content (group tree heap) bs es ms bs' rs ms' e f =
      let w = entries_walk s.leaf_k s.internal_k tree heap in
      let b = bind_done im s.end_of_file blocks_most w (λ fs. ret (hard_links_of fs)) bs' rs ms' f in
      let given : hard_links_of b.0 ≡ rs = cc b.3 in
      ap hard_links_of (done-one im s.end_of_file w room blocks_most bs bs' ms b.1 es b.0 e b.2) ∙ given
  index-content (dataset space type layout) bs es ms bs' rs ms' e f = let z : ◌≡◌ {A = ℕ} 0 1 = cc in absurd (omega arith)
  index-content committed bs es ms bs' rs ms' e f = let z : ◌≡◌ {A = ℕ} 0 1 = cc in absurd (omega arith)

  -- the hard links of a sound index are references of the object, if the object has references
  pub index-references : (at : ℕ) (es : List Entry) (bs : List Block) (rs : List Reference) → IndexIs im s room at es bs → HasReferences im s at rs →
      (e : Entry) → Memᴰ e es → is_hard e ≡ true → Memᴰ (hard_link e.header) rs
  unfolding references_at run
  index-references at es bs rs i r e m k =
      let eof = s.end_of_file in
      let o = index-object im s room at es bs i in
      let h = bind_done im eof blocks_most (header_with keep_sharing at []) _ [] rs r.0 r.1 in
      let c = bind_done im eof blocks_most (content_references s h.0.object) _ h.1 rs r.0 h.3 in
      let all : sharings_of h.0.found ++ c.0 ≡ rs = cc c.3 in
      let alone = header-accepted im eof blocks_most keep_sharing at [] [] h.0 h.1 h.2 in
      let same = done-one im eof (header_walk at) room blocks_most o.1 [] o.2 h.1 o.0 h.0.object o.4 alone in
      let behind = index-content h.0.object o.2 es bs h.1 c.0 c.1 (rw same at o.5) c.2 in
      rw (← all, ← behind) (Memᴰ.append_right (sharings_of h.0.found) (link-among es e m k))

  module _ (os : List Linked) (sound : Sound im s os) where
    -- a hard link of a sound index of an object of the ledger gives an object of the ledger
    pub link-closed : (at : ℕ) (name : List ℕ) (e : Entry) (bs : List Block) → in_ledger at os ≡ true → Holds im s room at name e bs → is_hard e ≡ true →
        in_ledger e.header os ≡ true
    link-closed at name e bs i h k =
        let own = each-find (HasReferences im s) at os sound.references i sound.read in
        let among = index-references at h.entries bs own.0 h.index own.1 e h.member k in
        sound.found e.header (by_reference (hard_link e.header) (sound.reached at i) own.1 among)

    leads-to : {at : ℕ} {ps : List (List ℕ)} {t : Target} → Leads im s room at ps t → (a : ℕ) → t ≡ object a → in_ledger at os ≡ true → in_ledger a os ≡ true
    leads-to (leads.here {at = at}) a q i = let same : at ≡ a = cc in rw same at i
    leads-to (leads.by_link {at = at} {p = p} {e = e} {bs = bs} h k l) a q i = leads-to l a q (link-closed at p e bs i h k)
    leads-to (leads.to_symbolic h k) a q i = let z : ◌≡◌ {A = ℕ} 0 1 = cc in absurd (omega arith)

    pub leads-closed : {at a : ℕ} {ps : List (List ℕ)} → Leads im s room at ps (object a) → in_ledger at os ≡ true → in_ledger a os ≡ true
    leads-closed {at} {a} l i = leads-to l a refl i
