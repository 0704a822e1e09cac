-- A group that is sound for the audit is sound for a lookup, with the same blocks and the same entries.
use Prim.Native.Nat.{ℕ}
use mathlib.Core.Bool.{Bool, true, false}
use mathlib.Core.List.{List, [], ◌∷◌, ◌++◌}
use native.Mathlib.Omega.{arith}
use mathlib.Core.Path.{◌≡◌, refl, ap, sym, ◌∙◌, fun_ext}
use Rattle.std.specs.Prelude.{if◌then◌else◌}
use Rattle.format.specs.Bytes.{same_bytes}
use Rattle.format.specs.Blocks.{Block}
use Rattle.format.specs.Result.{Result, value, ◌>>=◌}
use Rattle.format.specs.Walk.{run}
use Rattle.format.specs.Names.{below}
use Rattle.format.specs.Entry.{Entry}
use Rattle.format.specs.Tree.{group_walk}
use Rattle.format.specs.Ledger.{Linked, discover}
use Rattle.format.specs.Lookup.{Link, absent, compare_name}
use Rattle.laws.proofs.Results.{bind-value, bind_assoc, value-bind}
use Rattle.order.proofs.OrderLaws.{below-irreflexive, below-transitive, same_refl, same-equal}
use Rattle.group.specs.Entries.{keep_entry, entries_walk, count_entries, link_to, remembered, AllAbove, AllBelow, Rising, NoneNamed, visit_both}
use Rattle.laws.proofs.Follows.{Follows, follows-ret, follows-value, follows-map, Ran, follows-run}
use Rattle.group.proofs.Visits.{group-follows}

-- an entry at the end is counted last, and remembered last
count-last : (es : List Entry) (e : Entry) (os : List Linked) → count_entries (es ++ (e ∷ [])) os ≡ count_entries es os >>= discover e
unfolding count_entries
count-last [] e os = bind-value (discover e os) ∙ sym (value-bind os (discover e))
count-last (x ∷ es) e os =
    ap (λ (f : List Linked → Result (List Linked)). discover x os >>= f) (fun_ext λ os'. count-last es e os') ∙ sym
    (bind_assoc (discover x os) (count_entries es) (discover e))

pub remembered-last : (name : List ℕ) (es : List Entry) (e : Entry) (l : Link) →
    remembered name (es ++ (e ∷ [])) l ≡ (if same_bytes e.name name then link_to e else remembered name es l)
unfolding remembered
remembered-last name [] e l = refl
remembered-last name (x ∷ es) e l = remembered-last name es e _

-- names rise
above-last : (n : List ℕ) (es : List Entry) (e : Entry) → AllAbove n es → below n e.name ≡ true → AllAbove n (es ++ (e ∷ []))
unfolding AllAbove
above-last n [] e h b = (b, tt)
above-last n (x ∷ es) e h b = (h.0, above-last n es e h.1 b)

rising-last : (es : List Entry) (e : Entry) → Rising es → AllBelow es e.name → Rising (es ++ (e ∷ []))
unfolding Rising AllAbove AllBelow
rising-last [] e r b = (tt, tt)
rising-last (x ∷ es) e r b = (above-last x.name es e r.0 b.0, rising-last es e r.1 b.1)

below_last : (es : List Entry) (e : Entry) (n : List ℕ) → AllBelow es e.name → below e.name n ≡ true → AllBelow (es ++ (e ∷ [])) n
unfolding AllBelow
below_last [] e n h b = (b, tt)
below_last (x ∷ es) e n h b = (below-transitive x.name e.name n h.0 b, below_last es e n h.1 b)

-- the audit: its group's entries are these, and the ledger after it is the one before with exactly their hard links counted
pub audit-entries : (leaf_k internal_k tree heap : ℕ) (os : List Linked) →
    Follows false (λ os' es. (last : List ℕ) × (count_entries es os ≡ value os')) (group_walk leaf_k internal_k tree heap discover os)
    (entries_walk leaf_k internal_k tree heap)
unfolding entries_walk keep_entry count_entries
audit-entries leaf_k internal_k tree heap os =
    group-follows false leaf_k internal_k discover keep_entry (λ last x es. count_entries es os ≡ value x)
    (λ e last x es at b r.
    follows-value _ at (discover e x) (es ++ (e ∷ []))
    λ y d. count-last es e os ∙ ap (λ (w : Result (List Linked)). w >>= discover e) r ∙ value-bind x (discover e) ∙ d)
    tree heap os [] refl

module _ (im : List ℕ) (eof room leaf_k internal_k tree heap : ℕ) (bs : List Block) where
  -- a lookup, from the group's entries: it is sound with the same blocks, and remembers what they say of the name
  pub entries-lookup : (name : List ℕ) →
      Ran false (λ es l. (last : List ℕ) × (l ≡ remembered name es absent)) (run im eof room (entries_walk leaf_k internal_k tree heap) bs)
      (run im eof room (group_walk leaf_k internal_k tree heap (compare_name name) absent) bs)
  unfolding entries_walk keep_entry remembered compare_name
  entries-lookup name =
      follows-run _ false im eof room _ _ bs
      (group-follows false leaf_k internal_k keep_entry (compare_name name) (λ last es l. l ≡ remembered name es absent)
      (λ e last es l at b r. follows-ret false _ _ _ (rw r (sym (remembered-last name es e absent)))) tree heap [] absent refl)

  -- a visit for both uses: the audit's part of what is found is the audit's, and a lookup's part the lookup's
  pub audit-part : (wanted : List ℕ) (l : Link) (os : List Linked) →
      Ran true (λ x b. (last : List ℕ) × (b ≡ record { ledger = x; link = l })) (run im eof room (group_walk leaf_k internal_k tree heap discover os) bs)
      (run im eof room (group_walk leaf_k internal_k tree heap (visit_both true wanted) (record { ledger = os; link = l })) bs)
  unfolding visit_both
  audit-part wanted l os =
      follows-run _ true im eof room _ _ bs
      (group-follows true leaf_k internal_k discover (visit_both true wanted) (λ last x b. b ≡ record { ledger = x; link = l })
      (λ e last x b at c r. rw r (follows-map true (λ (y : List Linked). record { ledger = y; link = l }) at (discover e x))) tree heap os _ refl)

  pub lookup-part : (wanted : List ℕ) (l : Link) (os : List Linked) →
      Ran true (λ x b. (last : List ℕ) × (b ≡ record { ledger = os; link = x }))
      (run im eof room (group_walk leaf_k internal_k tree heap (compare_name wanted) l) bs)
      (run im eof room (group_walk leaf_k internal_k tree heap (visit_both false wanted) (record { ledger = os; link = l })) bs)
  unfolding visit_both
  lookup-part wanted l os =
      follows-run _ true im eof room _ _ bs
      (group-follows true leaf_k internal_k (compare_name wanted) (visit_both false wanted) (λ last x b. b ≡ record { ledger = os; link = x })
      (λ e last x b at c r. rw r (follows-map true (λ (y : Link). record { ledger = os; link = y }) at (compare_name wanted e x))) tree heap l _ refl)

  -- the names of a sound group rise strictly
  pub entries-rise : Ran false (λ es l. (last : List ℕ) × (Rising es × ((n : List ℕ) → below last n ≡ true → AllBelow es n)))
      (run im eof room (entries_walk leaf_k internal_k tree heap) bs) (run im eof room (entries_walk leaf_k internal_k tree heap) bs)
  unfolding entries_walk keep_entry Rising AllBelow
  entries-rise =
      follows-run _ false im eof room _ _ bs
      (group-follows false leaf_k internal_k keep_entry keep_entry (λ last es l. Rising es × ((n : List ℕ) → below last n ≡ true → AllBelow es n))
      (λ e last es l at b r. follows-ret false _ _ _ (rising-last es e r.0 (r.1 e.name b), λ n c. below_last es e n (r.1 e.name b) c)) tree heap []
      [] (tt, λ n c. tt))

-- a name that no entry has isn't remembered
pub not-remembered : (name : List ℕ) (es : List Entry) (l : Link) → NoneNamed name es → remembered name es l ≡ l
unfolding remembered NoneNamed
not-remembered name [] l h = refl
not-remembered name (e ∷ es) l h = rw h.0 (not-remembered name es l h.1)

not-true : (t : Bool) → (t ≡ true → ⊥) → t ≡ false
not-true true c = absurd (c refl)
not-true false c = refl

different : (a b : List ℕ) → below a b ≡ true → same_bytes b a ≡ false
different a b h =
    not-true (same_bytes b a) λ s.
    let e : below a a ≡ true = rw (same-equal b a s) at h in
    let z : ◌≡◌ {A = ℕ} 1 0 = ap (λ (t : Bool). if t then 1 else 0) (sym e ∙ below-irreflexive a) in
    omega arith

above-none : (e : Entry) (es : List Entry) → AllAbove e.name es → NoneNamed e.name es
unfolding AllAbove NoneNamed
above-none e [] h = tt
above-none e (x ∷ es) h = (different e.name x.name h.0, above-none e es h.1)

-- where names rise, a name is remembered as the one entry that has it
pub remembered-entry : (before after : List Entry) (e : Entry) (l : Link) → Rising (before ++ (e ∷ after)) →
    remembered e.name (before ++ (e ∷ after)) l ≡ link_to e
unfolding remembered Rising
remembered-entry [] after e l r =
    ap (λ (t : Bool). remembered e.name after (if t then link_to e else l)) (same_refl e.name) ∙ not-remembered e.name after (link_to e)
    (above-none e after r.0)
remembered-entry (x ∷ before) after e l r = remembered-entry before after e _ r.1
