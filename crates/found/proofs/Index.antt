-- One component of a lookup is the group's index, then what its entries say of the name.
use Prim.Native.Nat.{ℕ}
use mathlib.Core.Bool.{Bool, true}
use mathlib.Core.List.{List, [], ◌∷◌, ◌++◌}
use mathlib.Core.Path.{◌≡◌, refl, ap, sym, ◌∙◌, fun_ext}
use Rattle.std.specs.Prelude.{if◌then◌else◌}
use Rattle.format.specs.Bytes.{same_bytes}
use Rattle.format.specs.Blocks.{Block}
use Rattle.format.specs.Walk.{Walk, Outcome, done, refused, run, and_then, ◌>>=◌}
use Rattle.format.specs.Superblock.{Superblock, superblock_walk}
use Rattle.format.specs.Header.{Object, group, dataset, committed, header_walk}
use Rattle.format.specs.Entry.{Entry}
use Rattle.format.specs.Lookup.{Link, Target, absent, compare_name, find_walk, target_walk, component_walk}
use Rattle.laws.proofs.Bind.{bind_assoc, run_bind}
use Rattle.laws.proofs.Follows.{Follows, follows_then, follows-ret, Ran, follows-run}
use Rattle.group.specs.Entries.{keep_entry, entries_walk, link_to, remembered}
use Rattle.group.proofs.Entries.{remembered-last}
use Rattle.group.proofs.Visits.{group-follows}
use Rattle.found.specs.Leads.{index_of, index_walk}

-- what a lookup of the name remembers of these entries, after the last name
abbrev pub Says : List ℕ → List Entry → Link → Type 0
Says name es l = (last : List ℕ) × (l ≡ remembered name es absent)

module _ (s : Superblock) (name : List ℕ) where
  -- the walk of a component up to the link
  abbrev link_walk : ℕ → Walk Link
  link_walk at = superblock_walk s >>= λ _. header_walk at >>= λ o. find_walk s name o

  -- a lookup follows the index step by step, refusals included
  pub find-follows : (o : Object) → Follows true (Says name) (index_of s o) (find_walk s name o)
  unfolding index_of find_walk Follows entries_walk keep_entry remembered compare_name
  find-follows (group tree heap) =
      group-follows true s.leaf_k s.internal_k keep_entry (compare_name name) (λ last es l. l ≡ remembered name es absent)
      (λ e last es l at b r. follows-ret true (λ fs k. k ≡ remembered name fs absent) (es ++ (e ∷ [])) (if same_bytes e.name name then link_to e else l)
      (rw r (sym (remembered-last name es e absent)))) tree heap [] absent refl
  find-follows (dataset space type layout) = refl
  find-follows committed = refl

  link-follows : (at : ℕ) → Follows true (Says name) (index_walk s at) (link_walk at)
  unfolding index_walk
  link-follows at = follows_then true _ _ _ (superblock_walk s) λ _. follows_then true _ _ _ (header_walk at) λ o. find-follows o

  component-link : (is_last : Bool) (at : ℕ) → component_walk s name is_last at ≡ link_walk at >>= target_walk is_last
  unfolding component_walk
  component-link is_last at =
      ap (λ (f : Unit {0} → Walk Target). superblock_walk s >>= f) (fun_ext λ _. sym (bind_assoc (header_walk at) (find_walk s name) (target_walk is_last)))
      ∙ sym (bind_assoc (superblock_walk s) (λ _. header_walk at >>= find_walk s name) (target_walk is_last))

  module _ (im : List ℕ) (eof room : ℕ) where
    said : (o : Outcome (List Entry)) (p : Outcome Link) (f : Link → List Block → Outcome Target) → Ran true (Says name) o p →
        and_then p f ≡ and_then o (λ es bs. f (remembered name es absent) bs)
    unfolding Ran
    said (done es bs) p f r = rw (r.1, r.2.1)
    said (refused n bs) p f r = rw r

    pub component-run : (is_last : Bool) (at : ℕ) →
        run im eof room (component_walk s name is_last at) [] ≡ and_then (run im eof room (index_walk s at) [])
        (λ es bs. run im eof room (target_walk is_last (remembered name es absent)) bs)
    component-run is_last at =
        ap (λ (w : Walk Target). run im eof room w []) (component-link is_last at)
        ∙ run_bind im eof room (link_walk at) (target_walk is_last) []
        ∙ said (run im eof room (index_walk s at) []) (run im eof room (link_walk at) []) _ (follows-run _ true im eof room _ _ [] (link-follows at))
