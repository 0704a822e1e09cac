-- "true count is now hard links plus such sharings"; "the superblock's root entry counts as one for the root". "All true counts now sum to one plus
-- links plus sharings".
use Prim.Native.Nat.{ℕ, ◌+◌}
use mathlib.Core.Bool.{Bool, true, false}
use mathlib.Core.List.Memᴰ
use mathlib.Core.List.{List, [], ◌∷◌, Memᴰ}
use mathlib.Core.Logic.{◌⊎◌, inl, inr}
use mathlib.Core.Path.{◌≡◌, refl, ap, sym, ◌∙◌}
use native.Mathlib.Omega.{arith}
use borrow.Author.Tests.{eqb-true, eqb-false}
use lib.Dec.{eqb}
use Rattle.std.specs.Prelude.{if◌then◌else◌}
use Rattle.format.specs.Result.{value}
use Rattle.format.specs.Ledger.{Linked, linked, in_ledger, count_link}
use Rattle.laws.proofs.Results.{both_values}
use Rattle.ledger.specs.Links.{link_sum, links_to, one_for, Distinct}
use Rattle.ledger.proofs.LedgerLaws.{count-sum, count-links, sum_first, links-first}
use Rattle.links.specs.Reached.{Reference, hard_link, sharing, target, hard_links, sharings, all_hard_links, all_sharings}
use Rattle.links.specs.Trace.{count_references}
use Rattle.links.proofs.LedgerIn.{member-in}

-- a measure of the ledger that rises with each reference by what it weighs, and the weight of all hard links and of all sharings
module _ (measure : List Linked → ℕ) (weight : ℕ → ℕ) (links shares : List Reference → ℕ) (none : links [] + shares [] ≡ 0)
    (more : (r : Reference) (rs : List Reference) → links (r ∷ rs) + shares (r ∷ rs) ≡ weight (target r) + (links rs + shares rs))
    (step : (a : ℕ) (os os' : List Linked) → count_link a os ≡ value os' → measure os' ≡ measure os + weight a) where
  counting-rises : (rs : List Reference) (os os' : List Linked) → count_references rs os ≡ value os' → measure os' ≡ measure os + (links rs + shares rs)
  unfolding count_references
  counting-rises [] os os' c = let same : os ≡ os' = cc in omega (arith, ap measure same, none)
  counting-rises (r ∷ rs) os os' c =
      let b = both_values (count_link (target r) os) (count_references rs) os' c in
      omega (arith, counting-rises rs b.0 os' b.2, step (target r) os b.0 b.1, more r rs)

-- a reference is a hard link or a sharing
one_more : (x : ℕ) (r : Reference) (rs : List Reference) →
    hard_links x (r ∷ rs) + sharings x (r ∷ rs) ≡ one_for x (target r) + (hard_links x rs + sharings x rs)
unfolding hard_links sharings
one_more x (hard_link a) rs = omega arith
one_more x (sharing a) rs = omega arith

all_more : (r : Reference) (rs : List Reference) → all_hard_links (r ∷ rs) + all_sharings (r ∷ rs) ≡ 1 + (all_hard_links rs + all_sharings rs)
unfolding all_hard_links all_sharings
all_more (hard_link a) rs = omega arith
all_more (sharing a) rs = omega arith

-- where no address stands twice, the links recorded for an object's address are the object's own
links-own : (os : List Linked) (o : Linked) → Distinct os → Memᴰ o os → links_to o.address os ≡ o.links
unfolding links_to
links-own [] o d m = absurd (Memᴰ.not-nil m)
links-own (p ∷ os) o d m = go (eqb o.address p.address) refl (Memᴰ.cases_cons m) (links-own os o d.1)
  where
    go : (t : Bool) → eqb o.address p.address ≡ t → (o ≡ p) ⊎ Memᴰ o os → (Memᴰ o os → links_to o.address os ≡ o.links) →
        (if t then p.links else links_to o.address os) ≡ o.links
    go true h (inl same) i = ap (λ (q : Linked). q.links) (sym same)
    go true h (inr m') i =
        let z : true ≡ false = sym (member-in os o m') ∙ ap (λ (x : ℕ). in_ledger x os) (eqb-true o.address p.address h) ∙ d.0 in
        let y : ◌≡◌ {A = ℕ} 0 1 = cc in
        absurd (omega arith)
    go false h (inl same) i = absurd (eqb-false o.address p.address h (ap (λ (q : Linked). q.address) same))
    go false h (inr m') i = i m'

module _ (root : ℕ) (rs : List Reference) (os : List Linked) (c : count_references rs (linked root 1 ∷ []) ≡ value os) where
  pub true-counts : (x : ℕ) → links_to x os ≡ one_for x root + hard_links x rs + sharings x rs
  unfolding hard_links sharings
  true-counts x =
      let rises = counting-rises (links_to x) (one_for x) (hard_links x) (sharings x) refl (one_more x) (λ a ps ps' k. count-links a ps ps' k x) in
      omega (arith, rises rs _ os c, links-first x root)

  pub true-sum : link_sum os ≡ 1 + all_hard_links rs + all_sharings rs
  unfolding all_hard_links all_sharings
  true-sum = omega (arith, counting-rises link_sum (λ a. 1) all_hard_links all_sharings refl all_more count-sum rs _ os c, sum_first root)

  pub true-count : Distinct os → (o : Linked) → Memᴰ o os → o.links ≡ one_for o.address root + hard_links o.address rs + sharings o.address rs
  true-count d o m = sym (links-own os o d m) ∙ true-counts o.address
