-- The same of a description: it is done exactly when the path leads to a dataset that is sound, and its path is absent only from a sound index.
use Prim.Native.Nat.{ℕ, ◌≤◌}
use mathlib.Core.List.{List, []}
use mathlib.Core.Logic.{◌⊎◌, inl, inr, ⊎_elim, ◌↔◌}
use mathlib.Core.Path.{◌≡◌, refl, ap, sym, ◌∙◌}
use native.Mathlib.Omega.{arith}
use Rattle.format.specs.Blocks.{Block}
use Rattle.format.specs.declared.Refusal.{Refusal}
use Rattle.format.specs.Walk.{fault, answer_of, done, refused, run, ◌>>◌}
use Rattle.format.specs.Superblock.{Superblock, superblock_walk}
use Rattle.format.specs.Dataset.{Dataset}
use Rattle.format.specs.Describe.{describe_walk, describe_run}
use Rattle.links.proofs.Numbered.{run-number}
use Rattle.found.specs.Found.{RefusedWith, IsDescribed, IsAbsent}
use Rattle.found.proofs.Outcomes.{done_refused}
use Rattle.found.proofs.NumberedLookup.{describe-numbered}
use Rattle.found.proofs.PathFound.{path-done, path-absent}

-- no step of a description refuses with 15
abbrev DescribeNumber : ℕ → Type 0
DescribeNumber n = (n ≤ 13) ⊎ (n ≡ 20)

describe-number : (im : List ℕ) (eof room : ℕ) (s : Superblock) (a : ℕ) (r : Refusal) (bs : List Block) →
    run im eof room (superblock_walk s >> describe_walk a) [] ≡ refused r bs → (answer_of r ≤ 13) ⊎ (answer_of r ≡ 20)
describe-number im eof room s a r bs e =
    run-number DescribeNumber (inl (omega arith)) (inl (omega arith)) (inl (omega arith)) im eof room (superblock_walk s >> describe_walk a) [] r bs
    (describe-numbered DescribeNumber (inl (omega arith)) (inl (omega arith)) (inl (omega arith)) (inl (omega arith)) (inr refl) s a) e

module _ (im path : List ℕ) (lent : ℕ) where
  pub describe-found : (d : Dataset) (bs : List Block) → (describe_run im path lent ≡ done d bs) ↔ IsDescribed im path lent d bs
  unfolding describe_run
  describe-found d bs = (forth, back)
    where
      forth : describe_run im path lent ≡ done d bs → IsDescribed im path lent d bs
      forth e =
          let f = (path-done im path lent describe_walk (refused (fault 20 0) []) d bs).0 e in
          ⊎_elim (λ h. record { parts = f.0; superblock = f.1; asked = f.2; address = h.0; leads = h.1; read = h.2 })
          (λ h. absurd (done_refused d bs (fault 20 0) [] (sym h.1))) f.3

      back : IsDescribed im path lent d bs → describe_run im path lent ≡ done d bs
      back f = (path-done im path lent describe_walk (refused (fault 20 0) []) d bs).1 (f.parts, f.superblock, f.asked, inl (f.address, f.leads, f.read))

  pub describe-absent : (bs : List Block) → RefusedWith (describe_run im path lent) 15 bs ↔ IsAbsent im path lent bs
  unfolding describe_run
  describe-absent bs =
      path-absent im path lent describe_walk (refused (fault 20 0) []) bs
      (λ s room a e. ⊎_elim (λ h. omega (arith, e.2)) (λ h. omega (arith, e.2)) (describe-number im s.end_of_file room s a e.0 bs e.1))
      (λ e.
      let one = e.1 in
      let same : fault 20 0 ≡ e.0 = cc in
      let z : ◌≡◌ {A = ℕ} 20 15 = ap answer_of same ∙ e.2 in
      omega arith)
