-- "gives one of the numbered answers": the audit's number is one of 0 to 13, for every image and every number of words lent.
use Prim.Native.Nat.{ℕ, ◌≤◌}
use mathlib.Core.List.{List, [], ◌∷◌}
use mathlib.Core.Path.{◌≡◌, refl, sym, ◌∙◌}
use native.Mathlib.Omega.{arith}
use lib.Dec.{lit≤}
use Rattle.format.specs.Bytes.{contains}
use Rattle.format.specs.Blocks.{Block, room_of}
use Rattle.format.specs.declared.Refusal.{Refusal}
use Rattle.format.specs.Walk.{answer_of, Outcome, done, refused}
use Rattle.format.specs.Superblock.{Superblock, Opening, opened, not_opened, open_image, run_opened}
use Rattle.format.specs.Ledger.{Linked}
use Rattle.format.specs.Audit.{audit_walk, audit_run}
use Rattle.format.specs.Answers.{audit}
use Rattle.laws.proofs.Opening.{not-opened-one}
use Rattle.links.proofs.Includes.{Includes, includes-all, includes_none}
use Rattle.links.proofs.Numbered.{Only, run_only}
use Rattle.links.proofs.NumberedAudit.{audit-numbered}
use Rattle.links.proofs.ReplyNumbers.{audit-reply-number, only-number, number-done}

-- "1, 2, 3, 4 for the superblock"
abbrev pub opening_refusals : List ℕ
opening_refusals = 1 ∷ 2 ∷ 3 ∷ 4 ∷ []

pub not_opened_lem : (N : ℕ → Type 0) → Includes N opening_refusals → (im : List ℕ) (n : ℕ) → open_image im ≡ not_opened n → N n
unfolding contains
not_opened_lem N has im = not-opened-one im N (has 1 refl) (has 2 refl) (has 3 refl) (has 4 refl)

pub not-opened-number : (im : List ℕ) (n : ℕ) → open_image im ≡ not_opened n → (1 ≤ n) × (n ≤ 4)
not-opened-number = not_opened_lem (λ n. (1 ≤ n) × (n ≤ 4)) (includes-all _ _ (search (tt, lit≤)))

pub opened-only : (N : ℕ → Type 0) → Includes N opening_refusals → (im : List ℕ) {A : Type 0} (f : Superblock → Outcome A) →
    ((s : Superblock) → Only N (f s)) → Only N (run_opened (open_image im) f)
opened-only N has im f h = go (open_image im) refl
  where
    go : (o : Opening) → open_image im ≡ o → Only N (run_opened o f)
    go (opened s) e = h s
    go (not_opened n) e = not_opened_lem N has im n e

-- the numbers with which an audit is refused
abbrev pub audit_refusals : List ℕ
audit_refusals = 1 ∷ 2 ∷ 3 ∷ 4 ∷ 5 ∷ 6 ∷ 7 ∷ 8 ∷ 9 ∷ 10 ∷ 11 ∷ 12 ∷ 13 ∷ []

pub audit-only : (N : ℕ → Type 0) → Includes N audit_refusals → (im : List ℕ) (lent : ℕ) → Only N (audit_run im lent)
unfolding audit_run contains
audit-only N has im lent =
    opened-only N (includes-all N opening_refusals (has 1 refl, (has 2 refl, (has 3 refl, (has 4 refl, tt))))) im _
    (λ s. run_only N (has 5 refl) (has 6 refl) (has 13 refl) im s.end_of_file (room_of lent) (audit_walk s) []
    (audit-numbered N (has 3 refl) (has 7 refl) (has 8 refl) (has 9 refl) (has 10 refl) (has 11 refl) (has 12 refl) (has 13 refl) s))

-- an audit that is refused has one of the numbers 1 to 13
abbrev pub AuditNumber : ℕ → Type 0
AuditNumber n = (1 ≤ n) × (n ≤ 13)

pub audit-refusal : (im : List ℕ) (lent : ℕ) (r : Refusal) (bs : List Block) → audit_run im lent ≡ refused r bs → (1 ≤ answer_of r) × (answer_of r ≤ 13)
audit-refusal im lent r bs e = rw e at (audit-only AuditNumber (includes-all _ _ (search (tt, lit≤) depth 20)) im lent)

pub audit-answers : (im : List ℕ) (lent : ℕ) → (audit im lent).number ≤ 13
audit-answers im lent =
    rw (audit-reply-number im lent)
    (only-number (λ n. n ≤ 13) (omega arith) (audit_run im lent) (audit-only (λ n. n ≤ 13) (includes-all _ _ (search (tt, lit≤) depth 20)) im lent))

-- 0 is "done"
pub audit-zero : (im : List ℕ) (lent : ℕ) → (audit im lent).number ≡ 0 → (os : List Linked) × (bs : List Block) × (audit_run im lent ≡ done os bs)
unfolding contains
audit-zero im lent z =
    number-done (audit_run im lent) (audit-only (λ n. n ≡ 0 → ⊥) (includes_none 0 audit_refusals refl) im lent) (sym (audit-reply-number im lent) ∙ z)
