-- "after a mend every lookup and description answers as before": a mend writes only count fields of headers of the ledger, and no lookup, description or
-- audit of an accepted image depends on these.
use Prim.Native.Nat.{ℕ}
use mathlib.Core.Bool.{true}
use mathlib.Core.List.{List, []}
use mathlib.Core.Path.{◌≡◌, ap, sym, ◌∙◌}
use native.Mathlib.Omega.{arith}
use Rattle.format.specs.Blocks.{Block, room_of}
use Rattle.format.specs.Walk.{done, run}
use Rattle.format.specs.Superblock.{Superblock, opened, open_image}
use Rattle.format.specs.Ledger.{Linked, in_ledger}
use Rattle.format.specs.Audit.{audit_walk, audit_run}
use Rattle.format.specs.Lookup.{lookup_run}
use Rattle.format.specs.Describe.{describe_run}
use Rattle.format.specs.Answers.{lookup, lookup_end, describe, describe_end}
use Rattle.laws.specs.Shown.{Shown, AllSame}
use Rattle.laws.specs.CountFields.{OnlyCounts}
use Rattle.laws.proofs.Agreement.{run_agree}
use Rattle.links.proofs.Opened.{opened-size}
use Rattle.found.specs.Covered.{AllCovered, audit_shown}
use Rattle.found.proofs.WholeShown.{done-shown}
use Rattle.found.proofs.Replayed.{audit-walked, walk-replayed}
use Rattle.found.proofs.PathReplayed.{lookup-agree, describe-agree, lookup-replayed, describe-replayed}
use Rattle.found.proofs.LedgerSpared.{behind-superblock, covered_same}
use Rattle.found.proofs.OpenedSame.{opened-same}

module _ (im : List ℕ) (lent : ℕ) (s : Superblock) (os : List Linked) (bs : List Block) (p : open_image im ≡ opened s) (e : audit_run im lent ≡ done os bs)
    -- headers of the ledger, and an image that differs only in their count fields
    (H : ℕ → Type 0) (inside : (h : ℕ) → H h → in_ledger h os ≡ true) (im' : List ℕ) (d : OnlyCounts H im im') where
  walked : run im s.end_of_file (room_of lent) (audit_walk s) [] ≡ done os bs
  walked = audit-walked im lent s os bs p e

  -- what the audit was shown, the other image shows the same
  shown-spared : (ss : List Shown) → AllCovered im ss (audit_shown im s lent) → AllSame im im' ss
  shown-spared ss c =
      covered_same im s (room_of lent) os bs walked H inside im' d ss (rw (done-shown im s.end_of_file (audit_walk s) (room_of lent) [] os bs walked) at c)

  -- the image opens the same
  pub opening-spared : open_image im ≡ open_image im'
  opening-spared = opened-same H im im' d (λ h m. omega (arith, opened-size im s p, behind-superblock im s (room_of lent) os bs walked h (inside h m)))

  opened' : open_image im' ≡ opened s
  opened' = sym opening-spared ∙ p

  -- the audit runs the same, with any number of words lent
  pub audit-spared : (words : ℕ) → audit_run im words ≡ audit_run im' words
  unfolding audit_run
  audit-spared words =
      rw (p, opened')
      (run_agree im im' s.end_of_file (room_of words) (audit_walk s) []
      (shown-spared _ (walk-replayed im lent s os bs p e (audit_walk s) (λ x m. m) (room_of words))))

  pub lookup-run-spared : (path : List ℕ) (words : ℕ) → lookup_run im path words ≡ lookup_run im' path words
  lookup-run-spared path words = lookup-agree im im' path words opening-spared (shown-spared _ (lookup-replayed im lent s os bs p e path words))

  pub describe-run-spared : (path : List ℕ) (words : ℕ) → describe_run im path words ≡ describe_run im' path words
  describe-run-spared path words = describe-agree im im' path words opening-spared (shown-spared _ (describe-replayed im lent s os bs p e path words))

  -- every lookup answers as before
  pub lookup-spared : (path : List ℕ) (words : ℕ) → lookup im path words ≡ lookup im' path words
  unfolding lookup
  lookup-spared path words = ap (lookup_end words) (lookup-run-spared path words)

  -- every description answers as before
  pub describe-spared : (path : List ℕ) (words : ℕ) → describe im path words ≡ describe im' path words
  unfolding describe
  describe-spared path words = ap (describe_end words) (describe-run-spared path words)
