-- On an image that the audit accepts, with room for the audit's blocks, no lookup and no description gives 13.
use Prim.Native.Nat.{ℕ, ◌≤◌}
use mathlib.Core.List.Memᴰ
use mathlib.Core.List.{List, []}
use mathlib.Core.Logic.{inr}
use mathlib.Core.Path.{◌≡◌, refl, ap, sym, ◌∙◌}
use native.Mathlib.Omega.{arith}
use lib.ListN.{length}
use Rattle.format.specs.Blocks.{Block, room_of}
use Rattle.format.specs.Walk.{done, run}
use Rattle.format.specs.Superblock.{Superblock, opened, open_image}
use Rattle.format.specs.Ledger.{Linked}
use Rattle.format.specs.Audit.{audit_walk, audit_run}
use Rattle.format.specs.Lookup.{lookup_run}
use Rattle.format.specs.Describe.{describe_run}
use Rattle.format.specs.Answers.{AuditReply, audit, lookup, describe}
use Rattle.laws.proofs.Disjoint.{apart_none}
use Rattle.laws.proofs.Plan.{plan, blocks}
use Rattle.laws.proofs.Restart.{run-done, restart}
use Rattle.links.specs.Sound.{Sound}
use Rattle.links.proofs.ReplyNumbers.{lookup-reply-number, describe-reply-number, only-number}
use Rattle.links.proofs.AuditAnswers.{audit-zero}
use Rattle.links.proofs.AuditSound.{audit-opened, audit-sound, audit-blocks}
use Rattle.found.specs.Accepted.{OneOf}
use Rattle.found.proofs.Replayed.{audit-walked}
use Rattle.found.proofs.AcceptedLookup.{accepted-lookup-run, accepted-describe-run}
use Rattle.demand.proofs.FullMend.{audit-reply}
use Rattle.claims.specs.Numbers.{found_numbers, described_numbers}
use Rattle.claims.specs.Room.{EnoughRoom}

-- a number stands in a list
ruleset members = (refl, Memᴰ.head, Memᴰ.tail)

module _ (im : List ℕ) (lent : ℕ) (s : Superblock) (os : List Linked) (bs : List Block) (p : open_image im ≡ opened s)
    (e : audit_run im lent ≡ done os bs) where
  sound : Sound im s os
  sound = audit-sound im lent s os bs p e

  -- the audit with room for its own blocks alone
  tight : run im s.end_of_file (length bs) (audit_walk s) [] ≡ done os bs
  tight =
      let walked = audit-walked im lent s os bs p e in
      let own = blocks (plan im s.end_of_file (audit_walk s)) in
      let all : bs ≡ own = (run-done im s.end_of_file (audit_walk s) (room_of lent) [] bs os walked).all in
      restart im s.end_of_file (audit_walk s) (room_of lent) [] bs os walked (length bs) [] (apart_none own) (omega (arith, ap length all))
      ∙ ap (done os) (sym all)

  lookups : (path : List ℕ) (words : ℕ) → length bs ≤ room_of words → OneOf found_numbers (lookup im path words).number
  lookups path words enough =
      rw (lookup-reply-number im path words)
      (only-number (OneOf found_numbers) (search members) (lookup_run im path words)
      (accepted-lookup-run im s os p sound (length bs) bs tight (OneOf found_numbers) words (inr enough) (search members depth 10) (search members depth 10)
      (search members depth 10) (search members depth 10) path))

  descriptions : (path : List ℕ) (words : ℕ) → length bs ≤ room_of words → OneOf described_numbers (describe im path words).number
  descriptions path words enough =
      rw (describe-reply-number im path words)
      (only-number (OneOf described_numbers) (search members) (describe_run im path words)
      (accepted-describe-run im s os p sound (length bs) bs tight (OneOf described_numbers) words (inr enough) (search members depth 10)
      (search members depth 10) (search members depth 10) (search members depth 10) (search members depth 10) path))

pub enough-room : (im : List ℕ) (lent : ℕ) → (audit im lent).number ≡ 0 → EnoughRoom im lent
enough-room im lent z =
    let a = audit-zero im lent z in
    let os = a.0 in
    let bs = a.1 in
    let o = audit-opened im lent os bs a.2 in
    let count : (audit im lent).block_count ≡ length bs = ap (λ (r : AuditReply). r.block_count) (audit-reply im lent os bs a.2) in
    record {
      room = omega (arith, (audit-blocks im lent o.0 os bs o.1 a.2).2);
      lookups = λ path words l. lookups im lent o.0 os bs o.1 a.2 path words (omega arith);
      descriptions = λ path words l. descriptions im lent o.0 os bs o.1 a.2 path words (omega arith);
    }
