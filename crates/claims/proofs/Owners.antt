-- Whose block it is, of all replies.
use Prim.Native.Nat.{ℕ, zero, suc, ◌/◌, ◌≤◌}
use mathlib.Core.List.{List}
use mathlib.Core.Path.{◌≡◌, refl, ap}
use native.Mathlib.Omega.{arith}
use borrow.Author.Tests.{le-leb}
use lib.ListN.{replicate}
use Rattle.format.specs.Bytes.{to_words}
use Rattle.format.specs.Blocks.{block_list, room_of}
use Rattle.format.specs.Walk.{Outcome, done, refused}
use Rattle.format.specs.Dataset.{Dataset}
use Rattle.format.specs.Ledger.{Linked}
use Rattle.format.specs.Audit.{audit_run}
use Rattle.format.specs.Describe.{describe_run}
use Rattle.format.specs.Answers.{AuditReply, DescribeReply, MendReply, audit_end, audit, describe_end, describe, mend}
use Rattle.format.specs.Front.{c_audit, c_describe, c_mend}
use Rattle.links.proofs.AuditSound.{audit-opened}
use Rattle.links.proofs.AuditOwned.{run-one-owner, audit-owned, one-owner}
use Rattle.links.proofs.BlockWords.{list-holds}
use Rattle.found.proofs.DescribeFound.{describe-found}
use Rattle.found.proofs.DescribeOwned.{describe-owned}
use Rattle.demand.proofs.MendDone.{mend-done, mend-refused}
use Rattle.claims.specs.CNumbers.{audit_least, describe_least}
use Rattle.claims.specs.Owners.{AuditOwners, DescribeOwners, Owners}
use Rattle.claims.proofs.Audits.{audit-found}
use Rattle.claims.proofs.BlockMet.{audit-met-by, lookup-met-by, describe-met-by, mend-met-by}
use Rattle.claims.proofs.MetWord.{end-small, c-audit-met, c-lookup-met, c-describe-met, c-mend-met}
use Rattle.claims.proofs.ListWords.{FillsList, list_back, zeros-fill, run-fills}
use Rattle.claims.proofs.Replies.{describe-replies}

audits : (im : List ℕ) (lent : ℕ) → (audit im lent).number ≡ 0 → AuditOwners im lent
audits im lent z =
    let f = audit-found im lent z in
    let list : (audit im lent).list ≡ block_list lent f.blocks = ap (λ (r : AuditReply). r.list) f.reply in
    record {
      found = f;
      owned = audit-owned im lent f.superblock f.ledger f.blocks f.opens f.walked;
      one_owner = one-owner im lent f.superblock f.ledger f.blocks f.opens f.walked;
      count = ap (λ (r : AuditReply). r.block_count) f.reply;
      list = rw list (list-holds f.blocks _);
    }

descriptions : (im path : List ℕ) (lent : ℕ) → (describe im path lent).number ≡ 0 → DescribeOwners im path lent
descriptions im path lent z =
    let d = (describe-replies.described im path lent).0 z in
    let ran = (describe-found im path lent d.0 d.1).1 d.2 in
    let f = (describe-found im path lent d.0 d.1).0 ran in
    let reply = describe-replies.given im path lent d.0 d.1 d.2 in
    let list : (describe im path lent).list ≡ block_list lent d.1 = ap (λ (r : DescribeReply). r.list) reply in
    record {
      dataset = d.0;
      blocks = d.1;
      described = ran;
      owned = describe-owned im path lent d.0 d.1 ran;
      one_owner = run-one-owner im f.superblock.end_of_file (room_of lent) _ d.0 d.1 f.read;
      count = ap (λ (r : DescribeReply). r.block_count) reply;
      list = rw list (list-holds d.1 _);
    }

mends : (im : List ℕ) (lent log_lent n : ℕ) → (mend im lent log_lent n).number ≡ 0 →
    ((mend im lent log_lent n).list ≡ (audit im lent).list) × ((mend im lent log_lent n).block_count ≡ (audit im lent).block_count)
mends im lent log_lent n z =
    let reply = (mend-done im lent log_lent n z).reply in
    (ap (λ (m : MendReply). m.list) reply, ap (λ (m : MendReply). m.block_count) reply)

audit-fills : (im : List ℕ) (lent : ℕ) → FillsList lent (audit im lent).list
unfolding audit
audit-fills im lent = go (audit_run im lent) refl
  where
    go : (o : Outcome (List Linked)) → audit_run im lent ≡ o → FillsList lent (audit_end im lent o).list
    go (done os bs) e =
        let o = audit-opened im lent os bs e in
        run-fills im o.0.end_of_file lent _ os bs (end-small im o.0 o.1) o.2
    go (refused r bs) e = zeros-fill lent

describe-fills : (im path : List ℕ) (lent : ℕ) → FillsList lent (describe im path lent).list
unfolding describe
describe-fills im path lent = go (describe_run im path lent) refl
  where
    go : (o : Outcome Dataset) → describe_run im path lent ≡ o → FillsList lent (describe_end lent o).list
    go (done d bs) e =
        let f = (describe-found im path lent d bs).0 e in
        run-fills im f.superblock.end_of_file lent _ d bs (end-small im f.superblock f.asked.walkable) f.read
    go (refused r bs) e = zeros-fill lent

mend-fills : (im : List ℕ) (lent log_lent n : ℕ) → FillsList lent (mend im lent log_lent n).list
mend-fills im lent log_lent n = go (mend im lent log_lent n).number refl
  where
    go : (k : ℕ) → (mend im lent log_lent n).number ≡ k → FillsList lent (mend im lent log_lent n).list
    go zero e = rw (mends im lent log_lent n e).0 (audit-fills im lent)
    go (suc k) e =
        let zeros : (mend im lent log_lent n).list ≡ replicate lent 0 =
        ap (λ (m : MendReply). m.list) (mend-refused im lent log_lent n (λ z. omega (arith, z, e))) in
        rw zeros (zeros-fill lent)

c_audits : (im : List ℕ) (l r : ℕ) → audit_least ≤ r / 8 → to_words (l / 8) (c_audit im l r).list ≡ (audit im (l / 8)).list
unfolding c_audit
c_audits im l r h = rw (le-leb audit_least (r / 8) h) (list_back l (audit im (l / 8)).list (audit-fills im (l / 8)))

c_descriptions : (im path : List ℕ) (l r : ℕ) → describe_least ≤ r / 8 → to_words (l / 8) (c_describe im path l r).list ≡ (describe im path (l / 8)).list
unfolding c_describe
c_descriptions im path l r h = rw (le-leb describe_least (r / 8) h) (list_back l (describe im path (l / 8)).list (describe-fills im path (l / 8)))

c_mends : (im : List ℕ) (l g r n : ℕ) → 3 ≤ r / 8 → to_words (l / 8) (c_mend im l g r n).list ≡ (mend im (l / 8) (g / 8) n).list
unfolding c_mend
c_mends im l g r n h = rw (le-leb 3 (r / 8) h) (list_back l (mend im (l / 8) (g / 8) n).list (mend-fills im (l / 8) (g / 8) n))

pub all-owners : Owners
all-owners = record {
  audits = audits;
  descriptions = descriptions;
  mends = mends;
  audits_met = audit-met-by;
  lookups_met = lookup-met-by;
  descriptions_met = describe-met-by;
  mends_met = mend-met-by;
  c_audits_met = c-audit-met;
  c_lookups_met = c-lookup-met;
  c_descriptions_met = c-describe-met;
  c_mends_met = c-mend-met;
  c_audits = c_audits;
  c_descriptions = c_descriptions;
  c_mends = c_mends;
}
