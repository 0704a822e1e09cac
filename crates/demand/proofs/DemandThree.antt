-- Demand 3: one theorem over the mend and the whole list of undo calls.
use Prim.Native.Nat.{ℕ, ◌*◌, ◌≤◌, min}
use mathlib.Core.List.{List, [], ◌∷◌}
use mathlib.Core.Path.{◌≡◌, sym, ◌∙◌}
use native.Mathlib.Omega.{arith}
use lib.ListN.{length, take}
use lib.Seq.{take_all}
use Rattle.format.specs.Bytes.{padded}
use Rattle.format.specs.Blocks.{Block}
use Rattle.format.specs.Walk.{done}
use Rattle.format.specs.Superblock.{Superblock, opened, open_image}
use Rattle.format.specs.Ledger.{Linked}
use Rattle.format.specs.Audit.{counted_in, audit_run}
use Rattle.format.specs.Log.{Change, log_words, written}
use Rattle.format.specs.Mend.{corrections}
use Rattle.format.specs.Answers.{audit_end, undo, mended_by, mend}
use Rattle.links.proofs.AuditSound.{audit-opened}
use Rattle.links.proofs.AuditAnswers.{audit-zero}
use Rattle.found.proofs.LookupSpared.{opening-spared, audit-spared, lookup-spared, describe-spared}
use Rattle.demand.specs.Bytes.{IsBytes}
use Rattle.demand.specs.Counts.{WrongAt, OnlyWrong}
use Rattle.demand.specs.Fields.{Fields, Small}
use Rattle.demand.specs.State.{State}
use Rattle.demand.specs.Undos.{Call, after_undos}
use Rattle.demand.specs.Demand3.{Kept, Clean, Demand3}
use Rattle.demand.proofs.Opened.{opened-range, opened-first}
use Rattle.demand.proofs.AuditFields.{audit-fields, audit-small}
use Rattle.demand.proofs.Differences.{state-only, wrong-known}
use Rattle.demand.proofs.States.{state-first, state-written}
use Rattle.demand.proofs.Among.{take-among}
use Rattle.demand.proofs.UndoStates.{undo-reply, undo-state, undo-full}
use Rattle.demand.proofs.FullMend.{audit-reply, mended-clean}
use Rattle.demand.proofs.MendDone.{mend-done}

module _ (im : List ℕ) (lent : ℕ) (s : Superblock) (os : List Linked) (bs : List Block) (p : open_image im ≡ opened s) (e : audit_run im lent ≡ done os bs)
    (b : IsBytes im) (log_lent : ℕ) (room : 2 * length (corrections (counted_in im os)) ≤ log_lent) where
  abbrev eof : ℕ
  eof = s.end_of_file

  abbrev cs : List Change
  cs = corrections (counted_in im os)

  abbrev log : List ℕ
  log = padded log_lent (log_words cs)

  fields : Fields im eof cs
  fields = audit-fields im lent s os bs p e

  small : Small cs
  small = audit-small im lent s os bs p e b

  abbrev Headers : ℕ → Type 0
  Headers = WrongAt (counted_in im os)

  -- what holds of every state
  module _ (im' : List ℕ) (st : State im cs im') where
    only : OnlyWrong (counted_in im os) im im'
    only = state-only (counted_in im os) im im' st

    open' : open_image im' ≡ opened s
    open' = sym (opening-spared im lent s os bs p e Headers (wrong-known im os) im' only.only) ∙ p

    next-state : (entries limit : ℕ) → State im cs (undo im' log entries limit).image
    next-state = undo-state im eof cs fields small log_lent room im' st (opened-range im' s open') (opened-first im' s open')

    state-kept : Kept im lent log (length cs) im'
    state-kept =
        let reply = audit-reply im lent os bs e in
        record {
          fields = rw reply only;
          lookups = λ path words. sym (lookup-spared im lent s os bs p e Headers (wrong-known im os) im' only.only path words);
          descriptions = λ path words. sym (describe-spared im lent s os bs p e Headers (wrong-known im os) im' only.only path words);
          partly = λ e' limit l. rw reply (undo-reply im eof cs fields small log_lent room im' st (opened-range im' s open') (opened-first im' s open') e'
              limit l);
          back = λ limit l. undo-full im eof cs fields small log_lent room im' st (opened-range im' s open') (opened-first im' s open') b limit l;
        }

  after-state : (us : List Call) (im' : List ℕ) → State im cs im' → State im cs (after_undos im' log us)
  unfolding after_undos
  after-state [] im' st = st
  after-state (u ∷ us) im' st = after-state us (undo im' log u.entries u.limit).image (next-state im' st u.entries u.limit)

  all-kept : (m : ℕ) (us : List Call) → Kept im lent log (length cs) (after_undos (written im (take m cs)) log us)
  all-kept m us =
      let first = state-written im eof cs fields im (state-first im eof cs fields b) (take m cs) (take-among m cs) in
      let last = after_undos (written im (take m cs)) log us in
      state-kept last (after-state us (written im (take m cs)) first)

  full-clean : (m : ℕ) → length cs ≤ m → Clean im lent (written im (take m cs))
  full-clean m l =
      let all : take m cs ≡ cs = take_all m cs l in
      let st = state-written im eof cs fields im (state-first im eof cs fields b) cs (λ d i. i) in
      let same = audit-spared im lent s os bs p e Headers (wrong-known im os) (written im cs) (only (written im cs) st).only in
      rw all (mended-clean im lent s os bs p e b (λ words. sym (same words)))

  done-mended : (n : ℕ) → Demand3 im lent n (mended_by im log_lent (audit_end im lent (done os bs)) cs (min n (length cs)))
  done-mended n = record {
    first = rw (audit-reply im lent os bs e);
    kept = all-kept (min n (length cs));
    clean = λ l. full-clean (min n (length cs))
        (omega arith);
  }

pub demand-three : (im : List ℕ) (lent log_lent n : ℕ) → IsBytes im → (mend im lent log_lent n).number ≡ 0 → Demand3 im lent n (mend im lent log_lent n)
demand-three im lent log_lent n b z =
    let d = mend-done im lent log_lent n z in
    let a = audit-zero im lent d.audited in
    let os = a.0 in
    let bs = a.1 in
    let e = a.2 in
    let o = audit-opened im lent os bs e in
    let reply = audit-reply im lent os bs e in
    let cs = corrections (counted_in im os) in
    let room : 2 * length cs ≤ log_lent = rw reply at d.room in
    let mends : mend im lent log_lent n ≡ mended_by im log_lent (audit_end im lent (done os bs)) cs (min n (length cs)) = rw reply at d.reply in
    rw mends (done-mended im lent o.0 os bs o.1 e b log_lent room n)
