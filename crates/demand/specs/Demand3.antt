-- Demand 3: "after a mend every lookup and description answers as before, only wrong count fields differ, a full mend audits clean; after any
-- list of undo calls still only those fields differ, and one full undo gives the old image back. This is one theorem over the mend and the
-- whole list."
use Rattle.std.specs.Prelude.{ℕ, ◌-◌, ◌≤◌, min, List, [], ◌∷◌, ◌≡◌, take, drop}
use Rattle.format.specs.Audit.{Counted, audit_run}
use Rattle.format.specs.Log.{written, restored}
use Rattle.format.specs.Mend.{corrections}
use Rattle.format.specs.Answers.{AuditReply, MendReply, audit, lookup, describe, undo}
use Rattle.demand.specs.Counts.{OnlyWrong}
use Rattle.demand.specs.Undos.{Call, after_undos}

-- of an image im' that a mend of im and undo calls have left, with the mend's log and the number of its entries
pub record Kept (im : List ℕ) (lent : ℕ) (log : List ℕ) (entries : ℕ) (im' : List ℕ) : Type 0 where
  -- only fields of wrong counts differ
  pub fields : OnlyWrong (audit im lent).objects im im'
  -- every lookup and description answers as before: the same number, fields and final list, for any path and any number of words lent
  pub lookups : (path : List ℕ) (words : ℕ) → lookup im' path words ≡ lookup im path words
  pub descriptions : (path : List ℕ) (words : ℕ) → describe im' path words ≡ describe im path words
  -- one full undo gives the old image back, byte for byte
  pub back : (limit : ℕ) → entries ≤ limit → undo im' log entries limit ≡ record { number = 0; writes = entries; image = im }
  -- an undo of the first e entries writes the old counts of the last of them, as many as its limit says
  pub partly : (e limit : ℕ) → e ≤ entries →
      undo im' log e limit ≡
      record { number = 0; writes = min limit e; image = restored im' (drop (e - min limit e) (take e (corrections (audit im lent).objects))) }

-- the same objects, each with its true count stored
unfoldable pub corrected : List Counted → List Counted
corrected [] = []
corrected (o ∷ os) = record { address = o.address; stored_count = o.true_count; true_count = o.true_count } ∷ corrected os

-- the reply of the audit of a mended image: as before, but for the stored counts
abbrev pub clean_reply : AuditReply → AuditReply
clean_reply a = record { number = 0; met = 0; block_count = a.block_count; objects = corrected a.objects; list = a.list }

-- the audit of im' is done, with the blocks and objects of that of im, and finds no wrong count; with any other list lent it runs as that of im does
pub record Clean (im : List ℕ) (lent : ℕ) (im' : List ℕ) : Type 0 where
  pub reply : audit im' lent ≡ clean_reply (audit im lent)
  pub run : (words : ℕ) → audit_run im' words ≡ audit_run im words

-- of the reply m to a mend of im with so many words lent for the list and the write limit n
pub record Demand3 (im : List ℕ) (lent n : ℕ) (m : MendReply) : Type 0 where
  -- "the first n entries" are written, and no other
  pub first : m.image ≡ written im (take (min n m.entries) (corrections (audit im lent).objects))
  -- after the mend and any list of undo calls, the empty one too
  pub kept : (us : List Call) → Kept im lent m.log m.entries (after_undos m.image m.log us)
  -- a full mend audits clean
  pub clean : m.entries ≤ n → Clean im lent m.image
