-- What mending returns and leaves, as document 01's reply.
use Rattle.std.specs.Prelude.{ℕ, ◌≤◌, List, ◌≡◌, length, Result, Ok, Err}
use Rattle.format.specs.Limits.{objects_most}
use Rattle.format.specs.declared.Refusal.{Refusal}
use Rattle.format.specs.Walk.{answer_of, met_of}
use Rattle.format.specs.Mend.{corrections}
use Rattle.format.specs.Answers.{MendReply, audit, mend}
use Rattle.mend.specs.declared.Mended.{Mended}

-- how many blocks are handed over: none with a refusal
abbrev pub blocks_mended : Result Mended Refusal → ℕ
blocks_mended (Ok m) = m.block_count
blocks_mended (Err r) = 0

-- the reply of document 01, by what was returned and left: list, log, image
abbrev pub reply_of : List ℕ → List ℕ → List ℕ → Result Mended Refusal → MendReply
reply_of list log image (Ok m) =
    record { number = 0; met = 0; block_count = m.block_count; entries = m.entries; writes = m.writes; list = list; log = log; image = image }
reply_of list log image (Err r) =
    record { number = answer_of r; met = met_of r; block_count = 0; entries = 0; writes = 0; list = list; log = log; image = image }

-- the reply is the definition's, and no image that the audit accepts has more wrong counts than an audit has objects
pub record MendIs (im : List ℕ) (lent log_lent limit : ℕ) (list log image : List ℕ) (r : Result Mended Refusal) : Type 0 where
  pub reply : reply_of list log image r ≡ mend im lent log_lent limit
  pub most : (audit im lent).number ≡ 0 → length (corrections (audit im lent).objects) ≤ objects_most
