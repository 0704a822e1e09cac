-- A damage report with room for so many blocks, in C.
use Rattle.std.specs.Prelude.{ℕ, ◌*◌, List, [], ◌∷◌, ◌≡◌}
use Rattle.format.specs.Front.{padded_bytes}
use Rattle.format.specs.Report.{ReportReply, report_words, report}
use Rattle.report.specs.declared.Reported.{Reported}

-- the words of the reply
abbrev pub words_of : Reported → List ℕ
words_of r =
    r.answer ∷ r.block_count ∷ r.place ∷ r.block.address ∷ r.block.size ∷ r.block.kind ∷ r.block.object ∷ r.met ∷ []

-- the audit's answer, and the bytes left for the list and the reply
pub record Written : Type 0 where
  pub answer : ℕ
  pub list : List ℕ
  pub reply : List ℕ

-- those of a report, in slices of l and r bytes
abbrev pub written : ℕ → ℕ → ReportReply → Written
written l r p = record { answer = p.answer; list = padded_bytes l p.list; reply = padded_bytes r (report_words p) }

-- they are those of the definition with the words of so many blocks lent
abbrev pub ReportsWith : List ℕ → ℕ → ℕ → ℕ → Written → Type 0
ReportsWith im l r room x = x ≡ written l r (report im (4 * room))
