-- Demand 1: "A refusal returns zeros, leaves the image as it was, and every list lent for writing holds zeros." "Answer 6 now also returns the address of
-- the first block entered that it meets (in C the first word), the one exception to demand 1's zeros."
use Rattle.std.specs.Prelude.{ℕ, ◌/◌, List, [], ◌∷◌, ◌≡◌, replicate}
use Rattle.format.specs.Limits.{rank_most}
use Rattle.format.specs.Answers.{AuditReply, LookupReply, DescribeReply, MendReply, UndoReply, audit, lookup, describe, mend, undo}
use Rattle.format.specs.Front.{CReply, CMend, CUndo, padded_bytes, c_audit, c_lookup, c_describe, c_mend, c_undo}

-- the reply with a number, a block met and zeros alone, of each call, with so many words lent
abbrev pub audit_zeros : ℕ → ℕ → ℕ → AuditReply
audit_zeros lent n met = record { number = n; met = met; block_count = 0; objects = []; list = replicate lent 0 }

abbrev pub lookup_zeros : ℕ → ℕ → ℕ → LookupReply
lookup_zeros lent n met = record { number = n; met = met; kind = 0; address = 0; block_count = 0; list = replicate lent 0 }

abbrev pub describe_zeros : ℕ → ℕ → ℕ → DescribeReply
describe_zeros lent n met = record {
  number = n;
  met = met;
  block_count = 0;
  rank = 0;
  sizes = replicate rank_most 0;
  maxima = replicate rank_most 0;
  class = 0;
  version = 0;
  bits = 0;
  size = 0;
  shared = 0;
  layout_class = 0;
  data_address = 0;
  data_size = 0;
  list = replicate lent 0;
}

abbrev pub mend_zeros : List ℕ → ℕ → ℕ → ℕ → ℕ → MendReply
mend_zeros im lent log_lent n met =
    record { number = n; met = met; block_count = 0; entries = 0; writes = 0; list = replicate lent 0; log = replicate log_lent 0; image = im }

abbrev pub undo_zeros : List ℕ → ℕ → UndoReply
undo_zeros im n = record { number = n; writes = 0; image = im }

-- in C, with slices of l, g and r bytes for the list, the log and the reply
abbrev pub c_zeros : ℕ → ℕ → ℕ → CReply
c_zeros l r n = record { number = n; list = replicate l 0; reply = replicate r 0 }

abbrev pub c_mend_zeros : List ℕ → ℕ → ℕ → ℕ → ℕ → CMend
c_mend_zeros im l g r n = record { number = n; list = replicate l 0; log = replicate g 0; reply = replicate r 0; image = im }

abbrev pub c_undo_zeros : List ℕ → ℕ → ℕ → CUndo
c_undo_zeros im r n = record { number = n; reply = replicate r 0; image = im }

-- in C with 6: the block met is the first word, all other bytes are zeros
abbrev pub c_met : ℕ → ℕ → ℕ → CReply
c_met l r met = record { number = 6; list = replicate l 0; reply = padded_bytes r (met ∷ []) }

abbrev pub c_mend_met : List ℕ → ℕ → ℕ → ℕ → ℕ → CMend
c_mend_met im l g r met = record { number = 6; list = replicate l 0; log = replicate g 0; reply = padded_bytes r (met ∷ []); image = im }

-- the one exception: the block met is 0, with the number 0 too, unless the number is 6
abbrev pub OnlyWithSix : ℕ → ℕ → Type 0
OnlyWithSix number met = (number ≡ 6 → ⊥) → met ≡ 0

-- every call: where the number isn't 0, the reply is that number and zeros, but for the block met with 6
pub record Zeros : Type 0 where
  pub audits : (im : List ℕ) (lent : ℕ) → ((audit im lent).number ≡ 0 → ⊥) → audit im lent ≡ audit_zeros lent (audit im lent).number (audit im lent).met
  pub lookups : (im path : List ℕ) (lent : ℕ) → ((lookup im path lent).number ≡ 0 → ⊥) →
      lookup im path lent ≡ lookup_zeros lent (lookup im path lent).number (lookup im path lent).met
  pub descriptions : (im path : List ℕ) (lent : ℕ) → ((describe im path lent).number ≡ 0 → ⊥) →
      describe im path lent ≡ describe_zeros lent (describe im path lent).number (describe im path lent).met
  pub mends : (im : List ℕ) (lent log_lent n : ℕ) → ((mend im lent log_lent n).number ≡ 0 → ⊥) →
      mend im lent log_lent n ≡ mend_zeros im lent log_lent (mend im lent log_lent n).number (mend im lent log_lent n).met
  pub undos : (im log : List ℕ) (e n : ℕ) → ((undo im log e n).number ≡ 0 → ⊥) → undo im log e n ≡ undo_zeros im (undo im log e n).number
  -- the block met
  pub audits_only_six : (im : List ℕ) (lent : ℕ) → OnlyWithSix (audit im lent).number (audit im lent).met
  pub lookups_only_six : (im path : List ℕ) (lent : ℕ) → OnlyWithSix (lookup im path lent).number (lookup im path lent).met
  pub descriptions_only_six : (im path : List ℕ) (lent : ℕ) → OnlyWithSix (describe im path lent).number (describe im path lent).met
  pub mends_only_six : (im : List ℕ) (lent log_lent n : ℕ) → OnlyWithSix (mend im lent log_lent n).number (mend im lent log_lent n).met
  -- in C with a number other than 0 and 6
  pub c_audits : (im : List ℕ) (l r : ℕ) → ((c_audit im l r).number ≡ 0 → ⊥) → ((c_audit im l r).number ≡ 6 → ⊥) →
      c_audit im l r ≡ c_zeros l r (c_audit im l r).number
  pub c_lookups : (im path : List ℕ) (l r : ℕ) → ((c_lookup im path l r).number ≡ 0 → ⊥) → ((c_lookup im path l r).number ≡ 6 → ⊥) →
      c_lookup im path l r ≡ c_zeros l r (c_lookup im path l r).number
  pub c_descriptions : (im path : List ℕ) (l r : ℕ) → ((c_describe im path l r).number ≡ 0 → ⊥) → ((c_describe im path l r).number ≡ 6 → ⊥) →
      c_describe im path l r ≡ c_zeros l r (c_describe im path l r).number
  pub c_mends : (im : List ℕ) (l g r n : ℕ) → ((c_mend im l g r n).number ≡ 0 → ⊥) → ((c_mend im l g r n).number ≡ 6 → ⊥) →
      c_mend im l g r n ≡ c_mend_zeros im l g r (c_mend im l g r n).number
  pub c_undos : (im log : List ℕ) (r e n : ℕ) → ((c_undo im log r e n).number ≡ 0 → ⊥) → c_undo im log r e n ≡ c_undo_zeros im r (c_undo im log r e n).number
  -- in C with 6: the library's block met
  pub c_audits_with_six : (im : List ℕ) (l r : ℕ) → (c_audit im l r).number ≡ 6 → c_audit im l r ≡ c_met l r (audit im (l / 8)).met
  pub c_lookups_with_six : (im path : List ℕ) (l r : ℕ) → (c_lookup im path l r).number ≡ 6 → c_lookup im path l r ≡ c_met l r (lookup im path (l / 8)).met
  pub c_descriptions_with_six : (im path : List ℕ) (l r : ℕ) → (c_describe im path l r).number ≡ 6 →
      c_describe im path l r ≡ c_met l r (describe im path (l / 8)).met
  pub c_mends_with_six : (im : List ℕ) (l g r n : ℕ) → (c_mend im l g r n).number ≡ 6 → c_mend im l g r n ≡ c_mend_met im l g r (mend im (l / 8) (g / 8) n).met
