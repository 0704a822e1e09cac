-- Demand 3 of the C calls: "there a word is 8 little-endian bytes".
use Rattle.std.specs.Prelude.{ℕ, ◌+◌, ◌-◌, ◌*◌, ◌/◌, ◌^◌, ◌≤◌, ◌<◌, min, List, [], ◌∷◌, ◌≡◌, length, get_or, take, drop}
use Rattle.format.specs.Limits.{objects_most}
use Rattle.format.specs.Bytes.{u64, to_words}
use Rattle.format.specs.Log.{written, restored}
use Rattle.format.specs.Mend.{corrections}
use Rattle.format.specs.Answers.{audit, mend}
use Rattle.format.specs.Front.{CMend, padded_bytes, c_audit_end, c_audit, c_lookup, c_describe, c_undo}
use Rattle.demand.specs.Counts.{OnlyWrong}
use Rattle.demand.specs.Demand3.{clean_reply}
use Rattle.claims.specs.Demand3.{wrong_counts}

-- every element is a 64-bit word
abbrev pub IsWords : List ℕ → Type 0
IsWords ws = (k : ℕ) → get_or ws k 0 < 2 ^ 64

-- an undo call in C: so many bytes for its reply, entries, and a write limit
pub record CCall : Type 0 where
  pub bytes : ℕ
  pub entries : ℕ
  pub limit : ℕ

-- the image after a list of undo calls with the same log, as bytes: "each undo gets that log and the image as the last one left it"
unfoldable pub after_cUndos : List ℕ → List ℕ → List CCall → List ℕ
after_cUndos im log [] = im
after_cUndos im log (u ∷ us) = after_cUndos (c_undo im log u.bytes u.entries u.limit).image log us

-- of an image im' that a mend of im and undo calls have left, with the bytes of the mend's log and the number of its entries
pub record CKept (im : List ℕ) (lent : ℕ) (log : List ℕ) (entries : ℕ) (im' : List ℕ) : Type 0 where
  -- "only wrong count fields differ"
  pub fields : OnlyWrong (audit im lent).objects im im'
  -- "every lookup and description answers as before", for any path and any slices
  pub lookups : (path : List ℕ) (l r : ℕ) → c_lookup im' path l r ≡ c_lookup im path l r
  pub descriptions : (path : List ℕ) (l r : ℕ) → c_describe im' path l r ≡ c_describe im path l r
  -- "one full undo gives the old image back", byte for byte
  pub back : (r limit : ℕ) → 8 ≤ r → entries ≤ limit →
      c_undo im' log r entries limit ≡ record { number = 0; reply = padded_bytes r (entries ∷ []); image = im }
  -- an undo of the first e entries writes the old counts of the last of them, as many as its limit says
  pub partly : (r e limit : ℕ) → 8 ≤ r → e ≤ entries →
      c_undo im' log r e limit ≡
      record {
        number = 0;
        reply = padded_bytes r (min limit e ∷ []);
        image = restored im' (drop (e - min limit e) (take e (corrections (audit im lent).objects)));
      }

-- the entries that a mend has logged, as its caller reads them: the second word of the reply
abbrev pub entries_read : CMend → ℕ
entries_read m = u64 m.reply 8

-- of the reply m to a mend of im that is done, with l bytes for the list, g for the log, r for the reply and the write limit n
pub record CMended (im : List ℕ) (l g r n : ℕ) (m : CMend) : Type 0 where
  -- "block count, entries, writes", for which there is room
  pub room : 24 ≤ r
  pub reply : m.reply ≡ padded_bytes r ((audit im (l / 8)).block_count ∷ wrong_counts im (l / 8) ∷ min n (wrong_counts im (l / 8)) ∷ [])
  pub entries : entries_read m ≡ wrong_counts im (l / 8)
  -- the words that an undo reads from the bytes of the log are the mend's
  pub words : to_words (length m.log / 8) m.log ≡ (mend im (l / 8) (g / 8) n).log
  -- "the first n entries" are written, and no other
  pub first : m.image ≡ written im (take (min n (entries_read m)) (corrections (audit im (l / 8)).objects))
  -- after the mend and any list of undo calls, the empty one too
  pub kept : (us : List CCall) → CKept im (l / 8) m.log (entries_read m) (after_cUndos m.image m.log us)
  -- "a full mend audits clean"
  pub clean : entries_read m ≤ n → (r' : ℕ) → 8 * (2 + 3 * objects_most) ≤ r' → c_audit m.image l r' ≡ c_audit_end l r' (clean_reply (audit im (l / 8)))

-- of the reply m to any mend of im
pub record CDemand3 (im : List ℕ) (l g r n : ℕ) (m : CMend) : Type 0 where
  -- "Any number but 0 .. changes no image byte"
  pub refused : (m.number ≡ 0 → ⊥) → m.image ≡ im
  pub mended : m.number ≡ 0 → CMended im l g r n m
