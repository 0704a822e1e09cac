-- Laws of the entries that a log holds, and of the counts written by them.
use Prim.Native.Nat.{ℕ, zero, suc, ◌+◌, ◌*◌, ◌/◌, ◌%◌, ◌^◌, ◌≤◌, ◌<◌}
use mathlib.Core.Bool.{Bool, true, false}
use mathlib.Core.List.{List, [], ◌∷◌, ◌++◌}
use mathlib.Core.Path.{◌≡◌, refl, ◌∙◌}
use native.Mathlib.Omega.{arith}
use native.Mathlib.Nat.{add-zero}
use lib.Dec.{eqb}
use lib.ListN.{length, get_or, take, drop}
use lib.Seq.{drop-drop, get_or-drop, get_or-take, length-take-le}
use Rattle.std.specs.Prelude.{if◌then◌else◌}
use Rattle.format.specs.Bytes.{to_bytes, overwrite}
use Rattle.undo_log.specs.Entries.{NewsFit, FieldsInside}
use Rattle.format.specs.Log.{Change, log_words, changes, put_count, written}
use Rattle.format.specs.Mend.{corrections}
use Rattle.ledger.specs.Report.{counted_places}

-- the field of each change lies below an end
abbrev pub FieldsBelow : ℕ → List Change → Type 0
FieldsBelow end [] = Unit {0}
FieldsBelow end (c ∷ cs) = (c.field + 4 ≤ end) × FieldsBelow end cs

pub get_d_tail : (l : List ℕ) (k : ℕ) → get_or (drop 1 l) k 0 ≡ get_or l (suc k) 0
get_d_tail [] k = refl
get_d_tail (x ∷ l) k = refl

changes-append : (i k : ℕ) (log : List ℕ) → changes (i + k) log ≡ changes i log ++ changes k (drop (i + i) log)
unfolding changes
changes-append zero k log = let z : 0 + k ≡ k = omega arith in rw z
changes-append (suc i) k log =
    let z : suc i + k ≡ suc (i + k) = omega arith in
    let y : suc i + suc i ≡ 2 + (i + i) = omega arith in
    rw (z, y, ← (drop-drop (i + i) 2 log), changes-append i k (drop 2 log))

-- the first i entries, and the one behind them
changes-more : (i : ℕ) (log : List ℕ) →
    let w = get_or log (i + i + 1) 0 in
    changes (i + 1) log ≡ changes i log ++ (record { field = get_or log (i + i) 0; old = w / 2 ^ 32; new = w % 2 ^ 32 } ∷ [])
unfolding changes
changes-more i log = rw (changes-append i 1 log, get_or-drop (i + i) log 0 0, get_or-drop (i + i) log 1 0, add-zero)

written-append : (im : List ℕ) (cs ds : List Change) → written im (cs ++ ds) ≡ written (written im cs) ds
unfolding written
written-append im [] ds = refl
written-append im (c ∷ cs) ds = written-append (put_count im c.field c.new) cs ds

-- the first i entries are performed, then one more
pub perform-more : (im im' log : List ℕ) (i : ℕ) →
    im' ≡ overwrite (written im (changes i log)) (get_or log (i + i) 0) (to_bytes 4 (get_or log (i + i + 1) 0 % 4294967296)) →
    im' ≡ written im (changes (i + 1) log)
unfolding written
perform-more im im' log i e = e ∙ rw (changes-more i log, written-append)

-- the entries of a log are read back as they were written
pub changes-written : (m : ℕ) (cs : List Change) (rest : List ℕ) → m ≤ length cs → NewsFit cs → changes m (log_words cs ++ rest) ≡ take m cs
unfolding changes log_words
changes-written zero cs rest h f = refl
changes-written (suc m) [] rest h f = absurd (omega arith)
changes-written (suc m) (c ∷ cs) rest h f =
    let n : c.new < 4294967296 = f.0 in
    let o : (c.old * 4294967296 + c.new) / 4294967296 ≡ c.old = omega arith in
    let w : (c.old * 4294967296 + c.new) % 4294967296 ≡ c.new = omega arith in
    rw (o, w, changes-written m cs rest (omega arith) f.1)

-- the field of the k-th entry
pub field-written : (end k : ℕ) (cs : List Change) (rest : List ℕ) → k < length cs → FieldsBelow end cs → get_or (log_words cs ++ rest) (k + k) 0 + 4 ≤ end
unfolding log_words
field-written end k [] rest h f = absurd (omega arith)
field-written end zero (c ∷ cs) rest h f = f.0
field-written end (suc k) (c ∷ cs) rest h f =
    let e : suc k + suc k ≡ suc (suc (k + k)) = omega arith in
    rw e (field-written end k cs rest (omega arith) f.1)

pub fields-inside : (end w : ℕ) (cs : List Change) (rest log : List ℕ) → log ≡ log_words cs ++ rest → w ≤ length cs → FieldsBelow end cs →
    FieldsInside end w log
fields-inside end w cs rest log e h f = λ k l. rw e (field-written end k cs rest (omega arith) f)

-- the changes of places whose counts lie below an end
pub places-below : (end n : ℕ) (xs ss ts : List ℕ) → ((k : ℕ) → k < n → get_or xs k 0 + 8 ≤ end) → FieldsBelow end (corrections (counted_places n xs ss ts))
unfolding counted_places corrections
places-below end zero xs ss ts h = tt
places-below end (suc n) xs ss ts h =
    go (eqb (get_or ss 0 0) (get_or ts 0 0)) (places-below end n (drop 1 xs) (drop 1 ss) (drop 1 ts) (λ k l. rw (get_d_tail xs k) (h (suc k) (omega arith))))
  where
    go : (t : Bool) →
        let cs = corrections (counted_places n (drop 1 xs) (drop 1 ss) (drop 1 ts)) in
        FieldsBelow end cs → FieldsBelow end (if t then cs else record { field = get_or xs 0 0 + 4; old = get_or ss 0 0; new = get_or ts 0 0 } ∷ cs)
    go true f = f
    go false f = (omega (arith, h 0 (omega arith)), f)

-- the first m entries of a log, as a log of their own
changes-part : (m : ℕ) (log : List ℕ) → changes m (take (m + m) log) ≡ changes m log
unfolding changes
changes-part zero log = refl
changes-part (suc m) [] = let z : suc m + suc m ≡ suc (suc (m + m)) = omega arith in rw z
changes-part (suc m) (x ∷ []) = let z : suc m + suc m ≡ suc (suc (m + m)) = omega arith in rw z
changes-part (suc m) (x ∷ y ∷ log) = let z : suc m + suc m ≡ suc (suc (m + m)) = omega arith in rw (z, changes-part m log)

module _ (m : ℕ) (log : List ℕ) (fits : m + m ≤ length log) where
  entries-taken : length (take (m + m) log) / 2 ≡ m
  entries-taken = omega (arith, length-take-le (m + m) log fits)

  pub fields-taken : (end : ℕ) → FieldsInside end m log → FieldsInside end (length (take (m + m) log) / 2) (take (m + m) log)
  fields-taken end h = λ k l. rw (get_or-take (m + m) log (k + k) 0 (omega (arith, l, entries-taken))) (h k (omega (arith, l, entries-taken)))

  pub changes-taken : changes (length (take (m + m) log) / 2) (take (m + m) log) ≡ changes m log
  changes-taken = rw entries-taken (changes-part m log)
