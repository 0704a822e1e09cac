-- Laws of the corrections of a ledger's places, and of their words as they are written into a log.
use Prim.Native.Nat.{ℕ, zero, suc, ◌+◌, ◌*◌, ◌-◌, ◌^◌, ◌≤◌, ◌<◌}
use mathlib.Core.Bool.{Bool, true, false}
use mathlib.Core.List.{List, [], ◌∷◌, ◌++◌, append_assoc, append-nil}
use mathlib.Core.Path.{◌≡◌, refl, ap, sym, ◌∙◌}
use native.Mathlib.Omega.{arith}
use native.Mathlib.Nat.{add-zero}
use borrow.Author.Tests.{eq-eqb, ne_eqb}
use lib.Dec.{eqb}
use lib.ListN.{length, get_or, take, drop, set, replicate, length-append, length-set}
use lib.Seq.{drop-nil, get_or-drop, take-suc-set}
use Rattle.std.specs.Prelude.{if◌then◌else◌}
use Rattle.format.specs.Bytes.{padded}
use Rattle.format.specs.Audit.{Counted}
use Rattle.format.specs.Log.{Change, log_words}
use Rattle.format.specs.Mend.{corrections}
use Rattle.ledger.specs.Report.{counted_places}
use Rattle.undo_log.specs.Entries.{correction, NewsFit}

pub corrections-append : (os ps : List Counted) → corrections (os ++ ps) ≡ corrections os ++ corrections ps
unfolding corrections
corrections-append [] ps = refl
corrections-append (o ∷ os) ps = go (eqb o.stored_count o.true_count) (corrections-append os ps)
  where
    here : Change
    here = record { field = o.address + 4; old = o.stored_count; new = o.true_count }

    go : (t : Bool) → corrections (os ++ ps) ≡ corrections os ++ corrections ps →
        (if t then corrections (os ++ ps) else here ∷ corrections (os ++ ps)) ≡ (if t then corrections os else here ∷ corrections os) ++ corrections ps
    go true e = e
    go false e = ap (λ (cs : List Change). here ∷ cs) e

-- the change of one object, by the test of its count
pub correction-right : (a s t : ℕ) → s ≡ t → correction a s t ≡ []
unfolding corrections
correction-right a s t e = rw (eq-eqb s t e)

pub correction-wrong : (a s t : ℕ) → (s ≡ t → ⊥) → correction a s t ≡ record { field = a + 4; old = s; new = t } ∷ []
unfolding corrections
correction-wrong a s t e = rw (ne_eqb s t e)

drop-tail : (i : ℕ) (l : List ℕ) → drop i (drop 1 l) ≡ drop (suc i) l
drop-tail i [] = drop-nil i
drop-tail i (x ∷ l) = refl

-- the places from the i-th on stand behind the first i
pub places-append : (i k : ℕ) (xs ss ts : List ℕ) →
    counted_places (i + k) xs ss ts ≡ counted_places i xs ss ts ++ counted_places k (drop i xs) (drop i ss) (drop i ts)
unfolding counted_places
places-append zero k xs ss ts = let z : 0 + k ≡ k = omega arith in rw z
places-append (suc i) k xs ss ts =
    let z : suc i + k ≡ suc (i + k) = omega arith in
    rw (z, ← (drop-tail i xs), ← (drop-tail i ss), ← (drop-tail i ts), places-append i k (drop 1 xs) (drop 1 ss) (drop 1 ts))

pub log_words-append : (cs ds : List Change) → log_words (cs ++ ds) ≡ log_words cs ++ log_words ds
unfolding log_words
log_words-append [] ds = refl
log_words-append (c ∷ cs) ds = rw (log_words-append cs ds)

pub length-log_words : (cs : List Change) → length (log_words cs) ≡ length cs + length cs
unfolding log_words
length-log_words [] = refl
length-log_words (c ∷ cs) = omega (arith, length-log_words cs)

pub news-append : (cs ds : List Change) → NewsFit cs → NewsFit ds → NewsFit (cs ++ ds)
news-append [] ds f g = g
news-append (c ∷ cs) ds f g = (f.0, news-append cs ds f.1 g)

-- The entry of one object, behind the first n of a log.
module _ (log : List ℕ) (n a s t : ℕ) where
  pub entry-none : s ≡ t →
      (n ≡ n + length (correction a s t)) × (take (n + n) log ≡ take (n + n) log ++ log_words (correction a s t)) × NewsFit (correction a s t)
  unfolding log_words
  entry-none e = rw (correction-right a s t e) (omega arith, sym (append-nil (take (n + n) log)), tt)

  pub entry-room : (s ≡ t → ⊥) → 2 * (n + length (correction a s t)) ≤ length log → n + n + 2 ≤ length log
  entry-room e h = let k : 2 * (n + 1) ≤ length log = rw (correction-wrong a s t e) at h in omega arith

  pub entry-one : (s ≡ t → ⊥) → t < 2 ^ 32 → n + n + 2 ≤ length log →
      (n + 1 ≡ n + length (correction a s t))
      × (take (n + 1 + (n + 1)) (set (set log (n + n) (a + 4)) (n + n + 1) (s * 4294967296 + t)) ≡ take (n + n) log ++ log_words (correction a s t))
      × NewsFit (correction a s t)
  unfolding log_words
  entry-one e f h =
      let z : n + 1 + (n + 1) ≡ suc (suc (n + n)) = omega arith in
      let y : n + n + 1 ≡ suc (n + n) = omega arith in
      let second = take-suc-set (set log (n + n) (a + 4)) (suc (n + n)) (s * 4294967296 + t) (simp length-set (omega arith)) in
      rw (correction-wrong a s t e) (
        refl,
        rw (z, y, second, take-suc-set log (n + n) (a + 4) (omega arith))
            (append_assoc (take (n + n) log) ((a + 4) ∷ []) ((s * 4294967296 + t) ∷ [])),
        (f, tt),
      )

-- The corrections of the first i places of three lists.
module _ (xs ss ts : List ℕ) where
  abbrev pub first_wrong : ℕ → List Change
  first_wrong i = corrections (counted_places i xs ss ts)

  pub wrong-none : first_wrong 0 ≡ []
  unfolding counted_places corrections
  wrong-none = refl

  pub wrong-more : (i : ℕ) → first_wrong (i + 1) ≡ first_wrong i ++ correction (get_or xs i 0) (get_or ss i 0) (get_or ts i 0)
  unfolding counted_places
  wrong-more i = rw (places-append i 1 xs ss ts, corrections-append, get_or-drop i xs 0 0, get_or-drop i ss 0 0, get_or-drop i ts 0 0, add-zero)

  pub length_more : (i : ℕ) → length (first_wrong (i + 1)) ≡ length (first_wrong i) + length (correction (get_or xs i 0) (get_or ss i 0) (get_or ts i 0))
  length_more i = ap length (wrong-more i) ∙ length-append (first_wrong i) _

  wrong-add : (i k : ℕ) → length (first_wrong i) ≤ length (first_wrong (i + k))
  wrong-add i k = rw (places-append i k xs ss ts, corrections-append, length-append) (omega arith)

  pub wrong-within : (i n : ℕ) → i ≤ n → length (first_wrong i) ≤ length (first_wrong n)
  wrong-within i n h = let e : i + (n - i) ≡ n = omega arith in rw e at (wrong-add i (n - i))

  -- a log that holds the entries of all has room for that of the i-th
  pub room-more : (i n m long : ℕ) → i < n → m ≡ length (first_wrong i) → 2 * length (first_wrong n) ≤ long →
      2 * (m + length (correction (get_or xs i 0) (get_or ss i 0) (get_or ts i 0))) ≤ long
  room-more i n m long h e l = omega (arith, length_more i, wrong-within (i + 1) n (omega arith))

  -- the words of the first i places, then one place more
  pub words_more : (i m r : ℕ) (log log' : List ℕ) → m ≡ length (first_wrong i) → take (m + m) log ≡ log_words (first_wrong i) →
      r ≡ m + length (correction (get_or xs i 0) (get_or ss i 0) (get_or ts i 0)) →
      take (r + r) log' ≡ take (m + m) log ++ log_words (correction (get_or xs i 0) (get_or ss i 0) (get_or ts i 0)) →
      (r ≡ length (first_wrong (i + 1))) × (take (r + r) log' ≡ log_words (first_wrong (i + 1)))
  words_more i m r log log' e f g h = (omega (arith, length_more i), h ∙ rw (wrong-more i, log_words-append, f))

  pub news-more : (i : ℕ) → NewsFit (first_wrong i) → NewsFit (correction (get_or xs i 0) (get_or ss i 0) (get_or ts i 0)) → NewsFit (first_wrong (i + 1))
  news-more i f g = rw (wrong-more i) (news-append (first_wrong i) _ f g)

  -- the words of all, with the rest cleared
  pub words-all : (n m : ℕ) (long : ℕ) (log log' : List ℕ) → m ≡ length (first_wrong n) → take (m + m) log ≡ log_words (first_wrong n) → length log ≡ long →
      log' ≡ take (m + m) log ++ replicate (length log - (m + m)) 0 → log' ≡ padded long (log_words (first_wrong n))
  words-all n m long log log' e f g h = h ∙ rw (f, g, length-log_words, ← e)
