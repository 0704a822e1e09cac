-- Laws of the log's entries, of the test that they fit, and of the old counts written back.
use Prim.Native.Nat.{ℕ, zero, suc, ◌+◌, ◌-◌, ◌*◌, ◌/◌, ◌%◌, ◌≤◌, ◌<◌, min}
use mathlib.Core.Bool.{Bool, true, false, not, ◌&&◌, ◌||◌}
use mathlib.Core.List.{List, [], ◌∷◌}
use mathlib.Core.Path.{◌≡◌, refl, sym, ◌∙◌}
use native.Mathlib.Omega.{arith}
use borrow.Author.Tests.{eq-eqb, ne_eqb, le-leb, lt-leb, leb-true}
use lib.Dec.{leb, eqb}
use lib.ListN.{length, drop, get_or}
use lib.Seq.{get_or-drop}
use Rattle.format.specs.Limits.{image_least, image_most}
use Rattle.std.specs.Prelude.{if◌then◌else◌}
use Rattle.format.specs.Bytes.{in_range, u32}
use Rattle.format.specs.Log.{Change, changes, put_count, restored}
use Rattle.format.specs.Undo.{fits, all_fit, undo_number, undone}
use Rattle.format.specs.Answers.{undo_end, undo}
use Rattle.walk.specs.Numbers.{Number}
use Rattle.undo.specs.Reply.{change_of}

-- the least image holds a field
pub field_fits : 4 ≤ image_least
unfolding image_least
field_fits = omega arith

-- the ith entry of a log, by its two words
abbrev pub entry_at : List ℕ → ℕ → Change
entry_at log i = change_of (get_or log (2 * i) 0) (get_or log (2 * i + 1) 0)

-- the entries from the ith on are the ith and those behind it
pub changes-next : (e i : ℕ) (log : List ℕ) → i < e → drop i (changes e log) ≡ entry_at log i ∷ drop (i + 1) (changes e log)
unfolding changes
changes-next zero i log h = absurd (omega arith)
changes-next (suc e) zero log h = refl
changes-next (suc e) (suc i) log h =
    let f : 2 * suc i ≡ 2 + 2 * i = omega arith in
    let g : 2 + 2 * i + 1 ≡ 2 + (2 * i + 1) = omega arith in
    let n : suc i + 1 ≡ suc (i + 1) = omega arith in
    changes-next e i (drop 2 log) (omega arith) ∙ rw (f, g, n, get_or-drop 2 log (2 * i) 0, get_or-drop 2 log (2 * i + 1) 0)

pub changes-end : (e i : ℕ) (log : List ℕ) → e ≤ i → drop i (changes e log) ≡ []
unfolding changes
changes-end zero zero log h = refl
changes-end zero (suc i) log h = refl
changes-end (suc e) zero log h = absurd (omega arith)
changes-end (suc e) (suc i) log h = changes-end e i (drop 2 log) (omega arith)

-- Whether an entry fits, by its field's address and word.
module _ (im : List ℕ) (field word : ℕ) where
  pub outside : length im < field + 4 → false ≡ fits im (change_of field word)
  unfolding fits
  outside h = rw (lt-leb (field + 4) (length im) h)

  module _ (h : field + 4 ≤ length im) {r : ℕ} (count : Number im field 4 r) where
    pub holds-old : r ≡ word / 4294967296 → true ≡ fits im (change_of field word)
    unfolding fits
    holds-old k = rw (le-leb (field + 4) (length im) h, ← count.value, eq-eqb r (word / 4294967296) k)

    pub holds-new : (r ≡ word / 4294967296 → ⊥) → eqb r (word % 4294967296) ≡ fits im (change_of field word)
    unfolding fits
    holds-new k = rw (le-leb (field + 4) (length im) h, ← count.value, ne_eqb r (word / 4294967296) k)

-- The test of all entries, before the ith: `whole` is what it will have found.
module _ (im log : List ℕ) (e i : ℕ) (whole : Bool) (w : whole ≡ all_fit im (drop i (changes e log))) where
  pub all_end : e ≤ i → true ≡ whole
  unfolding all_fit
  all_end h = sym (w ∙ rw (changes-end e i log h))

  module _ (h : i < e) {t : Bool} (one : t ≡ fits im (entry_at log i)) where
    pub all_here : t ≡ false → false ≡ whole
    unfolding all_fit
    all_here k = sym (w ∙ rw (changes-next e i log h, ← one, k))

    pub all-next : t ≡ true → whole ≡ all_fit im (drop (i + 1) (changes e log))
    unfolding all_fit
    all-next k = w ∙ rw (changes-next e i log h, ← one, k)

-- an entry that fits has its field inside
fits-inside : (im : List ℕ) (c : Change) (b : Bool) → (fits im c && b) ≡ true → (c.field + 4 ≤ length im) × (b ≡ true)
unfolding fits
fits-inside im c b e = go (leb (c.field + 4) (length im)) (eqb (u32 im c.field) c.old || eqb (u32 im c.field) c.new) refl e
  where
    go : (t u : Bool) → leb (c.field + 4) (length im) ≡ t → ((t && u) && b) ≡ true → (c.field + 4 ≤ length im) × (b ≡ true)
    go true true p q = (leb-true _ _ p, q)
    go true false p q = let z : ◌≡◌ {A = ℕ} 0 1 = cc in absurd (omega arith)
    go false u p q = let z : ◌≡◌ {A = ℕ} 0 1 = cc in absurd (omega arith)

-- where all entries fit, those from one on fit
pub fit-behind : (im : List ℕ) (i : ℕ) (cs : List Change) → all_fit im cs ≡ true → all_fit im (drop i cs) ≡ true
unfolding all_fit
fit-behind im zero cs h = h
fit-behind im (suc i) [] h = h
fit-behind im (suc i) (c ∷ cs) h = fit-behind im i cs (fits-inside im c (all_fit im cs) h).1

-- where all entries fit, the ith has its field inside
pub field-inside : (im log : List ℕ) (e i : ℕ) → i < e → all_fit im (changes e log) ≡ true → get_or log (2 * i) 0 + 4 ≤ length im
unfolding changes all_fit
field-inside im log zero i h a = absurd (omega arith)
field-inside im log (suc e) zero h a = (fits-inside im (change_of (get_or log 0 0) (get_or log 1 0)) (all_fit im (changes e (drop 2 log))) a).0
field-inside im log (suc e) (suc i) h a =
    let f : 2 * suc i ≡ 2 + 2 * i = omega arith in
    let rest = (fits-inside im (change_of (get_or log 0 0) (get_or log 1 0)) (all_fit im (changes e (drop 2 log))) a).1 in
    rw (f, ← (get_or-drop 2 log (2 * i) 0)) (field-inside im (drop 2 log) e i (omega arith) rest)

-- the old counts from the ith entry on, by those behind it
pub restored-next : (im₀ im log : List ℕ) (e i : ℕ) → i < e → im ≡ restored im₀ (drop (i + 1) (changes e log)) →
    put_count im (get_or log (2 * i) 0) (get_or log (2 * i + 1) 0 / 4294967296) ≡ restored im₀ (drop i (changes e log))
unfolding restored
restored-next im₀ im log e i h k = rw (changes-next e i log h, ← k)

pub restored-none : (im log : List ℕ) (e : ℕ) → im ≡ restored im (drop e (changes e log))
unfolding restored
restored-none im log e = let h : e ≤ e = omega arith in rw (changes-end e e log h)

-- The answer, by the first test that fails.
module _ (im log : List ℕ) (e : ℕ) where
  abbrev sized : Bool
  sized = in_range image_least image_most (length im)

  abbrev fitting : Bool
  fitting = all_fit im (changes e log)

  pub number-1 : sized ≡ false → 1 ≡ undo_number im log e
  unfolding undo_number
  number-1 s = rw s

  pub number-18 : sized ≡ true → length log < 2 * e → 18 ≡ undo_number im log e
  unfolding undo_number
  number-18 s h = rw (s, lt-leb (2 * e) (length log) h)

  pub number-19 : sized ≡ true → 2 * e ≤ length log → fitting ≡ false → 19 ≡ undo_number im log e
  unfolding undo_number
  number-19 s h f = rw (s, le-leb (2 * e) (length log) h, f)

  pub number-0 : sized ≡ true → 2 * e ≤ length log → fitting ≡ true → 0 ≡ undo_number im log e
  unfolding undo_number
  number-0 s h f = rw (s, le-leb (2 * e) (length log) h, f)

  -- where the answer is 0 the log is long enough and fits
  pub number-zero : undo_number im log e ≡ 0 → (2 * e ≤ length log) × (fitting ≡ true)
  unfolding undo_number
  number-zero q = go sized (leb (2 * e) (length log)) fitting refl refl q
    where
      go : (t u v : Bool) → leb (2 * e) (length log) ≡ u → fitting ≡ v → ◌≡◌ {A = ℕ} (if not t then 1 else if not u then 18 else if v then 0 else 19) 0 →
          (2 * e ≤ length log) × (fitting ≡ true)
      go false u v p f r = absurd (omega arith)
      go true false v p f r = absurd (omega arith)
      go true true false p f r = absurd (omega arith)
      go true true true p f r = (leb-true _ _ p, f)

  -- What undo gives, by the answer.
  module _ (n : ℕ) {k : ℕ} (q : k ≡ undo_number im log e) where
    pub undo-refused : (k ≡ 0 → ⊥) → record { number = k; writes = 0; image = im } ≡ undo im log e n
    unfolding undo
    undo-refused h = rw (← q) (go k h)
      where
        go : (j : ℕ) → (j ≡ 0 → ⊥) → record { number = j; writes = 0; image = im } ≡ undo_end im log e n j
        go zero z = absurd (z refl)
        go (suc j) z = refl

    pub undo-done : k ≡ 0 → {im' : List ℕ} {m : ℕ} → m ≡ min n e → im' ≡ restored im (drop (e - m) (changes e log)) →
        record { number = 0; writes = m; image = im' } ≡ undo im log e n
    unfolding undo undone
    undo-done z w r = rw (← q, z, r, w)
