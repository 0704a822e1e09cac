-- The words of a log of bytes, read in place.
use Prim.Native.Nat.{ℕ, zero, suc, ◌+◌, ◌-◌, ◌*◌, ◌/◌, ◌≤◌, ◌<◌}
use mathlib.Core.Bool.{Bool}
use mathlib.Core.List.{List}
use mathlib.Core.Path.{◌≡◌, refl, ap, sym, ◌∙◌}
use native.Mathlib.Omega.{arith}
use lib.ListN.{length, take, drop, get_or}
use lib.Seq.{drop-drop, get_or-drop}
use Rattle.format.specs.Bytes.{u64, part, to_words}
use Rattle.format.specs.Log.{changes, put_count}
use Rattle.format.specs.Undo.{fits}
use Rattle.walk.specs.Numbers.{Number}
use Rattle.walk.proofs.Parts.{part_length, part-number}
use Rattle.undo.specs.Reply.{change_of, words_of}
use Rattle.undo.proofs.UndoLaws.{entry_at}

pub length-words : (n : ℕ) (b : List ℕ) → length (to_words n b) ≡ n
unfolding to_words
length-words zero b = refl
length-words (suc n) b = ap suc (length-words n (drop 8 b))

-- the jth word is the number of the 8 bytes from 8 * j on
word_at : (k j : ℕ) (b : List ℕ) → j < k → get_or (to_words k b) j 0 ≡ u64 b (8 * j)
unfolding to_words
word_at zero j b h = absurd (omega arith)
word_at (suc k) zero b h = refl
word_at (suc k) (suc j) b h =
    let e : 8 * suc j ≡ 8 + 8 * j = omega arith in
    word_at k j (drop 8 b) (omega arith) ∙ rw (e, drop-drop)

-- a number read at a word's place is the word
word_read : (log : List ℕ) (j at : ℕ) → at ≡ 8 * j → at + 8 ≤ length log → {r : ℕ} → Number log at 8 r → r ≡ get_or (words_of log) j 0
word_read log j at e h n = n.value ∙ rw e (sym (word_at (length log / 8) j log (omega arith)))

-- both words of the ith entry
module _ (log : List ℕ) (i : ℕ) (h : 16 * i + 16 ≤ length log) where
  pub field-read : {f : ℕ} → Number log (16 * i) 8 f → f ≡ get_or (words_of log) (2 * i) 0
  field-read = word_read log (2 * i) (16 * i) (omega arith) (omega arith)

  pub counts-read : {w : ℕ} → Number log (16 * i + 8) 8 w → w ≡ get_or (words_of log) (2 * i + 1) 0
  counts-read = word_read log (2 * i + 1) (16 * i + 8) (omega arith) (omega arith)

  -- Numbers read at the places of both words.
  module _ {f w : ℕ} (m : Number log (16 * i) 8 f) (n : Number log (16 * i + 8) 8 w) where
    pub entry-fits : (im : List ℕ) {t : Bool} → t ≡ fits im (change_of f w) → t ≡ fits im (entry_at (words_of log) i)
    entry-fits im e = rw (field-read m, counts-read n) at e

    pub old-put : (im im' : List ℕ) → im' ≡ put_count im f (w / 4294967296) →
        im' ≡ put_count im (get_or (words_of log) (2 * i) 0) (get_or (words_of log) (2 * i + 1) 0 / 4294967296)
    old-put im im' e = rw (field-read m, counts-read n) at e

-- entries by the words that they are
changes_same : (e : ℕ) (ws ws' : List ℕ) → ((j : ℕ) → j < 2 * e → get_or ws j 0 ≡ get_or ws' j 0) → changes e ws ≡ changes e ws'
unfolding changes
changes_same zero ws ws' h = refl
changes_same (suc e) ws ws' h =
    let i : changes e (drop 2 ws) ≡ changes e (drop 2 ws') =
    changes_same e (drop 2 ws) (drop 2 ws') (λ j l. get_or-drop 2 ws j 0 ∙ h (2 + j) (omega arith) ∙ sym (get_or-drop 2 ws' j 0)) in
    rw (h 0 (omega arith), h 1 (omega arith), i) refl

changes-behind : (f n : ℕ) (ws : List ℕ) → drop f (changes (f + n) ws) ≡ changes n (drop (2 * f) ws)
unfolding changes
changes-behind zero n ws = let e : 0 + n ≡ n = omega arith in rw e refl
changes-behind (suc f) n ws =
    let e : 2 * suc f ≡ 2 + 2 * f = omega arith in
    let more : suc f + n ≡ suc (f + n) = omega arith in
    rw more (changes-behind f n (drop 2 ws) ∙ rw (e, drop-drop))

-- the entries of a part of a log are those of the log from the first of the part on
pub entries-part : (log : List ℕ) (f n : ℕ) → f + n ≤ length log / 16 →
    (length (part log (16 * f) (16 * n)) / 16 ≡ n) × (changes n (words_of (part log (16 * f) (16 * n))) ≡ drop f (changes (f + n) (words_of log)))
entries-part log f n h =
    let s = part log (16 * f) (16 * n) in
    let long : length s ≡ 16 * n = part_length log (16 * f) (16 * n) (omega arith) in (
      omega (arith, long),
      changes_same n (words_of s) (drop (2 * f) (words_of log))
          (λ j l.
          let at : 16 * f + 8 * j ≡ 8 * (2 * f + j) = omega arith in
          word_at (length s / 8) j s (omega (arith, l, long))
          ∙ part-number log (16 * f) (16 * n) (8 * j) 8 (omega arith)
          ∙ ap (λ (a : ℕ). u64 log a) at
          ∙ sym (word_at (length log / 8) (2 * f + j) log (omega (arith, l)))
          ∙ sym (get_or-drop (2 * f) (words_of log) j 0))
          ∙ sym (changes-behind f n (words_of log)),
    )

-- the first entries of a log, and the last of these
pub entries-first : (log : List ℕ) (e : ℕ) → e ≤ length log / 16 →
    changes (length (take (16 * e) log) / 16) (words_of (take (16 * e) log)) ≡ changes e (words_of log)
entries-first log e h =
    let all : 0 + e ≡ e = omega arith in
    let p = entries-part log 0 e (omega arith) in
    rw p.0 (p.1 ∙ ap (λ (n : ℕ). changes n (words_of log)) all)

pub entries-last : (log : List ℕ) (e w : ℕ) → e ≤ length log / 16 → w ≤ e →
    let s = take (16 * e - 16 * (e - w)) (drop (16 * (e - w)) log) in
    changes (length s / 16) (words_of s) ≡ drop (e - w) (changes e (words_of log))
entries-last log e w h l =
    let size : 16 * e - 16 * (e - w) ≡ 16 * w = omega arith in
    let all : e - w + w ≡ e = omega arith in
    let p = entries-part log (e - w) w (omega arith) in
    rw (size, p.0) (p.1 ∙ ap (λ (n : ℕ). drop (e - w) (changes n (words_of log))) all)
