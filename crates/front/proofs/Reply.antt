-- Laws of the reply's words.
use Prim.Native.Nat.{ℕ, zero, suc, ◌+◌, ◌-◌, ◌*◌, ◌≤◌, ◌<◌}
use mathlib.Core.Path.{◌≡◌, refl, ap, ◌∙◌}
use mathlib.Core.List.{List, [], ◌∷◌, ◌++◌}
use native.Mathlib.Omega.{arith}
use native.Mathlib.Numerals.{add-one}
use lib.ListN.{length, get_or, take, drop, replicate, length-append}
use lib.Seq.{get_or-drop, take-suc, take_all, length-take-le}
use Rattle.format.specs.Bytes.{to_bytes, overwrite}
use Rattle.format.specs.Front.{word_bytes, padded_bytes, object_words}
use Rattle.ledger.specs.Report.{counted_places}
use Rattle.walk.proofs.Overwrite.{length-overwrite}
use Rattle.words.proofs.Words.{overwrite-append, word_bytes-one, length-word_bytes, word_bytes-append, Begins, begins-none, begins-more, begins-padded}

-- a slice whose every byte from the first on was cleared
pub all-zero : (l m : List ℕ) → m ≡ take 0 l ++ replicate (length l - 0) 0 → m ≡ replicate (length l) 0
all-zero l m e = let z : length l - 0 ≡ length l = omega arith in rw z at e

pub length-places : (n : ℕ) (xs ss ts : List ℕ) → length (counted_places n xs ss ts) ≡ n
unfolding counted_places
length-places zero xs ss ts = refl
length-places (suc n) xs ss ts = ap suc (length-places n (drop 1 xs) (drop 1 ss) (drop 1 ts))

-- the words of the first n objects
abbrev pub places : ℕ → List ℕ → List ℕ → List ℕ → List ℕ
places n xs ss ts = object_words (counted_places n xs ss ts)

pub length-words : (n : ℕ) (xs ss ts : List ℕ) → length (places n xs ss ts) ≡ 3 * n
unfolding counted_places object_words
length-words zero xs ss ts = refl
length-words (suc n) xs ss ts = omega (arith, length-words n (drop 1 xs) (drop 1 ss) (drop 1 ts))

-- one object more
pub words_more : (n : ℕ) (xs ss ts : List ℕ) → places (suc n) xs ss ts ≡ places n xs ss ts ++ (get_or xs n 0 ∷ get_or ss n 0 ∷ get_or ts n 0 ∷ [])
unfolding counted_places object_words
words_more zero xs ss ts = refl
words_more (suc n) xs ss ts =
    let e : 1 + n ≡ suc n = omega arith in
    rw (words_more n (drop 1 xs) (drop 1 ss) (drop 1 ts), get_or-drop 1 xs n 0, get_or-drop 1 ss n 0, get_or-drop 1 ts n 0, e)

-- a word written, alone and behind others
pub put_first : (b b' : List ℕ) (a w : ℕ) → b' ≡ overwrite b a (to_bytes 8 w) → b' ≡ overwrite b a (word_bytes (w ∷ []))
put_first b b' a w e = rw (word_bytes-one w) e

pub put_next : (b b' b'' vs : List ℕ) (a at w : ℕ) → b' ≡ overwrite b a (word_bytes vs) → at ≡ a + 8 * length vs → b'' ≡ overwrite b' at (to_bytes 8 w) →
    b'' ≡ overwrite b a (word_bytes (vs ++ (w ∷ [])))
put_next b b' b'' vs a at w e h f =
    let n : a + length (word_bytes vs) ≡ at = omega (arith, length-word_bytes vs) in
    f ∙ rw (e, word_bytes-append vs (w ∷ []), word_bytes-one w, overwrite-append b a (word_bytes vs) (to_bytes 8 w), n)

-- words written one after the other: the next of them, and all
pub put-more : (b b' b'' ws : List ℕ) (a i : ℕ) → b' ≡ overwrite b a (word_bytes (take i ws)) → i < length ws →
    b'' ≡ overwrite b' (a + 8 * i) (to_bytes 8 (get_or ws i 0)) →
    b'' ≡ overwrite b a (word_bytes (take (i + 1) ws))
put-more b b' b'' ws a i e h f =
    let n : length (take i ws) ≡ i = length-take-le i ws (omega arith) in
    rw (add-one i, take-suc ws i 0 h) (put_next b b' b'' (take i ws) a (a + 8 * i) (get_or ws i 0) e (omega arith) f)

pub put_all : (b b' ws : List ℕ) (a i : ℕ) → b' ≡ overwrite b a (word_bytes (take i ws)) → length ws ≤ i → b' ≡ overwrite b a (word_bytes ws)
put_all b b' ws a i e h = rw (take_all i ws h) at e

-- the words of a description: two, then the sizes and the maxima of 32 dimensions, then eight, and zeros behind them
pub description-bytes : (b b₁ b₂ b₃ b₄ b₅ : List ℕ) (u v : ℕ) (sizes maxima last : List ℕ) → length sizes ≡ 32 → length maxima ≡ 32 → length last ≡ 8 →
    592 ≤ length b →
    b₁ ≡ overwrite b 0 (word_bytes (u ∷ v ∷ [])) → b₂ ≡ overwrite b₁ 16 (word_bytes sizes) → b₃ ≡ overwrite b₂ 272 (word_bytes maxima) →
    b₄ ≡ overwrite b₃ 528 (word_bytes last) →
    b₅ ≡ take 592 b₄ ++ replicate (length b₄ - 592) 0 → b₅ ≡ padded_bytes (length b) (u ∷ v ∷ (sizes ++ maxima ++ last))
description-bytes b b₁ b₂ b₃ b₄ b₅ u v sizes maxima last m n k h e₁ e₂ e₃ e₄ e₅ =
    let l₁ : length b₁ ≡ length b = rw e₁ (length-overwrite b 0 (word_bytes (u ∷ v ∷ []))) in
    let l₂ : length b₂ ≡ length b = rw e₂ (length-overwrite b₁ 16 (word_bytes sizes)) ∙ l₁ in
    let l₃ : length b₃ ≡ length b = rw e₃ (length-overwrite b₂ 272 (word_bytes maxima)) ∙ l₂ in
    let l₄ : length b₄ ≡ length b = rw e₄ (length-overwrite b₃ 528 (word_bytes last)) ∙ l₃ in
    let g₁ : Begins b₁ (u ∷ v ∷ []) = rw e₁ (begins-more b [] (u ∷ v ∷ []) 0 (begins-none b) refl (omega arith)) in
    let g₂ : Begins b₂ (u ∷ v ∷ sizes) = rw e₂ (begins-more b₁ (u ∷ v ∷ []) sizes 16 g₁ refl (omega arith)) in
    let g₃ : Begins b₃ (u ∷ v ∷ (sizes ++ maxima)) = rw e₃ (begins-more b₂ (u ∷ v ∷ sizes) maxima 272 g₂ (omega arith) (omega arith)) in
    let g₄ : Begins b₄ (u ∷ v ∷ (sizes ++ maxima ++ last)) =
    rw e₄ (begins-more b₃ (u ∷ v ∷ (sizes ++ maxima)) last 528 g₃ (omega (arith, length-append sizes maxima)) (omega arith)) in
    let z = begins-padded b₄ (u ∷ v ∷ (sizes ++ maxima ++ last)) 592 g₄ (omega (arith, length-append (sizes ++ maxima) last, length-append sizes maxima)) in
    e₅ ∙ z ∙ rw l₄

-- The reply while it is written: the two counts c and n, one object more, and zeros behind the last.
module _ (c n : ℕ) (xs ss ts : List ℕ) where
  -- the words of the counts and of the first i objects
  abbrev pub reply_words : ℕ → List ℕ
  reply_words i = c ∷ n ∷ places i xs ss ts

  pub reply-start : (b b' b'' : List ℕ) → 16 ≤ length b → b' ≡ overwrite b 0 (to_bytes 8 c) → b'' ≡ overwrite b' 8 (to_bytes 8 n) → Begins b'' (reply_words 0)
  unfolding counted_places object_words
  reply-start b b' b'' h e f =
      let g : b'' ≡ overwrite b 0 (word_bytes (c ∷ n ∷ [])) = put_next b b' b'' (c ∷ []) 0 8 n (put_first b b' 0 c e) refl f in
      rw g (begins-more b [] (c ∷ n ∷ []) 0 (begins-none b) refl (omega arith))

  pub reply-more : (b b' : List ℕ) (i : ℕ) → Begins b (reply_words i) → 16 + 24 * i + 24 ≤ length b →
      b' ≡ overwrite b (16 + 24 * i) (word_bytes (get_or xs i 0 ∷ get_or ss i 0 ∷ get_or ts i 0 ∷ [])) → Begins b' (reply_words (i + 1))
  reply-more b b' i g h e =
      let k : length (places i xs ss ts) ≡ 3 * i = length-words i xs ss ts in
      rw (e, add-one i, words_more i xs ss ts)
      (begins-more b (reply_words i) (get_or xs i 0 ∷ get_or ss i 0 ∷ get_or ts i 0 ∷ []) (16 + 24 * i) g (omega arith) (omega arith))

  pub reply-end : (b b' : List ℕ) (i l : ℕ) → Begins b (reply_words i) → i ≡ n → length b ≡ l →
      b' ≡ take (16 + 24 * i) b ++ replicate (length b - (16 + 24 * i)) 0 → b' ≡ padded_bytes l (reply_words n)
  reply-end b b' i l g e k f =
      let m : length (places i xs ss ts) ≡ 3 * i = length-words i xs ss ts in
      f ∙ begins-padded b (reply_words i) (16 + 24 * i) g (omega arith) ∙ rw (k, e)
