-- Laws of words as bytes, and of a slice that begins with words.
use mathlib.Core.Path.{◌≡◌, refl, sym, ap, ◌∙◌}
use mathlib.Core.List.{List, [], ◌∷◌, ◌++◌, append_assoc, append-nil}
use Prim.Native.Nat.{ℕ, zero, suc, ◌+◌, ◌-◌, ◌*◌, ◌≤◌, ◌<◌}
use native.Mathlib.Omega.{arith}
use native.Mathlib.Numerals.{add-one}
use lib.ListN.{length, get_or, take, drop, set, replicate, length-append, length-replicate, replicate-append-replicate}
use lib.Seq.{take-suc, take_at, take_all, length-take-le}
use Rattle.format.specs.Bytes.{to_bytes, overwrite, padded}
use Rattle.format.specs.Front.{word_bytes, padded_bytes}
use Rattle.walk.proofs.LittleEndian.{length-to_bytes}
use Rattle.walk.proofs.Overwrite.{length-overwrite, overwrite-split}

-- bytes written one after the other
pub overwrite-append : (b : List ℕ) (a : ℕ) (xs ys : List ℕ) → overwrite b a (xs ++ ys) ≡ overwrite (overwrite b a xs) (a + length xs) ys
unfolding overwrite
overwrite-append b a [] ys = let e : a + 0 ≡ a = omega arith in rw e
overwrite-append b a (x ∷ xs) ys =
    let e : a + 1 + length xs ≡ a + suc (length xs) = omega arith in
    overwrite-append (set b a x) (a + 1) xs ys ∙ rw e

pub word_bytes-append : (xs ys : List ℕ) → word_bytes (xs ++ ys) ≡ word_bytes xs ++ word_bytes ys
unfolding word_bytes
word_bytes-append [] ys = refl
word_bytes-append (x ∷ xs) ys = rw (word_bytes-append xs ys) (sym (append_assoc (to_bytes 8 x) (word_bytes xs) (word_bytes ys)))

pub length-word_bytes : (ws : List ℕ) → length (word_bytes ws) ≡ 8 * length ws
unfolding word_bytes
length-word_bytes [] = refl
length-word_bytes (w ∷ ws) = omega (arith, length-append (to_bytes 8 w) (word_bytes ws), length-to_bytes 8 w, length-word_bytes ws)

pub word_bytes-one : (w : ℕ) → word_bytes (w ∷ []) ≡ to_bytes 8 w
unfolding word_bytes
word_bytes-one w = append-nil (to_bytes 8 w)

-- words that are zeros
zeros-bytes : (n : ℕ) → word_bytes (replicate n 0) ≡ replicate (8 * n) 0
unfolding word_bytes to_bytes
zeros-bytes zero = refl
zeros-bytes (suc n) =
    let e : 8 * suc n ≡ 8 + 8 * n = omega arith in
    rw (zeros-bytes n, e) (replicate-append-replicate 8 (8 * n) 0)

-- words padded with words, and then with bytes
pub padded-twice : (n k : ℕ) (ws : List ℕ) → length ws ≤ k → 8 * k ≤ n → padded_bytes n (padded k ws) ≡ padded_bytes n ws
padded-twice n k ws h l =
    let z : List ℕ = replicate (k - length ws) 0 in
    let a : length (ws ++ z) ≡ k = omega (arith, length-append ws z, length-replicate {A = ℕ} (k - length ws) 0) in
    let b : length (word_bytes (ws ++ z)) ≡ 8 * k = length-word_bytes (ws ++ z) ∙ rw a in
    let d : 8 * (k - length ws) + (n - 8 * k) ≡ n - length (word_bytes ws) = omega (arith, length-word_bytes ws) in
    rw (
      b,
      word_bytes-append ws z,
      zeros-bytes (k - length ws),
      append_assoc (word_bytes ws),
      replicate-append-replicate {A = ℕ} (8 * (k - length ws))
          (n - 8 * k) 0,
      d,
    )

-- zeros alone
pub padded-zeros : (n k : ℕ) → 8 * k ≤ n → padded_bytes n (replicate k 0) ≡ replicate n 0
unfolding word_bytes
padded-zeros n k l =
    let e : k - 0 ≡ k = omega arith in
    let f : n - 0 ≡ n = omega arith in
    ap (λ (i : ℕ). padded_bytes n (replicate i 0)) (sym e) ∙ padded-twice n k [] (omega arith) l ∙ rw f

-- the bytes begin with the words
pub record Begins (out ws : List ℕ) : Type 0 where
  pub fits : 8 * length ws ≤ length out
  pub begin : take (8 * length ws) out ≡ word_bytes ws

pub begins-none : (out : List ℕ) → Begins out []
unfolding word_bytes
begins-none out = record { fits = omega arith; begin = refl }

-- words written behind them
pub begins-more : (out ws vs : List ℕ) (at : ℕ) → Begins out ws → at ≡ 8 * length ws → at + 8 * length vs ≤ length out →
    Begins (overwrite out at (word_bytes vs)) (ws ++ vs)
begins-more out ws vs at b e h =
    let n : length (word_bytes vs) ≡ 8 * length vs = length-word_bytes vs in
    let m : length (ws ++ vs) ≡ length ws + length vs = length-append ws vs in
    let t : take at out ≡ word_bytes ws = rw e b.begin in
    let s : overwrite out at (word_bytes vs) ≡ word_bytes ws ++ word_bytes vs ++ drop (at + length (word_bytes vs)) out =
    overwrite-split out at (word_bytes vs) (omega arith) ∙ rw t in
    let k : length (word_bytes ws ++ word_bytes vs) ≡ 8 * length (ws ++ vs) =
    omega (arith, length-append (word_bytes ws) (word_bytes vs), length-word_bytes ws) in
    record {
      fits = omega (arith, length-overwrite out at (word_bytes vs));
      begin =
          ap (take (8 * length (ws ++ vs))) s
          ∙ take_at (word_bytes ws ++ word_bytes vs) (drop (at + length (word_bytes vs)) out) (8 * length (ws ++ vs)) k
          ∙ sym (word_bytes-append ws vs);
    }

-- with zeros behind them it is the padded list
pub begins-padded : (out ws : List ℕ) (at : ℕ) → Begins out ws → at ≡ 8 * length ws →
    take at out ++ replicate (length out - at) 0 ≡ padded_bytes (length out) ws
begins-padded out ws at b e = rw (e, b.begin, length-word_bytes ws)

-- the next of the words written, and all of them
pub begins-next : (ws out out' : List ℕ) (i : ℕ) → Begins out (take i ws) → i < length ws → 8 * length ws ≤ length out →
    out' ≡ overwrite out (8 * i) (to_bytes 8 (get_or ws i 0)) → Begins out' (take (i + 1) ws)
begins-next ws out out' i b h k e =
    let n : length (take i ws) ≡ i = length-take-le i ws (omega arith) in
    rw (e, add-one i, take-suc ws i 0 h, ← (word_bytes-one (get_or ws i 0))) (begins-more out (take i ws) (get_or ws i 0 ∷ []) (8 * i) b (omega arith)
    (omega arith))

pub begins-all : (ws out out' : List ℕ) (i n : ℕ) → Begins out (take i ws) → i ≡ length ws → length out ≡ n →
    out' ≡ take (8 * i) out ++ replicate (length out - 8 * i) 0 → out' ≡ padded_bytes n ws
begins-all ws out out' i n b e l f =
    let t : take i ws ≡ ws = take_all i ws (omega arith) in
    let d : Begins out ws = rw t at b in
    f ∙ rw (← l) (begins-padded out ws (8 * i) d (omega arith))
