-- Words read back from their bytes: "there a word is 8 little-endian bytes".
use Prim.Native.Nat.{ℕ, zero, suc, ◌*◌, ◌/◌, ◌-◌, ◌^◌, ◌≤◌, ◌<◌}
use mathlib.Core.List.{List, [], ◌∷◌, ◌++◌, append_assoc}
use mathlib.Core.Path.{◌≡◌, refl}
use native.Mathlib.Omega.{arith}
use lib.ListN.{length, take, drop, replicate, length-append, length-replicate}
use lib.Seq.{take_at, drop_at}
use Rattle.format.specs.Bytes.{little_endian, to_bytes, u64, to_words, padded}
use Rattle.format.specs.Front.{word_bytes, padded_bytes}
use Rattle.walk.proofs.LittleEndian.{length-to_bytes, little_endian-to_bytes}
use Rattle.words.proofs.Words.{length-word_bytes}
use Rattle.claims.specs.CDemand3.{IsWords}

-- bytes that are zeros
zeros-number : (k m : ℕ) → little_endian (take k (replicate m 0)) ≡ 0
unfolding little_endian
zeros-number zero m = refl
zeros-number (suc k) zero = refl
zeros-number (suc k) (suc m) = rw (zeros-number k m)

drop-zeros : (k m : ℕ) → drop k (replicate {A = ℕ} m 0) ≡ replicate (m - k) 0
drop-zeros zero m = let e : m - 0 ≡ m = omega arith in rw e
drop-zeros (suc k) zero = let e : 0 - suc k ≡ 0 = omega arith in rw e
drop-zeros (suc k) (suc m) = let e : suc m - suc k ≡ m - k = omega arith in rw (e, drop-zeros k m)

zeros-words : (n m : ℕ) → to_words n (replicate m 0) ≡ replicate n 0
unfolding to_words
zeros-words zero m = refl
zeros-words (suc n) m = rw (zeros-number 8 m, drop-zeros 8 m, zeros-words n (m - 8))

-- the first word of bytes that begin with it
pub first_word : (w : ℕ) (bs : List ℕ) → w < 2 ^ 64 → u64 (to_bytes 8 w ++ bs) 0 ≡ w
first_word w bs h = rw (take_at (to_bytes 8 w) bs 8 (length-to_bytes 8 w)) (little_endian-to_bytes 8 w h)

words-read : (n : ℕ) (ws : List ℕ) (m : ℕ) → IsWords ws → length ws ≤ n → to_words n (word_bytes ws ++ replicate m 0) ≡ padded n ws
unfolding to_words word_bytes
words-read n [] m h l = let e : n - 0 ≡ n = omega arith in rw e (zeros-words n m)
words-read zero (w ∷ ws) m h l = absurd (omega arith)
words-read (suc n) (w ∷ ws) m h l =
    let rest = word_bytes ws ++ replicate m 0 in
    let e : suc n - suc (length ws) ≡ n - length ws = omega arith in
    let first = first_word w rest (h 0) in
    let behind = drop_at (to_bytes 8 w) rest 8 (length-to_bytes 8 w) in
    rw (append_assoc (to_bytes 8 w) (word_bytes ws) (replicate m 0), first, behind, words-read n ws m (λ k. h (suc k)) (omega arith), e)

pub padded-bytes-length : (g : ℕ) (ws : List ℕ) → 8 * length ws ≤ g → length (padded_bytes g ws) ≡ g
padded-bytes-length g ws l = simp (length-append, length-replicate) (omega (arith, length-word_bytes ws))

-- a slice's words, read from the bytes that were left in it, are the words put there and zeros behind them
pub slice-words : (g : ℕ) (ws : List ℕ) → IsWords ws → length ws ≤ g / 8 → to_words (g / 8) (padded_bytes g ws) ≡ padded (g / 8) ws
slice-words g ws h l = words-read (g / 8) ws (g - length (word_bytes ws)) h l

-- the second of the words of a slice
pub second_word : (r x y : ℕ) (ws : List ℕ) → y < 2 ^ 64 → u64 (padded_bytes r (x ∷ y ∷ ws)) 8 ≡ y
unfolding word_bytes
second_word r x y ws h =
    let zs : List ℕ = replicate (r - length (to_bytes 8 x ++ (to_bytes 8 y ++ word_bytes ws))) 0 in
    let behind = drop_at (to_bytes 8 x) ((to_bytes 8 y ++ word_bytes ws) ++ zs) 8 (length-to_bytes 8 x) in
    rw (append_assoc (to_bytes 8 x) (to_bytes 8 y ++ word_bytes ws) zs, behind, append_assoc (to_bytes 8 y) (word_bytes ws) zs)
    (first_word y (word_bytes ws ++ zs) h)
