-- Laws of the lines that the command prints: the bytes they take, one line more, and the whole.
use Prim.Native.Nat.{ℕ, zero, suc, ◌+◌, ◌*◌}
use mathlib.Core.List.{List, [], ◌∷◌, ◌++◌, append_assoc}
use mathlib.Core.Path.{◌≡◌, refl, ap, sym, ◌∙◌}
use native.Mathlib.Omega.{arith}
use native.Mathlib.Numerals.{one-add, add-one}
use lib.ListN.{length, get_or, drop, set, length-append}
use lib.Seq.{append_snoc, get_or-drop}
use Rattle.format.specs.Bytes.{overwrite}
use Rattle.format.specs.Audit.{Counted}
use Rattle.format.specs.Command.{hex, object_lines, lines}
use Rattle.ledger.specs.Report.{counted_places}
use Rattle.output.specs.Text.{first_line, object_line}
use Rattle.output.proofs.OverwriteLaws.{overwrite-append, length-hex}

-- the first line, and an object's line, written in parts
pub first-written : (b : List ℕ) (answer objects : ℕ) →
    set (overwrite (overwrite b 0 (hex 8 answer)) 8 (hex 8 objects)) 16 0x0a ≡ overwrite b 0 (first_line answer objects)
unfolding overwrite
first-written b answer objects =
    sym (overwrite-append b 0 (hex 8 answer ++ hex 8 objects) (0x0a ∷ []) ∙ rw
    (overwrite-append b 0 (hex 8 answer) (hex 8 objects), length-append, length-hex, length-hex))

pub object-written : (b : List ℕ) (a address stored links : ℕ) →
    set (overwrite (overwrite (overwrite b a (hex 16 address)) (a + 16) (hex 8 stored)) (a + 24) (hex 8 links)) (a + 32) 0x0a ≡ overwrite b a
    (object_line address stored links)
unfolding overwrite object_lines
object-written b a address stored links =
    let d = hex 16 address ++ hex 8 stored in
    sym (overwrite-append b a (d ++ hex 8 links) (0x0a ∷ [])
    ∙ rw (overwrite-append b a d (hex 8 links), overwrite-append b a (hex 16 address) (hex 8 stored))
    (simp (length-append, length-hex)))

length-first : (answer objects : ℕ) → length (first_line answer objects) ≡ 17
length-first answer objects = simp (length-append, length-hex)

length-objects : (os : List Counted) → length (object_lines os) ≡ 33 * length os
unfolding object_lines
length-objects [] = refl
length-objects (o ∷ os) = simp (length-append, length-hex) (omega (arith, length-objects os))

objects-append : (os ps : List Counted) → object_lines (os ++ ps) ≡ object_lines os ++ object_lines ps
unfolding object_lines
objects-append [] ps = refl
objects-append (o ∷ os) ps =
    rw (objects-append os ps)
    (sym (append_assoc (hex 16 o.address ++ hex 8 o.stored_count ++ hex 8 o.true_count) (0x0a ∷ object_lines os) (object_lines ps)))

-- one place more is one object more
pub length-places : (n : ℕ) (xs ss ts : List ℕ) → length (counted_places n xs ss ts) ≡ n
unfolding counted_places
length-places zero xs ss ts = refl
length-places (suc n) xs ss ts = ap suc (length-places n (drop 1 xs) (drop 1 ss) (drop 1 ts))

places-last : (n : ℕ) (xs ss ts : List ℕ) →
    counted_places (suc n) xs ss ts ≡ counted_places n xs ss ts
    ++ (record { address = get_or xs n 0; stored_count = get_or ss n 0; true_count = get_or ts n 0 } ∷ [])
unfolding counted_places
places-last zero xs ss ts = refl
places-last (suc n) xs ss ts =
    rw (places-last n (drop 1 xs) (drop 1 ss) (drop 1 ts), get_or-drop, get_or-drop, get_or-drop, one-add)

-- the lines of n objects, then of the next
pub line-written : (b : List ℕ) (a n : ℕ) (xs ss ts : List ℕ) →
    overwrite (overwrite b a (object_lines (counted_places n xs ss ts))) (a + 33 * n) (object_line (get_or xs n 0) (get_or ss n 0) (get_or ts n 0))
    ≡ overwrite b a (object_lines (counted_places (n + 1) xs ss ts))
line-written b a n xs ss ts =
    let os = counted_places n xs ss ts in
    let l : length (object_lines os) ≡ 33 * n = length-objects os ∙ ap (λ (k : ℕ). 33 * k) (length-places n xs ss ts) in
    rw (add-one, places-last n xs ss ts, objects-append, overwrite-append, l)

-- the whole: its bytes, and its two parts written one behind the other
lines_split : (n : ℕ) (os : List Counted) → lines n os ≡ first_line n (length os) ++ object_lines os
unfolding lines
lines_split n os = sym (append_snoc (hex 8 n ++ hex 8 (length os)) 0x0a (object_lines os))

pub length-lines : (n : ℕ) (os : List Counted) → length (lines n os) ≡ 17 + 33 * length os
length-lines n os = rw (lines_split n os, length-append, length-first, length-objects)

pub lines-written : (b : List ℕ) (n : ℕ) (os : List Counted) →
    overwrite (overwrite b 0 (first_line n (length os))) 17 (object_lines os) ≡ overwrite b 0 (lines n os)
lines-written b n os = sym (rw lines_split (overwrite-append b 0 (first_line n (length os)) (object_lines os) ∙ rw length-first))
