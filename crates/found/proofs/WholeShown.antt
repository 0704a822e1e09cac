-- What a run is shown is the beginning of all that its walk would be shown; of a run that is done it is all.
use Prim.Native.Nat.{ℕ, zero, suc, ◌+◌}
use mathlib.Core.Bool.{Bool, true, false}
use mathlib.Core.List.Memᴰ
use mathlib.Core.List.{List, [], ◌∷◌, ◌++◌, Memᴰ}
use mathlib.Core.Logic.{◌⊎◌, inl, inr, ⊎_elim}
use mathlib.Core.Path.{◌≡◌, refl, ap, sym, subst}
use native.Mathlib.Omega.{arith}
use borrow.Author.Tests.{le-leb}
use lib.Dec.{leb, ltb}
use lib.ListN.{length}
use Rattle.std.specs.Prelude.{if◌then◌else◌}
use Rattle.format.specs.Bytes.{part}
use Rattle.format.specs.Blocks.{Block, block_of, overlaps_any, entry_answer}
use Rattle.format.specs.declared.Refusal.{Refusal}
use Rattle.format.specs.Walk.{kind_number, Kind, Length, shown, length_in, Walk, ret, refuse, enter, Outcome, done, refused, if_entered, run}
use Rattle.laws.specs.Shown.{Shown, contents, size, shown_by}
use Rattle.links.proofs.Outcomes.{enter-inside}
use Rattle.found.specs.Covered.{Covered}
use Rattle.found.proofs.Whole.{whole}
use Rattle.found.proofs.WholeApart.{no_length}

module _ (im : List ℕ) where
  -- what is shown among these, or is the length of a block among these
  abbrev pub Begun : List Shown → Shown → Type 0
  Begun ss x = Memᴰ x ss ⊎ Covered im ss x

  covered_more : (ss ts : List Shown) → ((y : Shown) → Memᴰ y ss → Memᴰ y ts) → (x : Shown) → Covered im ss x → Covered im ts x
  covered_more ss ts f (contents v a n) c = f (contents v a n) c
  covered_more ss ts f (size v a l) c = f (contents v a (length_in im v a l)) c

  pub begun_more : (ss ts : List Shown) → ((y : Shown) → Memᴰ y ss → Memᴰ y ts) → (x : Shown) → Begun ss x → Begun ts x
  begun_more ss ts f x (inl m) = inl (f x m)
  begun_more ss ts f x (inr c) = inr (covered_more ss ts f x c)

  -- one block, by its entry
  module _ (x : Shown) (v : Kind) (a : ℕ) (l : Length) (later rest : List Shown) (next : Memᴰ x later → Begun rest x) where
    abbrev first : List Shown
    first = contents v a (length_in im v a l) ∷ rest

    length-begun : Memᴰ x (size v a l ∷ []) → Begun first x
    length-begun i = inr (subst (λ (y : Shown). Covered im first y) (sym (Memᴰ.eq_of_singleton i)) (Memᴰ.head refl))

    block-begun : (t u r : Bool) →
        Memᴰ x (if_entered (if t then if u then 6 else if r then 0 else 13 else 5) (contents v a (length_in im v a l) ∷ later) (λ _. size v a l ∷ [])) →
        Begun (if t then first else size v a l ∷ []) x
    block-begun true true r i = length-begun i
    block-begun true false true i =
        ⊎_elim (λ same. inl (Memᴰ.head same)) (λ m. begun_more rest first (λ y h. Memᴰ.tail h) x (next m)) (Memᴰ.cases_cons i)
    block-begun true false false i = length-begun i
    block-begun false u r i = inl i

  module _ (eof : ℕ) {A : Type 0} where
    pub shown-begun : (w : Walk A) (room : ℕ) (bs : List Block) (x : Shown) → Memᴰ x (shown_by im eof room w bs) → Begun (whole im eof w) x
    unfolding whole shown_by entry_answer
    shown-begun (ret y) room bs x m = absurd (Memᴰ.not-nil m)
    shown-begun (refuse k) room bs x m = absurd (Memᴰ.not-nil m)
    shown-begun (enter v a l k) room bs x m =
        let n = length_in im v a l in
        block-begun x v a l _ _ (shown-begun (k (shown v (part im a n))) room (bs ++ (block_of (kind_number v) a n ∷ [])) x)
        (leb (a + n) eof) (overlaps_any bs a n) (ltb (length bs) room) m

    entered-whole : (n : ℕ) (g : ℕ → Refusal) (c : Shown) (ss ts us : List Shown) (o : Outcome A) (x : A) (bs ms : List Block) →
        if_entered n o (λ m. refused (g m) bs) ≡ done x ms → (o ≡ done x ms → ss ≡ ts) →
        if_entered n (c ∷ ss) (λ _. us) ≡ c ∷ ts
    entered-whole zero g c ss ts us o x bs ms e f = ap (λ (r : List Shown). c ∷ r) (f e)
    entered-whole (suc n) g c ss ts us o x bs ms e f = let z : ◌≡◌ {A = ℕ} 0 1 = cc in absurd (omega arith)

    -- a run that is done is shown all
    pub done-shown : (w : Walk A) (room : ℕ) (bs : List Block) (x : A) (ms : List Block) → run im eof room w bs ≡ done x ms →
        shown_by im eof room w bs ≡ whole im eof w
    unfolding whole shown_by run
    done-shown (ret y) room bs x ms e = refl
    done-shown (refuse k) room bs x ms e = refl
    done-shown (enter v a l k) room bs x ms e =
        let n = length_in im v a l in
        let inside = le-leb (a + n) eof (enter-inside im eof room v a l k bs x ms e) in
        rw inside
        (entered-whole (entry_answer eof room bs a n) _ (contents v a n) _ _ _ _ x bs ms e
        (done-shown (k (shown v (part im a n))) room (bs ++ (block_of (kind_number v) a n ∷ [])) x ms))

  -- among all that a walk is shown whose run is done
  pub begun-covered : (eof : ℕ) {A : Type 0} (w : Walk A) (room : ℕ) (bs : List Block) (x : A) (ms : List Block) → run im eof room w bs ≡ done x ms →
      (y : Shown) → Begun (whole im eof w) y → Covered im (whole im eof w) y
  begun-covered eof w room bs x ms e (contents v a n) (inl m) = m
  begun-covered eof w room bs x ms e (contents v a n) (inr c) = c
  begun-covered eof w room bs x ms e (size v a l) (inl m) = absurd (no_length im eof w room bs x ms e v a l m)
  begun-covered eof w room bs x ms e (size v a l) (inr c) = c
