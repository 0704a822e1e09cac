-- An undo, with the log of a mend, of a state: it is done for any number of entries that the log has, and leaves a state; any other is refused, and
-- changes nothing.
use Prim.Native.Nat.{ℕ, ◌+◌, ◌-◌, ◌*◌, ◌≤◌, ◌<◌, min}
use mathlib.Core.Bool.{Bool, true, false, not, ◌||◌}
use mathlib.Core.List.{List, [], ◌∷◌, Memᴰ}
use mathlib.Core.Logic.{⊎_elim}
use mathlib.Core.Path.{◌≡◌, refl, ap, ◌∙◌}
use native.Mathlib.Omega.{arith}
use borrow.Author.Tests.{leb-true, leb-false, le-leb, eq-eqb}
use lib.Dec.{leb, eqb}
use lib.ListN.{length, take, drop}
use lib.Seq.{take_all}
use Rattle.format.specs.Limits.{image_least, image_most}
use Rattle.std.specs.Prelude.{if◌then◌else◌}
use Rattle.format.specs.Bytes.{in_range, u32, padded}
use Rattle.format.specs.Log.{Change, log_words, changes, restored}
use Rattle.format.specs.Undo.{fits, all_fit, undo_number, undone}
use Rattle.format.specs.Answers.{undo_end, undo}
use Rattle.demand.specs.Bytes.{IsBytes}
use Rattle.demand.specs.Fields.{Fields, Small}
use Rattle.demand.specs.State.{State}
use Rattle.demand.proofs.Puts.{count-read}
use Rattle.demand.proofs.LogRead.{padded-length, log-first, log-fits}
use Rattle.demand.proofs.Among.{Among, take-among, drop-among}
use Rattle.demand.proofs.States.{state-restored}
use Rattle.demand.proofs.FullUndo.{restored-all}

or_left : (t u : Bool) → t ≡ true → (t || u) ≡ true
or_left t u e = rw e

or_right : (t u : Bool) → u ≡ true → (t || u) ≡ true
or_right true u e = refl
or_right false u e = e

-- an undo that is done
zero_number : (im log : List ℕ) (e : ℕ) → in_range image_least image_most (length im) ≡ true → 2 * e ≤ length log → all_fit im (changes e log) ≡ true →
    undo_number im log e ≡ 0
unfolding undo_number
zero_number im log e range enough fit = rw (range, le-leb (2 * e) (length log) enough, fit)

-- an undo whose entries don't all fit
refused-number : (im log : List ℕ) (e : ℕ) → in_range image_least image_most (length im) ≡ true → (all_fit im (changes e log) ≡ true → ⊥) →
    undo_number im log e ≡ (if leb (2 * e) (length log) then 19 else 18)
unfolding undo_number
refused-number im log e range none = rw range (go (leb (2 * e) (length log)) (all_fit im (changes e log)) refl)
  where
    go : (t v : Bool) → all_fit im (changes e log) ≡ v → ◌≡◌ {A = ℕ} (if not t then 18 else if v then 0 else 19) (if t then 19 else 18)
    go true true h = absurd (none h)
    go true false h = refl
    go false v h = refl

-- the reply by the number
undo-by : (im log : List ℕ) (e n k : ℕ) → undo_number im log e ≡ k → undo im log e n ≡ undo_end im log e n k
unfolding undo
undo-by im log e n k z = ap (undo_end im log e n) z

module _ (im : List ℕ) (eof : ℕ) (cs : List Change) (f : Fields im eof cs) (small : Small cs) (log_lent : ℕ) (room : 2 * length cs ≤ log_lent) where
  abbrev log : List ℕ
  log = padded log_lent (log_words cs)

  fit-one : (im' : List ℕ) → State im cs im' → (c : Change) → Memᴰ c cs → fits im' c ≡ true
  unfolding fits
  fit-one im' s c m =
      let inside : leb (c.field + 4) (length im') ≡ true = le-leb (c.field + 4) (length im') (omega (arith, f.image c m, s.same_length)) in
      rw inside
      (⊎_elim (λ h. or_left _ _ (eq-eqb (u32 im' c.field) c.old (count-read im' c.field c.old h (small.old c m))))
      (λ h. or_right (eqb (u32 im' c.field) c.old) _ (eq-eqb (u32 im' c.field) c.new (count-read im' c.field c.new h (small.new c m))))
      (s.held c m))

  fit_all : (im' : List ℕ) → State im cs im' → (ds : List Change) → Among ds cs → all_fit im' ds ≡ true
  unfolding all_fit
  fit_all im' s [] a = refl
  fit_all im' s (d ∷ ds) a = rw (fit-one im' s d (a d (Memᴰ.head refl))) (fit_all im' s ds (λ c i. a c (Memᴰ.tail i)))

  module _ (im' : List ℕ) (s : State im cs im') (range : in_range image_least image_most (length im') ≡ true) (first : u32 im' 0 ≡ 0 → ⊥) where
    undo-number : (e : ℕ) → e ≤ length cs → undo_number im' log e ≡ 0
    undo-number e l =
        zero_number im' log e range (omega (arith, padded-length log_lent cs room))
        (rw (log-first log_lent cs small e l) (fit_all im' s (take e cs) (take-among e cs)))

    -- an undo of no more entries than the log has is done: it writes the old counts of the last n of these
    pub undo-reply : (e n : ℕ) → e ≤ length cs →
        undo im' log e n ≡ record { number = 0; writes = min n e; image = restored im' (drop (e - min n e) (take e cs)) }
    unfolding undone
    undo-reply e n l = undo-by im' log e n 0 (undo-number e l) ∙ rw (log-first log_lent cs small e l)

    -- entries behind the last are refused, and nothing is changed
    pub undo-refused : (e n : ℕ) → length cs < e → undo im' log e n ≡ record { number = if leb (2 * e) log_lent then 19 else 18; writes = 0; image = im' }
    undo-refused e n l =
        let none : all_fit im' (changes e log) ≡ true → ⊥ = λ h. omega (arith, log-fits im' first cs (log_lent - length (log_words cs)) e h) in
        let number : undo_number im' log e ≡ (if leb (2 * e) log_lent then 19 else 18) =
        rw (padded-length log_lent cs room) at (refused-number im' log e range none) in
        undo-by im' log e n (if leb (2 * e) log_lent then 19 else 18) number ∙ go (leb (2 * e) log_lent)
      where
        go : (t : Bool) → undo_end im' log e n (if t then 19 else 18) ≡ record { number = if t then 19 else 18; writes = 0; image = im' }
        go true = refl
        go false = refl

    -- whatever the number of entries and the limit, a state is left
    pub undo-state : (e n : ℕ) → State im cs (undo im' log e n).image
    undo-state e n = go (leb e (length cs)) refl
      where
        go : (t : Bool) → leb e (length cs) ≡ t → State im cs (undo im' log e n).image
        go true l =
            rw (undo-reply e n (leb-true e (length cs) l))
            (state-restored im eof cs f im' s (drop (e - min n e) (take e cs)) (λ d i. take-among e cs d (drop-among (e - min n e) (take e cs) d i)))
        go false l = rw (undo-refused e n (leb-false e (length cs) l)) s

    -- a full undo gives the image back
    pub undo-full : IsBytes im → (n : ℕ) → length cs ≤ n → undo im' log (length cs) n ≡ record { number = 0; writes = length cs; image = im }
    undo-full b n l =
        let all : take (length cs) cs ≡ cs = take_all (length cs) cs (omega arith) in
        let each : min n (length cs) ≡ length cs = omega arith in
        let none : length cs - length cs ≡ 0 = omega arith in
        undo-reply (length cs) n (omega arith) ∙ rw (each, none, all, restored-all im eof cs f b im' s)
