-- What an undo writes stays: a field whose change is undone holds the old count at the end.
use Prim.Native.Nat.{ℕ}
use mathlib.Core.List.Memᴰ
use mathlib.Core.List.{List, [], ◌∷◌, Memᴰ}
use mathlib.Core.Logic.{⊎_elim}
use mathlib.Core.Path.{refl, ap, sym, ◌∙◌}
use native.Mathlib.Omega.{arith}
use Rattle.format.specs.Bytes.{to_bytes}
use Rattle.format.specs.Log.{Change, restored}
use Rattle.demand.specs.Bytes.{HoldsCount}
use Rattle.demand.specs.Fields.{Fields}
use Rattle.demand.specs.State.{State}
use Rattle.demand.proofs.Among.{Among}
use Rattle.demand.proofs.Puts.{put-held}
use Rattle.demand.proofs.States.{put-field, state-restored}

module _ (im : List ℕ) (eof : ℕ) (cs : List Change) (f : Fields im eof cs) where
  -- the fields of all changes undone hold the old counts
  pub old-held : (im' : List ℕ) → State im cs im' → (ds : List Change) → Among ds cs → (c : Change) → Memᴰ c ds →
      HoldsCount (restored im' ds) c.field c.old
  unfolding restored
  old-held im' s [] a c m = absurd (Memᴰ.not-nil m)
  old-held im' s (d ∷ ds) a c m =
      let n = a d (Memᴰ.head refl) in
      let rest : Among ds cs = λ e i. a e (Memᴰ.tail i) in
      let before = state-restored im eof cs f im' s ds rest in
      let later = old-held im' s ds rest c in
      ⊎_elim
      (λ here. here.1 ∙ ap (λ (y : Change). to_bytes 4 y.old) (sym here.0))
      (λ same.
      ⊎_elim
      (λ is. rw is (put-held (restored im' ds) d.field d.old (omega (arith, f.image d n, before.same_length))))
      (λ i. same ∙ later i) (Memᴰ.cases_cons m))
      (put-field im eof cs f (restored im' ds) before c d (a c m) n d.old)
