-- What a mend writes stays: a field whose change is written holds the new count at the end.
use Prim.Native.Nat.{ℕ}
use mathlib.Core.List.Memᴰ
use mathlib.Core.List.{List, [], ◌∷◌, Memᴰ}
use mathlib.Core.Logic.{inr, ⊎_elim}
use mathlib.Core.Path.{refl, ap, sym, ◌∙◌}
use native.Mathlib.Omega.{arith}
use Rattle.format.specs.Bytes.{to_bytes}
use Rattle.format.specs.Log.{Change, put_count, written}
use Rattle.demand.specs.Bytes.{HoldsCount}
use Rattle.demand.specs.Fields.{Fields}
use Rattle.demand.specs.State.{State}
use Rattle.demand.proofs.Among.{Among}
use Rattle.demand.proofs.Puts.{put-held}
use Rattle.demand.proofs.States.{put-field, state-put}

module _ (im : List ℕ) (eof : ℕ) (cs : List Change) (f : Fields im eof cs) where
  -- a field that holds the new count, while further new counts are written
  new-kept : (im' : List ℕ) → State im cs im' → (c : Change) → Memᴰ c cs → (ds : List Change) → Among ds cs → HoldsCount im' c.field c.new →
      HoldsCount (written im' ds) c.field c.new
  unfolding written
  new-kept im' s c m [] a h = h
  new-kept im' s c m (d ∷ ds) a h =
      let n = a d (Memᴰ.head refl) in
      new-kept (put_count im' d.field d.new) (state-put im eof cs f im' s d n d.new (inr refl)) c m ds (λ e i. a e (Memᴰ.tail i))
      (⊎_elim (λ here. here.1 ∙ ap (λ (y : Change). to_bytes 4 y.new) (sym here.0)) (λ same. same ∙ h) (put-field im eof cs f im' s c d m n d.new))

  -- the fields of all changes written hold the new counts
  pub new-held : (im' : List ℕ) → State im cs im' → (ds : List Change) → Among ds cs → (c : Change) → Memᴰ c ds →
      HoldsCount (written im' ds) c.field c.new
  unfolding written
  new-held im' s [] a c m = absurd (Memᴰ.not-nil m)
  new-held im' s (d ∷ ds) a c m =
      let n = a d (Memᴰ.head refl) in
      let next = state-put im eof cs f im' s d n d.new (inr refl) in
      let rest : Among ds cs = λ e i. a e (Memᴰ.tail i) in
      ⊎_elim
      (λ same.
      new-kept (put_count im' d.field d.new) next c (a c m) ds rest
      (rw same (put-held im' d.field d.new (omega (arith, f.image d n, s.same_length)))))
      (λ i. new-held (put_count im' d.field d.new) next ds rest c i) (Memᴰ.cases_cons m)
