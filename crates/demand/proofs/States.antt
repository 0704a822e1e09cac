-- The image is a state, and every write of a mend or an undo leads from a state to a state.
use Prim.Native.Nat.{ℕ}
use mathlib.Core.List.{List, [], ◌∷◌, Memᴰ}
use mathlib.Core.Logic.{◌⊎◌, inl, inr, ⊎_elim}
use mathlib.Core.Path.{◌≡◌, refl, ap, sym, ◌∙◌}
use native.Mathlib.Omega.{arith}
use Rattle.format.specs.Bytes.{part, to_bytes}
use Rattle.format.specs.Log.{Change, put_count, written, restored}
use Rattle.demand.specs.Bytes.{IsBytes, HoldsCount}
use Rattle.demand.specs.Fields.{Fields}
use Rattle.demand.specs.State.{State}
use Rattle.demand.proofs.Among.{Among}
use Rattle.demand.proofs.BytesBack.{count_held}
use Rattle.demand.proofs.Puts.{put-length, put-held, put-beside, put-elsewhere}

module _ (im : List ℕ) (eof : ℕ) (cs : List Change) (f : Fields im eof cs) where
  -- the image itself
  pub state-first : IsBytes im → State im cs im
  state-first b = record {
    same_length = refl;
    held = λ c m. inl (count_held im b c.field (omega (arith, f.image c m)) ∙ ap (to_bytes 4) (sym (f.stored c m)));
    elsewhere = λ i o. refl;
  }

  -- the field of a change, with a count written to the field of another: the count where they are the same, else as it was
  pub put-field : (im' : List ℕ) → State im cs im' → (c d : Change) → Memᴰ c cs → Memᴰ d cs → (x : ℕ) →
      ((c ≡ d) × HoldsCount (put_count im' d.field x) c.field x) ⊎ (part (put_count im' d.field x) c.field 4 ≡ part im' c.field 4)
  put-field im' s c d m n x =
      ⊎_elim
      (λ same. inl (same, rw same (put-held im' d.field x (omega (arith, f.image d n, s.same_length)))))
      (λ h. inr (put-beside im' d.field x c.field (⊎_elim (λ l. inl (omega arith)) (λ l. inr (omega arith)) h)))
      (f.apart c d m n)

  -- the old or the new count of a change is written
  pub state-put : (im' : List ℕ) → State im cs im' → (d : Change) → Memᴰ d cs → (x : ℕ) → (x ≡ d.old) ⊎ (x ≡ d.new) →
      State im cs (put_count im' d.field x)
  state-put im' s d n x which = record {
    same_length = s.same_length ∙ sym (put-length im' d.field x);
    held = λ c m.
        ⊎_elim
        (λ here.
        ⊎_elim (λ e. inl (here.1 ∙ ap (to_bytes 4) (e ∙ ap (λ (y : Change). y.old) (sym here.0))))
        (λ e. inr (here.1 ∙ ap (to_bytes 4) (e ∙ ap (λ (y : Change). y.new) (sym here.0)))) which)
        (λ same. ⊎_elim (λ h. inl (same ∙ h)) (λ h. inr (same ∙ h)) (s.held c m))
        (put-field im' s c d m n x);
    elsewhere = λ i o. s.elsewhere i o ∙ sym (put-elsewhere im' d.field x i (o d n));
  }

  pub state-written : (im' : List ℕ) → State im cs im' → (ds : List Change) → Among ds cs → State im cs (written im' ds)
  unfolding written
  state-written im' s [] a = s
  state-written im' s (d ∷ ds) a =
      state-written (put_count im' d.field d.new) (state-put im' s d (a d (Memᴰ.head refl)) d.new (inr refl)) ds (λ c i. a c (Memᴰ.tail i))

  pub state-restored : (im' : List ℕ) → State im cs im' → (ds : List Change) → Among ds cs → State im cs (restored im' ds)
  unfolding restored
  state-restored im' s [] a = s
  state-restored im' s (d ∷ ds) a =
      state-put (restored im' ds) (state-restored im' s ds (λ c i. a c (Memᴰ.tail i))) d (a d (Memᴰ.head refl)) d.old (inl refl)
