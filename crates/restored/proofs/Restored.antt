-- What demand 3 of the C calls says of a mend that is taken back.
use Prim.Native.Nat.{ℕ, ◌≤◌}
use mathlib.Core.List.{List, [], ◌∷◌}
use mathlib.Core.Path.{◌≡◌, ap, sym, ◌∙◌}
use native.Mathlib.Omega.{arith}
use lib.ListN.{length}
use Rattle.format.specs.Bytes.{u64}
use Rattle.format.specs.Front.{CMend, CUndo, padded_bytes, c_mend, c_undo}
use Rattle.walk.specs.Numbers.{Number}
use Rattle.demand.specs.Bytes.{IsBytes}
use Rattle.claims.specs.CDemand3.{after_cUndos, CMended}
use Rattle.restored.specs.Restored.{Restored}
use Rattle.claims.proofs.CDemandThree.{c-demand-three}

-- What the mend of im returned and left.
module _ (im : List ℕ) (l g r n : ℕ) (b : IsBytes im) (number : ℕ) (list log reply im' : List ℕ)
    (m : ◌≡◌ {A = CMend} (record { number = number; list = list; log = log; reply = reply; image = im' }) (c_mend im l g r n)) where
  same_number : number ≡ (c_mend im l g r n).number
  same_number = ap (λ (c : CMend). c.number) m

  mended : number ≡ 0 → CMended im l g r n (record { number = number; list = list; log = log; reply = reply; image = im' })
  mended z = rw m ((c-demand-three im l g r n b).mended (sym same_number ∙ z))

  pub image-kept : (number ≡ 0 → ⊥) → (im' ≡ im) × Restored (c_mend im l g r n) r number list log reply
  image-kept h = (
    ap (λ (c : CMend). c.image) m ∙ (c-demand-three im l g r n b).refused (λ z. h (same_number ∙ z)),
    record {
      same_number = same_number;
      same_list = ap (λ (c : CMend). c.list) m;
      same_log = ap (λ (c : CMend). c.log) m;
      refused = λ _. ap (λ (c : CMend). c.reply) m;
      undone = λ z. absurd (h (same_number ∙ z));
    },
  )

  -- Where it is done, with the reply as long as it was.
  module _ (z : number ≡ 0) (long : length reply ≡ r) where
    pub entries-there : 16 ≤ length reply
    entries-there = omega (arith, (mended z).room)

    pub image-back : (entries : ℕ) → Number reply 8 8 entries → (k : ℕ) (reply' im'' : List ℕ) →
        ◌≡◌ {A = CUndo} (record { number = k; reply = reply'; image = im'' }) (c_undo im' log (length reply) entries entries) →
        (im'' ≡ im) × Restored (c_mend im l g r n) r k list log reply'
    unfolding after_cUndos
    image-back entries e k reply' im'' u =
        let back = ((mended z).kept []).back r (u64 reply 8) (omega (arith, (mended z).room)) (omega arith) in
        let undone : c_undo im' log (length reply) entries entries ≡ record { number = 0; reply = padded_bytes r (u64 reply 8 ∷ []); image = im } =
        rw (e.value, long) back in
        let whole = u ∙ undone in (
          ap (λ (c : CUndo). c.image) whole,
          record {
            same_number = ap (λ (c : CUndo). c.number) whole ∙ sym z ∙ same_number;
            same_list = ap (λ (c : CMend). c.list) m;
            same_log = ap (λ (c : CMend). c.log) m;
            refused = λ h. absurd (h (sym same_number ∙ z));
            undone = λ _. rw (← m) (ap (λ (c : CUndo). c.reply) whole);
          },
        )
