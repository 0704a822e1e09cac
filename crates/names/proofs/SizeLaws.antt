-- How many bytes a name has, by what was read of it.
use Prim.Native.Nat.{ℕ, ◌+◌, ◌-◌, ◌≤◌, ◌<◌}
use mathlib.Core.Bool.{Bool, true, false, not}
use mathlib.Core.List.{List, [], ◌∷◌}
use mathlib.Core.Path.{◌≡◌, refl, ap, sym, ◌∙◌}
use native.Mathlib.Omega.{arith}
use borrow.Author.Tests.{ne_eqb}
use lib.ListN.{length, get_or, drop}
use lib.Seq.{take-add, drop-drop, drop-cons}
use Rattle.format.specs.Limits.{name_most}
use Rattle.format.specs.Bytes.{all_hold, in_range, part, same_bytes, contains}
use Rattle.format.specs.Names.{before_nul, string_at, is_name}
use Rattle.walk.proofs.Tests.{all-fails, all-passes, all-last, range-below, range-above, range_inside}
use Rattle.order.proofs.Comparing.{same-lengths}
use Rattle.order.proofs.Parts.{contains-parts}
use Rattle.nul.specs.Nul.{NulWithin}
use Rattle.names.specs.Sizes.{Plain, Slashless, name_size}
use Rattle.names.proofs.NameLaws.{string-length}
use Rattle.names.proofs.StartLaws.{sixteen}
use Rattle.std.specs.Prelude.{Some, None}
use Rattle.std.proofs.lemmas.Option.{none-some, same_Some}

-- which strings are names
module _ (t : List ℕ) where
  empty_name : length t ≡ 0 → is_name t ≡ false
  unfolding is_name
  empty_name e = sym (all-fails _ (range-below 1 name_most (length t) (omega arith)))

  long-name : name_most < length t → is_name t ≡ false
  unfolding is_name
  long-name h = sym (all-fails _ (range-above 1 name_most (length t) h))

  slash-name : contains 0x2f t ≡ true → is_name t ≡ false
  unfolding is_name
  slash-name e = go (in_range 1 name_most (length t)) refl
    where
      go : (u : Bool) → in_range 1 name_most (length t) ≡ u → is_name t ≡ false
      go true p = sym (all-passes _ p (all-fails _ (ap not e)))
      go false p = sym (all-fails _ p)

  good-name : 0 < length t → length t ≤ name_most → contains 0x2f t ≡ false → same_bytes t (0x2e ∷ []) ≡ false → is_name t ≡ true
  unfolding is_name
  good-name h l e s =
      sym (all-passes _ (range_inside 1 name_most (length t) (omega arith) l) (all-passes _ (ap not e) (sym (ap not s) ∙ all-last _)))

dot-name : is_name (0x2e ∷ []) ≡ false
unfolding is_name all_hold name_most contains same_bytes
dot-name = refl

-- the string at off, which ends in the segment
module _ (seg : List ℕ) (off : ℕ) (h : off + before_nul (drop off seg) < length seg) where
  sized : length (string_at seg off) ≡ before_nul (drop off seg)
  sized = string-length seg off (omega arith)

  size_none : is_name (string_at seg off) ≡ false → None ≡ name_size seg off
  unfolding name_size
  size_none e = rw e

  size-whole : is_name (string_at seg off) ≡ true → Some (before_nul (drop off seg)) ≡ name_size seg off
  unfolding name_size
  size-whole e = rw (e, sized)

  -- no size is no name's
  pub name-none : name_size seg off ≡ None → is_name (string_at seg off) ≡ false
  name-none z = go (is_name (string_at seg off)) refl
    where
      go : (t : Bool) → is_name (string_at seg off) ≡ t → t ≡ false
      go true p = absurd (none-some _ (sym z ∙ sym (size-whole p)))
      go false p = refl

  pub name-some : {n : ℕ} → name_size seg off ≡ Some n → (is_name (string_at seg off) ≡ true) × (n ≡ before_nul (drop off seg))
  name-some {n} z = go (is_name (string_at seg off)) refl
    where
      go : (t : Bool) → is_name (string_at seg off) ≡ t → (t ≡ true) × (n ≡ before_nul (drop off seg))
      go true p = (refl, same_Some _ _ (sym z ∙ sym (size-whole p)))
      go false p = absurd (none-some n (size_none p ∙ z))

  -- it has a '/'
  pub size-slashed : contains 0x2f (string_at seg off) ≡ true → None ≡ name_size seg off
  size-slashed e = size_none (slash-name _ e)

  pub size-slashed-short : {n : ℕ} → n ≡ before_nul (drop off seg) → contains 0x2f (part seg off n) ≡ true → None ≡ name_size seg off
  unfolding string_at
  size-slashed-short q e = size-slashed (rw q at e)

  -- it has n bytes and no '/'
  module _ {n : ℕ} (r : Slashless seg off n) where
    pub size-empty : n ≡ 0 → None ≡ name_size seg off
    size-empty z = size_none (empty_name _ (omega (arith, sized, r.size)))

    named : 0 < n → same_bytes (string_at seg off) (0x2e ∷ []) ≡ false → Some n ≡ name_size seg off
    named l s =
        ap Some (sym r.size)
        ∙ size-whole (good-name _ (omega (arith, sized, r.size)) (omega (arith, sized, r.size, r.most)) r.plain s)

    pub size-other : 0 < n → (n ≡ 1 → ⊥) → Some n ≡ name_size seg off
    size-other l d = named l (sym (same-lengths (string_at seg off) (0x2e ∷ []) (λ q. d (omega (arith, q, sized, r.size)))))

    one : n ≡ 1 → string_at seg off ≡ get_or seg off 0 ∷ []
    unfolding string_at
    one e = rw (r.size, e, drop-cons seg off 0 (omega arith))

    pub size-dot : n ≡ 1 → get_or seg off 0 ≡ 0x2e → None ≡ name_size seg off
    size-dot e q = size_none (rw (one e, q) dot-name)

    pub size-one : n ≡ 1 → (get_or seg off 0 ≡ 0x2e → ⊥) → Some n ≡ name_size seg off
    unfolding same_bytes
    size-one e q = named (omega arith) (rw (one e, ne_eqb _ _ q))

  -- its first m bytes are passed, and the bytes up to `end` were looked at
  module _ {m limit : ℕ} (p : Plain seg off m) (l : m ≤ 16) (same : limit ≡ name_most) {end : ℕ} (w : NulWithin seg (off + m) (limit + 1 - m) end) where
    looked : NulWithin seg (off + m) (name_most + 1 - m) end
    looked = rw same at w

    pub size_above : limit < end - off → None ≡ name_size seg off
    size_above k = size_none (long-name _ (omega (arith, sized, sixteen, looked.value, p.long)))

    -- all were looked at
    module _ (k : (limit < end - off → ⊥)) where
      whole : before_nul (drop off seg) ≡ m + (end - (off + m))
      whole = omega (arith, looked.value, sixteen, p.long)

      slashes : contains 0x2f (string_at seg off) ≡ contains 0x2f (part seg (off + m) (end - (off + m)))
      unfolding string_at
      slashes =
          rw (whole, take-add m (end - (off + m)) (drop off seg), drop-drop m off seg)
          (contains-parts 0x2f (part seg off m) _ ∙ rw p.plain)

      pub size-slash : contains 0x2f (part seg (off + m) (end - (off + m))) ≡ true → None ≡ name_size seg off
      size-slash e = size-slashed (slashes ∙ e)

      pub size-plain : contains 0x2f (part seg (off + m) (end - (off + m))) ≡ false → Slashless seg off (end - off)
      size-plain e = record { size = omega (arith, whole, looked.value); most = omega arith; plain = slashes ∙ e }
