-- The numbers of blocks, where objects' blocks stand one after the other: each object's blocks have its number, and no other has.
use Prim.Native.Nat.{ℕ, zero, suc, ◌+◌, ◌≤◌, ◌<◌}
use mathlib.Core.Bool.{false}
use mathlib.Core.List.{List, [], ◌∷◌, ◌++◌, append-nil, flatten}
use mathlib.Core.Path.{◌≡◌, refl, ap, sym, ◌∙◌}
use native.Mathlib.Omega.{arith}
use native.Mathlib.Numerals.{add-one}
use borrow.Author.Tests.{eq-eqb, ne_eqb}
use lib.Dec.{eqb}
use lib.ListN.{length, get_or, drop, drop_of_length-le}
use lib.Seq.{drop-cons}
use Rattle.format.specs.Blocks.{Block, block_of, superblock_kind, header_kind, no_object, owner_after}
use Rattle.links.specs.Owners.{owned_after, owned_by, owned_from, AllKinds, headers_of}
use Rattle.links.proofs.OneHeader.{Inner, ObjectBlocks}

-- the number of the block before object i
abbrev pub number_before : ℕ → ℕ
number_before zero = no_object
number_before (suc i) = i

pub owner-inner : (o v : ℕ) → Inner v → owner_after o v ≡ o
unfolding owner_after
owner-inner o v h = rw (h.0, h.1)

-- a header is of the next object
pub owner-header : (i : ℕ) → i < no_object → owner_after (number_before i) header_kind ≡ i
unfolding owner_after
owner-header zero h = rw (eq-eqb no_object no_object refl)
owner-header (suc i) h = let other : eqb i no_object ≡ false = ne_eqb i no_object (λ e. omega (arith, e, h)) in rw other (add-one i)

-- blocks that are no header have the number before them
inner-same : (o : ℕ) (xs ys : List Block) → AllKinds Inner xs → owned_after o o (xs ++ ys) ≡ xs ++ owned_after o o ys
unfolding owned_after
inner-same o [] ys h = refl
inner-same o (x ∷ xs) ys h =
    let own : owner_after o x.kind ≡ o = owner-inner o x.kind h.0 in
    rw (own, eq-eqb o o refl, inner-same o xs ys h.1)

inner-other : (p o : ℕ) (xs ys : List Block) → eqb p o ≡ false → AllKinds Inner xs → owned_after p o (xs ++ ys) ≡ owned_after p o ys
unfolding owned_after
inner-other p o [] ys e h = refl
inner-other p o (x ∷ xs) ys e h =
    let own : owner_after p x.kind ≡ p = owner-inner p x.kind h.0 in
    rw (own, e, inner-other p o xs ys e h.1)

-- the blocks of object i
object-same : (i at : ℕ) (bs ys : List Block) → i < no_object → ObjectBlocks at bs → owned_after (number_before i) i (bs ++ ys) ≡ bs ++ owned_after i i ys
unfolding owned_after
object-same i at bs ys l b =
    rw (b.header, owner-header i l, eq-eqb i i refl, inner-same i b.others ys b.inner)

object-other : (i o at : ℕ) (bs ys : List Block) → i < no_object → eqb i o ≡ false → ObjectBlocks at bs →
    owned_after (number_before i) o (bs ++ ys) ≡ owned_after i o ys
unfolding owned_after
object-other i o at bs ys l e b = rw (b.header, owner-header i l, e, inner-other i o b.others ys e b.inner)

-- P holds of each object from number i on, with its address and its blocks
abbrev pub EachObject : (ℕ → ℕ → List Block → Type 0) → ℕ → List ℕ → List (List Block) → Type 0
EachObject P i [] [] = Unit {0}
EachObject P i [] (bs ∷ bss) = ⊥
EachObject P i (a ∷ rest) [] = ⊥
EachObject P i (a ∷ rest) (bs ∷ bss) = P i a bs × EachObject P (suc i) rest bss

module _ (P : ℕ → ℕ → List Block → Type 0) where
  pub each-length : (i : ℕ) (addresses : List ℕ) (bss : List (List Block)) → EachObject P i addresses bss → length addresses ≡ length bss
  each-length i [] [] h = refl
  each-length i [] (bs ∷ bss) h = absurd h
  each-length i (a ∷ rest) [] h = absurd h
  each-length i (a ∷ rest) (bs ∷ bss) h = ap suc (each-length (suc i) rest bss h.1)

  pub each-object : (i : ℕ) (addresses : List ℕ) (bss : List (List Block)) → EachObject P i addresses bss → (k : ℕ) → k < length addresses →
      P (i + k) (get_or addresses k 0) (get_or bss k [])
  each-object i [] bss h k l = absurd (omega arith)
  each-object i (a ∷ rest) [] h k l = absurd h
  each-object i (a ∷ rest) (bs ∷ bss) h zero l = let e : i + 0 ≡ i = omega arith in rw e h.0
  each-object i (a ∷ rest) (bs ∷ bss) h (suc k) l =
      let e : i + suc k ≡ suc i + k = omega arith in rw e (each-object (suc i) rest bss h.1 k (omega arith))

module _ (P : ℕ → ℕ → List Block → Type 0) (shape : (i at : ℕ) (bs : List Block) → P i at bs → ObjectBlocks at bs) where
  -- a number that none of them has
  owned-none : (i o : ℕ) (addresses : List ℕ) (bss : List (List Block)) → EachObject P i addresses bss → i + length bss ≤ no_object →
      ((k : ℕ) → i ≤ k → k < i + length bss → k ≡ o → ⊥) →
      owned_after (number_before i) o (flatten bss) ≡ []
  unfolding owned_after flatten
  owned-none i o [] [] h l n = refl
  owned-none i o [] (bs ∷ bss) h l n = absurd h
  owned-none i o (a ∷ rest) [] h l n = absurd h
  owned-none i o (a ∷ rest) (bs ∷ bss) h l n =
      let other : eqb i o ≡ false = ne_eqb i o (λ e. n i (omega arith) (omega arith) e) in
      object-other i o a bs (flatten bss) (omega arith) other (shape i a bs h.0)
      ∙ owned-none (suc i) o rest bss h.1 (omega arith) (λ k p q e. n k (omega (arith, p)) (omega (arith, q)) e)

  -- the number of the k-th
  owned_at : (i o k : ℕ) (addresses : List ℕ) (bss : List (List Block)) → EachObject P i addresses bss → i + length bss ≤ no_object →
      o ≡ i + k → k < length bss →
      owned_after (number_before i) o (flatten bss) ≡ get_or bss k []
  unfolding flatten
  owned_at i o k addresses [] h l e m = absurd (omega arith)
  owned_at i o k [] (bs ∷ bss) h l e m = absurd h
  owned_at i o zero (a ∷ rest) (bs ∷ bss) h l e m =
      let own : o ≡ i = omega arith in
      rw own
      (object-same i a bs (flatten bss) (omega arith) (shape i a bs h.0)
      ∙ ap (λ (xs : List Block). bs ++ xs) (owned-none (suc i) i rest bss h.1 (omega arith) (λ k p q f. omega (arith, p, f)))
      ∙ append-nil bs)
  owned_at i o (suc k) (a ∷ rest) (bs ∷ bss) h l e m =
      let other : eqb i o ≡ false = ne_eqb i o (λ f. omega (arith, e, f)) in
      object-other i o a bs (flatten bss) (omega arith) other (shape i a bs h.0)
      ∙ owned_at (suc i) o k rest bss h.1 (omega arith) (omega arith) (omega arith)

  -- the headers
  inner-headers : (xs ys : List Block) → AllKinds Inner xs → headers_of (xs ++ ys) ≡ headers_of ys
  unfolding headers_of
  inner-headers [] ys h = refl
  inner-headers (x ∷ xs) ys h = rw h.0.1 (inner-headers xs ys h.1)

  object-headers : (at : ℕ) (bs ys : List Block) → ObjectBlocks at bs → headers_of (bs ++ ys) ≡ at ∷ headers_of ys
  unfolding headers_of
  object-headers at bs ys b = rw (b.header, inner-headers b.others ys b.inner)

  all-headers : (i : ℕ) (addresses : List ℕ) (bss : List (List Block)) → EachObject P i addresses bss → headers_of (flatten bss) ≡ addresses
  unfolding headers_of flatten
  all-headers i [] [] h = refl
  all-headers i [] (bs ∷ bss) h = absurd h
  all-headers i (a ∷ rest) [] h = absurd h
  all-headers i (a ∷ rest) (bs ∷ bss) h =
      object-headers a bs (flatten bss) (shape i a bs h.0) ∙ ap (λ (xs : List ℕ). a ∷ xs) (all-headers (suc i) rest bss h.1)

  -- the superblock first, then the objects from 0 on
  module _ (size : ℕ) (addresses : List ℕ) (bss : List (List Block)) (each : EachObject P 0 addresses bss) (most : length bss ≤ no_object) where
    abbrev whole : List Block
    whole = block_of superblock_kind 0 size ∷ flatten bss

    pub owned-superblock : owned_by no_object whole ≡ block_of superblock_kind 0 size ∷ []
    unfolding owned_after owner_after
    owned-superblock =
        rw (eq-eqb no_object no_object refl, owned-none 0 no_object addresses bss each (omega arith) (λ k p q e. omega (arith, q, e, most)))

    pub owned-object : (k : ℕ) → k < length bss → owned_by k whole ≡ get_or bss k []
    unfolding owned_after owner_after
    owned-object k l =
        let other : eqb no_object k ≡ false = ne_eqb no_object k (λ e. omega (arith, e, most)) in
        rw other (owned_at 0 k k addresses bss each (omega arith) (omega arith) l)

    -- a number that is no object's
    pub owned-other : (o : ℕ) → length bss ≤ o → (o ≡ no_object → ⊥) → owned_by o whole ≡ []
    unfolding owned_after owner_after
    owned-other o l h =
        let other : eqb no_object o ≡ false = ne_eqb no_object o (λ e. h (sym e)) in
        rw other (owned-none 0 o addresses bss each (omega arith) (λ k p q e. omega (arith, q, e, l)))

    owned-from : (n i : ℕ) → i + n ≡ length bss → owned_from n i whole ≡ flatten (drop i bss)
    unfolding owned_from flatten
    owned-from zero i e = rw (drop_of_length-le bss {i = i} (omega arith))
    owned-from (suc n) i e =
        rw (drop-cons bss i [] (omega arith), owned-object i (omega arith), add-one i, owned-from n (suc i) (omega arith))

    pub owned-whole : whole ≡ owned_by no_object whole ++ owned_from (length bss) 0 whole
    owned-whole = rw (owned-superblock, owned-from (length bss) 0 (omega arith))

    pub owned-headers : headers_of whole ≡ addresses
    unfolding headers_of
    owned-headers = all-headers 0 addresses bss each
