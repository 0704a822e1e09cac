-- The numbers of blocks, where the superblock and the blocks of whole objects stand before those of one more object, which can be none.
use Prim.Native.Nat.{ℕ, suc, ◌+◌, ◌≤◌, ◌<◌}
use mathlib.Core.List.{List, [], ◌∷◌, ◌++◌, append_assoc, append-nil, flatten}
use mathlib.Core.Path.{◌≡◌, refl, ap, sym, ◌∙◌}
use native.Mathlib.Omega.{arith}
use lib.ListN.{length, get_or, length-append, get_or-append}
use lib.Seq.{get_or-append_seam}
use Rattle.format.specs.Blocks.{Block, block_of, superblock_kind, no_object, owner_after, last_owner}
use Rattle.links.specs.Owners.{owned_by, AllKinds}
use Rattle.links.proofs.OneHeader.{Inner, ObjectBlocks}
use Rattle.links.proofs.OwnedLaws.{number_before, owner-inner, owner-header, EachObject, owned-superblock, owned-object, owned-other}

-- the blocks of an object, whatever its number
abbrev pub Shape : ℕ → ℕ → List Block → Type 0
Shape i at bs = ObjectBlocks at bs

shaped : (i at : ℕ) (bs : List Block) → Shape i at bs → ObjectBlocks at bs
shaped i at bs h = h

pub each-shape : (P : ℕ → ℕ → List Block → Type 0) → ((i at : ℕ) (bs : List Block) → P i at bs → ObjectBlocks at bs) →
    (i : ℕ) (addresses : List ℕ) (bss : List (List Block)) → EachObject P i addresses bss → EachObject Shape i addresses bss
each-shape P h i [] [] e = tt
each-shape P h i [] (bs ∷ bss) e = absurd e
each-shape P h i (a ∷ rest) [] e = absurd e
each-shape P h i (a ∷ rest) (bs ∷ bss) e = (h i a bs e.0, each-shape P h (suc i) rest bss e.1)

-- one object more
each_more : (i : ℕ) (addresses : List ℕ) (bss : List (List Block)) (at : ℕ) (own : List Block) → EachObject Shape i addresses bss → ObjectBlocks at own →
    EachObject Shape i (addresses ++ (at ∷ [])) (bss ++ (own ∷ []))
each_more i [] [] at own e h = (h, tt)
each_more i [] (bs ∷ bss) at own e h = absurd e
each_more i (a ∷ rest) [] at own e h = absurd e
each_more i (a ∷ rest) (bs ∷ bss) at own e h = (e.0, each_more (suc i) rest bss at own e.1 h)

flatten-more : (bss : List (List Block)) (own : List Block) → flatten (bss ++ (own ∷ [])) ≡ flatten bss ++ own
unfolding flatten
flatten-more [] own = append-nil own
flatten-more (bs ∷ bss) own = ap (λ (xs : List Block). bs ++ xs) (flatten-more bss own) ∙ sym (append_assoc bs (flatten bss) own)

-- the number of the last block
last-append : (o : ℕ) (xs ys : List Block) → last_owner o (xs ++ ys) ≡ last_owner (last_owner o xs) ys
unfolding last_owner
last-append o [] ys = refl
last-append o (x ∷ xs) ys = last-append (owner_after o x.kind) xs ys

last_inner : (o : ℕ) (xs : List Block) → AllKinds Inner xs → last_owner o xs ≡ o
unfolding last_owner
last_inner o [] h = refl
last_inner o (x ∷ xs) h = let own : owner_after o x.kind ≡ o = owner-inner o x.kind h.0 in rw own (last_inner o xs h.1)

last-object : (i at : ℕ) (bs : List Block) → i < no_object → ObjectBlocks at bs → last_owner (number_before i) bs ≡ i
unfolding last_owner
last-object i at bs l b = rw (b.header, owner-header i l) (last_inner i b.others b.inner)

last-each : (i : ℕ) (addresses : List ℕ) (bss : List (List Block)) → EachObject Shape i addresses bss → i + length bss ≤ no_object →
    last_owner (number_before i) (flatten bss) ≡ number_before (i + length bss)
unfolding last_owner flatten
last-each i [] [] h l = let e : i + 0 ≡ i = omega arith in rw e
last-each i [] (bs ∷ bss) h l = absurd h
last-each i (a ∷ rest) [] h l = absurd h
last-each i (a ∷ rest) (bs ∷ bss) h l =
    let e : i + suc (length bss) ≡ suc i + length bss = omega arith in
    let own : last_owner (number_before i) bs ≡ i = last-object i a bs (omega arith) h.0 in
    last-append (number_before i) bs (flatten bss) ∙ ap (λ (o : ℕ). last_owner o (flatten bss)) own
    ∙ last-each (suc i) rest bss h.1 (omega arith) ∙ ap number_before (sym e)

-- the blocks bs: the superblock's, those of each object, and the last one's own
pub record Numbers (size : ℕ) (each : List (List Block)) (own bs : List Block) : Type 0 where
  pub superblock : owned_by no_object bs ≡ block_of superblock_kind 0 size ∷ []
  pub earlier : (i : ℕ) → i < length each → owned_by i bs ≡ get_or each i []
  pub last : owned_by (length each) bs ≡ own
  pub none : (o : ℕ) → length each < o → (o ≡ no_object → ⊥) → owned_by o bs ≡ []

module _ (size : ℕ) (addresses : List ℕ) (each : List (List Block)) (h : EachObject Shape 0 addresses each) (l : length each < no_object) where
  abbrev whole : List Block
  whole = block_of superblock_kind 0 size ∷ flatten each

  pub numbers-none : Numbers size each [] whole
  numbers-none =
      let other = owned-other Shape shaped size addresses each h (omega arith) in
      record {
        superblock = owned-superblock Shape shaped size addresses each h (omega arith);
        earlier = owned-object Shape shaped size addresses each h (omega arith);
        last = other (length each) (omega arith) (λ e. omega (arith, e, l));
        none = λ o m n. other o (omega (arith, m)) n;
      }

  pub last_none : last_owner no_object whole ≡ number_before (length each)
  unfolding last_owner owner_after
  last_none = let e : 0 + length each ≡ length each = omega arith in rw e at (last-each 0 addresses each h (omega arith))

  module _ (at : ℕ) (own : List Block) (b : ObjectBlocks at own) where
    pub numbers-own : Numbers size each own (whole ++ own)
    numbers-own =
        let all = each ++ (own ∷ []) in
        let there = each_more 0 addresses each at own h b in
        let count : length all ≡ length each + 1 = length-append each (own ∷ []) in
        let most : length all ≤ no_object = omega (arith, count, l) in
        let object = owned-object Shape shaped size (addresses ++ (at ∷ [])) all there most in
        let owned : Numbers size each own (block_of superblock_kind 0 size ∷ flatten all) = record {
          superblock = owned-superblock Shape shaped size (addresses ++ (at ∷ [])) all there most;
          earlier = λ i m. object i (omega (arith, m, count)) ∙ get_or-append each (own ∷ []) [] i m;
          last = object (length each) (omega (arith, count)) ∙ get_or-append_seam each own [] [];
          none = λ o m n. owned-other Shape shaped size (addresses ++ (at ∷ [])) all there most o (omega (arith, m, count)) n;
        } in
        rw (flatten-more each own) at owned

    pub last-own : last_owner no_object (whole ++ own) ≡ length each
    last-own = last-append no_object whole own ∙ ap (λ (o : ℕ). last_owner o own) last_none ∙ last-object (length each) at own l b
