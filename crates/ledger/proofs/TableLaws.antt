-- Laws of the table in two lists of words: what a store makes of the ledger that they hold, and what a search in them decides.
use Prim.Native.Nat.{ℕ, zero, suc, ◌+◌, ◌≤◌, ◌<◌}
use mathlib.Core.Bool.{true, false}
use mathlib.Core.List.{List, [], ◌∷◌, ◌++◌}
use mathlib.Core.Path.{◌≡◌, refl, ap, sym, ◌∙◌}
use native.Mathlib.Numerals.{add-one}
use native.Mathlib.Omega.{arith}
use borrow.Author.Count.{below_more}
use borrow.Author.Tests.{eq-eqb, ne_eqb}
use lib.ListN.{length, get_or, set, drop, replicate, length-set, length-replicate, drop_of_length-le}
use lib.Seq.{get_or-set_same, get_or-set_other}
use Rattle.format.specs.Limits.{objects_most}
use Rattle.format.specs.Result.{value}
use Rattle.format.specs.Ledger.{Linked, linked, in_ledger, add_link}
use Rattle.ledger.specs.Links.{link_sum}
use Rattle.ordering.proofs.RunLaws.{ordering-none}
use Rattle.ledger.specs.Index.{index_words, with_guess, Indexed, Placed, Found, Addable, Added}
use Rattle.ledger.specs.Table.{linked_of, Table, Discovered, Started}
use Rattle.std.specs.Prelude.{Some, None}
use Rattle.ledger.proofs.LedgerLaws.{add-here, add-later, in-here, in-later, count-known}
use Rattle.ledger.proofs.LedgerLaws.{count-new, count-full, count-sum}
use Rattle.ledger.proofs.AddLaws.{guess-kept, guess-long, order_same}

pub length-linked_of : (n : ℕ) (xs ts : List ℕ) → length (linked_of n xs ts) ≡ n
unfolding linked_of
length-linked_of zero xs ts = refl
length-linked_of (suc n) xs ts = ap suc (length-linked_of n (drop 1 xs) (drop 1 ts))

-- the ith object, and those behind it; none behind the last
pub drop-linked_of : (n i : ℕ) (xs ts : List ℕ) → n ≤ length xs → n ≤ length ts → i < n →
    drop i (linked_of n xs ts) ≡ linked (get_or xs i 0) (get_or ts i 0) ∷ drop (suc i) (linked_of n xs ts)
unfolding linked_of
drop-linked_of zero i xs ts h k l = absurd (omega arith)
drop-linked_of (suc n) i [] ts h k l = absurd (omega arith)
drop-linked_of (suc n) i (x ∷ xs) [] h k l = absurd (omega arith)
drop-linked_of (suc n) zero (x ∷ xs) (t ∷ ts) h k l = refl
drop-linked_of (suc n) (suc i) (x ∷ xs) (t ∷ ts) h k l = drop-linked_of n i xs ts (omega arith) (omega arith) (omega arith)

pub drop_past : (n i : ℕ) (xs ts : List ℕ) → n ≤ i → drop i (linked_of n xs ts) ≡ []
drop_past n i xs ts h = let l : length (linked_of n xs ts) ≤ i = rw length-linked_of h in drop_of_length-le (linked_of n xs ts) l

-- a place written behind the first n is one object more
linked-last : (a c n : ℕ) (xs ts : List ℕ) → n < length xs → n < length ts →
    linked_of (suc n) (set xs n a) (set ts n c) ≡ linked_of n xs ts ++ (linked a c ∷ [])
unfolding linked_of
linked-last a c n [] ts h k = absurd (omega arith)
linked-last a c n (x ∷ xs) [] h k = absurd (omega arith)
linked-last a c zero (x ∷ xs) (t ∷ ts) h k = refl
linked-last a c (suc n) (x ∷ xs) (t ∷ ts) h k = ap (λ (os : List Linked). linked x t ∷ os) (linked-last a c n xs ts (omega arith) (omega arith))

pub linked-new : (a c n : ℕ) (xs ts : List ℕ) → n < length xs → n < length ts →
    linked_of (n + 1) (set xs n a) (set ts n c) ≡ linked_of n xs ts ++ (linked a c ∷ [])
linked-new a c n xs ts h k = rw add-one (linked-last a c n xs ts h k)

-- one more in the first place that holds the address
pub linked-more : (a r n : ℕ) (xs ts : List ℕ) → n ≤ length xs → n ≤ length ts → r < n → ((k : ℕ) → k < r → get_or xs k 0 ≡ a → ⊥) → get_or xs r 0 ≡ a →
    add_link a (linked_of n xs ts) ≡ linked_of n xs (set ts r (get_or ts r 0 + 1))
unfolding linked_of
linked-more a r zero xs ts h k l b e = absurd (omega arith)
linked-more a r (suc n) [] ts h k l b e = absurd (omega arith)
linked-more a r (suc n) (x ∷ xs) [] h k l b e = absurd (omega arith)
linked-more a zero (suc n) (x ∷ xs) (t ∷ ts) h k l b e =
    add-here a (linked x t) (linked_of n xs ts) (eq-eqb a x (sym e)) ∙ ap (λ (y : ℕ). linked y (t + 1) ∷ linked_of n xs ts) (sym e)
linked-more a (suc r) (suc n) (x ∷ xs) (t ∷ ts) h k l b e =
    add-later a (linked x t) (linked_of n xs ts) (ne_eqb a x (λ q. b 0 (omega arith) (sym q)))
    ∙ ap (λ (os : List Linked). linked x t ∷ os) (linked-more a r n xs ts (omega arith) (omega arith) (omega arith) (λ j m. b (suc j) (omega arith)) e)

-- the address stands in the ledger if a place in use holds it, and else not
pub linked-in : (a r n : ℕ) (xs ts : List ℕ) → n ≤ length xs → n ≤ length ts → r < n → ((k : ℕ) → k < r → get_or xs k 0 ≡ a → ⊥) → get_or xs r 0 ≡ a →
    in_ledger a (linked_of n xs ts) ≡ true
unfolding linked_of
linked-in a r zero xs ts h k l b e = absurd (omega arith)
linked-in a r (suc n) [] ts h k l b e = absurd (omega arith)
linked-in a r (suc n) (x ∷ xs) [] h k l b e = absurd (omega arith)
linked-in a zero (suc n) (x ∷ xs) (t ∷ ts) h k l b e = in-here a (linked x t) (linked_of n xs ts) (eq-eqb a x (sym e))
linked-in a (suc r) (suc n) (x ∷ xs) (t ∷ ts) h k l b e =
    in-later a (linked x t) (linked_of n xs ts) (ne_eqb a x (λ q. b 0 (omega arith) (sym q)))
    ∙ linked-in a r n xs ts (omega arith) (omega arith) (omega arith) (λ j m. b (suc j) (omega arith)) e

pub linked-out : (a n : ℕ) (xs ts : List ℕ) → n ≤ length xs → n ≤ length ts → ((k : ℕ) → k < n → get_or xs k 0 ≡ a → ⊥) →
    in_ledger a (linked_of n xs ts) ≡ false
unfolding linked_of in_ledger
linked-out a zero xs ts h k b = refl
linked-out a (suc n) [] ts h k b = absurd (omega arith)
linked-out a (suc n) (x ∷ xs) [] h k b = absurd (omega arith)
linked-out a (suc n) (x ∷ xs) (t ∷ ts) h k b =
    in-later a (linked x t) (linked_of n xs ts) (ne_eqb a x (λ q. b 0 (omega arith) (sym q)))
    ∙ linked-out a n xs ts (omega arith) (omega arith) (λ j m. b (suc j) (omega arith))

-- no count is above all links
pub count-bound : (r n : ℕ) (xs ts : List ℕ) → n ≤ length xs → n ≤ length ts → r < n → get_or ts r 0 ≤ link_sum (linked_of n xs ts)
unfolding linked_of link_sum
count-bound r zero xs ts h k l = absurd (omega arith)
count-bound r (suc n) [] ts h k l = absurd (omega arith)
count-bound r (suc n) (x ∷ xs) [] h k l = absurd (omega arith)
count-bound zero (suc n) (x ∷ xs) (t ∷ ts) h k l = omega arith
count-bound (suc r) (suc n) (x ∷ xs) (t ∷ ts) h k l = omega (arith, count-bound r n xs ts (omega arith) (omega arith) (omega arith))

pub get_d_tail : (l : List ℕ) (k : ℕ) → get_or (drop 1 l) k 0 ≡ get_or l (suc k) 0
get_d_tail [] k = refl
get_d_tail (x ∷ l) k = refl

-- the ledger is known by its first words alone
pub linked-same : (n : ℕ) (xs xs' ts : List ℕ) → ((k : ℕ) → k < n → get_or xs' k 0 ≡ get_or xs k 0) → linked_of n xs' ts ≡ linked_of n xs ts
unfolding linked_of
linked-same zero xs xs' ts h = refl
linked-same (suc n) xs xs' ts h =
    let i : linked_of n (drop 1 xs') (drop 1 ts) ≡ linked_of n (drop 1 xs) (drop 1 ts) =
    linked-same n (drop 1 xs) (drop 1 xs') (drop 1 ts) (λ k l. get_d_tail xs' k ∙ h (suc k) (omega arith) ∙ sym (get_d_tail xs k)) in
    rw (h 0 (omega arith), i)

-- an object added is one more behind the others
pub linked-added : (a c n : ℕ) (xs ts xs' : List ℕ) → n < length xs → n < length ts → n < objects_most → Added xs n a xs' →
    linked_of (n + 1) xs' (set ts n c) ≡ linked_of n xs ts ++ (linked a c ∷ [])
linked-added a c n xs ts xs' h k l d = linked-same (n + 1) (set xs n a) xs' (set ts n c) same ∙ linked-new a c n xs ts h k
  where
    same : (j : ℕ) → j < n + 1 → get_or xs' j 0 ≡ get_or (set xs n a) j 0
    same =
        below_more _ n (λ j m. d.kept j (omega arith) (λ e. omega (arith, e)) ∙ sym (get_or-set_other xs n j a 0 (λ e. omega (arith, e))))
        (d.here ∙ sym (get_or-set_same xs n a 0 h))

-- a table's addresses with their order
pub table-indexed : {xs ts : List ℕ} {n : ℕ} → Table xs ts n → Indexed xs n
table-indexed t = record { fits = t.fits; long = t.addresses_long; ordering = t.ordering }

-- an object added to a table, with one link
module _ (xs ts : List ℕ) (n a : ℕ) (xs' : List ℕ) (t : Table xs ts n) (l : n < objects_most) (d : Added xs n a xs') where
  pub table-added : Table xs' (set ts n 1) (n + 1)
  table-added = record {
    fits = omega arith;
    addresses_long = d.indexed.long;
    counts_long = rw length-set t.counts_long;
    addresses_zero = λ k q m. d.kept k m (λ e. omega (arith, e)) ∙ t.addresses_zero k (omega arith) m;
    counts_zero = λ k q. get_or-set_other ts n k _ 0 (λ e. omega (arith, e)) ∙ t.counts_zero k (omega arith);
    ordering = d.indexed.ordering;
  }

  pub ledger-added : linked_of (n + 1) xs' (set ts n 1) ≡ linked_of n xs ts ++ (linked a 1 ∷ [])
  ledger-added = linked-added a 1 n xs ts xs' (omega (arith, t.addresses_long)) (omega (arith, t.counts_long)) l d

-- A search that found an object, and what is then done to the table.
module _ (xs ts : List ℕ) (n a r : ℕ) (t : Table xs ts n) (f : Found xs n a (Some r)) where
  -- one link more, and the object is the guess for its address, where there are guesses
  pub discover-known : (xs' : List ℕ) (o : ℕ) → xs' ≡ with_guess xs a o → Discovered xs ts n a xs' (set ts r (get_or ts r 0 + 1)) (Some n)
  discover-known xs' o e =
      let i : n ≤ length xs = omega (arith, t.fits, t.addresses_long) in
      let j : n ≤ length ts = omega (arith, t.fits, t.counts_long) in
      record {
        walk =
            ap value (linked-same n xs xs' _ (λ k m. kept k (omega (arith, t.fits))) ∙ sym (linked-more a r n xs ts i j f.0 f.2 f.1)) ∙ sym
            (count-known a (linked_of n xs ts) (linked-in a r n xs ts i j f.0 f.2 f.1));
        table = record {
          fits = t.fits;
          addresses_long = rw long t.addresses_long;
          counts_long = rw length-set t.counts_long;
          addresses_zero = λ k m l. kept k (omega arith) ∙ t.addresses_zero k m l;
          counts_zero = λ k m. get_or-set_other ts r k _ 0 (λ e. omega (arith, e)) ∙ t.counts_zero k m;
          ordering = order_same xs xs' n t.fits kept t.ordering;
        };
        addresses_same = long;
        counts_same = length-set ts r (get_or ts r 0 + 1);
      }
    where
      kept : (k : ℕ) → k < index_words → get_or xs' k 0 ≡ get_or xs k 0
      kept k l = rw e (guess-kept xs a o k l)

      long : length xs' ≡ length xs
      long = ap length e ∙ guess-long xs a o

  -- the count of the object has room for one more
  pub discover-fits : (most : ℕ) → link_sum (linked_of n xs ts) + 1 < most → get_or ts r 0 + 1 < most
  discover-fits most l = omega (arith, count-bound r n xs ts (omega (arith, t.fits, t.addresses_long)) (omega (arith, t.fits, t.counts_long)) f.0)

-- A search that found none.
module _ (xs ts : List ℕ) (n a : ℕ) (t : Table xs ts n) (f : Found xs n a None) where
  out : in_ledger a (linked_of n xs ts) ≡ false
  out = linked-out a n xs ts (omega (arith, t.fits, t.addresses_long)) (omega (arith, t.fits, t.counts_long)) f

  pub discover-full : objects_most ≤ n → Discovered xs ts n a xs ts None
  discover-full l =
      let m : objects_most ≤ length (linked_of n xs ts) = rw length-linked_of l in
      record { walk = sym (count-full a (linked_of n xs ts) out m); table = (refl, refl); addresses_same = refl; counts_same = refl }

  -- a new object
  pub discover-addable : (order : ℕ) → n < objects_most → Placed xs objects_most n a order → Addable xs n a order
  discover-addable order l p = record { indexed = table-indexed t; room = l; absent = f; placed = p }

  pub discover-new : (xs' : List ℕ) → n < objects_most → Added xs n a xs' → Discovered xs ts n a xs' (set ts n 1) (Some (n + 1))
  discover-new xs' l d =
      let m : length (linked_of n xs ts) < objects_most = rw length-linked_of l in
      record {
        walk = ap value (ledger-added xs ts n a xs' t l d) ∙ sym (count-new a (linked_of n xs ts) out m);
        table = table-added xs ts n a xs' t l d;
        addresses_same = d.long;
        counts_same = length-set ts n 1;
      }

-- a link that was counted is one more of all
pub discovered-sum : (xs ts : List ℕ) (n a : ℕ) (xs' ts' : List ℕ) (m : ℕ) → Discovered xs ts n a xs' ts' (Some m) →
    link_sum (linked_of m xs' ts') ≡ link_sum (linked_of n xs ts) + 1
discovered-sum xs ts n a xs' ts' m d = count-sum a (linked_of n xs ts) (linked_of m xs' ts') (sym d.walk)

-- the table of the root alone
module _ (root : ℕ) (xs ts : List ℕ) (t : Table xs ts 0) where
  pub start-room : 0 < objects_most
  unfolding objects_most
  start-room = omega arith

  pub start-addable : Addable xs 0 root 0
  start-addable = record {
    indexed = table-indexed t;
    room = start-room;
    absent = λ k h. absurd (omega arith);
    placed = record { most = omega arith; before = λ k h. absurd (omega arith); after = λ k h l. absurd (omega arith) };
  }

  pub start-law : (xs' : List ℕ) → Added xs 0 root xs' → Started xs ts root xs' (set ts 0 1)
  unfolding linked_of
  start-law xs' d = record {
    ledger = ledger-added xs ts 0 root xs' t start-room d;
    table = table-added xs ts 0 root xs' t start-room d;
    addresses_same = d.long;
    counts_same = length-set ts 0 1;
  }

zeros-at : (n k : ℕ) → ◌≡◌ {A = ℕ} (get_or (replicate n 0) k 0) 0
zeros-at zero k = refl
zeros-at (suc n) zero = refl
zeros-at (suc n) (suc k) = zeros-at n k

-- words of zeros are a table of no object
pub table_none : (xs ts : List ℕ) → index_words ≤ length xs → xs ≡ replicate (length xs) 0 → ts ≡ replicate objects_most 0 → Table xs ts 0
table_none xs ts h e f = record {
  fits = omega arith;
  addresses_long = h;
  counts_long = rw (f, length-replicate) (omega arith);
  addresses_zero = λ k q m. ap (λ (l : List ℕ). get_or l k 0) e ∙ zeros-at (length xs) k;
  counts_zero = λ k q. rw f (zeros-at objects_most k);
  ordering = ordering-none _ _;
}
