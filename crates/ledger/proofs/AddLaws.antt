-- Laws of the list of addresses as it changes: a guess is written, and an object is added.
use Prim.Native.Nat.{ℕ, ◌+◌, ◌≤◌, ◌<◌}
use mathlib.Core.Bool.{Bool, true, false}
use mathlib.Core.List.{List}
use mathlib.Core.Logic.{⊎_elim}
use mathlib.Core.Path.{◌≡◌, refl, sym, ◌∙◌}
use native.Mathlib.Omega.{arith}
use native.Mathlib.Nat.{eq-or-lt_of_le}
use borrow.Author.Tests.{le-leb, lt-leb}
use lib.Dec.{leb}
use lib.ListN.{length, get_or, set, length-set}
use lib.Seq.{get_or-set_same, get_or-set_other}
use Rattle.std.specs.Prelude.{if◌then◌else◌}
use Rattle.format.specs.Limits.{objects_most}
use Rattle.ordering.specs.Order.{Ordering, Inserted, words_from}
use Rattle.ordering.proofs.OrderLaws.{ordering-more}
use Rattle.ordering.proofs.RunLaws.{ordering-same}
use Rattle.ledger.specs.Index.{index_words, table_words, guess_at, with_guess, Lower, address_in, Addable, Added}
use Rattle.ledger.proofs.SearchLaws.{guess-from}

-- a guess is written where the list has guesses, and only there
pub guess-written : (xs : List ℕ) (a o : ℕ) → table_words ≤ length xs → set xs (guess_at a) o ≡ with_guess xs a o
unfolding with_guess
guess-written xs a o h = rw (le-leb table_words (length xs) h) refl

pub no-guesses : (xs : List ℕ) (a o : ℕ) → length xs < table_words → xs ≡ with_guess xs a o
unfolding with_guess
no-guesses xs a o h = rw (lt-leb table_words (length xs) h) refl

-- either way the list is as long, and the addresses and the order stay
either : (t : Bool) (xs : List ℕ) (a o k : ℕ) → k < index_words → get_or (if t then set xs (guess_at a) o else xs) k 0 ≡ get_or xs k 0
either true xs a o k h = get_or-set_other xs (guess_at a) k o 0 (λ e. omega (arith, guess-from a, e))
either false xs a o k h = refl

either-long : (t : Bool) (xs : List ℕ) (a o : ℕ) → length (if t then set xs (guess_at a) o else xs) ≡ length xs
either-long true xs a o = length-set xs (guess_at a) o
either-long false xs a o = refl

pub guess-kept : (xs : List ℕ) (a o k : ℕ) → k < index_words → get_or (with_guess xs a o) k 0 ≡ get_or xs k 0
unfolding with_guess
guess-kept xs a o k h = either (leb table_words (length xs)) xs a o k h

pub guess-long : (xs : List ℕ) (a o : ℕ) → length (with_guess xs a o) ≡ length xs
unfolding with_guess
guess-long xs a o = either-long (leb table_words (length xs)) xs a o

-- the words of the addresses and of the order stay, and with them the order
pub order_same : (xs xs' : List ℕ) (n : ℕ) → n ≤ objects_most → ((k : ℕ) → k < index_words → get_or xs' k 0 ≡ get_or xs k 0) →
    Ordering (Lower xs) (words_from xs objects_most) n → Ordering (Lower xs') (words_from xs' objects_most) n
order_same xs xs' n h same o =
    ordering-same (Lower xs) (Lower xs') _ _ n o (λ k l. same (objects_most + k) (omega arith))
    (λ i j l u e. rw (same i (omega arith), same j (omega arith)) e)

-- An object is added: its address, its number in the order, and then a guess.
module _ (xs : List ℕ) (n a order : ℕ) (d : Addable xs n a order) where
  abbrev ys : List ℕ
  ys = set xs n a

  written : get_or ys n 0 ≡ a
  written = get_or-set_same xs n a 0 (omega (arith, d.room, d.indexed.long))

  other : (k : ℕ) → (k ≡ n → ⊥) → get_or ys k 0 ≡ get_or xs k 0
  other k h = get_or-set_other xs n k a 0 h

  -- the order of the others, by the new list
  old : Ordering (Lower ys) (words_from ys objects_most) n
  old =
      ordering-same (Lower xs) (Lower ys) _ _ n d.indexed.ordering (λ k h. other (objects_most + k) (λ e. omega (arith, d.room)))
      (λ i j h l e. rw (other i (λ q. omega arith), other j (λ q. omega arith)) e)

  -- the addresses of the others, which are lower or higher
  address : (k : ℕ) → k < n → address_in ys objects_most k ≡ address_in xs objects_most k
  address k h =
      rw (other (objects_most + k) (λ e. omega (arith, d.room)))
      (other (words_from xs objects_most k) (λ e. omega (arith, d.indexed.ordering.within k h)))

  lower : (k : ℕ) → k < order → Lower ys (words_from ys objects_most k) n
  lower k h = rw (address k (omega (arith, d.placed.most)), written) (d.placed.before k h)

  higher : (k : ℕ) → order ≤ k → k < n → Lower ys n (words_from ys objects_most k)
  higher k h l =
      rw (address k l, written)
      (⊎_elim
      (λ (q : a ≡ address_in xs objects_most k). absurd (d.absent (words_from xs objects_most k) (d.indexed.ordering.within k l) (sym q)))
      (λ (q : a < address_in xs objects_most k). q)
      (eq-or-lt_of_le (d.placed.after k h l)))

  module _ (zs : List ℕ) (i : Inserted ys objects_most n order n zs) where
    kept : (k : ℕ) → k < objects_most → get_or zs k 0 ≡ get_or ys k 0
    kept k h = i.below k (omega arith)

    more : Ordering (Lower ys) (words_from zs objects_most) (n + 1)
    more =
        ordering-more (Lower ys) (words_from ys objects_most) _ n order d.placed.most old (λ k h. i.below (objects_most + k) (omega arith)) i.here
        (λ k h l. i.above k h l) lower higher

    ordered : Ordering (Lower zs) (words_from zs objects_most) (n + 1)
    ordered =
        ordering-same (Lower ys) (Lower zs) _ _ (n + 1) more (λ k h. refl)
        (λ j k h l e. rw (kept j (omega (arith, d.room)), kept k (omega (arith, d.room))) e)

    long : length zs ≡ length xs
    long = i.long ∙ length-set xs n a

    pub added : Added xs n a (with_guess zs a n)
    added = record {
      indexed = record {
        fits = omega (arith, d.room);
        long = rw (guess-long, long) d.indexed.long;
        ordering = order_same zs (with_guess zs a n) (n + 1) (omega (arith, d.room)) (guess-kept zs a n) ordered;
      };
      here = guess-kept zs a n n (omega (arith, d.room)) ∙ kept n d.room ∙ written;
      kept = λ k h l. guess-kept zs a n k (omega arith) ∙ kept k h ∙ other k l;
      long = guess-long zs a n ∙ long;
    }
