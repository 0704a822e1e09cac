-- Laws of the stored counts, of the addresses that are copied and of the ledger that is handed out.
use Prim.Native.Nat.{ℕ, zero, suc, ◌+◌, ◌≤◌, ◌<◌}
use mathlib.Core.List.{List, []}
use mathlib.Core.Path.{◌≡◌, refl, ap, sym, subst, ◌∙◌}
use native.Mathlib.Omega.{arith}
use borrow.Author.Count.{below_more}
use lib.ListN.{length, get_or, set, take, drop, length-set}
use lib.Seq.{get_or-set_same, get_or-set_other, get_or-take, length-take-le}
use Rattle.format.specs.Bytes.{u32}
use Rattle.format.specs.Audit.{counted_in}
use Rattle.walk.specs.Numbers.{Number}
use Rattle.ledger.specs.Table.{linked_of}
use Rattle.ledger.specs.Report.{counted_places, counted_of, Empty, Copied, Readable, StoredRead}
use Rattle.ledger.specs.declared.report.Ledger.{Ledger}
use Rattle.ledger.proofs.TableLaws.{get_d_tail}

-- with the stored counts read, the places are the objects that the definition reports
pub counted-law : (im : List ℕ) (n : ℕ) (xs ss ts : List ℕ) → ((k : ℕ) → k < n → get_or ss k 0 ≡ u32 im (get_or xs k 0 + 4)) →
    counted_places n xs ss ts ≡ counted_in im (linked_of n xs ts)
unfolding counted_places counted_in linked_of
counted-law im zero xs ss ts h = refl
counted-law im (suc n) xs ss ts h =
    let i : counted_places n (drop 1 xs) (drop 1 ss) (drop 1 ts) ≡ counted_in im (linked_of n (drop 1 xs) (drop 1 ts)) =
    counted-law im n (drop 1 xs) (drop 1 ss) (drop 1 ts)
    (λ k l. get_d_tail ss k ∙ h (suc k) (omega arith) ∙ ap (λ (a : ℕ). u32 im (a + 4)) (sym (get_d_tail xs k))) in
    let e : get_or ss 0 0 ≡ u32 im (get_or xs 0 0 + 4) = h 0 (omega arith) in
    rw (e, i)

-- no count is read yet; then one more
pub stored-none : (im xs ss : List ℕ) → StoredRead im xs 0 ss ss
stored-none im xs ss = record { read = λ k h. absurd (omega arith); rest = λ k h. refl; long = refl }

pub stored_more : (im xs ss ss' : List ℕ) (i v : ℕ) → StoredRead im xs i ss ss' → i < length ss → Number im (get_or xs i 0 + 4) 4 v →
    StoredRead im xs (i + 1) ss (set ss' i v)
stored_more im xs ss ss' i v r h n = record {
  read = below_more _ i (λ k m. get_or-set_other ss' i k v 0 (λ e. omega (arith, e)) ∙ r.read k m)
      (get_or-set_same ss' i v 0 (omega (arith, r.long)) ∙ n.value);
  rest = λ k m. get_or-set_other ss' i k v 0 (λ e. omega (arith, e)) ∙ r.rest k (omega arith);
  long = length-set ss' i v ∙ r.long;
}

pub stored-all : (im xs ss ss' : List ℕ) (i n : ℕ) → StoredRead im xs i ss ss' → i ≡ n → StoredRead im xs n ss ss'
stored-all im xs ss ss' i n r e = subst (λ (k : ℕ). StoredRead im xs k ss ss') e r

-- objects are known by the first addresses alone
counted_same : (n : ℕ) (xs xs' ss ts : List ℕ) → ((k : ℕ) → k < n → get_or xs' k 0 ≡ get_or xs k 0) → counted_places n xs' ss ts ≡ counted_places n xs ss ts
unfolding counted_places
counted_same zero xs xs' ss ts h = refl
counted_same (suc n) xs xs' ss ts h =
    let i : counted_places n (drop 1 xs') (drop 1 ss) (drop 1 ts) ≡ counted_places n (drop 1 xs) (drop 1 ss) (drop 1 ts) =
    counted_same n (drop 1 xs) (drop 1 xs') (drop 1 ss) (drop 1 ts) (λ k l. get_d_tail xs' k ∙ h (suc k) (omega arith) ∙ sym (get_d_tail xs k)) in
    rw (h 0 (omega arith), i)

pub empty-law : (l : Ledger) → Empty l → counted_of l ≡ []
unfolding counted_places
empty-law l e = rw e.none

-- the objects are the same with the addresses copied, and the counts can be read by these
pub counted-copied : (xs ss ts ys ys' : List ℕ) (n : ℕ) → Copied xs ys n ys' → counted_places n ys' ss ts ≡ counted_places n xs ss ts
counted-copied xs ss ts ys ys' n c = counted_same n xs ys' ss ts c.copied

pub readable-copied : (im xs ys ys' : List ℕ) (n : ℕ) → Copied xs ys n ys' → n ≤ length ys → Readable im xs n → Readable im ys' n
readable-copied im xs ys ys' n c h r = record { listed = rw c.long h; inside = λ k l. rw (c.copied k l) (r.inside k l) }

-- What is read or copied of the first n addresses, as a list of their own, is read or copied of the whole list.
module _ (xs : List ℕ) (n : ℕ) (fits : n ≤ length xs) where
  taken : length (take n xs) ≡ n
  taken = length-take-le n xs fits

  pub readable-taken : (im : List ℕ) → Readable im xs n → Readable im (take n xs) (length (take n xs))
  readable-taken im r =
      let first : Readable im (take n xs) n = record { listed = omega (arith, taken); inside = λ k h. rw (get_or-take n xs k 0 h) (r.inside k h) } in
      rw taken first

  pub stored-taken : (im ss ss' : List ℕ) → StoredRead im (take n xs) (length (take n xs)) ss ss' → StoredRead im xs n ss ss'
  stored-taken im ss ss' r =
      let s : StoredRead im (take n xs) n ss ss' = rw taken at r in
      record { read = λ k h. s.read k h ∙ ap (λ (a : ℕ). u32 im (a + 4)) (get_or-take n xs k 0 h); rest = s.rest; long = s.long }

  pub copied-taken : (ys ys' : List ℕ) → Copied (take n xs) ys (length (take n xs)) ys' → Copied xs ys n ys'
  copied-taken ys ys' c =
      let s : Copied (take n xs) ys n ys' = rw taken at c in
      record { copied = λ k h. s.copied k h ∙ get_or-take n xs k 0 h; rest = s.rest; long = s.long }

  pub counted-taken : (ss ts : List ℕ) → counted_places (length (take n xs)) (take n xs) ss ts ≡ counted_places n xs ss ts
  counted-taken ss ts =
      ap (λ (m : ℕ). counted_places m (take n xs) ss ts) taken ∙ counted_same n xs (take n xs) ss ts (λ k h. get_or-take n xs k 0 h)
