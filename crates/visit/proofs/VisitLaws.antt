-- Laws of what is done at an entry: a lookup's comparison, and an audit's discovery.
use Prim.Native.Nat.{ℕ, ◌+◌, ◌≤◌, ◌<◌}
use mathlib.Core.Bool.{Bool, true, false}
use mathlib.Core.List.{List}
use mathlib.Core.Path.{◌≡◌, refl, ap, sym, ◌∙◌}
use native.Mathlib.Omega.{arith}
use borrow.Author.Tests.{le-leb, lt-leb}
use lib.Dec.{leb}
use Rattle.std.specs.Prelude.{if◌then◌else◌, Option, Some, None}
use Rattle.format.specs.Bytes.{same_bytes}
use Rattle.format.specs.Result.{value}
use Rattle.format.specs.Entry.{Entry}
use Rattle.format.specs.Ledger.{discover}
use Rattle.format.specs.Lookup.{hard, soft, compare_name}
use Rattle.ledger.specs.Links.{link_sum}
use Rattle.ledger.specs.Table.{linked_of, Discovered}
use Rattle.ledger.specs.Objects.{found_count}
use Rattle.ledger.proofs.LedgerLaws.{discover-hard, discover-other}
use Rattle.ledger.proofs.TableLaws.{discovered-sum}
use Rattle.visit.specs.Visit.{visit_of, link_of, link_after}
use Rattle.visit.specs.declared.Link.{Link}
use Rattle.visit.specs.declared.Link.TheVariants.{Hard, Symbolic}

-- What a lookup knows after an entry, by the tests.
module _ (name wanted : List ℕ) (kind header : ℕ) (l : Link) where
  pub link-other : same_bytes name wanted ≡ false → l ≡ link_after name wanted kind header l
  link-other e = rw e

  pub link-hard : same_bytes name wanted ≡ true → kind ≤ 1 → Hard header ≡ link_after name wanted kind header l
  link-hard e h = rw (e, le-leb kind 1 h)

  pub link-soft : same_bytes name wanted ≡ true → 1 < kind → Symbolic ≡ link_after name wanted kind header l
  link-soft e h = rw (e, lt-leb kind 1 h)

-- the choices of a lookup are the definition's
link-chosen : (t u : Bool) (header : ℕ) (l : Link) →
    link_of (if t then if u then Hard header else Symbolic else l) ≡ (if t then if u then hard header else soft else link_of l)
link-chosen true true header l = refl
link-chosen true false header l = refl
link-chosen false u header l = refl

-- a name compared
pub compared : (e : Entry) (wanted : List ℕ) (l l' : Link) → l' ≡ link_after e.name wanted e.type e.header l →
    value (link_of l') ≡ compare_name wanted e (link_of l)
unfolding compare_name
compared e wanted l l' h =
    ap (λ (k : Rattle.format.specs.Lookup.Link). value k) (ap link_of h ∙ link-chosen (same_bytes e.name wanted) (leb e.type 1) e.header l)

-- An entry at an audit, by what was done.
module _ (e : Entry) (xs ts : List ℕ) (n : ℕ) where
  pub passed-by : 1 < e.type → value (linked_of n xs ts) ≡ discover e (linked_of n xs ts)
  passed-by h = sym (discover-other e (linked_of n xs ts) (lt-leb e.type 1 h))

  module _ (xs' ts' : List ℕ) (n' : ℕ) where
    pub discovered : (r : Option (Unit {0})) → e.type ≤ 1 → Discovered xs ts n e.header xs' ts' (found_count n' r) →
        visit_of (linked_of n' xs' ts') r ≡ discover e (linked_of n xs ts)
    discovered (Some u) h d = d.walk ∙ sym (discover-hard e (linked_of n xs ts) (le-leb e.type 1 h))
    discovered None h d = d.walk ∙ sym (discover-hard e (linked_of n xs ts) (le-leb e.type 1 h))

    pub one-link : (r : Option (Unit {0})) → Discovered xs ts n e.header xs' ts' (found_count n' r) → (r ≡ None → n' ≡ n) →
        link_sum (linked_of n' xs' ts') ≤ link_sum (linked_of n xs ts) + 1
    one-link (Some u) d f = omega (arith, discovered-sum xs ts n e.header xs' ts' n' d)
    one-link None d f = rw (d.table.0, d.table.1, f refl) (omega arith)
