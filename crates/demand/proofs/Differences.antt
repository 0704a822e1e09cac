-- A state differs from its image only in fields of wrong counts, each of which holds the stored count or the true one.
use Prim.Native.Nat.{ℕ}
use mathlib.Core.Bool.{true}
use mathlib.Core.List.{List}
use mathlib.Core.Path.{◌≡◌, refl, ap, sym, ◌∙◌}
use native.Mathlib.Omega.{arith}
use Rattle.format.specs.Ledger.{Linked, in_ledger}
use Rattle.format.specs.Audit.{Counted, counted_in}
use Rattle.format.specs.Log.{Change}
use Rattle.format.specs.Mend.{corrections}
use Rattle.links.proofs.LedgerIn.{member-in}
use Rattle.demand.specs.Counts.{WrongAt, OnlyWrong}
use Rattle.demand.specs.State.{State}
use Rattle.demand.proofs.Corrections.{change_of, correction-from, correction-of, counted-from}

pub state-only : (os : List Counted) (im im' : List ℕ) → State im (corrections os) im' → OnlyWrong os im im'
state-only os im im' s = record {
  only = record {
    same_length = s.same_length;
    elsewhere = λ i none.
        s.elsewhere i
        (λ c m at.
        let r = correction-from os c m in
        let field = ap (λ (x : Change). x.field) r.2 in
        none r.0.address (r.0, r.1, refl) (omega arith, omega arith));
  };
  held = λ o w. s.held (change_of o) (correction-of os o w);
}

-- the header of a wrong count is one of the ledger
pub wrong-known : (im : List ℕ) (os : List Linked) (h : ℕ) → WrongAt (counted_in im os) h → in_ledger h os ≡ true
wrong-known im os h w =
    let q = counted-from im os w.0 w.1.member in
    let at : q.0.address ≡ h = ap (λ (x : Counted). x.address) (sym q.2) ∙ w.2 in
    rw at at (member-in os q.0 q.1)
