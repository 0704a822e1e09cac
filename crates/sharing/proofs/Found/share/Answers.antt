-- The discovery where the search ended, then the mark of that place.
use mathlib.Core.Path.{◌≡◌, ap}
use native.Mathlib.Omega.{arith}
use Rattle.std.proofs.lemmas.Result.{err_from_is_err_and}
use Rattle.std.specs.Prelude.{Some, None}
use Rattle.ledger.specs.Objects.{found_count}
use Rattle.sharing.proofs.SharingLaws.{marked-place, share-full, share_other, share-counted}
use Rattle.sharing.proofs.Found.share.Goals as goal

pub returns-in_err-ok_or-clause-shared : goal.returns-in_err-ok_or-clause-shared
returns-in_err-ok_or-clause-shared c =
    let p = err_from_is_err_and c.from_residual.result c.from_residual.ensures.1 in
    let f : (c.count_at.result ≡ None) × (c.in_err-ok_or.field-0.0 ≡ 12) = grind arith in
    let e = ap (found_count c.count_at.new.self.count) f.0 in
    rw (p.1, p.2, f.1) (share-full _ _ _ _ _ _ c.requires c.find-found.ensures.found _ _ e c.count_at.ensures.discovered)

pub bounds-self-place : goal.bounds-self-place
bounds-self-place c =
    let f : c.count_at.result ≡ Some tt = grind arith in
    let e = ap (found_count c.count_at.new.self.count) f in
    rw c.unwrap_or-place.ensures (marked-place _ _ _ _ _ _ c.requires c.find-found.ensures.found _ _ _ e c.count_at.ensures.discovered)

pub returns-then-other-clause-shared : goal.returns-then-other-clause-shared
returns-then-other-clause-shared c =
    let f : c.count_at.result ≡ Some tt = grind arith in
    let e = ap (found_count c.count_at.new.self.count) f in
    share_other _ _ _ _ _ _ c.requires c.find-found.ensures.found _ _ _ e c.count_at.ensures.discovered
    (rw c.unwrap_or-place.ensures at c.if-other.true)

pub bounds-self-place-2 : goal.bounds-self-place-2
bounds-self-place-2 c =
    let f : c.count_at.result ≡ Some tt = grind arith in
    let e = ap (found_count c.count_at.new.self.count) f in
    rw c.unwrap_or-place.ensures (marked-place _ _ _ _ _ _ c.requires c.find-found.ensures.found _ _ _ e c.count_at.ensures.discovered)

pub returns-clause-shared : goal.returns-clause-shared
returns-clause-shared c =
    let f : c.count_at.result ≡ Some tt = grind arith in
    let e = ap (found_count c.count_at.new.self.count) f in
    rw c.unwrap_or-place.ensures
    (share-counted _ _ _ _ _ _ c.requires c.find-found.ensures.found _ _ _ e c.count_at.ensures.discovered
    (rw c.unwrap_or-place.ensures at c.if-other.false))
