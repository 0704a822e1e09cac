-- Turn by turn, the walk of the keys from here on.
use Prim.Native.Nat.{◌+◌, ◌*◌}
use mathlib.Core.Path.{◌≡◌}
use Rattle.format.specs.Walk.{fault as fault_at}
use Rattle.format.specs.Names.{fault_number}
use Rattle.names.specs.Texts.{fault_of}
use Rattle.names.specs.declared.NameFault.{NameFault}
use Rattle.key.proofs.KeyLaws.{keys-start, keys-fault, keys-next, keys-end}
use native.Mathlib.Omega.{arith}
use Rattle.std.specs.Prelude.{Ok, Err}
use Rattle.std.proofs.lemmas.Result.{err_from_is_err_and}
use Rattle.key.proofs.check_keys.Goals as goal

pub loop-i-init : goal.loop-i-init
loop-i-init c = keys-start _ _ _ _

pub returns-in_err-map_err : goal.returns-in_err-map_err
returns-in_err-map_err c =
    let p = err_from_is_err_and c.from_residual.result c.from_residual.ensures.1 in
    let f : (x : NameFault) × (c.key.result ≡ Err x)
    × (c.in_err-map_err.field-0.0 ≡ fault_at (fault_number (fault_of x)) (c.args.from + 16 * c.loop-i.i)) = grind arith in
    rw (p.1, p.2, f.2) (keys-fault _ _ _ _ c.loop-i.i c.loop-i.invariant (omega arith) _ c.u64_at-off.ensures.value f.0 f.1 c.key.ensures)

pub loop-i-preserved : goal.loop-i-preserved
loop-i-preserved c =
    let f : c.key.result ≡ Ok tt = grind arith in
    keys-next _ _ _ _ c.loop-i.i c.loop-i.invariant (omega arith) _ c.u64_at-off.ensures.value f c.key.ensures

pub returns : goal.returns
returns c = keys-end _ _ _ _ _ c.loop-i.invariant (omega arith)
