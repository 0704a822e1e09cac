-- The path, then the superblock, then the walk.
use Prim.Native.Nat.{ℕ}
use mathlib.Core.Path.{◌≡◌}
use native.Mathlib.Omega.{arith}
use Rattle.std.specs.Prelude.{Ok, Err}
use Rattle.std.proofs.lemmas.Result.{err_from_is_err_and}
use Rattle.format.specs.Walk.{fault}
use Rattle.lookup.proofs.LookupLaws.{bad-path-is, not-opened-is, opened-is}
use Rattle.lookup.proofs.lookup.lookup_in.Goals as goal

pub returns-then-not-is_sound : goal.returns-then-not-is_sound
returns-then-not-is_sound c = λ lent fit. bad-path-is c.args.image.now c.args.path.now lent (c.is_sound.ensures.bad c.if-not-is_sound.true)

pub locate-requires : goal.locate-requires
locate-requires c =
    let o : c.open.result ≡ Ok c.in_ok-superblock.superblock = grind arith in
    record {
      bounded = rw o at c.open.ensures.fields_bounded;
      in_bounds = c.is_sound.ensures.begun c.if-not-is_sound.false;
    }

pub returns-in_err-superblock : goal.returns-in_err-superblock
returns-in_err-superblock c =
    let p = err_from_is_err_and c.from_residual.result c.from_residual.ensures.1 in
    let f : (x : ℕ) × (c.open.result ≡ Err x) × (c.in_err-superblock.field-0.0 ≡ fault x 0) = grind arith in
    λ lent fit.
    rw (p.1, p.2, f.2)
    (not-opened-is c.args.image.now c.args.path.now lent (c.is_sound.ensures.sound c.if-not-is_sound.false) f.0 (rw f.1 at c.open.ensures.result_value))

pub returns : goal.returns
returns c =
    let o : c.open.result ≡ Ok c.in_ok-superblock.superblock = grind arith in
    λ lent fit.
    opened-is c.args.image.now c.args.path.now lent (c.is_sound.ensures.sound c.if-not-is_sound.false) c.in_ok-superblock.superblock c.locate.result
    (rw o at c.open.ensures.result_value) (c.locate.ensures lent fit)
