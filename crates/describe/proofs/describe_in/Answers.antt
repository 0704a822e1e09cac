-- The path's form, the superblock, then the path.
use Prim.Native.Nat.{ℕ}
use mathlib.Core.Path.{◌≡◌}
use native.Mathlib.Omega.{arith}
use Rattle.std.specs.Prelude.{Ok, Err}
use Rattle.std.proofs.lemmas.Result.{err_from_is_err_and}
use Rattle.format.specs.Walk.{fault}
use Rattle.superblock.specs.Superblock.{superblock_of}
use Rattle.describe.proofs.ReplyLaws.{bad-is, not-opened-is, opened-is}
use Rattle.describe.proofs.describe_in.Goals as goal

pub returns-then-not-is_sound : goal.returns-then-not-is_sound
returns-then-not-is_sound c =
    record {
      block_count_bound = tt;
      by_index = bad-is c.args.image.now c.args.path.now c.args.list.now _ c.is_sound.ensures c.if-not-is_sound.true;
    }

pub describe_path-requires : goal.describe_path-requires
describe_path-requires c =
    let o : c.open.result ≡ Ok c.in_ok-superblock.superblock = grind arith in
    record {
      bounded = rw o at c.open.ensures.fields_bounded;
      in_bounds = c.is_sound.ensures.begun c.if-not-is_sound.false;
    }

pub returns-in_err-superblock : goal.returns-in_err-superblock
returns-in_err-superblock c =
    let p = err_from_is_err_and c.from_residual.result c.from_residual.ensures.1 in
    let f : (x : ℕ) × (c.open.result ≡ Err x) × (c.in_err-superblock.field-0.0 ≡ fault x 0) = grind arith in
    rw (p.1, p.2, f.2)
    (record {
      block_count_bound = tt;
      by_index = not-opened-is c.args.image.now c.args.path.now c.args.list.now _ c.is_sound.ensures c.if-not-is_sound.false f.0
          (rw f.1 at c.open.ensures.result_value);
    })

pub returns : goal.returns
returns c =
    let o : c.open.result ≡ Ok c.in_ok-superblock.superblock = grind arith in
    record {
      block_count_bound = c.describe_path.ensures.block_count_bound;
      by_index = opened-is c.args.image.now c.args.path.now c.describe_path.new.list _ c.is_sound.ensures c.describe_path.result c.if-not-is_sound.false
          (superblock_of c.in_ok-superblock.superblock) (rw o at c.open.ensures.result_value) c.describe_path.ensures.by_index;
    }
