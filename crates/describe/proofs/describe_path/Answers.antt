-- Where the path leads, then the description of what is there.
use mathlib.Core.Path.{ap}
use Rattle.std.proofs.lemmas.Result.{err_from_is_err_and}
use Rattle.superblock.specs.Superblock.{superblock_of}
use Rattle.path.specs.Form.{components_of}
use Rattle.walk.specs.Lent.{places_of}
use Rattle.describe.proofs.ReplyLaws.{path-stopped, path-symbolic, path-object}
use Rattle.describe.proofs.describe_path.Goals as goal

pub returns-in_err-find_object : goal.returns-in_err-find_object
returns-in_err-find_object c =
    let p = err_from_is_err_and c.from_residual.result c.from_residual.ensures.1 in
    rw (p.1, p.2)
    (record {
      block_count_bound = tt;
      by_index = path-stopped c.args.image.now (superblock_of c.args.superblock) _ (components_of c.args.path.now) c.find_object.new.list _
          c.in_err-find_object.ensures;
    })

pub returns-in-Symbolic : goal.returns-in-Symbolic
returns-in-Symbolic c =
    record {
      block_count_bound = tt;
      by_index = path-symbolic c.args.image.now (superblock_of c.args.superblock) _ (components_of c.args.path.now) c.find_object.new.list
          (rw c.in-Symbolic.is at c.in_ok-find_object.ensures);
    }

pub returns-in-Object : goal.returns-in-Object
returns-in-Object c =
    let same = ap places_of c.find_object.auto.list in record {
      block_count_bound = rw same at c.describe_object.ensures.block_count_bound;
      by_index = path-object c.args.image.now (superblock_of c.args.superblock) _ (components_of c.args.path.now) c.describe_object.new.list
          c.describe_object.result _ _ same (rw c.in-Object.is at c.in_ok-find_object.ensures) c.describe_object.ensures.by_index;
    }
