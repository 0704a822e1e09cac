-- The lists stay sound, and what is left of the walk begins at the i-th object.
use mathlib.Core.Path.{refl, ◌∙◌}
use Rattle.format.specs.Limits.{objects_most}
use Rattle.laws.proofs.Simulation.{start}
use Rattle.objects.proofs.ObjectsLaws.{objects-done, object-stopped, object-done}
use native.Mathlib.Omega.{arith}
use Rattle.std.proofs.lemmas.Result.{err_from_is_err_and}
use Rattle.objects.proofs.read.Goals as goal

pub loop-i-init : goal.loop-i-init
unfolding objects_most
loop-i-init c =
    record {
      listed = c.requires.listed;
      come = start _ _ _ _ _ _ c.requires.listed.lent;
      kept = record { same = refl; long = refl };
      kept_found = record {
        lent = refl;
        objects = record { addresses = refl; counts = refl; addresses_long = refl; counts_long = refl };
        marks = refl;
        marks_long = refl;
      };
    }

pub bounds-found-i : goal.bounds-found-i
bounds-found-i c = omega (arith, c.loop-i.invariant.listed.counting.table.fits, c.loop-i.invariant.listed.counting.table.addresses_long)

pub read-requires : goal.read-requires
read-requires c = record {
  opened = c.requires.opened;
  listed = c.loop-i.invariant.listed;
  i_lt_objects_most = omega (arith, c.loop-i.invariant.listed.counting.table.fits);
}

pub returns-in_err-read-clause-walked : goal.returns-in_err-read-clause-walked
returns-in_err-read-clause-walked c =
    let inv = c.loop-i.invariant in
    let p = err_from_is_err_and c.from_residual.result c.from_residual.ensures.1 in
    rw (p.1, p.2) (record {
      walked = object-stopped _ _ _ _ _ _ _ _ _ inv.listed.counting.table inv.come c.loop-i-test.true _ _ c.in_err-read.ensures.walked.walked;
      listed = tt;
    })

pub overflow_add-i : goal.overflow_add-i
unfolding objects_most
overflow_add-i c = omega (arith, c.loop-i.invariant.listed.counting.table.fits)

pub loop-i-smaller : goal.loop-i-smaller
loop-i-smaller c = omega (arith, c.loop-i.invariant.listed.counting.table.fits)

pub loop-i-preserved : goal.loop-i-preserved
loop-i-preserved c =
    let inv = c.loop-i.invariant in
    let k = c.in_ok-read.ensures in
    record {
      listed = k.walked.listed;
      come = object-done _ _ _ _ _ _ _ _ _ inv.listed.counting.table inv.come c.loop-i-test.true _ _ _ k.kept.long k.walked.walked;
      kept = record { same = k.kept.same ∙ inv.kept.same; long = k.kept.long ∙ inv.kept.long };
      kept_found = record {
        lent = k.kept_found.lent ∙ inv.kept_found.lent;
        objects = record {
          addresses = k.kept_found.objects.addresses ∙ inv.kept_found.objects.addresses;
          counts = k.kept_found.objects.counts ∙ inv.kept_found.objects.counts;
          addresses_long = k.kept_found.objects.addresses_long ∙ inv.kept_found.objects.addresses_long;
          counts_long = k.kept_found.objects.counts_long ∙ inv.kept_found.objects.counts_long;
        };
        marks = k.kept_found.marks ∙ inv.kept_found.marks;
        marks_long = k.kept_found.marks_long ∙ inv.kept_found.marks_long;
      };
    }

pub returns-clause-walked : goal.returns-clause-walked
returns-clause-walked c =
    let inv = c.loop-i.invariant in
    record { walked = objects-done _ _ _ _ _ _ _ _ _ inv.listed.counting.table inv.come c.loop-i-test.false; listed = inv.listed }
