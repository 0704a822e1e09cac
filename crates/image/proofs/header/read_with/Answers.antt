-- Its messages, then its kind.
use Rattle.kind.specs.Kind.{header_end}
use Rattle.std.proofs.lemmas.Result.{err_from_is_err_and}
use Rattle.image.proofs.HeaderSteps.{read-stopped, read_as, on-ok}
use Rattle.image.proofs.header.read_with.Goals as goal

pub returns-in_err-tally-clause-headed : goal.returns-in_err-tally-clause-headed
returns-in_err-tally-clause-headed g c =
    let p = err_from_is_err_and c.from_residual.result c.from_residual.ensures.1 in
    rw (p.1, p.2) (record {
      walked = read-stopped _ _ _ _ _ _ _ _ c.requires.lending.lent _ _ c.in_err-tally.ensures.gathered_is;
      bodies = tt;
    })

pub returns-clause-headed : goal.returns-clause-headed
returns-clause-headed g c =
    let gathered = c.in_ok-tally.ensures.gathered_is in
    record {
      walked = read_as _ _ _ _ _ _ _ _ c.requires.lending.lent _ _ _ c.messages.ensures.kept.long gathered.1
          (header_end c.args.reading.image.now _ c.kind_of.result) (c.kind_of.ensures.known gathered.0 _ gathered.2);
      bodies = c.kind_of.ensures.bodies;
    }

pub returns-clause-counting_on : goal.returns-clause-counting_on
returns-clause-counting_on g c = on-ok c.kind_of.result c.in_ok-tally.ensures.counting_on
