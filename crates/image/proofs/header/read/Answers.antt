-- By the reader that does nothing at a message.
use Rattle.kind.specs.Kind.{header_end}
use Rattle.image.proofs.HeaderSteps.{kind-alone}
use Rattle.image.proofs.header.read.Goals as goal

pub returns-clause-header : goal.returns-clause-header
returns-clause-header c =
    let read = c.read_with.ensures.headed in
    record {
      walked = kind-alone _ _ _ _ _ _ _ c.requires.lent c.read_with.ensures.kept.long (header_end c.args.image.now _ c.read_with.result) read.walked;
      bodies = read.bodies;
    }
