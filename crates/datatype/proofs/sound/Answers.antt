-- A class with bits has them in the body; a class without has nothing to show.
use lib.ListN.{length}
use mathlib.Core.Path.{sym, ◌∙◌}
use Rattle.datatype.proofs.DatatypeLaws.{extent-holds}
use Rattle.datatype.proofs.sound.Goals as goal

pub bits_sound-requires : goal.bits_sound-requires
bits_sound-requires c =
    let s = c in
    record {
      in_bounds = extent-holds s.args.class (length s.args.body.now) (sym c.has_bits.ensures ∙ c.if-has_bits.true) s.requires.class_in_bounds;
      size_bound = s.requires.size_bound;
    }

pub returns-then-has_bits : goal.returns-then-has_bits
returns-then-has_bits c = rw (sym c.has_bits.ensures ∙ c.if-has_bits.true) c.bits_sound.ensures

pub returns : goal.returns
returns c = rw (sym c.has_bits.ensures ∙ c.if-has_bits.false)
