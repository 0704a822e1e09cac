-- The counts of a ledger of no object are filled with zeros.
use Rattle.std.proofs.Common.{rules}
use mathlib.Core.Path.{◌≡◌, refl, ◌∙◌}
use lib.ListN.{length}
use native.Mathlib.Omega.{arith}
use Rattle.format.specs.Limits.{objects_most}
use Rattle.report.proofs.complete.Goals as goal

pub returns-then-objects-eq0-clause-ledger : goal.returns-then-objects-eq0-clause-ledger
unfolding objects_most
returns-then-objects-eq0-clause-ledger c =
    let l = c.args.reply.now.ledger in
    let s : length l.stored ≡ objects_most = search rules in
    let t : length l.true_counts ≡ objects_most = search rules in
    record {
      none = λ e. record {
        none = c.requires.none;
        addresses_zero = c.requires.zeros;
        stored_zero = c.fill.ensures.after (λ y e. search rules) ∙ rw s refl;
        counts_zero = c.fill-then-objects-eq0.ensures.after (λ y e. search rules) ∙ rw t refl;
      };
      filled = λ h. absurd (omega (arith, h, c.if-objects-eq0.true));
      copied = λ h. absurd (omega (arith, h, c.if-objects-eq0.true));
    }
