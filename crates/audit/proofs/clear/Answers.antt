-- Each list has a place for every object, and is filled with zeros.
use Rattle.std.proofs.Common.{rules}
use mathlib.Core.Path.{◌≡◌, refl, ◌∙◌}
use lib.ListN.{length}
use native.Mathlib.Omega.{arith}
use Rattle.format.specs.Limits.{objects_most}
use Rattle.audit.proofs.clear.Goals as goal

pub returns : goal.returns
unfolding objects_most
returns c =
    let l = c.args.ledger.now in
    let a : length l.addresses ≡ objects_most = search rules in
    let s : length l.stored ≡ objects_most = search rules in
    let t : length l.true_counts ≡ objects_most = search rules in
    record {
      none = refl;
      addresses_zero = c.fill.ensures.after (λ y e. search rules) ∙ rw a refl;
      stored_zero = c.fill-2.ensures.after (λ y e. search rules) ∙ rw s refl;
      counts_zero = c.fill-3.ensures.after (λ y e. search rules) ∙ rw t refl;
    }
