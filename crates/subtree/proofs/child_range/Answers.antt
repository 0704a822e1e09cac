-- The keys on both sides narrow the range.
use mathlib.Core.Path.{sym, ◌∙◌}
use Rattle.subtree.proofs.SubtreeLaws.{within-alike}
use Rattle.subtree.proofs.child_range.Goals as goal

pub returns : goal.returns
returns c =
    let low = c.key_at-low.ensures in
    let high = c.key_at-high.ensures in
    let child = c.narrowed.ensures in
    record {
      inside = child.inside;
      tight = λ bounds f t l. within-alike _ _ _ _ bounds t (sym (low.alike t l)) (sym (high.alike t l)) ∙ child.tight bounds f t l;
    }
