-- The height falls at each call; in the loop, the walk from the start has come to the ith child.
use Rattle.subtree.proofs.SubtreeLaws.{Turn}
use Rattle.subtree.proofs.+subtree.Given as goal

abbrev pub decreases-subtree : goal.decreases-subtree
decreases-subtree g l = l.top.height

abbrev pub invariant-loop-i : goal.invariant-loop-i
invariant-loop-i g l =
    let v = g.V.Visitor in
    Turn (v.visit l.fn.visitor) l.group l.fn.range l.fn.top l.fn.blocks (v.found l.fn.visitor) l.entries l.blocks l.i l.last (v.found l.visitor)
    (v.links l.visitor) × v.Ready l.visitor × v.Same l.fn.visitor l.visitor
