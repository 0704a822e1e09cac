-- The segment with its free list, then the tree in it.
use mathlib.Core.Path.{◌≡◌}
use Rattle.format.specs.Walk.{fault}
use Rattle.heap.specs.Header.{open_heap}
use Rattle.heap.proofs.SegmentLaws.{part-between}
use Rattle.range.proofs.FirstBytes.{empty-inside}
use Rattle.group.proofs.GroupLaws.{list-refused, tree-refused, tree-ended, same-segment, sound-ready}
use native.Mathlib.Omega.{arith}
use Rattle.std.specs.Prelude.{Some, None}
use Rattle.std.proofs.lemmas.Result.{err_from_is_err_and}
use Rattle.group.proofs.contents.read_with.Goals as goal

pub returns-in_err-known-clause-read : goal.returns-in_err-known-clause-read
returns-in_err-known-clause-read g c =
    let im = c.args.reading.now.image.now in
    let heap = c.args.contents.heap in
    let p = err_from_is_err_and c.from_residual.result c.from_residual.ensures.1 in
    let f : (c.read.result ≡ None) × (c.in_err-known.field-0.0 ≡ fault 9 heap.segment) = grind arith in
    rw (p.1, p.2, f.1) (record {
      walked = list-refused im _ _ _ _ c.requires.ready.lent _ _ _ (open_heap im heap) _ _
          (same-segment (part-between im heap.segment heap.size) f.0 c.read.ensures).value;
      ready = tt;
    })

pub tree-requires-clause-sound : goal.tree-requires-clause-sound
tree-requires-clause-sound g c =
    let ready = c.requires.ready in
    record { lent = ready.lent; last = empty-inside _; apart = ready.apart; inside = ready.inside; links = ready.links }

pub returns-in_err-tree-clause-read : goal.returns-in_err-tree-clause-read
returns-in_err-tree-clause-read g c =
    let im = c.args.reading.now.image.now in
    let heap = c.args.contents.heap in
    let p = err_from_is_err_and c.from_residual-in_err-tree.result c.from_residual-in_err-tree.ensures.1 in
    let slice = part-between im heap.segment heap.size in
    let f : c.read.result ≡ Some c.in_ok-known.known = grind arith in
    rw (p.1, p.2) (record {
      walked = tree-refused im _ _ _ c.requires.ready.lent _ _ _ heap.segment _ (same-segment slice f c.read.ensures).value _ _ _ _ _
          (rw slice at c.in_err-tree.ensures.read);
      ready = tt;
    })

pub returns-clause-read : goal.returns-clause-read
returns-clause-read g c =
    let im = c.args.reading.now.image.now in
    let heap = c.args.contents.heap in
    let slice = part-between im heap.segment heap.size in
    let f : c.read.result ≡ Some c.in_ok-known.known = grind arith in
    record {
      walked = tree-ended im _ _ _ c.requires.ready.lent _ _ _ heap.segment _ (same-segment slice f c.read.ensures).value _ _ _ _ _
          c.tree.ensures.kept.long (rw slice at c.in_ok-tree.ensures.read);
      ready = sound-ready c.in_ok-tree.ensures.read.sound;
    }
