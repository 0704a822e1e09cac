-- What either run decides is put together; the second is asked only where the first meets no block.
use mathlib.Core.Path.{refl, ◌∙◌}
use native.Mathlib.Omega.{arith}
use Rattle.block_index.proofs.FindLaws.{run-sorted, last-sorted, tests-found, Decided, first-decides, second-decides, found_in}
use Rattle.block_index.proofs.index.BlockList.find.Goals as goal
use Rattle.block_index.proofs.index.BlockList.find.Goals.{then-not-met, else-not-met}

pub place_in-first-requires : goal.place_in-first-requires
place_in-first-requires c = run-sorted _ _ _ _ c.first_run-run.ensures c.second_run-last.ensures c.requires.indexed

pub place_in-second-requires : goal.place_in-second-requires
place_in-second-requires c =
    let l = c in
    last-sorted _ _ _ _ l.first_run-run.ensures l.second_run-last.ensures l.requires.indexed

pub meets-met-requires : goal.meets-met-requires
meets-met-requires c =
    let l = c in
    run-sorted _ _ _ _ l.first_run-run.ensures l.second_run-last.ensures l.requires.indexed

pub meets-met-requires-then-not-met : goal.meets-met-requires-then-not-met
meets-met-requires-then-not-met c =
    let l = c in
    last-sorted _ _ _ _ l.first_run-run.ensures l.second_run-last.ensures l.requires.indexed

pub overflow_add-result : goal.overflow_add-result
overflow_add-result c =
    -- so few tests that their number doesn't wrap
    omega (
      arith,
      tests-found c.args.self.words.now c.args.self.count _ _ c.first_run-run.ensures c.second_run-last.ensures _ _ c.place_in-first.ensures.by_index
          c.place_in-second.ensures.by_index 64 (omega arith),
    )

pub returns : goal.returns
returns c =
    let f = c.first_run-run.ensures in
    let g = c.second_run-last.ensures in
    let p = c.place_in-first.ensures in
    let q = c.place_in-second.ensures in
    let one = c.meets-met.ensures in
    -- either way to the answer, it says whether a block is met
    let decided : Decided c.args.self.words.now c.args.self.count c.args.new.at c.args.new.size c.if-not-met.met =
    elim c.if-not-met.branch [
      | then-not-met w ↦
          let two = w.meets-met-then-not-met.ensures in
          second-decides _ _ _ _ f g _ _ _ _ w.met-is (one.by_index_2 _ _ refl p.placed w.if-not-met.true) (two.by_index _ _ refl q.placed)
          (two.by_index_2 _ _ refl q.placed)
      | else-not-met w ↦ first-decides _ _ _ _ f g _ _ _ (w.met-is ∙ w.if-not-met.false) (one.by_index _ _ refl p.placed w.if-not-met.false)
    ] in
    found_in _ _ _ _ f g _ _ _ _ _ _ _ p.placed q.placed decided p.by_index q.by_index
