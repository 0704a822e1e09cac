-- The cell keeps the free bytes at its start.
use mathlib.Core.Path.{ap, ◌∙◌}
use lib.ListN.{get_or, set}
use Rattle.free_map.specs.Cells.{joined_cell}
use Rattle.free_map.proofs.CellLaws.{start-most}
use borrow.Author.Rules.{rules}
use Rattle.free_map.proofs.adding.free_at_end.Goals as goal

pub joined-requires : goal.joined-requires
joined-requires c =
    let a = c.args in
    record {
      start_bound = rw c.free_start.ensures (start-most (get_or a.map.now a.c 0));
      end_bound = search rules;
    }

pub returns : goal.returns
returns c =
    let a = c.args in
    ap (set a.map.now a.c) (c.joined.ensures ∙ ap (λ s. joined_cell s a.n) c.free_start.ensures)
