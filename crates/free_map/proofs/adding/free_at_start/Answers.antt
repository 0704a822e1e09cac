-- The cell keeps the free bytes at its end.
use mathlib.Core.Path.{ap, ◌∙◌}
use lib.ListN.{get_or, set}
use Rattle.free_map.specs.Cells.{joined_cell}
use Rattle.free_map.proofs.CellLaws.{end-most}
use native.Mathlib.Omega.{arith}
use borrow.Author.Rules.{rules}
use Rattle.free_map.proofs.adding.free_at_start.Goals as goal

pub joined-requires : goal.joined-requires
joined-requires c =
    let a = c.args in
    record {
      start_bound = search rules;
      end_bound = rw c.free_end.ensures (end-most (get_or a.map.now a.c 0) (omega (arith, c.type_inv.map a.c)));
    }

pub returns : goal.returns
returns c =
    let a = c.args in
    ap (set a.map.now a.c) (c.joined.ensures ∙ ap (joined_cell a.n) c.free_end.ensures)
