-- The damaged block, as the code has it.
use Rattle.std.specs.Prelude.{ℕ, ◌+◌, ◌*◌, List, get_or}
use Rattle.format.specs.Report as reports
use Rattle.format.specs.Report.{listed_block}
use Rattle.damaged_block.specs.declared.block.ListedBlock.{ListedBlock}

-- the definition's block
abbrev pub listed_of : ListedBlock → reports.ListedBlock
listed_of b = listed_block b.address b.size b.kind b.object

-- the i-th four of a list of words
abbrev pub four_at : List ℕ → ℕ → reports.ListedBlock
four_at ws i = listed_block (get_or ws (4 * i) 0) (get_or ws (4 * i + 1) 0) (get_or ws (4 * i + 2) 0) (get_or ws (4 * i + 3) 0)
