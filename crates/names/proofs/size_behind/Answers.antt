-- The bytes behind those passed, one more than a name may have at most.
use mathlib.Core.Path.{sym, ◌∙◌}
use Rattle.names.proofs.StartLaws.{sixteen, name-bound}
use Rattle.names.proofs.SizeLaws.{size_above, size-slash, size-plain}
use native.Mathlib.Omega.{arith}
use Rattle.names.proofs.size_behind.Goals as goal

pub overflow_add-limits : goal.overflow_add-limits
overflow_add-limits c = omega (arith, name-bound, c.the_limits-limits.ensures.name_most_equal)

pub overflow_sub-limits : goal.overflow_sub-limits
overflow_sub-limits c = omega (arith, sixteen, c.the_limits-limits.ensures.name_most_equal)

pub returns-then-limits-end : goal.returns-then-limits-end
returns-then-limits-end c =
    size_above _ _ c.requires.segment_in_bounds c.requires.plain c.requires.passed_bound c.the_limits-limits.ensures.name_most_equal
    c.nul_within-end.ensures c.if-limits-end.true

pub returns-then-contains : goal.returns-then-contains
returns-then-contains c =
    size-slash _ _ c.requires.segment_in_bounds c.requires.plain c.requires.passed_bound c.the_limits-limits.ensures.name_most_equal
    c.nul_within-end.ensures (λ l. omega arith) (sym c.contains.ensures ∙ c.if-contains.true)

pub size_unless_dot-requires-clause-slashless : goal.size_unless_dot-requires-clause-slashless
size_unless_dot-requires-clause-slashless c =
    size-plain _ _ c.requires.segment_in_bounds c.requires.plain c.requires.passed_bound c.the_limits-limits.ensures.name_most_equal
    c.nul_within-end.ensures (λ l. omega arith) (sym c.contains.ensures ∙ c.if-contains.false)
