-- Each test against its place in the walk of a symbol table node, then its entries.
use Rattle.symbol_node.proofs.SymbolLaws.{symbols-refused, block-there, signature-wrong, version-wrong, count_low, count-high, symbols-end, links-small}
use native.Mathlib.Omega.{arith}
use Rattle.std.proofs.lemmas.Result.{err_from_is_err_and}
use Rattle.symbol_node.proofs.symbol_node.Goals as goal
use Rattle.symbol_node.proofs.symbol_node.Goals.{then-n-lt1-via-then-n-lt1, then-n-lt1-via-else-n-lt1+then-k-n}

pub returns-in_err-enter-clause-read : goal.returns-in_err-enter-clause-read
returns-in_err-enter-clause-read g c =
    let p = err_from_is_err_and c.from_residual.result c.from_residual.ensures.1 in
    rw (p.1, p.2) (symbols-refused c.requires.descending _ _ _ _ c.enter.ensures.entered _ c.in_err-enter.ensures.value)

pub u32_at-requires : goal.u32_at-requires
u32_at-requires g c = omega (arith, (block-there c.requires.descending _ _ c.enter.ensures.entered _ c.in_ok-enter.ensures.value).there)

pub overflow_add-start : goal.overflow_add-start
overflow_add-start g c = omega (arith, (block-there c.requires.descending _ _ c.enter.ensures.entered _ c.in_ok-enter.ensures.value).there)

pub bounds-image-start : goal.bounds-image-start
bounds-image-start g c = omega (arith, (block-there c.requires.descending _ _ c.enter.ensures.entered _ c.in_ok-enter.ensures.value).there)

pub u16_at-n-requires : goal.u16_at-n-requires
u16_at-n-requires g c = omega (arith, (block-there c.requires.descending _ _ c.enter.ensures.entered _ c.in_ok-enter.ensures.value).there)

pub returns-then-u32_at-ne-SNOD-clause-read : goal.returns-then-u32_at-ne-SNOD-clause-read
returns-then-u32_at-ne-SNOD-clause-read g c =
    signature-wrong c.requires.descending _ _ _ _ c.enter.ensures.entered _ c.in_ok-enter.ensures.value _ c.u32_at.ensures c.if-u32_at-ne-SNOD.true

pub returns-then-image-start-ne-VERSION-clause-read : goal.returns-then-image-start-ne-VERSION-clause-read
returns-then-image-start-ne-VERSION-clause-read g c =
    version-wrong c.requires.descending _ _ _ _ c.enter.ensures.entered _ c.in_ok-enter.ensures.value _ c.u32_at.ensures c.if-u32_at-ne-SNOD.false
    c.if-image-start-ne-VERSION.true

pub returns-then-n-lt1-clause-read : goal.returns-then-n-lt1-clause-read
returns-then-n-lt1-clause-read g c = elim c.then-n-lt1.branch [
  | then-n-lt1-via-then-n-lt1 w ↦
      count_low c.requires.descending _ _ _ _ c.enter.ensures.entered _ c.in_ok-enter.ensures.value _ c.u32_at.ensures c.if-u32_at-ne-SNOD.false
      c.if-image-start-ne-VERSION.false _ c.u16_at-n.ensures w.if-n-lt1.true
  | then-n-lt1-via-else-n-lt1+then-k-n w ↦
      count-high c.requires.descending _ _ _ _ c.enter.ensures.entered _ c.in_ok-enter.ensures.value _ c.u32_at.ensures c.if-u32_at-ne-SNOD.false
      c.if-image-start-ne-VERSION.false _ c.u16_at-n.ensures w.if-k-n.true
]

pub entries-requires-clause-n_in_bounds : goal.entries-requires-clause-n_in_bounds
entries-requires-clause-n_in_bounds g c =
    omega (arith, (block-there c.requires.descending _ _ c.enter.ensures.entered _ c.in_ok-enter.ensures.value).there, c.if-k-n.false)

pub entries-requires-clause-links_bound : goal.entries-requires-clause-links_bound
entries-requires-clause-links_bound g c =
    links-small c.u16_at-n.result (block-there c.requires.descending _ _ c.enter.ensures.entered _ c.in_ok-enter.ensures.value)
    c.requires.descending.fixed.small (omega (arith, c.if-k-n.false))

pub returns-clause-read : goal.returns-clause-read
returns-clause-read g c =
    symbols-end c.requires.descending _ _ _ _ c.enter.ensures.entered _ c.in_ok-enter.ensures.value _ c.u32_at.ensures c.if-u32_at-ne-SNOD.false
    c.if-image-start-ne-VERSION.false _ c.u16_at-n.ensures (omega (arith, c.if-n-lt1.false)) c.if-k-n.false _ _ _ c.entries.ensures.links
    c.entries.ensures.read
