-- The first test that fails decides; a limit is known by its name.
use Prim.Native.Nat.{ℕ, ◌*◌, ◌/◌, ◌≤◌}
use mathlib.Core.Path.{◌≡◌, ap, sym, ◌∙◌}
use mathlib.Core.List.{List}
use mathlib.Core.Bool.{true}
use lib.ListN.{length, take}
use Rattle.format.specs.Limits.{image_least, image_most}
use Rattle.format.specs.Bytes.{in_range}
use Rattle.walk.proofs.Tests.{range-below, range-above, range_inside}
use Rattle.format.specs.Log.{changes}
use Rattle.format.specs.Undo.{all_fit}
use Rattle.undo.specs.Reply.{words_of}
use Rattle.undo.proofs.UndoLaws.{field_fits, number-0, number-1, number-18, number-19}
use Rattle.undo.proofs.ByteLaws.{length-words, entries-first}
use native.Mathlib.Omega.{arith}
use Rattle.undo.proofs.check.Goals as goal

-- the image's length is in range
in-range : (n l m : ℕ) → l ≡ image_least → m ≡ image_most → l ≤ n → n ≤ m → in_range image_least image_most n ≡ true
in-range n l m e f h k = range_inside image_least image_most n (omega arith) (omega arith)

-- the log has both words of each entry
both_words : (e : ℕ) (log : List ℕ) → e ≤ length log / 16 → 2 * e ≤ length (words_of log)
both_words e log h = omega (arith, length-words (length log / 8) log)

-- whether all entries fit is asked of their bytes alone
entries : (e : ℕ) (im log : List ℕ) → e ≤ length log / 16 →
    all_fit im (changes (length (take (16 * e) log) / 16) (words_of (take (16 * e) log))) ≡ all_fit im (changes e (words_of log))
entries e im log h = ap (all_fit im) (entries-first log e h)

pub returns-then-image-limits : goal.returns-then-image-limits
returns-then-image-limits c =
    let limits = c.the_limits-limits.ensures in
    let a = c.args in (
      number-1 a.image.now (words_of a.log.now) a.entries (range-below image_least image_most _
          (omega (arith, c.if-image-limits.true, limits.image_least_equal))),
      λ e. omega (arith, e),
    )

pub returns-then-limits-image : goal.returns-then-limits-image
returns-then-limits-image c =
    let limits = c.the_limits-limits.ensures in
    let a = c.args in (
      number-1 a.image.now (words_of a.log.now) a.entries (range-above image_least image_most _
          (omega (arith, c.if-limits-image.true, limits.image_most_equal))),
      λ e. omega (arith, e),
    )

pub returns-then-log-entries : goal.returns-then-log-entries
returns-then-log-entries c =
    let limits = c.the_limits-limits.ensures in
    let a = c.args in (
      number-18 a.image.now (words_of a.log.now) a.entries
          (in-range _ _ _ limits.image_least_equal limits.image_most_equal c.if-image-limits.false c.if-limits-image.false)
          (omega (arith, c.if-log-entries.true, length-words (length a.log.now / 8) a.log.now)),
      λ e. omega (arith, e),
    )

pub all_fit-requires : goal.all_fit-requires
all_fit-requires c = omega (arith, c.if-image-limits.false, c.the_limits-limits.ensures.image_least_equal, field_fits)

pub returns-then-not-all_fit : goal.returns-then-not-all_fit
returns-then-not-all_fit c =
    let limits = c.the_limits-limits.ensures in
    let a = c.args in (
      number-19 a.image.now (words_of a.log.now) a.entries
          (in-range _ _ _ limits.image_least_equal limits.image_most_equal c.if-image-limits.false c.if-limits-image.false)
          (both_words a.entries a.log.now c.if-log-entries.false)
          (sym (c.all_fit.ensures ∙ entries a.entries a.image.now a.log.now c.if-log-entries.false) ∙ c.if-not-all_fit.true),
      λ e. omega (arith, e),
    )

pub returns : goal.returns
returns c =
    let limits = c.the_limits-limits.ensures in
    let a = c.args in
    number-0 a.image.now (words_of a.log.now) a.entries
    (in-range _ _ _ limits.image_least_equal limits.image_most_equal c.if-image-limits.false c.if-limits-image.false)
    (both_words a.entries a.log.now c.if-log-entries.false)
    (sym (c.all_fit.ensures ∙ entries a.entries a.image.now a.log.now c.if-log-entries.false) ∙ c.if-not-all_fit.false)
