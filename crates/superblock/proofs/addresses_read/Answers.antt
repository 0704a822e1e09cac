-- The first test that fails decides; where all but the last pass, the last does.
use mathlib.Core.Path.{ap, sym, ◌∙◌}
use Prim.Native.Nat.{ℕ}
use lib.Dec.{eqb}
use Rattle.format.specs.Bytes.{undefined_address}
use Rattle.format.specs.Superblock.{addresses_read}
use Rattle.walk.proofs.Tests.{all-fails, all-passes, all-last, field-equal, field-unequal}
use Rattle.superblock.proofs.SuperblockLaws.{shifted-field}
use Rattle.superblock.proofs.addresses_read.Goals as goal

pub returns-then-u64_at-ne0 : goal.returns-then-u64_at-ne0
unfolding addresses_read undefined_address
returns-then-u64_at-ne0 c =
    let s = c in
    all-fails _ (field-unequal (shifted-field s.args.image.now s.args.shift 24 8 _ s.requires c.u64_at.ensures) c.if-u64_at-ne0.true)

pub returns-then-u64_at : goal.returns-then-u64_at
unfolding addresses_read undefined_address
returns-then-u64_at c =
    let first = c in
    let s = first in
    all-passes _ (field-equal (shifted-field s.args.image.now s.args.shift 24 8 _ s.requires first.u64_at.ensures) first.if-u64_at-ne0.false)
    (all-fails _ (field-unequal (shifted-field s.args.image.now s.args.shift 32 8 _ s.requires c.u64_at-2.ensures) c.if-u64_at.true))

pub returns : goal.returns
unfolding addresses_read undefined_address
returns c =
    let second = c in
    let first = second in
    let s = first in
    all-passes _ (field-equal (shifted-field s.args.image.now s.args.shift 24 8 _ s.requires first.u64_at.ensures) first.if-u64_at-ne0.false)
    (all-passes _ (field-equal (shifted-field s.args.image.now s.args.shift 32 8 _ s.requires second.u64_at-2.ensures) second.if-u64_at.false)
    (sym (ap (λ (x : ℕ). eqb x undefined_address) (shifted-field s.args.image.now s.args.shift 48 8 _ s.requires c.u64_at-3.ensures)) ∙ all-last _))
