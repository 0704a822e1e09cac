-- The image holds the old counts from the ith entry on; each turn reads the entry before and writes its old count. Writing keeps the length,
-- so that each field stays inside.
use Prim.Native.Nat.{◌+◌, ◌-◌, ◌/◌}
use lib.ListN.{length}
use mathlib.Core.Path.{◌≡◌, refl, ◌∙◌}
use Rattle.undo.specs.Reply.{words_of}
use Rattle.undo.proofs.UndoLaws.{field-inside, restored-none, restored-next}
use Rattle.undo.proofs.ByteLaws.{field-read, old-put}
use native.Mathlib.Omega.{arith}
use Rattle.undo.proofs.restore.Goals as goal

pub loop-i-init : goal.loop-i-init
loop-i-init c =
    let a = c.args in
    (omega arith, refl, restored-none a.image.now (words_of a.log.now) (length a.log.now / 16))

pub overflow_cast-old : goal.overflow_cast-old
overflow_cast-old c = omega (arith, c.u64_at-old.ensures.bound)

pub put_u32-requires : goal.put_u32-requires
put_u32-requires c =
    let s = c in
    let st = s in
    let a = st.args in
    let i = s.loop-i.i - 1 in
    let f = field-read a.log.now i (omega arith) c.u64_at-field.ensures in
    omega (arith, f, s.loop-i.invariant.1, field-inside a.image.now (words_of a.log.now) (length a.log.now / 16) i (omega arith) st.requires)

pub loop-i-preserved : goal.loop-i-preserved
loop-i-preserved c =
    let s = c in
    let a = s.args in
    let w = c.put_u32 in
    let i = s.loop-i.i - 1 in
    let e : s.loop-i.i - 1 + 1 ≡ s.loop-i.i = omega arith in
    let field = c.u64_at-field.ensures in
    let counts = c.u64_at-old.ensures in
    let put = old-put a.log.now i (omega arith) field counts s.loop-i.image _ w.ensures in
    let h = restored-next a.image.now s.loop-i.image (words_of a.log.now) (length a.log.now / 16) i (omega arith) (rw e s.loop-i.invariant.2) in
    (omega arith, w.auto.out ∙ s.loop-i.invariant.1, put ∙ h)

pub returns : goal.returns
returns c =
    let s = c in
    let a = s.args in
    let e : s.loop-i.i ≡ 0 = omega arith in
    s.loop-i.invariant.2 ∙ rw e
