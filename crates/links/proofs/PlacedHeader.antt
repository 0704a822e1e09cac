-- The faults of a header are met in its block or in one of its continuations, and its messages begin there. With the number 13, of continuations that are
-- too many, there are more blocks than any room.
use Prim.Native.Nat.{ℕ, zero, suc, ◌+◌, ◌≤◌, ◌<◌}
use mathlib.Core.Bool.{true, not}
use mathlib.Core.List.{List, [], ◌∷◌, ◌++◌}
use mathlib.Core.Path.{◌≡◌, refl}
use native.Mathlib.Omega.{arith}
use lib.Dec.{eqb}
use lib.ListN.{length, drop, length-drop}
use Rattle.format.specs.Limits.{blocks_most}
use Rattle.format.specs.Bytes.{u8, u16, u64}
use Rattle.format.specs.Blocks.{Block}
use Rattle.format.specs.Result.{Result}
use Rattle.format.specs.Walk.{header_block, continuation_block}
use Rattle.format.specs.Message.{Message, is_shared, of_type, the_message}
use Rattle.format.specs.Header.{Gathered, continuations, header_contents, header_messages}
use Rattle.format.specs.Header.{Object, group, dataset, committed, has_counts, object_of, Headed, header_with}
use Rattle.format.specs.Dataset.{head_at}
use Rattle.walk.proofs.Tests.{all_held}
use Rattle.links.specs.Placed.{HeldBy}
use Rattle.links.proofs.Numbered.{Answered}
use Rattle.links.proofs.PlacedBlocks.{HeldUpTo}
use Rattle.links.proofs.Placed.{Not13, Placed, placed-bind, placed-ret, placed-refuse, placed-full, placed-enter, placed-block, placed-check, placed-if}
use Rattle.links.proofs.PlacedMessages.{HeadsHeld, heads-kept, heads-append, heads-of, messages-placed}

-- the messages of a dataset begin in bytes that are held
abbrev pub ObjectHeld : List Block → Object → Type 0
ObjectHeld bs (group tree heap) = Unit {0}
ObjectHeld bs (dataset space type layout) = HeldBy bs (head_at space) × HeldBy bs (head_at type) × HeldBy bs (head_at layout)
ObjectHeld bs committed = Unit {0}

-- at the end of a header at the address at: its first byte is held, and its messages begin in bytes that are held
abbrev HeaderEnd : {S : Type 0} → ℕ → List Block → Gathered S → Type 0
HeaderEnd at bs g = HeldBy bs at × HeadsHeld bs g.all

abbrev pub HeadedEnd : {S : Type 0} → ℕ → List Block → Headed S → Type 0
HeadedEnd at bs h = HeldBy bs at × ObjectHeld bs h.object

-- one message of each type
dataset-heads : (bs : List Block) (ms : List Message) → HeadsHeld bs ms → has_counts ms 1 1 1 0 ≡ true →
    HeldBy bs (head_at (the_message 0x0001 ms)) × HeldBy bs (head_at (the_message 0x0003 ms)) × HeldBy bs (head_at (the_message 0x0008 ms))
unfolding has_counts
dataset-heads bs ms h t =
    let one = all_held _ _ t in
    let two = all_held _ _ one.1 in
    let three = all_held _ _ two.1 in
    let head = heads-of bs ms h in
    (head 0x0001 one.0, head 0x0003 two.0, head 0x0008 three.0)

object-placed : (bs : List Block) (at : ℕ) (ms : List Message) → HeldBy bs at → HeadsHeld bs ms → Placed ObjectHeld bs (object_of at ms)
unfolding object_of
object-placed bs at ms a h =
    placed-if ObjectHeld bs (has_counts ms 0 0 0 1) _ _ (λ _. placed-ret ObjectHeld bs _ tt) λ _.
    placed-if ObjectHeld bs (has_counts ms 1 1 1 0) _ _ (λ t. placed-ret ObjectHeld bs _ (dataset-heads bs ms h t)) λ _.
    placed-if ObjectHeld bs (has_counts ms 0 1 0 0) _ _
    (λ _. placed-check ObjectHeld bs (not (is_shared (the_message 0x0003 ms).flags)) 10 at _ refl a (λ _. placed-ret ObjectHeld bs _ tt))
    (λ _. placed-refuse _ bs 10 at refl a)

module _ {S : Type 0} (visit : Message → S → Result S) (visited : (m : Message) (s : S) → Answered Not13 (visit m s)) where
  -- the fuel lasts for as many blocks as there is ever room for
  continuations-placed : (fuel : ℕ) (waiting : List Message) (sofar : Gathered S) (bs : List Block) → blocks_most < length bs + fuel →
      HeadsHeld bs sofar.all → Placed (λ cs g. HeadsHeld cs g.all) bs (continuations visit fuel waiting sofar)
  unfolding continuations
  continuations-placed zero waiting sofar bs l h = placed-full _ bs 0 (omega (arith, l))
  continuations-placed (suc fuel) [] sofar bs l h = placed-ret _ bs sofar h
  continuations-placed (suc fuel) (c ∷ waiting) sofar bs l h =
      placed-block _ bs continuation_block (u64 c.body 0) (u64 c.body 8) _ λ b cs e more.
      placed-bind _ _ cs _ _ (messages-placed visit visited cs (length b) (u64 c.body 0) b sofar.found (rw e more.held)) λ ds new k p.
      continuations-placed fuel (waiting ++ of_type 0x0010 new.all) (record { all = sofar.all ++ new.all; found = new.found }) ds
      (omega (arith, l, more.longer, k.longer))
      (heads-append ds sofar.all new.all (heads-kept k sofar.all (heads-kept more.kept sofar.all h)) p)

  contents-placed : (bs : List Block) (at : ℕ) (s : S) (b : List ℕ) → 1 ≤ length bs → 16 ≤ length b → HeldUpTo bs at (at + length b) →
      Placed (HeaderEnd at) bs (header_contents visit at s b)
  unfolding header_contents
  contents-placed bs at s b z l h =
      let a = h at (omega arith) (omega (arith, l)) in
      placed-check _ bs (eqb (u8 b 0) 1) 3 at _ refl a λ _.
      placed-bind _ _ bs _ _
      (messages-placed visit visited bs (length b) (at + 16) (drop 16 b) s (λ x f t. h x (omega arith) (omega (arith, t, l, length-drop 16 b))))
      λ cs first k p.
      placed-bind _ _ cs _ _
      (continuations-placed blocks_most (of_type 0x0010 first.all) first cs (omega (arith, z, k.longer)) p)
      λ ds g q r.
      let c = q.held at (k.held at a) in
      placed-check _ ds (eqb (length g.all) (u16 b 2)) 10 at _ refl c (λ _. placed-ret _ ds g (c, r))

  pub header-placed : (bs : List Block) (at : ℕ) (s : S) → Placed (HeadedEnd at) bs (header_with visit at s)
  unfolding header_with header_messages
  header-placed bs at s =
      placed-bind (HeaderEnd at) _ bs _ _
      (placed-enter _ bs header_block at _ _ (λ b cs l more. contents-placed cs at s b (omega (arith, more.longer)) l more.held))
      λ cs g k h.
      placed-bind ObjectHeld _ cs _ _ (object-placed cs at g.all h.0 h.1) λ ds o q p.
      placed-ret _ ds _ (q.held at h.0, p)
