-- The words of an audit's reply, read back from its bytes.
use Prim.Native.Nat.{ℕ, zero, suc, ◌+◌, ◌*◌, ◌/◌, ◌^◌, ◌≤◌, ◌<◌}
use mathlib.Core.List.{List, [], ◌∷◌, Memᴰ}
use mathlib.Core.Path.{◌≡◌, refl, ap}
use native.Mathlib.Omega.{arith}
use borrow.Author.Tests.{le-leb}
use lib.ListN.{length}
use Rattle.format.specs.Limits.{objects_most, blocks_most}
use Rattle.format.specs.Bytes.{to_words, padded}
use Rattle.format.specs.Ledger.{Linked}
use Rattle.format.specs.Audit.{Counted, counted_in}
use Rattle.format.specs.Answers.{AuditReply, audit}
use Rattle.format.specs.Front.{object_words, c_audit}
use Rattle.walk.proofs.BlockList.{room_most}
use Rattle.laws.proofs.ImageLength.{image-small}
use Rattle.links.proofs.AuditAnswers.{audit-zero}
use Rattle.links.proofs.AuditSound.{audit-opened, audit-blocks}
use Rattle.links.proofs.Opened.{opened-end}
use Rattle.demand.specs.Bytes.{IsBytes}
use Rattle.demand.proofs.Opened.{opened-range}
use Rattle.demand.proofs.BytesBack.{count_small}
use Rattle.demand.proofs.AuditFields.{header-inside}
use Rattle.demand.proofs.AuditCounts.{counts-small}
use Rattle.demand.proofs.FullMend.{audit-reply}
use Rattle.claims.specs.CDemand3.{IsWords}
use Rattle.claims.specs.Audits.{audit_words}
use Rattle.claims.proofs.WordsBack.{slice-words}
use Rattle.claims.proofs.LogWords.{objects-most}

-- what is known of each object: its count lies in the image, and its links fit four bytes
pub record ObjectFits (im : List ℕ) (o : Linked) : Type 0 where
  pub inside : o.address + 8 ≤ length im
  pub small : o.links < 2 ^ 32

objects-words : (im : List ℕ) (os : List Linked) → IsBytes im → length im < 2 ^ 32 → ((o : Linked) → Memᴰ o os → ObjectFits im o) →
    IsWords (object_words (counted_in im os))
unfolding object_words counted_in
objects-words im [] b m f k = omega arith
objects-words im (o ∷ os) b m f zero = omega (arith, (f o (Memᴰ.head refl)).inside)
objects-words im (o ∷ os) b m f (suc zero) = omega (arith, count_small im b (o.address + 4) (omega (arith, (f o (Memᴰ.head refl)).inside)))
objects-words im (o ∷ os) b m f (suc (suc zero)) = omega (arith, (f o (Memᴰ.head refl)).small)
objects-words im (o ∷ os) b m f (suc (suc (suc k))) = objects-words im os b m (λ q i. f q (Memᴰ.tail i)) k

words-length : (os : List Counted) → length (object_words os) ≡ 3 * length os
unfolding object_words
words-length [] = refl
words-length (o ∷ os) = omega (arith, words-length os)

first_two : (x y : ℕ) (ws : List ℕ) → x < 2 ^ 64 → y < 2 ^ 64 → IsWords ws → IsWords (x ∷ y ∷ ws)
first_two x y ws h k l zero = h
first_two x y ws h k l (suc zero) = k
first_two x y ws h k l (suc (suc i)) = l i

module _ (im : List ℕ) (lent : ℕ) (b : IsBytes im) (z : (audit im lent).number ≡ 0) where
  reply-is-words : IsWords (audit_words (audit im lent))
  unfolding objects_most blocks_most
  reply-is-words =
      let a = audit-zero im lent z in
      let os = a.0 in
      let bs = a.1 in
      let o = audit-opened im lent os bs a.2 in
      let s = o.0 in
      let whole = audit-reply im lent os bs a.2 in
      let objects : (audit im lent).objects ≡ counted_in im os = ap (λ (r : AuditReply). r.objects) whole in
      let count : (audit im lent).block_count ≡ length bs = ap (λ (r : AuditReply). r.block_count) whole in
      let most : length im < 2 ^ 32 = image-small (length im) (opened-range im s o.1) in
      let fits : (q : Linked) → Memᴰ q os → ObjectFits im q =
      λ q i. record {
        inside = omega (arith, header-inside im lent s os bs o.1 a.2 q i, opened-end im s o.1);
        small = counts-small im lent s os bs o.1 a.2 q i;
      } in
      let room = (audit-blocks im lent s os bs o.1 a.2).2 in
      let rest : IsWords (object_words (audit im lent).objects) = rw objects (objects-words im os b most fits) in
      first_two (audit im lent).block_count (length (audit im lent).objects) (object_words (audit im lent).objects)
      (omega (arith, count, room, room_most lent)) (omega (arith, objects-most im lent z)) rest

  reply-length : length (audit_words (audit im lent)) ≤ 2 + 3 * objects_most
  reply-length = omega (arith, words-length (audit im lent).objects, objects-most im lent z)

pub audit-words : (im : List ℕ) (l r : ℕ) → IsBytes im → 2 + 3 * objects_most ≤ r / 8 → (audit im (l / 8)).number ≡ 0 →
    to_words (r / 8) (c_audit im l r).reply ≡ padded (r / 8) (audit_words (audit im (l / 8)))
unfolding c_audit
audit-words im l r b h z =
    let ws = audit_words (audit im (l / 8)) in
    rw (le-leb (2 + 3 * objects_most) (r / 8) h, z)
    (slice-words r ws (reply-is-words im (l / 8) b z) (omega (arith, reply-length im (l / 8) b z, h)))
