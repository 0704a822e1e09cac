-- The log of a mend holds 64-bit words, and an undo in C reads them back from the bytes that the mend left.
use Prim.Native.Nat.{ℕ, zero, suc, ◌/◌, ◌-◌, ◌^◌, ◌≤◌, ◌<◌}
use mathlib.Core.Bool.{Bool, true, false}
use mathlib.Core.List.{List, [], ◌∷◌, ◌++◌, append-nil, Memᴰ}
use mathlib.Core.Path.{◌≡◌, refl, ap}
use native.Mathlib.Omega.{arith}
use lib.Dec.{eqb}
use lib.ListN.{length, replicate}
use Rattle.format.specs.Limits.{objects_most}
use Rattle.std.specs.Prelude.{if◌then◌else◌}
use Rattle.format.specs.Bytes.{to_words, padded}
use Rattle.format.specs.Ledger.{Linked, linked}
use Rattle.format.specs.Audit.{Counted, counted_in}
use Rattle.format.specs.Log.{Change, log_words}
use Rattle.format.specs.Mend.{corrections}
use Rattle.format.specs.Answers.{AuditReply, MendReply, audit, mend}
use Rattle.format.specs.Front.{padded_bytes}
use Rattle.laws.proofs.ImageLength.{image-small}
use Rattle.ledger.proofs.LedgerLaws.{count_most}
use Rattle.links.proofs.Counting.{counting-keeps}
use Rattle.links.proofs.AuditSound.{audit-opened, audit-sound}
use Rattle.links.proofs.AuditAnswers.{audit-zero}
use Rattle.demand.specs.Bytes.{IsBytes}
use Rattle.demand.specs.Fields.{Small}
use Rattle.demand.proofs.Opened.{opened-range}
use Rattle.demand.proofs.LogRead.{zero-at, padded-length}
use Rattle.demand.proofs.AuditFields.{audit-fields, audit-small}
use Rattle.demand.proofs.FullMend.{audit-reply}
use Rattle.demand.proofs.MendDone.{mend-done}
use Rattle.claims.specs.CDemand3.{IsWords}
use Rattle.claims.specs.Demand3.{wrong_counts}
use Rattle.claims.proofs.WordsBack.{padded-bytes-length, slice-words}

-- "the field's address and old count times 2^32 plus true count" are words
log-is-words : (cs : List Change) (n : ℕ) → ((c : Change) → Memᴰ c cs → c.field < 2 ^ 64) → Small cs → IsWords (log_words cs ++ replicate n 0)
unfolding log_words
log-is-words [] n f s k = omega (arith, zero-at n k)
log-is-words (c ∷ cs) n f s zero = f c (Memᴰ.head refl)
log-is-words (c ∷ cs) n f s (suc zero) =
    let o = s.old c (Memᴰ.head refl) in
    let w = s.new c (Memᴰ.head refl) in
    omega arith
log-is-words (c ∷ cs) n f s (suc (suc k)) =
    log-is-words cs n (λ d i. f d (Memᴰ.tail i)) (record { old = λ d i. s.old d (Memᴰ.tail i); new = λ d i. s.new d (Memᴰ.tail i) }) k

-- no more corrections than objects
corrections-most : (os : List Counted) → length (corrections os) ≤ length os
unfolding corrections
corrections-most [] = omega arith
corrections-most (o ∷ os) = go (eqb o.stored_count o.true_count) _ (corrections-most os)
  where
    go : (t : Bool) (c : Change) → length (corrections os) ≤ length os → length (if t then corrections os else c ∷ corrections os) ≤ length (o ∷ os)
    go true c h = omega arith
    go false c h = omega arith

counted-length : (im : List ℕ) (os : List Linked) → length (counted_in im os) ≡ length os
unfolding counted_in
counted-length im [] = refl
counted-length im (o ∷ os) = ap suc (counted-length im os)

-- "Objects 256", "objects to 1,024"
pub objects-most : (im : List ℕ) (lent : ℕ) → (audit im lent).number ≡ 0 → length (audit im lent).objects ≤ objects_most
unfolding objects_most
objects-most im lent z =
    let a = audit-zero im lent z in
    let os = a.0 in
    let o = audit-opened im lent os a.1 a.2 in
    let sound = audit-sound im lent o.0 os a.1 o.1 a.2 in
    let most : length os ≤ objects_most =
    counting-keeps (λ (ps : List Linked). length ps ≤ objects_most) count_most _ (linked o.0.root 1 ∷ []) os sound.counted (omega arith) in
    let objects : (audit im lent).objects ≡ counted_in im os = ap (λ (r : AuditReply). r.objects) (audit-reply im lent os a.1 a.2) in
    rw (objects, counted-length im os) most

pub wrong-most : (im : List ℕ) (lent : ℕ) → (audit im lent).number ≡ 0 → wrong_counts im lent ≤ objects_most
wrong-most im lent z = omega (arith, corrections-most (audit im lent).objects, objects-most im lent z)

-- a mend that is done, with a log of g bytes
module _ (im : List ℕ) (lent g n : ℕ) (b : IsBytes im) (z : (mend im lent (g / 8) n).number ≡ 0) where
  abbrev words : List ℕ
  words = (mend im lent (g / 8) n).log

  log-words : words ≡ padded (g / 8) (log_words (corrections (audit im lent).objects))
  log-words = ap (λ (m : MendReply). m.log) (mend-done im lent (g / 8) n z).reply

  pub log-length : length words ≡ g / 8
  log-length = rw log-words (padded-length (g / 8) (corrections (audit im lent).objects) (mend-done im lent (g / 8) n z).room)

  pub log-small : IsWords words
  log-small =
      let a = audit-zero im lent (mend-done im lent (g / 8) n z).audited in
      let os = a.0 in
      let bs = a.1 in
      let o = audit-opened im lent os bs a.2 in
      let s = o.0 in
      let objects : (audit im lent).objects ≡ counted_in im os = ap (λ (r : AuditReply). r.objects) (audit-reply im lent os bs a.2) in
      let f = audit-fields im lent s os bs o.1 a.2 in
      let most : length im < 2 ^ 32 = image-small (length im) (opened-range im s o.1) in
      let cs = corrections (counted_in im os) in
      rw (log-words, objects)
      (log-is-words cs (g / 8 - length (log_words cs)) (λ c i. omega (arith, f.image c i)) (audit-small im lent s os bs o.1 a.2 b))

  -- the words that an undo reads from the bytes that the mend left
  pub log_back : to_words (length (padded_bytes g words) / 8) (padded_bytes g words) ≡ words
  log_back =
      let whole : length (padded_bytes g words) ≡ g = padded-bytes-length g words (omega (arith, log-length)) in
      let none : g / 8 - length words ≡ 0 = omega (arith, log-length) in
      rw (whole, slice-words g words log-small (omega (arith, log-length)), none) (append-nil words)
