-- "each refusal has one cause in the walk": a run is refused exactly where its walk comes to a fault, with the fault's refusal and the blocks before it.
use Prim.Native.Nat.{ℕ, zero, suc}
use mathlib.Core.List.{List, [], ◌∷◌, ◌++◌}
use mathlib.Core.Logic.{◌⊎◌, inl, inr, ⊎_elim}
use mathlib.Core.Path.{◌≡◌, refl}
use native.Mathlib.Omega.{arith}
use Rattle.format.specs.Bytes.{part}
use Rattle.format.specs.Blocks.{Block, block_of, entry_answer, room_of}
use Rattle.format.specs.declared.Refusal.{Refusal}
use Rattle.format.specs.Walk.{kind_number, shown, length_in, known_length, fault, not_entered, Walk, ret, refuse, enter, Outcome, refused, if_entered, run}
use Rattle.format.specs.Superblock.{Superblock, Opening, opened, not_opened, open_image, run_opened}
use Rattle.format.specs.Ledger.{Linked}
use Rattle.format.specs.Audit.{audit_walk, audit_run}
use Rattle.links.specs.Fault.{Fault, here, at_entry, later, AuditFault}

pub entered-refused : {A : Type 0} (g : ℕ) (f : ℕ → Refusal) (o : Outcome A) (bs : List Block) (r : Refusal) (ms : List Block) →
    if_entered g o (λ m. refused (f m) bs) ≡ refused r ms →
    ((f g ≡ r) × (g ≡ 0 → ⊥) × (bs ≡ ms)) ⊎ ((g ≡ 0) × (o ≡ refused r ms))
entered-refused zero f o bs r ms e = inr (refl, e)
entered-refused (suc g) f o bs r ms e = inl (cc, (λ z. omega arith), cc)

not_entered_lem : {A : Type 0} (g : ℕ) (f : ℕ → Refusal) (o : Outcome A) (bs : List Block) → (g ≡ 0 → ⊥) →
    if_entered g o (λ m. refused (f m) bs) ≡ refused (f g) bs
not_entered_lem zero f o bs h = absurd (h refl)
not_entered_lem (suc g) f o bs h = refl

module _ (im : List ℕ) (eof room : ℕ) {A : Type 0} where
  pub refused-fault : (w : Walk A) (bs : List Block) (r : Refusal) (ms : List Block) → run im eof room w bs ≡ refused r ms → Fault im eof room w bs r ms
  unfolding run
  refused-fault (ret a) bs r ms e = let z : ◌≡◌ {A = ℕ} 0 1 = cc in absurd (omega arith)
  refused-fault (refuse q) bs r ms e =
      let same : q ≡ r = cc in
      let blocks : bs ≡ ms = cc in
      rw (same, blocks) here
  refused-fault (enter v a l k) bs r ms e =
      let size = length_in im v a l in
      let f = refused-fault (k (shown v (part im a size))) (bs ++ (block_of (kind_number v) a size ∷ [])) r ms in
      ⊎_elim
      (λ h.
      let stay : bs ≡ ms = h.2 in
      let same : not_entered (entry_answer eof room bs a size) (kind_number v) a (known_length im eof v a l) bs ≡ r = h.0 in
      rw (← stay, ← same) (at_entry refl h.1))
      (λ h. later h.0 (f h.1))
      (entered-refused (entry_answer eof room bs a size) (λ m. not_entered m (kind_number v) a (known_length im eof v a l) bs)
      (run im eof room (k (shown v (part im a size))) (bs ++ (block_of (kind_number v) a size ∷ []))) bs r ms e)

  pub fault-refused : {w : Walk A} {bs : List Block} {r : Refusal} {ms : List Block} → Fault im eof room w bs r ms → run im eof room w bs ≡ refused r ms
  unfolding run
  fault-refused here = refl
  fault-refused (at_entry {v = v} {a = a} {l = l} {k = k} {n = n} {bs = bs} g h) = rw g
      (not_entered_lem n (λ m. not_entered m (kind_number v) a (known_length im eof v a l) bs) _ bs h)
  fault-refused (later {v = v} {a = a} {l = l} {k = k} {r = r} {bs = bs} {ms = ms} g f) = rw g (fault-refused f)

opened-refused : {A : Type 0} (o : Opening) (f : Superblock → Outcome A) (r : Refusal) (bs : List Block) → run_opened o f ≡ refused r bs →
    ((n : ℕ) × (o ≡ not_opened n) × (r ≡ fault n 0) × (bs ≡ [])) ⊎ ((s : Superblock) × (o ≡ opened s) × (f s ≡ refused r bs))
opened-refused (opened s) f r bs e = inr (s, refl, e)
opened-refused (not_opened m) f r bs e = inl (m, refl, cc, cc)

-- the audit
module _ (im : List ℕ) (lent : ℕ) (r : Refusal) (bs : List Block) where
  abbrev walked : Superblock → Outcome (List Linked)
  walked s = run im s.end_of_file (room_of lent) (audit_walk s) []

  pub audit-refused-fault : audit_run im lent ≡ refused r bs → AuditFault im lent r bs
  unfolding audit_run
  audit-refused-fault e =
      ⊎_elim (λ h. inl h) (λ h. inr (h.0, h.1, refused-fault im h.0.end_of_file (room_of lent) (audit_walk h.0) [] r bs h.2))
      (opened-refused (open_image im) walked r bs e)

  pub audit-fault-refused : AuditFault im lent r bs → audit_run im lent ≡ refused r bs
  unfolding audit_run
  audit-fault-refused f = ⊎_elim (λ h. rw (h.1, h.2, h.3)) (λ h. rw h.1 (fault-refused im h.0.end_of_file (room_of lent) h.2)) f

-- an audit is refused for one cause
pub audit-fault-one : (im : List ℕ) (lent : ℕ) (r r' : Refusal) (bs bs' : List Block) → AuditFault im lent r bs → AuditFault im lent r' bs' →
    (r ≡ r') × (bs ≡ bs')
audit-fault-one im lent r r' bs bs' f f' =
    let e = audit-fault-refused im lent r bs f in
    let e' = audit-fault-refused im lent r' bs' f' in
    (cc, cc)
