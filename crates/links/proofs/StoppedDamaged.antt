-- "names a damaged block": the number that the report gives is that of the object whose walk is refused.
use Prim.Native.Nat.{ℕ, zero, suc, ◌+◌, ◌<◌}
use mathlib.Core.Bool.{Bool, true, false, ◌&&◌}
use mathlib.Core.List.{List, [], ◌∷◌}
use mathlib.Core.Logic.{◌⊎◌, inl, inr, ⊎_elim}
use mathlib.Core.Path.{◌≡◌, refl}
use native.Mathlib.Omega.{arith}
use borrow.Author.Tests.{eqb-true, leb-true, leb-false, ltb-true, ltb-false}
use lib.Dec.{eqb, leb, ltb}
use lib.ListN.{length, get_or}
use Rattle.std.specs.Prelude.{if◌then◌else◌}
use Rattle.format.specs.Blocks.{Block, block, no_object, owner_after, last_owner, room_of}
use Rattle.format.specs.declared.Refusal.{Refusal}
use Rattle.format.specs.declared.Refusal.TheVariants.{Fault, NotEntered}
use Rattle.format.specs.Walk.{refused, run}
use Rattle.format.specs.Superblock.{Superblock, opened, open_image}
use Rattle.format.specs.Audit.{audit_walk}
use Rattle.format.specs.Report.{listed_block, holds_byte, holding, damaged}
use Rattle.links.specs.Owners.{owned_after, HoldsByte, OneOwner}
use Rattle.links.specs.Placed.{HeldBy}
use Rattle.links.specs.Stopped.{StoppedSuperblock, StoppedObject}
use Rattle.links.proofs.AuditOwned.{left-one-owner}
use Rattle.links.proofs.StoppedAudit.{audit-stopped-at}

-- the test of a byte
pub holds-true : (b : Block) (x : ℕ) → holds_byte b x ≡ true → HoldsByte b x
unfolding holds_byte
holds-true b x = go (leb b.at x) (ltb x (b.at + b.size)) refl refl
  where
    go : (t u : Bool) → leb b.at x ≡ t → ltb x (b.at + b.size) ≡ u → (t && u) ≡ true → HoldsByte b x
    go true true p q e = (leb-true _ _ p, ltb-true _ _ q)
    go true false p q e = let z : ◌≡◌ {A = ℕ} 0 1 = cc in absurd (omega arith)
    go false u p q e = let z : ◌≡◌ {A = ℕ} 0 1 = cc in absurd (omega arith)

holds-false : (b : Block) (x : ℕ) → holds_byte b x ≡ false → HoldsByte b x → ⊥
unfolding holds_byte
holds-false b x = go (leb b.at x) (ltb x (b.at + b.size)) refl refl
  where
    go : (t u : Bool) → leb b.at x ≡ t → ltb x (b.at + b.size) ≡ u → (t && u) ≡ false → HoldsByte b x → ⊥
    go true true p q e h = let z : ◌≡◌ {A = ℕ} 0 1 = cc in omega arith
    go true false p q e h = omega (arith, h.1, ltb-false x (b.at + b.size) q)
    go false u p q e h = omega (arith, h.0, leb-false b.at x p)

held-later : (b : Block) (bs : List Block) (x : ℕ) → HeldBy bs x → HeldBy (b ∷ bs) x
held-later b bs x h = (suc h.0, omega (arith, h.1), h.2)

-- a byte of the first block, or of the others
held-cases : (b : Block) (bs : List Block) (x : ℕ) → HeldBy (b ∷ bs) x → HoldsByte b x ⊎ HeldBy bs x
held-cases b bs x h = go h.0 h.1 h.2
  where
    go : (k : ℕ) → k < length (b ∷ bs) → HoldsByte (get_or (b ∷ bs) k (block 0 0)) x → HoldsByte b x ⊎ HeldBy bs x
    go zero l q = inl q
    go (suc k) l q = inr (k, omega (arith, l), q)

-- the blocks with a number are some of all
owned-held : (p o : ℕ) (bs : List Block) (x : ℕ) → HeldBy (owned_after p o bs) x → HeldBy bs x
unfolding owned_after
owned-held p o [] x h = h
owned-held p o (b ∷ bs) x h = go (eqb (owner_after p b.kind) o) (λ k. held-later b bs x (owned-held (owner_after p b.kind) o bs x k)) h
  where
    rest : List Block
    rest = owned_after (owner_after p b.kind) o bs

    go : (t : Bool) → (HeldBy rest x → HeldBy (b ∷ bs) x) → HeldBy (if t then b ∷ rest else rest) x → HeldBy (b ∷ bs) x
    go true c k = ⊎_elim (λ q. (0, omega arith, q)) c (held-cases b rest x k)
    go false c k = c k

-- the block that holds a byte of object o has the number o
holding-owned : (p o : ℕ) (bs : List Block) (x : ℕ) → OneOwner bs → HeldBy (owned_after p o bs) x → (holding p bs x).object ≡ o
unfolding holding owned_after
holding-owned p o [] x one h = absurd (omega (arith, h.1))
holding-owned p o (b ∷ bs) x one h =
    go (holds_byte b x) (eqb q o) refl refl
    (holding-owned q o bs x (λ j k y l m. let e : suc j ≡ suc k = one (suc j) (suc k) y l m in omega (arith, e))) h
  where
    q : ℕ
    q = owner_after p b.kind

    rest : List Block
    rest = owned_after q o bs

    go : (t u : Bool) → holds_byte b x ≡ t → eqb q o ≡ u → (HeldBy rest x → (holding q bs x).object ≡ o) → HeldBy (if u then b ∷ rest else rest) x →
        (if t then listed_block b.at b.size b.kind q else holding q bs x).object ≡ o
    go true true e f c k = eqb-true q o f
    go true false e f c k =
        let there = owned-held q o bs x k in
        let same : 0 ≡ suc there.0 = one 0 (suc there.0) x (holds-true b x e) there.2 in
        absurd (omega (arith, same))
    go false true e f c k = ⊎_elim (λ here. absurd (holds-false b x e here)) c (held-cases b rest x k)
    go false false e f c k = c k

-- the report's number
damaged-number : (im : List ℕ) (room : ℕ) (s : Superblock) (r : Refusal) (bs : List Block) → OneOwner bs → (w : StoppedObject im room s r bs) →
    (damaged bs r).object ≡ w.number
damaged-number im room s (Fault n at) bs one w = holding-owned no_object w.number bs at one (rw w.last (w.fault_of n at refl))
damaged-number im room s (NotEntered n kind a size met) bs one w = w.refused_of n kind a size met refl

-- "all ones the superblock"
damaged-superblock : (s : Superblock) (r : Refusal) (bs : List Block) → StoppedSuperblock s r bs → (damaged bs r).object ≡ no_object
unfolding last_owner owner_after
damaged-superblock s r bs h = rw (h.0, h.1.1)

pub audit-damaged-object : (im : List ℕ) (lent : ℕ) (s : Superblock) → open_image im ≡ opened s → (r : Refusal) (bs : List Block) →
    run im s.end_of_file (room_of lent) (audit_walk s) [] ≡ refused r bs →
    (StoppedSuperblock s r bs × ((damaged bs r).object ≡ no_object)) ⊎
    ((w : StoppedObject im (room_of lent) s r bs) × ((damaged bs r).object ≡ w.number))
audit-damaged-object im lent s p r bs e =
    let one : OneOwner bs = rw e at (left-one-owner im s.end_of_file (room_of lent) (audit_walk s)) in
    ⊎_elim (λ h. inl (h, damaged-superblock s r bs h)) (λ w. inr (w, damaged-number im (room_of lent) s r bs one w)) (audit-stopped-at im lent s p r bs e)
