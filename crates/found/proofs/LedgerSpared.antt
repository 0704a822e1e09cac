-- The blocks of an audit that is done share no byte, so none but a header of the ledger, shown as a header, holds a byte of its count field.
use Prim.Native.Nat.{ℕ, ◌+◌, ◌≤◌}
use mathlib.Core.Bool.{true}
use mathlib.Core.List.Memᴰ
use mathlib.Core.List.{List, [], ◌∷◌, ◌++◌, Memᴰ}
use mathlib.Core.Logic.{◌⊎◌, inl, inr, ⊎_elim}
use mathlib.Core.Path.{◌≡◌, refl}
use native.Mathlib.Omega.{arith}
use borrow.Author.Tests.{le-leb}
use Rattle.format.specs.Bytes.{part, u32}
use Rattle.format.specs.Blocks.{Block}
use Rattle.format.specs.Walk.{Kind, superblock_block, header_block, Length, fixed, stored, length_in, shown, Walk, enter, ret, ◌>>=◌, ◌>>◌, done, run}
use Rattle.format.specs.Superblock.{Superblock, superblock_walk}
use Rattle.format.specs.Header.{header_messages, header_with, header_walk}
use Rattle.format.specs.Ledger.{Linked, in_ledger}
use Rattle.format.specs.Audit.{audit_walk}
use Rattle.laws.specs.Shown.{Shown, contents, size, AllSame}
use Rattle.laws.specs.CountFields.{OnlyCounts}
use Rattle.laws.proofs.CountFields.{Spared, Spares, AllSpare, all_same}
use Rattle.links.proofs.Outcomes.{enter-inside}
use Rattle.found.specs.Covered.{Covered, AllCovered}
use Rattle.found.proofs.Whole.{whole, whole-then}
use Rattle.found.specs.Beside.{Beside}
use Rattle.found.proofs.WholeApart.{blocks-beside}
use Rattle.found.proofs.ReadWhole.{ReadWhole}
use Rattle.found.proofs.AuditReads.{audit-reads}
use Rattle.found.proofs.ObjectAgain.{Steps, read-steps, header-among}

-- the length of the header at an address
abbrev pub header_size : List ℕ → ℕ → ℕ
header_size im at = length_in im header_block at (stored 16 (λ p. u32 p 8))

module _ (im : List ℕ) (eof : ℕ) where
  -- a walk that enters a block first, and is done, is shown the block
  first-shown : {A : Type 0} (v : Kind) (a : ℕ) (l : Length) (k : List ℕ → Walk A) (room : ℕ) (bs : List Block) (x : A) (ms : List Block) →
      run im eof room (enter v a l k) bs ≡ done x ms →
      Memᴰ (contents v a (length_in im v a l)) (whole im eof (enter v a l k))
  unfolding whole
  first-shown v a l k room bs x ms e =
      let inside = le-leb (a + length_in im v a l) eof (enter-inside im eof room v a l k bs x ms e) in
      rw inside (Memᴰ.head refl)

  header-shown : (at room : ℕ) (bs : List Block) (o : _) (ms : List Block) → run im eof room (header_walk at) bs ≡ done o ms →
      Memᴰ (contents header_block at (header_size im at)) (whole im eof (header_walk at))
  unfolding header_walk header_with header_messages ◌>>=◌
  header-shown at room bs o ms e = first-shown header_block at (stored 16 (λ p. u32 p 8)) _ room bs o ms e

  superblock-shown : (s : Superblock) (room : ℕ) (bs ms : List Block) → run im eof room (superblock_walk s) bs ≡ done tt ms →
      Memᴰ (contents superblock_block 0 s.size) (whole im eof (superblock_walk s))
  unfolding superblock_walk ◌>>=◌
  superblock-shown s room bs ms e = first-shown superblock_block 0 (fixed s.size) (λ b. ret tt) room bs tt ms e

-- the header of an object that was read, and the superblock, are among what was shown
module _ (im : List ℕ) (s : Superblock) (room : ℕ) (ss : List Shown) (at : ℕ) (r : ReadWhole im s room ss at) where
  steps : Steps im s room at r.left
  steps = read-steps im s room at r.references r.left r.ran

  both : whole im s.end_of_file (superblock_walk s >> header_walk at) ≡ whole im s.end_of_file (superblock_walk s) ++ whole im s.end_of_file (header_walk at)
  both = whole-then im s.end_of_file (superblock_walk s) (λ _. header_walk at) room [] tt steps.first steps.superblock

  pub header-member : Memᴰ (contents header_block at (header_size im at)) ss
  header-member =
      header-among im s room ss at r _
      (rw both
      (Memᴰ.append_right (whole im s.end_of_file (superblock_walk s))
      (header-shown im s.end_of_file at room steps.first steps.object steps.second steps.header)))

  superblock-member : Memᴰ (contents superblock_block 0 s.size) ss
  superblock-member =
      header-among im s room ss at r _
      (rw both
      (Memᴰ.append_left (whole im s.end_of_file (header_walk at))
      (superblock-shown im s.end_of_file s room [] steps.first steps.superblock)))

spare-all : (H : ℕ → Type 0) (ss : List Shown) → ((x : Shown) → Memᴰ x ss → Spares H x) → AllSpare H ss
spare-all H [] f = tt
spare-all H (x ∷ ss) f = (f x (Memᴰ.head refl), spare-all H ss (λ y m. f y (Memᴰ.tail m)))

-- of a block that spares the count fields, its beginning does
spared-prefix : (H : ℕ → Type 0) (v : Kind) (a p n : ℕ) → p ≤ n → Spared H v a n → Spared H v a p
spared-prefix H v a p n l f h i = ⊎_elim (λ c. inl c) (λ c. inr (⊎_elim (λ b. inl b) (λ b. inr (omega arith)) c)) (f h i)

module _ (im : List ℕ) (s : Superblock) (audited : ℕ) (os : List Linked) (bs : List Block)
    (e : run im s.end_of_file audited (audit_walk s) [] ≡ done os bs) where
  abbrev total : List Shown
  total = whole im s.end_of_file (audit_walk s)

  beside : (v v' : Kind) (a n a' n' : ℕ) → Memᴰ (contents v a n) total → Memᴰ (contents v' a' n') total →
      (contents v a n ≡ contents v' a' n') ⊎ Beside a n a' n'
  beside = blocks-beside im s.end_of_file (audit_walk s) audited [] os bs e

  -- the headers of the ledger lie behind the superblock
  pub behind-superblock : (h : ℕ) → in_ledger h os ≡ true → s.size ≤ h
  behind-superblock h i =
      let r = audit-reads im audited s os bs e h i in
      ⊎_elim (λ same. let z : ◌≡◌ {A = ℕ} 0 1 = cc in absurd (omega arith)) (⊎_elim (λ l. omega arith) (λ l. absurd (omega arith)))
      (beside superblock_block header_block 0 s.size h (header_size im h) (superblock-member im s audited total h r) (header-member im s audited total h r))

  -- a set of headers of the ledger
  module _ (H : ℕ → Type 0) (inside : (h : ℕ) → H h → in_ledger h os ≡ true) where
    block-spared : (v : Kind) (a n : ℕ) → Memᴰ (contents v a n) total → Spared H v a n
    block-spared v a n m h i =
        let k = header_size im h in
        ⊎_elim
        (λ same.
        let kind : v ≡ header_block = cc in
        let at : a ≡ h = cc in
        inl (kind, at))
        (⊎_elim (λ l. inr (inr (omega arith))) (λ l. inr (inl (omega arith))))
        (beside v header_block a n h k m (header-member im s audited total h (audit-reads im audited s os bs e h (inside h i))))

    covered-spared : (x : Shown) → Covered im total x → Spares H x
    covered-spared (contents v a n) c = block-spared v a n c
    covered-spared (size v a (fixed n)) c = tt
    covered-spared (size v a (stored p rest)) c =
        spared-prefix H v a p (p + rest (shown v (part im a p))) (omega arith) (block-spared v a (p + rest (shown v (part im a p))) c)

    -- what is covered by what the audit was shown is the same on an image that differs in these count fields only
    pub covered_same : (im' : List ℕ) → OnlyCounts H im im' → (ss : List Shown) → AllCovered im ss total → AllSame im im' ss
    covered_same im' d ss c = all_same H im im' d ss (spare-all H ss (λ x m. covered-spared x (c x m)))
