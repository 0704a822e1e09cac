-- The steps of the code that reads a header's messages against the steps of their walk.
use Prim.Native.Nat.{ℕ, ◌+◌, ◌-◌, ◌≤◌, ◌<◌}
use mathlib.Core.List.{List, []}
use mathlib.Core.Logic.{inl}
use mathlib.Core.Path.{◌≡◌, sym, ◌∙◌}
use native.Mathlib.Omega.{arith}
use borrow.Author.Tests.{eq-eqb, ne_eqb}
use lib.Dec.{eqb}
use lib.ListN.{length, get_or, drop}
use Rattle.format.specs.Limits.{blocks_most}
use Rattle.format.specs.Bytes.{part, u8, u16, u32}
use Rattle.format.specs.Blocks.{entry_answer}
use Rattle.format.specs.declared.Refusal.{Refusal}
use Rattle.format.specs.Result as reader
use Rattle.format.specs.Walk.{Walk, ret, refuse, fault, not_entered, enter, stored, check, header_block, shown, ◌>>=◌, ◌>>◌, run}
use Rattle.format.specs.Header.{Gathered, messages, continuations, header_contents, header_messages}
use Rattle.format.specs.Message.{Message, of_type}
use Rattle.walk.specs.Lent.{blocks_of, Lent, ended, stopped, Walked, entering, IsEntered}
use Rattle.walk.specs.Numbers.{Number}
use Rattle.std.specs.Prelude.{Result, Ok, Err}
use Rattle.laws.proofs.Simulation.{Simulation, start, returned, passed, failed, outside, block-entered, block_refused, callee-value, callee-refusal}
use Rattle.laws.proofs.Simulation.{callee-last, callee-stopped, callee-done}
use Rattle.tally.specs.Tally.{Tallied}
use Rattle.scan.specs.Scan.{MessagesAre}
use Rattle.continuations.specs.Continuations.{GatheredIs, Waiting}
use Rattle.continuations.proofs.ContinuationLaws.{cursor}
use Rattle.tally.specs.declared.Tally.{Tally}
use Rattle.continuations.specs.declared.Reading.{Reading}
use Rattle.scan.proofs.ScanLaws.{messages-held}
use Rattle.header_messages.proofs.HeaderBlock.{version-shown, field-shown, header-length, header-known, block-messages, first-waiting}
use Rattle.header_messages.proofs.HeaderBlock.{total-equal, total-unequal}

module _ {S : Type 0} (visit : Message → S → reader.Result S) (im : List ℕ) (eof room : ℕ) (ws : List ℕ) (count at : ℕ) (found : S)
    (l : Lent ws count room) where
  -- The header block: its prefix isn't inside, it isn't entered, or it is.
  at-start : Simulation im eof room (header_messages visit at found) count ws
      (enter header_block at (stored 16 (λ p. u32 p 8)) (header_contents visit at found)) count ws
  unfolding header_messages
  at-start = start im eof room (header_messages visit at found) count ws l

  pub header-outside : eof < at + 16 →
      Walked ws ws (stopped (not_entered 5 2 at 16 [])) (run im eof room (header_messages visit at found) (blocks_of count ws))
  header-outside h = outside h at-start

  module _ (size : ℕ) (n : Number im (at + 8) 4 size) (h : at + 16 ≤ length im) (k : at + 16 ≤ eof) (ws₁ : List ℕ)
      (q : IsEntered (entry_answer eof room (blocks_of count ws) at (16 + size)) ws count 2 at (16 + size) ws₁) where
    pub header_refused : (x : Refusal) → Err x ≡ entering (entry_answer eof room (blocks_of count ws) at (16 + size)) 2 at (16 + size) (blocks_of count ws)
        count →
        Walked ws ws₁ (stopped x) (run im eof room (header_messages visit at found) (blocks_of count ws))
    header_refused x e = block_refused (16 + size) (header-length im at size h n) (header-known im eof at size h k n) ws₁ at-start q x e

    pub header-entered : (m : ℕ) → Ok m ≡ entering (entry_answer eof room (blocks_of count ws) at (16 + size)) 2 at (16 + size) (blocks_of count ws) count →
        Simulation im eof room (header_messages visit at found) count ws (header_contents visit at found (shown header_block (part im at (16 + size)))) m ws₁
    header-entered m e = block-entered (16 + size) (header-length im at size h n) (header-known im eof at size h k n) ws₁ at-start q m e

-- a callee that gathers the messages of what is left
pub gathered-last : {S : Type 0} (im : List ℕ) (q : Reading) (w₀ w : Walk (Gathered S)) (n₀ n : ℕ) (ws₀ ws ws₁ : List ℕ) (found : S)
    (r : Result (Tally × ℕ) Refusal) →
    Simulation im q.bounds.end_of_file q.bounds.room w₀ n₀ ws₀ w n ws → GatheredIs im q ws n w ws₁ found r → GatheredIs im q ws₀ n₀ w₀ ws₁ found r
gathered-last im q w₀ w n₀ n ws₀ ws ws₁ found (Ok g) s h = (h.0, callee-last ws₁ s h.1, h.2)
gathered-last im q w₀ w n₀ n ws₀ ws ws₁ found (Err x) s h = callee-last ws₁ s h

-- What stands in the header block.
module _ {S : Type 0} (visit : Message → S → reader.Result S) (im : List ℕ) (eof room : ℕ) (ws : List ℕ) (count at size : ℕ) (found : S)
    (l : Lent ws count room) (i : at + (16 + size) ≤ length im) where
  abbrev b : List ℕ
  b = shown header_block (part im at (16 + size))

  abbrev w : Walk (Gathered S)
  w = header_contents visit at found b

  pub version-wrong : (get_or im at 0 ≡ 1 → ⊥) → Walked ws ws (stopped (fault 3 at)) (run im eof room w (blocks_of count ws))
  unfolding header_contents
  version-wrong e =
      failed (eqb (u8 b 0) 1) (fault 3 at) _ (rw (version-shown im at (16 + size) i (omega arith)) (ne_eqb (get_or im at 0) 1 e))
      (start im eof room w count ws l)

  module _ (e : get_or im at 0 ≡ 1) where
    version-right : Simulation im eof room w count ws
        (messages visit (length b) (at + 16) (drop 16 b) found >>= λ first.
        continuations visit blocks_most (of_type 0x0010 first.all) first >>= λ g.
        check (eqb (length g.all) (u16 b 2)) (fault 10 at) >> ret g) count ws
    unfolding header_contents
    version-right = passed (eqb (u8 b 0) 1) (fault 3 at) _ (rw (version-shown im at (16 + size) i (omega arith)) (eq-eqb (get_or im at 0) 1 e))
        (start im eof room w count ws l)

    pub block-stopped : (x : Refusal) → MessagesAre visit im (at + 16) (at + 16 + size) found (refuse x) →
        Walked ws ws (stopped x) (run im eof room w (blocks_of count ws))
    block-stopped x h = callee-refusal _ _ x (block-messages visit im at size found (refuse x) i h) version-right

    module _ (first : Gathered S) (h : MessagesAre visit im (at + 16) (at + 16 + size) found (ret first)) where
      block_read : Simulation im eof room w count ws
          (continuations visit blocks_most (of_type 0x0010 first.all) first >>= λ g. check (eqb (length g.all) (u16 b 2)) (fault 10 at) >> ret g) count ws
      block_read = callee-value _ _ first (block-messages visit im at size found (ret first) i h) version-right

      pub follow-stopped : (ws' : List ℕ) (x : Refusal) →
          Walked ws ws' (stopped x) (run im eof room (continuations visit blocks_most (of_type 0x0010 first.all) first) (blocks_of count ws)) →
          Walked ws ws' (stopped x) (run im eof room w (blocks_of count ws))
      follow-stopped ws' x g = callee-stopped ws' _ _ block_read g

      module _ (ws' : List ℕ) (g : Gathered S) (n : ℕ) (k : length ws' ≡ length ws)
          (j : Walked ws ws' (ended g n) (run im eof room (continuations visit blocks_most (of_type 0x0010 first.all) first) (blocks_of count ws)))
          (t : Tally) (a : Tallied im g.all t) (r : ℕ) (o : Number im (at + 2) 2 r) where
        at-total : Simulation im eof room w count ws (check (eqb (length g.all) (u16 b 2)) (fault 10 at) >> ret g) n ws'
        at-total = callee-done ws' _ _ block_read k j

        count-shown : u16 b 2 ≡ r
        count-shown = field-shown im at (16 + size) i (omega arith) 2 2 (inl (omega arith)) (omega arith) ∙ sym o.value

        pub total-wrong : (r ≡ t.total → ⊥) → Walked ws ws' (stopped (fault 10 at)) (run im eof room w (blocks_of count ws))
        total-wrong z =
            failed (eqb (length g.all) (u16 b 2)) (fault 10 at) _ (rw count-shown (total-unequal (length g.all) t.total r a.total o.bound z))
            at-total

        pub total_right : r ≡ t.total → Walked ws ws' (ended g n) (run im eof room w (blocks_of count ws))
        total_right z =
            returned (passed (eqb (length g.all) (u16 b 2)) (fault 10 at) _
            (rw count-shown (total-equal (length g.all) t.total r a.total o.bound z)) at-total)

-- the continuations that the header block's messages name wait behind it
pub first-waits : {S : Type 0} (visit : Message → S → reader.Result S) (im ws : List ℕ) (count at size : ℕ) (found : S) (first : Gathered S) → 0 < count →
    at + (16 + size) ≤ length im → MessagesAre visit im (at + 16) (at + 16 + size) found (ret first) →
    Waiting im ws count (cursor (count - 1) (at + 16) (at + 16 + size)) (of_type 0x0010 first.all)
first-waits visit im ws count at size found first h i m =
    first-waiting im ws count (at + 16) (at + 16 + size) first.all h
    (messages-held visit im (at + 16) (at + 16 + size) found first (omega arith) (omega arith) m)
