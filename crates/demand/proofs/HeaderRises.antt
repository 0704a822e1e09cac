-- The walk of a header raises what its visit raises by one at a message by no more than the lengths of the blocks: a block has no more messages than
-- bytes. The 16 bytes before a header's messages are left over.
use Prim.Native.Nat.{ℕ, zero, suc, ◌+◌, ◌≤◌}
use mathlib.Core.Bool.{Bool, true, false}
use mathlib.Core.List.{List, [], ◌∷◌}
use mathlib.Core.Path.{◌≡◌, refl}
use native.Mathlib.Omega.{arith}
use borrow.Author.Tests.{eqb-false}
use lib.Dec.{eqb}
use lib.ListN.{length, drop, length-drop, length-take}
use Rattle.format.specs.Limits.{blocks_most}
use Rattle.std.specs.Prelude.{if◌then◌else◌}
use Rattle.format.specs.Bytes.{part, u16, u32, u64}
use Rattle.format.specs.Result.{Result, value}
use Rattle.format.specs.Walk.{Walk, Kind, is_header, blank_count, shown, length_in, located, header_block, continuation_block, stored, ret, ◌>>=◌}
use Rattle.format.specs.Message.{Message, read_message, of_type}
use Rattle.format.specs.Header.{Gathered, messages, continuations, header_contents, header_messages, header_with}
use Rattle.laws.proofs.Blank.{blank-length}
use Rattle.demand.proofs.Rises.{Rises, rises-ret, rises-refuse, rises-located, rises-least, rises-enter, rises-block}
use Rattle.demand.proofs.Rises.{rises-after, rises-more, rises-then, rises-on}

-- a block is shown with no more bytes than its length
shown-most : (im : List ℕ) (v : Kind) (a n : ℕ) → length (shown v (part im a n)) ≤ n
unfolding shown
shown-most im v a n = go (is_header v)
  where
    all : length (part im a n) ≤ n
    all = simp length-take (omega arith)

    go : (t : Bool) → length (if t then blank_count (part im a n) else part im a n) ≤ n
    go true = rw (blank-length (part im a n)) all
    go false = all

module _ (im : List ℕ) (eof room : ℕ) {S : Type 0} (μ : S → ℕ) (visit : Message → S → Result S)
    (visited : (m : Message) (s s' : S) → visit m s ≡ value s' → μ s' ≤ μ s + 1) where
  abbrev gathered : Gathered S → ℕ
  gathered g = μ g.found

  -- the first message and those behind it, which begin at a place
  abbrev onward : ℕ → ℕ → List ℕ → List ℕ → S → ℕ → Walk (Gathered S)
  onward fuel at m rest s place =
      located place (read_message place m) >>= λ here.
      located place (visit here s) >>= λ x.
      messages visit fuel at rest x >>= λ g.
      ret (record { all = here ∷ g.all; found = g.found })

  onward-rises : (fuel at : ℕ) (m rest : List ℕ) (s : S) (place : ℕ) → 1 + length rest ≤ length m →
      ((x : S) → Rises im eof room gathered (messages visit fuel at rest x) (μ x + length rest)) →
      Rises im eof room gathered (onward fuel at m rest s place) (μ s + length m)
  onward-rises fuel at m rest s place fewer i =
      rises-after im eof room gathered _ _ _ λ here.
      rises-least im eof room gathered _ (μ s + 1 + length rest) _ (omega arith)
      (rises-then im eof room μ gathered _ _ (μ s + 1) _ (rises-located im eof room μ place (visit here s) (μ s + 1) (visited here s)) λ x.
      rises-on im eof room gathered gathered _ _ _ (i x) λ g. rises-ret im eof room gathered _ _ (omega arith))

  messages-rise : (fuel place : ℕ) (m : List ℕ) (s : S) → Rises im eof room gathered (messages visit fuel place m s) (μ s + length m)
  unfolding messages
  messages-rise zero place m s = rises-after im eof room gathered _ _ _ λ _. rises-ret im eof room gathered _ _ (omega arith)
  messages-rise (suc fuel) place m s = go (eqb (length m) 0) refl (messages-rise fuel (place + 8 + u16 m 2) (drop (8 + u16 m 2) m))
    where
      go : (t : Bool) → eqb (length m) 0 ≡ t →
          ((x : S) → Rises im eof room gathered (messages visit fuel (place + 8 + u16 m 2) (drop (8 + u16 m 2) m) x) (μ x + length (drop (8 + u16 m 2) m))) →
          Rises im eof room gathered
          (if t then ret (record { all = []; found = s }) else onward fuel (place + 8 + u16 m 2) m (drop (8 + u16 m 2) m) s place) (μ s + length m)
      go true e i = rises-ret im eof room gathered _ _ (omega arith)
      go false e i = onward-rises fuel _ m _ s place (simp length-drop (omega (arith, eqb-false (length m) 0 e))) i

  continuations-rise : (fuel : ℕ) (waiting : List Message) (g : Gathered S) → Rises im eof room gathered (continuations visit fuel waiting g) (gathered g)
  unfolding continuations
  continuations-rise zero waiting g = rises-refuse im eof room gathered _ _
  continuations-rise (suc fuel) [] g = rises-ret im eof room gathered g _ (omega arith)
  continuations-rise (suc fuel) (c ∷ waiting) g =
      let at = u64 c.body 0 in
      let n = u64 c.body 8 in
      rises-block im eof room gathered continuation_block at n _ (gathered g)
      (rises-on im eof room gathered gathered _ _ _
      (rises-least im eof room gathered _ _ _ (omega (arith, shown-most im continuation_block at n)) (messages-rise _ at _ g.found))
      λ new. continuations-rise fuel _ _)

  contents-rise : (at : ℕ) (s : S) (b : List ℕ) → Rises im eof room gathered (header_contents visit at s b) (μ s + length (drop 16 b))
  unfolding header_contents
  contents-rise at s b =
      rises-after im eof room gathered _ _ _ λ _.
      rises-on im eof room gathered gathered _ _ _ (messages-rise (length b) (at + 16) (drop 16 b) s) λ first.
      rises-on im eof room gathered gathered _ _ _ (continuations-rise blocks_most (of_type 0x0010 first.all) first) λ g.
      rises-after im eof room gathered _ _ _ λ _. rises-ret im eof room gathered g _ (omega arith)

  messages-spare : (at : ℕ) (s : S) → Rises im eof room (λ g. gathered g + 16) (header_messages visit at s) (μ s)
  unfolding header_messages
  messages-spare at s =
      let n = length_in im header_block at (stored 16 (λ p. u32 p 8)) in
      let b = shown header_block (part im at n) in
      let fewer : length (drop 16 b) + 16 ≤ n = simp length-drop (omega (arith, shown-most im header_block at n)) in
      rises-enter im eof room _ header_block at _ _ (μ s)
      (rises-least im eof room _ _ (μ s + length (drop 16 b) + 16) _ (omega (arith, fewer)) (rises-more im eof room gathered _ _ 16 (contents-rise at s b)))

  -- the whole header
  pub header-rises : (at : ℕ) (s : S) → Rises im eof room (λ h. μ h.found + 16) (header_with visit at s) (μ s)
  unfolding header_with
  header-rises at s =
      rises-on im eof room (λ g. gathered g + 16) _ _ _ _ (messages-spare at s) λ g.
      rises-after im eof room _ _ _ _ λ o. rises-ret im eof room _ _ _ (omega arith)
