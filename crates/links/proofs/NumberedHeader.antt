-- The numbers with which reading an object header is refused: 3, 10, 13 where the continuations are too many, and those of its visits.
use Prim.Native.Nat.{ℕ, zero, suc, ◌+◌}
use mathlib.Core.List.{List, [], ◌∷◌, ◌++◌}
use lib.ListN.{drop}
use Rattle.format.specs.Bytes.{u16}
use Rattle.format.specs.Result.{Result}
use Rattle.format.specs.Header.{Gathered, messages, continuations, header_contents, header_messages, object_of, header_with, pass_over, header_walk}
use Rattle.format.specs.Message.{Message, read_message, of_type}
use Rattle.links.proofs.Numbered.{Answered, Numbered, answered-value, answers, numbered-bind, numbered-ret, numbers}

module _ (N : ℕ → Type 0) (three : N 3) (ten : N 10) where
  pub message-answered : (place : ℕ) (m : List ℕ) → Answered N (read_message place m)
  unfolding read_message
  message-answered place m = search answers depth 20

  object-numbered : (at : ℕ) (ms : List Message) → Numbered N (object_of at ms)
  unfolding object_of
  object-numbered at ms = search numbers depth 8

module _ (N : ℕ → Type 0) (three : N 3) (ten : N 10) (full : N 13) where
  -- a header whose visits have such numbers only
  module _ {S : Type 0} (visit : Message → S → Result S) (visited : (m : Message) (s : S) → Answered N (visit m s)) where
    messages-numbered : (fuel place : ℕ) (m : List ℕ) (s : S) → Numbered N (messages visit fuel place m s)
    unfolding messages
    messages-numbered zero place m s = search numbers
    messages-numbered (suc fuel) place m s =
        let rest = messages-numbered fuel (place + 8 + u16 m 2) (drop (8 + u16 m 2) m) in
        search (numbers, message-answered) depth 12

    continuations-numbered : (fuel : ℕ) (waiting : List Message) (sofar : Gathered S) → Numbered N (continuations visit fuel waiting sofar)
    unfolding continuations
    continuations-numbered zero waiting sofar = search numbers
    continuations-numbered (suc fuel) [] sofar = search numbers
    continuations-numbered (suc fuel) (c ∷ waiting) sofar =
        let rest : (new : Gathered S) → Numbered N (continuations visit fuel (waiting ++ of_type 0x0010 new.all)
        (record { all = sofar.all ++ new.all; found = new.found })) =
        λ new. continuations-numbered fuel (waiting ++ of_type 0x0010 new.all) (record { all = sofar.all ++ new.all; found = new.found }) in
        search (numbers, messages-numbered) depth 8

    contents-numbered : (at : ℕ) (s : S) (b : List ℕ) → Numbered N (header_contents visit at s b)
    unfolding header_contents
    contents-numbered at s b = search (numbers, messages-numbered, continuations-numbered) depth 8

    pub visits-numbered : (at : ℕ) (s : S) → Numbered N (header_with visit at s)
    unfolding header_with header_messages
    visits-numbered at s = search (numbers, contents-numbered, object-numbered)

  pub header-numbered : (at : ℕ) → Numbered N (header_walk at)
  unfolding header_walk
  header-numbered at = numbered-bind N _ _ (visits-numbered pass_over (λ m s. answered-value N s) at tt) (λ h. numbered-ret N h.object)
