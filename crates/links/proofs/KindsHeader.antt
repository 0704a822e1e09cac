-- The kinds of the blocks that a header's reading enters behind the header's own: continuations.
use Prim.Native.Nat.{ℕ, zero, suc, ◌+◌}
use mathlib.Core.List.{List, [], ◌∷◌, ◌++◌}
use lib.ListN.{drop}
use Rattle.format.specs.Bytes.{u16}
use Rattle.format.specs.Result.{Result}
use Rattle.format.specs.Header.{Gathered, messages, continuations, header_contents, object_of}
use Rattle.format.specs.Message.{Message, of_type}
use Rattle.links.proofs.KindsEntered.{Enters, entering}

module _ (K : ℕ → Type 0) where
  pub object-enters : (at : ℕ) (ms : List Message) → Enters K (object_of at ms)
  unfolding object_of
  object-enters at ms = search entering depth 8

  module _ {S : Type 0} (visit : Message → S → Result S) where
    messages-enter : (fuel place : ℕ) (m : List ℕ) (s : S) → Enters K (messages visit fuel place m s)
    unfolding messages
    messages-enter zero place m s = search entering
    messages-enter (suc fuel) place m s =
        let rest = messages-enter fuel (place + 8 + u16 m 2) (drop (8 + u16 m 2) m) in
        search entering depth 12

    module _ (continuation : K 3) where
      continuations-enter : (fuel : ℕ) (waiting : List Message) (sofar : Gathered S) → Enters K (continuations visit fuel waiting sofar)
      unfolding continuations
      continuations-enter zero waiting sofar = search entering
      continuations-enter (suc fuel) [] sofar = search entering
      continuations-enter (suc fuel) (c ∷ waiting) sofar =
          let rest : (new : Gathered S) → Enters K (continuations visit fuel (waiting ++ of_type 0x0010 new.all)
          (record { all = sofar.all ++ new.all; found = new.found })) =
          λ new. continuations-enter fuel (waiting ++ of_type 0x0010 new.all) (record { all = sofar.all ++ new.all; found = new.found }) in
          search (entering, messages-enter) depth 8

      pub contents-enter : (at : ℕ) (s : S) (b : List ℕ) → Enters K (header_contents visit at s b)
      unfolding header_contents
      contents-enter at s b = search (entering, messages-enter, continuations-enter) depth 8
