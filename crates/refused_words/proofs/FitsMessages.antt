-- The messages of bytes have bodies of bytes.
use Prim.Native.Nat.{ℕ, zero, suc, ◌+◌}
use mathlib.Core.Bool.{Bool, true, false}
use mathlib.Core.List.{List, [], ◌∷◌, ◌++◌}
use native.Mathlib.Omega.{arith}
use lib.Dec.{eqb}
use lib.ListN.{length, drop}
use Rattle.std.specs.Prelude.{if◌then◌else◌}
use Rattle.format.specs.Bytes.{with_first, u16}
use Rattle.format.specs.Result.{Result}
use Rattle.format.specs.Message.{Message, read_message, of_type, the_message}
use Rattle.format.specs.Header.{Gathered, messages}
use Rattle.links.proofs.Gives.{Gives, gives-check, gives-value}
use Rattle.demand.specs.Bytes.{IsBytes}
use Rattle.demand.proofs.BytesBack.{part_bytes}
use Rattle.refused_words.proofs.ReadWords.{drop-bytes}
use Rattle.refused_words.proofs.Fits.{Fits, fits-bind, fits-ret, fits-check, fits-if, fits-located}

abbrev pub Bodies : List Message → Type 0
Bodies [] = Unit {0}
Bodies (m ∷ ms) = IsBytes m.body × Bodies ms

pub bodies-append : (ms ns : List Message) → Bodies ms → Bodies ns → Bodies (ms ++ ns)
bodies-append [] ns h k = k
bodies-append (m ∷ ms) ns h k = (h.0, bodies-append ms ns h.1 k)

pub bodies-type : (t : ℕ) (ms : List Message) → Bodies ms → Bodies (of_type t ms)
unfolding of_type
bodies-type t [] h = tt
bodies-type t (m ∷ ms) h = go (eqb m.type t) (bodies-type t ms h.1)
  where
    go : (u : Bool) → Bodies (of_type t ms) → Bodies (if u then m ∷ of_type t ms else of_type t ms)
    go true rest = (h.0, rest)
    go false rest = rest

-- the first message of a type; where there is none, the body is empty
pub body_of : (t : ℕ) (ms : List Message) → Bodies ms → IsBytes (the_message t ms).body
unfolding the_message
body_of t ms h = go (of_type t ms) (bodies-type t ms h)
  where
    go : (ns : List Message) → Bodies ns → IsBytes (with_first ns (record { type = t; flags = 0; body = []; place = 0 }) (λ m. m)).body
    go [] k = λ i. omega arith
    go (n ∷ ns) k = k.0

message-gives : (place : ℕ) (m : List ℕ) → IsBytes m → Gives (λ here. IsBytes here.body) (read_message place m)
unfolding read_message
message-gives place m h = let body = part_bytes m 8 (u16 m 2) h in search (gives-check, gives-value) depth 20

-- messages with bodies of bytes, and Q holds of what was found with them
abbrev pub GatheredFits : {S : Type 0} → (S → Type 0) → Gathered S → Type 0
GatheredFits Q g = Bodies g.all × Q g.found

-- the visits keep Q
module _ {S : Type 0} (Q : S → Type 0) (visit : Message → S → Result S)
    (visited : (m : Message) (s : S) → IsBytes m.body → Q s → Gives Q (visit m s)) where
  pub messages-fit : (fuel place : ℕ) (m : List ℕ) (s : S) → IsBytes m → Q s → Fits (GatheredFits Q) (messages visit fuel place m s)
  unfolding messages
  messages-fit zero place m s h q = fits-check _ (eqb (length m) 0) 10 place _ (fits-ret _ _ (tt, q))
  messages-fit (suc fuel) place m s h q =
      fits-if _ (eqb (length m) 0) _ _ (λ _. fits-ret _ _ (tt, q))
      (fits-located _ _ place (read_message place m) _ (message-gives place m h) λ here b.
      fits-located _ Q place (visit here s) _ (visited here s b q) λ found r.
      fits-bind (GatheredFits Q) _ _ _
      (messages-fit fuel (place + 8 + u16 m 2) (drop (8 + u16 m 2) m) found (drop-bytes (8 + u16 m 2) m h) r) λ rest p.
      fits-ret _ _ ((b, p.0), p.1))
