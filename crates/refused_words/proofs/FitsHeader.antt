-- A header at an address of 64 bits enters its block and its continuations; what it says of an object is read from bytes.
use Prim.Native.Nat.{ℕ, zero, suc, ◌+◌}
use mathlib.Core.Bool.{not}
use mathlib.Core.List.{List, [], ◌∷◌, ◌++◌}
use native.Mathlib.Omega.{arith}
use lib.Dec.{eqb}
use lib.ListN.{length, drop}
use Rattle.format.specs.Limits.{blocks_most}
use Rattle.format.specs.Bytes.{u8, u16, u64}
use Rattle.format.specs.Result.{Result}
use Rattle.format.specs.Walk.{header_block, continuation_block}
use Rattle.format.specs.Message.{Message, is_shared, of_type, the_message}
use Rattle.format.specs.Header.{Gathered, continuations, header_contents, header_messages}
use Rattle.format.specs.Header.{Object, group, dataset, committed, has_counts, object_of, Headed, header_with}
use Rattle.links.proofs.Gives.{Gives}
use Rattle.demand.specs.Bytes.{IsBytes}
use Rattle.refused_words.specs.Words.{IsWord}
use Rattle.refused_words.proofs.ReadWords.{drop-bytes, u32-small, u64-word}
use Rattle.refused_words.proofs.Fits.{Fits, fits-bind, fits-ret, fits-refuse, fits-enter, fits-block, fits-check, fits-if}
use Rattle.refused_words.proofs.FitsMessages.{Bodies, bodies-append, bodies-type, body_of, GatheredFits, messages-fit}

-- the addresses of a group are of 64 bits, the messages of a dataset have bodies of bytes
abbrev pub ObjectFits : Object → Type 0
ObjectFits (group tree heap) = IsWord tree × IsWord heap
ObjectFits (dataset space type layout) = IsBytes type.body × IsBytes layout.body
ObjectFits committed = Unit {0}

abbrev pub HeadedFits : {S : Type 0} → (S → Type 0) → Headed S → Type 0
HeadedFits Q h = ObjectFits h.object × Q h.found

object-fits : (at : ℕ) (ms : List Message) → Bodies ms → Fits ObjectFits (object_of at ms)
unfolding object_of
object-fits at ms h =
    let b = (the_message 0x0011 ms).body in
    let link : IsBytes b = body_of 0x0011 ms h in
    fits-if _ (has_counts ms 0 0 0 1) _ _ (λ _. fits-ret ObjectFits _ (u64-word b 0 link, u64-word b 8 link))
    (fits-if _ (has_counts ms 1 1 1 0) _ _ (λ _. fits-ret ObjectFits _ (body_of 0x0003 ms h, body_of 0x0008 ms h))
    (fits-if _ (has_counts ms 0 1 0 0) _ _
    (λ _. fits-check _ (not (is_shared (the_message 0x0003 ms).flags)) 10 at _ (fits-ret ObjectFits _ tt))
    (fits-refuse _ 10 at)))

-- the visits keep Q
module _ {S : Type 0} (Q : S → Type 0) (visit : Message → S → Result S)
    (visited : (m : Message) (s : S) → IsBytes m.body → Q s → Gives Q (visit m s)) where
  continuations-fit : (fuel : ℕ) (waiting : List Message) (sofar : Gathered S) → Bodies waiting → GatheredFits Q sofar →
      Fits (GatheredFits Q) (continuations visit fuel waiting sofar)
  unfolding continuations
  continuations-fit zero waiting sofar w h = fits-refuse _ 13 0
  continuations-fit (suc fuel) [] sofar w h = fits-ret _ sofar h
  continuations-fit (suc fuel) (c ∷ waiting) sofar w h =
      fits-block _ continuation_block (u64 c.body 0) (u64 c.body 8) _ (u64-word c.body 0 w.0) (u64-word c.body 8 w.0) λ b i.
      fits-bind (GatheredFits Q) _ _ _ (messages-fit Q visit visited (length b) (u64 c.body 0) b sofar.found i h.1) λ new p.
      continuations-fit fuel (waiting ++ of_type 0x0010 new.all) (record { all = sofar.all ++ new.all; found = new.found })
      (bodies-append waiting (of_type 0x0010 new.all) w.1 (bodies-type 0x0010 new.all p.0))
      (bodies-append sofar.all new.all h.0 p.0, p.1)

  contents-fit : (at : ℕ) (s : S) (b : List ℕ) → Q s → IsBytes b → Fits (GatheredFits Q) (header_contents visit at s b)
  unfolding header_contents
  contents-fit at s b q i =
      fits-check _ (eqb (u8 b 0) 1) 3 at _
      (fits-bind (GatheredFits Q) _ _ _ (messages-fit Q visit visited (length b) (at + 16) (drop 16 b) s (drop-bytes 16 b i) q) λ first p.
      fits-bind (GatheredFits Q) _ _ _
      (continuations-fit blocks_most (of_type 0x0010 first.all) first (bodies-type 0x0010 first.all p.0) p) λ g r.
      fits-check _ (eqb (length g.all) (u16 b 2)) 10 at _ (fits-ret _ g r))

  pub header-fits : (at : ℕ) (s : S) → IsWord at → Q s → Fits (HeadedFits Q) (header_with visit at s)
  unfolding header_with header_messages
  header-fits at s a q =
      fits-bind (GatheredFits Q) _ _ _
      (fits-enter _ header_block at _ _ a (omega arith, λ b i. omega (arith, u32-small b 8 i)) (λ b i. contents-fit at s b q i)) λ g h.
      fits-bind ObjectFits _ _ _ (object-fits at g.all h.0) λ o p.
      fits-ret _ _ (p, h.1)
