-- Two visits of the same header. They meet the same messages in the same blocks; what holds between their findings at one message holds at the end.
use Prim.Native.Nat.{ℕ, zero, suc, ◌+◌}
use mathlib.Core.Bool.{Bool, true, false}
use mathlib.Core.List.{List, [], ◌∷◌, ◌++◌}
use mathlib.Core.Path.{◌≡◌, refl, ap}
use lib.ListN.{length, drop}
use lib.Dec.{eqb}
use Rattle.format.specs.Limits.{blocks_most}
use Rattle.format.specs.Bytes.{u8, u16, u64}
use Rattle.format.specs.Result.{Result, value}
use Rattle.format.specs.Walk.{ret, fault, located, enter_block, check, continuation_block, ◌>>=◌, ◌>>◌}
use Rattle.format.specs.Message.{Message, read_message, of_type}
use Rattle.format.specs.Header.{Gathered, messages, continuations, header_contents, header_messages, object_of, Headed, header_with, pass_over, header_walk}
use Rattle.laws.proofs.Bind.{bind-ret}
use Rattle.laws.proofs.Follows.{Follows, follows-bind, follows_then, follows-check}
use Rattle.laws.proofs.Follows.{follows_if, follows-refuse, follows-ret, follows-weaker, follows-value}

module _ {S T : Type 0} (exact : Bool) (visit : Message → S → Result S) (visit' : Message → T → Result T)
    -- what holds between the findings
    (R : S → T → Type 0)
    (visited : (m : Message) (s : S) (t : T) (at : ℕ) → R s t → Follows exact R (located at (visit m s)) (located at (visit' m t))) where
  -- the same messages
  abbrev Both : Gathered S → Gathered T → Type 0
  Both g g' = (g.all ≡ g'.all) × R g.found g'.found

  pub messages-follow : (fuel place : ℕ) (m : List ℕ) (s : S) (t : T) → R s t →
      Follows exact Both (messages visit fuel place m s) (messages visit' fuel place m t)
  unfolding messages
  messages-follow zero place m s t r = follows-check exact Both (eqb (length m) 0) (fault 10 place) _ _ λ _. follows-ret exact Both _ _ (refl, r)
  messages-follow (suc fuel) place m s t r =
      follows_if exact Both (eqb (length m) 0) _ _ _ _ (follows-ret exact Both _ _ (refl, r))
      (follows_then exact Both _ _ (located place (read_message place m)) λ here.
      follows-bind exact R Both _ _
      (λ x y q.
      follows-bind exact Both Both _ _ (λ g g' p. follows-ret exact Both _ _ (ap (λ (ms : List Message). here ∷ ms) p.0, p.1)) _ _
      (messages-follow fuel (place + 8 + u16 m 2) (drop (8 + u16 m 2) m) x y q))
      _ _ (visited here s t place r))

  continuations-follow : (fuel : ℕ) (waiting : List Message) (g : Gathered S) (g' : Gathered T) → Both g g' →
      Follows exact Both (continuations visit fuel waiting g) (continuations visit' fuel waiting g')
  unfolding continuations
  continuations-follow zero waiting g g' p = follows-refuse exact Both (fault 13 0)
  continuations-follow (suc fuel) [] g g' p = follows-ret exact Both g g' p
  continuations-follow (suc fuel) (c ∷ waiting) g g' p =
      follows_then exact Both _ _ (enter_block continuation_block (u64 c.body 0) (u64 c.body 8)) λ b.
      follows-bind exact Both Both _ _
      (λ n n' q. rw q.0 (continuations-follow fuel (waiting ++ of_type 0x0010 n'.all) _ _ (rw p.0 refl, q.1)))
      _ _ (messages-follow (length b) (u64 c.body 0) b g.found g'.found p.1)

  same_queue : (fuel : ℕ) (waiting waiting' : List Message) (g : Gathered S) (g' : Gathered T) → waiting ≡ waiting' → Both g g' →
      Follows exact Both (continuations visit fuel waiting g) (continuations visit' fuel waiting' g')
  same_queue fuel waiting waiting' g g' e p = rw e (continuations-follow fuel waiting' g g' p)

  total-follows : (at total n n' : ℕ) (g : Gathered S) (g' : Gathered T) → n ≡ n' → Both g g' →
      Follows exact Both (check (eqb n total) (fault 10 at) >> ret g) (check (eqb n' total) (fault 10 at) >> ret g')
  total-follows at total n n' g g' e p = rw e (follows-check exact Both (eqb n' total) (fault 10 at) _ _ λ _. follows-ret exact Both _ _ p)

  contents-follow : (at : ℕ) (s : S) (t : T) (b : List ℕ) → R s t → Follows exact Both (header_contents visit at s b) (header_contents visit' at t b)
  unfolding header_contents
  contents-follow at s t b r =
      follows-check exact Both (eqb (u8 b 0) 1) (fault 3 at) _ _ λ _.
      follows-bind exact Both Both _ _
      (λ g g' p.
      follows-bind exact Both Both _ _
      (λ h h' q. total-follows at (u16 b 2) (length h.all) (length h'.all) h h' (ap (λ (ms : List Message). length ms) q.0) q)
      _ _ (same_queue blocks_most _ _ g g' (ap (of_type 0x0010) p.0) p))
      _ _ (messages-follow (length b) (at + 16) (drop 16 b) s t r)

  pub header_messages-follow : (at : ℕ) (s : S) (t : T) → R s t → Follows exact Both (header_messages visit at s) (header_messages visit' at t)
  unfolding header_messages Follows
  header_messages-follow at s t r = (header_contents visit' at t, refl, λ b. contents-follow at s t b r)

  -- the same object
  abbrev Same : Headed S → Headed T → Type 0
  Same h h' = (h.object ≡ h'.object) × R h.found h'.found

  object-follows : (at : ℕ) (ms ms' : List Message) (x : S) (y : T) → ms ≡ ms' → R x y →
      Follows exact Same (object_of at ms >>= λ o. ret (record { object = o; found = x })) (object_of at ms' >>= λ o. ret (record { object = o; found = y }))
  object-follows at ms ms' x y e r = rw e (follows_then exact Same _ _ (object_of at ms') λ o. follows-ret exact Same _ _ (refl, r))

  -- the whole header: it is the same object
  pub header-follows : (at : ℕ) (s : S) (t : T) → R s t →
      Follows exact Same (header_with visit at s) (header_with visit' at t)
  unfolding header_with
  header-follows at s t r =
      follows-bind exact Both Same _ _
      (λ g g' p. object-follows at g.all g'.all g.found g'.found p.0 p.1)
      _ _ (header_messages-follow at s t r)

module _ {S : Type 0} (visit : Message → S → Result S) (at : ℕ) (s : S) where
  kind-alone : (exact : Bool) → ((m : Message) (x : S) (place : ℕ) → Follows {S = S} {T = Unit {0}} exact (λ _ _. Unit {0}) (located place (visit m x))
      (ret tt)) →
      Follows exact (λ h o. h.object ≡ o) (header_with visit at s) (header_walk at)
  unfolding header_walk
  kind-alone exact c =
      rw (← bind-ret (header_with visit at s))
      (follows-bind exact _ _ ret _ (λ h h' q. follows-ret exact _ _ _ q.0) _ _
      (header-follows exact visit pass_over (λ _ _. Unit {0}) (λ m x y place _. c m x place) at s tt tt))

  -- any visit: where it is done, a header that is read for its kind alone is done, with the same object and the same blocks
  pub header-plain : Follows false (λ h o. h.object ≡ o) (header_with visit at s) (header_walk at)
  header-plain = kind-alone false λ m x place. follows-value _ place (visit m x) tt λ _ _. tt

  -- and its messages are the same
  pub messages-plain : Follows false (λ g g'. g.all ≡ g'.all) (header_messages visit at s) (header_messages pass_over at tt)
  messages-plain =
      follows-weaker false _ _ (λ g g' p. p.0) _ _
      (header_messages-follow false visit pass_over (λ _ _. Unit {0}) (λ m x y place _. follows-value _ place (visit m x) tt λ _ _. tt) at s tt tt)

  -- a visit that never refuses: where it is refused, the other has the same refusal
  pub header-same : ((m : Message) (x : S) → (y : S) × (visit m x ≡ value y)) → Follows true (λ h o. h.object ≡ o) (header_with visit at s) (header_walk at)
  header-same total = kind-alone true λ m x place. rw (total m x).1 (follows-ret true _ _ _ tt)
