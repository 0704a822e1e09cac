-- Laws of the messages of a block, one after the other.
use Prim.Native.Nat.{ℕ, zero, suc, ◌+◌, ◌-◌, ◌≤◌, ◌<◌, ◌%◌}
use mathlib.Core.Bool.{true, false}
use mathlib.Core.List.{List, [], ◌∷◌, ◌++◌, append_assoc, append-nil}
use mathlib.Core.Logic.{inl}
use mathlib.Core.Path.{◌≡◌, refl, ap, sym, ◌∙◌, fun_ext}
use native.Mathlib.Omega.{arith}
use borrow.Author.Tests.{ne_eqb, leb-true, eqb-true}
use lib.Dec.{eqb, leb}
use lib.ListN.{length, drop}
use Rattle.format.specs.Bytes.{◌implies◌, in_range, part, little_endian, u8, u16, u64}
use Rattle.format.specs.Result.{Result, value, answer}
use Rattle.format.specs.Walk.{Walk, ret, refuse, enter, fault, located, ◌>>=◌}
use Rattle.format.specs.Header.{Gathered, messages, pass_over}
use Rattle.format.specs.Message.{Message, treatment, allowed, is_shared, of_type, read_message}
use Rattle.laws.proofs.Bind.{ret-bind, refuse-bind, bind-ret, bind_assoc}
use Rattle.laws.proofs.Checks.{both-done, check_done}
use Rattle.laws.proofs.Results.{check-value, located-done}
use Rattle.laws.proofs.Follows.{Follows, follows-value}
use Rattle.laws.proofs.HeaderVisits.{messages-follow}
use Rattle.walk.proofs.Parts.{part_length, drop-part, part-part, part-byte}
use Rattle.message.specs.Message.{message_of, Fields}
use Rattle.tally.specs.Tally.{message_at, Placed, Tallied}
use Rattle.scan.specs.Scan.{MessagesAre, Holds, TalliedWith, Continues}
use Rattle.tally.specs.declared.Tally.{Tally}
use Rattle.message.proofs.MessageLaws.{fields-long}
use Rattle.tally.proofs.TallyLaws.{of_type-append, of_type-other, of_type-same}

-- what was gathered from more messages, behind these
abbrev pub behind : {S : Type 0} → List Message → Gathered S → Gathered S
behind ms g = record { all = ms ++ g.all; found = g.found }

abbrev gathered : {S : Type 0} → List Message → S → Gathered S
gathered ms found = record { all = ms; found = found }

-- the messages of a walk that is done
all_of : {S : Type 0} → Walk (Gathered S) → List Message
all_of (ret g) = g.all
all_of (refuse r) = []
all_of (enter v a l k) = []

pub same-messages : {S : Type 0} (g g' : Gathered S) → ret g ≡ ret g' → g.all ≡ g'.all
unfolding all_of
same-messages g g' e = ap all_of e

module _ {S : Type 0} (visit : Message → S → Result S) where
  -- no bytes are no messages
  messages-none : (fuel place : ℕ) (m : List ℕ) (found : S) → m ≡ [] → messages visit fuel place m found ≡ ret (gathered [] found)
  unfolding messages ◌>>=◌
  messages-none zero place m found e = rw e
  messages-none (suc fuel) place m found e = rw e

  messages-some : (fuel place : ℕ) (m : List ℕ) (found : S) → (length m ≡ 0 → ⊥) →
      messages visit (suc fuel) place m found ≡
      located place (read_message place m) >>= λ here.
      located place (visit here found) >>= λ found'.
      messages visit fuel (place + 8 + u16 m 2) (drop (8 + u16 m 2) m) found' >>= λ rest. ret (behind (here ∷ []) rest)
  unfolding messages
  messages-some fuel place m found e = rw (ne_eqb (length m) 0 e)

  -- without fuel there are no messages
  messages-out : (place : ℕ) (m : List ℕ) (found : S) (g : Gathered S) → messages visit zero place m found ≡ ret g → length m ≡ 0
  unfolding messages
  messages-out place m found g e = eqb-true (length m) 0 (check_done (eqb (length m) 0) (fault 10 place) _ g e).0

  module _ (im : List ℕ) (at end : ℕ) (inside : end ≤ length im) (found : S) where
    pub none_left : at ≡ end → MessagesAre visit im at end found (ret (gathered [] found))
    none_left e fuel h = messages-none fuel at _ found (let z : end - at ≡ 0 = omega arith in ap (part im at) z)

    module _ (some : at < end) where
      abbrev m : List ℕ
      m = part im at (end - at)

      not-empty : length m ≡ 0 → ⊥
      not-empty e = omega (arith, part_length im at (end - at) (omega arith))

      pub refused-here : (n : ℕ) → answer n ≡ read_message at m → MessagesAre visit im at end found (refuse (fault n at))
      refused-here n e zero h = absurd (omega arith)
      refused-here n e (suc fuel) h = messages-some fuel at m found not-empty ∙ rw (← e) (refuse-bind (fault n at) _)

      module _ (here : Message) (e : value here ≡ read_message at m) where
        -- the message is sound, and what is done at it is refused
        pub visit-refused : (n : ℕ) → answer n ≡ visit here found → MessagesAre visit im at end found (refuse (fault n at))
        visit-refused n r zero h = absurd (omega arith)
        visit-refused n r (suc fuel) h = messages-some fuel at m found not-empty ∙ rw (← e) (ret-bind here _ ∙ rw (← r) (refuse-bind (fault n at) _))

        module _ (size : ℕ) (s : size ≡ u16 im (at + 2)) (i : at + 8 + size ≤ end) where
          size-there : u16 m 2 ≡ size
          size-there = ap little_endian (part-part im at (end - at) 2 2 (omega arith)) ∙ sym s

          rest-there : drop (8 + size) m ≡ part im (at + 8 + size) (end - (at + 8 + size))
          rest-there =
              let e : at + (8 + size) ≡ at + 8 + size = omega arith in
              let f : end - at - (8 + size) ≡ end - (at + 8 + size) = omega arith in
              drop-part im at (end - at) (8 + size) ∙ rw (e, f)

          pub read_here : (found' : S) (w : Walk (Gathered S)) → value found' ≡ visit here found → MessagesAre visit im (at + 8 + size) end found' w →
              MessagesAre visit im at end found (w >>= λ rest. ret (behind (here ∷ []) rest))
          read_here found' w v r zero h = absurd (omega arith)
          read_here found' w v r (suc fuel) h =
              messages-some fuel at m found not-empty
              ∙ rw (← e, size-there)
              (ret-bind here _ ∙ rw (← v) (ret-bind found' _ ∙ rw rest-there (ap (λ (x : Walk (Gathered S)). x >>= λ rest. ret (behind (here ∷ []) rest))
              (r fuel (omega arith)))))

-- a message that was read stands where its fields stand
pub message-at : (im : List ℕ) (at end kind size flags : ℕ) → Fields im at end kind size flags →
    message_of im kind (record { place = at + 8; size = size; flags = flags }) ≡ message_at im kind (at + 8)
message-at im at end kind size flags f =
    let e : at + 8 - 4 ≡ at + 4 = omega arith in
    let g : at + 8 - 6 ≡ at + 2 = omega arith in
    rw (e, g, f.flags_there, f.size_there)

pub placed_at : (im : List ℕ) (at end kind size flags : ℕ) → end ≤ length im → Fields im at end kind size flags → Placed im kind (at + 8)
placed_at im at end kind size flags l f =
    let g : at + 8 - 6 ≡ at + 2 = omega arith in
    record { head = omega arith; body = rw (g, ← f.size_there) (omega (arith, f.inside)); long = λ k. rw (g, ← f.size_there) (f.long k) }

-- The loop over a block: the messages read so far, from `from` to `at`, what was found with them, and the tally with them.
pub record Scanning {S : Type 0} (visit : Message → S → Result S) (im : List ℕ) (from end : ℕ) (found : S) (t : Tally) (at : ℕ) (found' : S) (t' : Tally) :
    Type 0 where
  pub read : List Message
  pub before : from ≤ at
  pub inside : at ≤ end
  pub walk : (w : Walk (Gathered S)) → MessagesAre visit im at end found' w → MessagesAre visit im from end found (w >>= λ rest. ret (behind read rest))
  pub tally : TalliedWith im read t t'

pub scanning-start : {S : Type 0} (visit : Message → S → Result S) (im : List ℕ) (from end : ℕ) (found : S) (t : Tally) → from ≤ end →
    Scanning visit im from end found t from found t
scanning-start visit im from end found t h = record {
  read = [];
  before = omega arith;
  inside = h;
  walk = λ w r fuel l. r fuel l ∙ sym (bind-ret w);
  tally = λ sofar s. rw (append-nil sofar) s;
}

module _ {S : Type 0} (visit : Message → S → Result S) (im : List ℕ) (from end : ℕ) (found₀ : S) (t : Tally) (at : ℕ) (found : S) (t' : Tally)
    (s : Scanning visit im from end found₀ t at found t') (l : end ≤ length im) where
  pub scanning-end : end ≤ at → MessagesAre visit im from end found₀ (ret (gathered s.read found))
  scanning-end h =
      let e : at ≡ end = omega (arith, s.inside) in
      let r = s.walk (ret (gathered [] found)) (none_left visit im at end l found e) in
      λ fuel k. r fuel k ∙ ret-bind (gathered [] found) _ ∙ ap (λ (ms : List Message). ret (gathered ms found)) (append-nil s.read)

  module _ (h : at < end) where
    pub scanning-refused : (n : ℕ) → answer n ≡ read_message at (part im at (end - at)) → MessagesAre visit im from end found₀ (refuse (fault n at))
    scanning-refused n e =
        let r = s.walk (refuse (fault n at)) (refused-here visit im at end l found h n e) in
        λ fuel k. r fuel k ∙ refuse-bind (fault n at) _

    module _ (kind size flags : ℕ) (f : Fields im at end kind size flags)
        (e : value (message_of im kind (record { place = at + 8; size = size; flags = flags })) ≡ read_message at (part im at (end - at))) where
      abbrev here : Message
      here = message_at im kind (at + 8)

      is-here : message_of im kind (record { place = at + 8; size = size; flags = flags }) ≡ here
      is-here = message-at im at end kind size flags f

      here-read : value here ≡ read_message at (part im at (end - at))
      here-read = ap value (sym is-here) ∙ e

      pub scanning-visit-refused : (n : ℕ) → answer n ≡ visit (message_of im kind (record { place = at + 8; size = size; flags = flags })) found →
          MessagesAre visit im from end found₀ (refuse (fault n at))
      scanning-visit-refused n v =
          let r = s.walk (refuse (fault n at)) (visit-refused visit im at end l found h here here-read n (v ∙ ap (λ (m : Message). visit m found) is-here)) in
          λ fuel k. r fuel k ∙ refuse-bind (fault n at) _

      pub scanning-read : (found' : S) → value found' ≡ visit (message_of im kind (record { place = at + 8; size = size; flags = flags })) found →
          (t'' : Tally) → ((ms : List Message) → Placed im kind (at + 8) → Tallied im ms t' → Tallied im (ms ++ (here ∷ [])) t'') →
          Scanning visit im from end found₀ t (at + 8 + size) found' t''
      scanning-read found' v t'' more = record {
        read = s.read ++ (here ∷ []);
        before = omega (arith, s.before);
        inside = f.inside;
        walk = λ w r fuel k.
            s.walk _
            (read_here visit im at end l found h here here-read size f.size_there f.inside found' w (v ∙ ap (λ (m : Message). visit m found) is-here) r)
            fuel k
            ∙ bind_assoc w _ _
            ∙ ap (λ (g : Gathered S → Walk (Gathered S)). w >>= g)
            (fun_ext (λ r. ret-bind (behind (here ∷ []) r) _ ∙ ap (λ (ms : List Message). ret (gathered ms r.found))
            (sym (append_assoc s.read (here ∷ []) r.all))));
        tally = λ sofar r. rw (← append_assoc) (more (sofar ++ s.read) (placed_at im at end kind size flags l f) (s.tally sofar r));
      }

-- where the messages were read with a visit, the bytes hold them
pub messages-held : {S : Type 0} (visit : Message → S → Result S) (im : List ℕ) (from end : ℕ) (found : S) (g : Gathered S) → from ≤ end → end ≤ length im →
    MessagesAre visit im from end found (ret g) → Holds im from end g.all
unfolding Follows
messages-held visit im from end found g o l r =
    let p = messages-follow false visit pass_over (λ _ _. Unit {0}) (λ m x y place _. follows-value _ place (visit m x) tt λ _ _. tt) (end - from) from
    (part im from (end - from)) found tt tt in
    let q = rw (r (end - from) (omega arith)) at p in
    record { ordered = o; inside = l; fuel = end - from; read = q.1 ∙ ap (λ (ms : List Message). ret (gathered ms tt)) (sym q.2.0) }

-- what is known of a message that was read
record Sound (place : ℕ) (m : List ℕ) (here : Message) : Type 0 where
  pub head : 8 ≤ length m
  pub body : 8 + u16 m 2 ≤ length m
  pub fields : true ≡ (in_range 0x0010 0x0011 (u16 m 0) implies leb 16 (u16 m 2))
  pub is : here ≡ record { type = u16 m 0; flags = u8 m 4; body = part m 8 (u16 m 2); place = place + 8 }

message-sound : (place : ℕ) (m : List ℕ) (here : Message) → read_message place m ≡ value here → Sound place m here
unfolding read_message
message-sound place m here e =
    let a = check-value (leb 8 (length m)) 10 _ here e in
    let b = check-value (allowed (treatment (u16 m 0))) 3 _ here a.1 in
    let c = check-value (eqb (u16 m 2 % 8) 0) 10 _ here b.1 in
    let d = check-value (leb (8 + u16 m 2) (length m)) 10 _ here c.1 in
    let f = check-value (is_shared (u8 m 4) implies eqb (u16 m 0) 0x0003) 3 _ here d.1 in
    let g = check-value (in_range 0x0010 0x0011 (u16 m 0) implies leb 16 (u16 m 2)) 10 _ here f.1 in
    let h = check-value (eqb (u16 m 0) 0x0010 implies leb 8 (u64 (part m 8 (u16 m 2)) 8)) 10 _ here g.1 in
    record { head = leb-true 8 (length m) a.0; body = leb-true (8 + u16 m 2) (length m) d.0; fields = sym g.0; is = cc h.1 }

-- The first of the messages that a part of the image holds, and the rest of them.
pub record Step (im : List ℕ) (at end : ℕ) (ms : List Message) : Type 0 where
  pub rest : List Message
  pub body : at + 8 + u16 im (at + 2) ≤ end
  pub is : ms ≡ message_at im (u16 im at) (at + 8) ∷ rest
  pub holds : Holds im (at + 8 + u16 im (at + 2)) end rest
  pub long : u16 im at ≡ 0x0010 → 16 ≤ u16 im (at + 2)

module _ (im : List ℕ) (at end : ℕ) (ms : List Message) (h : Holds im at end ms) (l : at < end) where
  abbrev here_on : List ℕ
  here_on = part im at (end - at)

  long : length here_on ≡ end - at
  long = part_length im at (end - at) (omega (arith, h.inside))

  -- the field of the message's type, and its head's other fields
  field-there : (b n : ℕ) → b + n ≤ length here_on → little_endian (part here_on b n) ≡ little_endian (part im (at + b) n)
  field-there b n k = ap little_endian (part-part im at (end - at) b n (omega (arith, long)))

  type-there : 8 ≤ length here_on → u16 here_on 0 ≡ u16 im at
  type-there k = let e : at + 0 ≡ at = omega arith in field-there 0 2 (omega arith) ∙ ap (λ (x : ℕ). little_endian (part im x 2)) e

  rest_at : (size : ℕ) → at + 8 + size ≤ end → drop (8 + size) here_on ≡ part im (at + 8 + size) (end - (at + 8 + size))
  rest_at size i =
      let e : at + (8 + size) ≡ at + 8 + size = omega arith in
      let f : end - at - (8 + size) ≡ end - (at + 8 + size) = omega arith in
      drop-part im at (end - at) (8 + size) ∙ rw (e, f)

  step-with : (fuel : ℕ) (here : Message) (rest : List Message) → read_message at here_on ≡ value here →
      messages pass_over fuel (at + 8 + u16 here_on 2) (drop (8 + u16 here_on 2) here_on) tt ≡ ret (gathered rest tt) → here ∷ rest ≡ ms → Step im at end ms
  step-with fuel here rest e f g =
      let s = message-sound at here_on here e in
      let size : u16 here_on 2 ≡ u16 im (at + 2) = field-there 2 2 (omega (arith, s.head)) in
      let type : u16 here_on 0 ≡ u16 im at = type-there s.head in
      let body : at + 8 + u16 im (at + 2) ≤ end = omega (arith, s.body, size, long) in
      let back : at + 8 - 4 ≡ at + 4 = omega arith in
      let back2 : at + 8 - 6 ≡ at + 2 = omega arith in
      let flags : u8 here_on 4 ≡ u8 im (at + 4) = part-byte im at (end - at) 4 (omega (arith, s.head, long)) in
      let bytes : part here_on 8 (u16 here_on 2) ≡ part im (at + 8) (u16 im (at + 2)) = rw size
      (part-part im at (end - at) 8 (u16 im (at + 2)) (omega arith)) in
      let is : here ≡ message_at im (u16 im at) (at + 8) = s.is ∙ rw (type, flags, bytes, back, back2) in
      record {
        rest = rest;
        body = body;
        is = sym g ∙ ap (λ (x : Message). x ∷ rest) is;
        holds = record {
          ordered = body;
          inside = h.inside;
          fuel = fuel;
          read = rw (size, rest_at (u16 im (at + 2)) body) at f;
        };
        long = λ k. rw size at (fields-long (u16 here_on 0) (u16 here_on 2) s.fields (inl (type ∙ k)));
      }

  pub holds-step : Step im at end ms
  holds-step = go h.fuel h.read
    where
      go : (fuel : ℕ) → messages pass_over fuel at here_on tt ≡ ret (gathered ms tt) → Step im at end ms
      go zero e = absurd (omega (arith, messages-out pass_over at here_on tt (gathered ms tt) e, long))
      go (suc fuel) e =
          let a = both-done (located at (read_message at here_on)) _ (gathered ms tt)
          (sym (messages-some pass_over fuel at here_on tt (λ z. omega (arith, long))) ∙ e) in
          let b = both-done (messages pass_over fuel (at + 8 + u16 here_on 2) (drop (8 + u16 here_on 2) here_on) tt) _ (gathered ms tt)
          (sym (ret-bind tt _) ∙ a.2) in
          let g : a.0 ∷ b.0.all ≡ ms = same-messages _ _ b.2 in
          step-with fuel a.0 b.0.all (located-done (read_message at here_on) a.0 at a.1) b.1 g

-- The search for a continuation: the messages from `at` on have all the continuations of those from `from` on.
abbrev pub Seeking : List ℕ → ℕ → ℕ → ℕ → Type 0
Seeking im from end at = (ms : List Message) → Holds im from end ms → (rest : List Message) × (of_type 0x0010 ms ≡ of_type 0x0010 rest) × Holds im at end rest

module _ (im : List ℕ) (from end at : ℕ) (s : Seeking im from end at) where
  pub seek-skip : at < end → (u16 im at ≡ 0x0010 → ⊥) → Seeking im from end (at + 8 + u16 im (at + 2))
  seek-skip l n ms h =
      let r = s ms h in
      let p = holds-step im at end r.0 r.2 l in (
        p.rest,
        r.1 ∙ ap (of_type 0x0010) p.is ∙ of_type-append 0x0010 (message_at im (u16 im at) (at + 8) ∷ []) p.rest ∙ rw
            (of_type-other 0x0010 (message_at im (u16 im at) (at + 8)) n),
        p.holds,
      )

  pub seek_found : at < end → u16 im at ≡ 0x0010 → (ms : List Message) → Holds im from end ms → Continues im end at ms
  seek_found l e ms h =
      let r = s ms h in
      let p = holds-step im at end r.0 r.2 l in
      record {
        rest = p.rest;
        first =
            r.1 ∙ ap (of_type 0x0010) p.is ∙ of_type-append 0x0010 (message_at im (u16 im at) (at + 8) ∷ []) p.rest
            ∙ rw (e, of_type-same 0x0010 (message_at im 0x0010 (at + 8)) refl);
        holds = p.holds;
        long = p.long e;
      }

  pub seek-end : at ≡ end → (ms : List Message) → Holds im from end ms → of_type 0x0010 ms ≡ []
  unfolding of_type
  seek-end e ms h =
      let r = s ms h in
      let z : r.0 ≡ [] = same-messages _ _ (sym r.2.read ∙ messages-none pass_over r.2.fuel at _ tt
      (let z : end - at ≡ 0 = omega arith in ap (part im at) z)) in
      r.1 ∙ rw z
