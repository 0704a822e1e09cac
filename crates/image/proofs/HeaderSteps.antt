-- The messages of a header and its kind against the header's walk.
use Prim.Native.Nat.{ℕ}
use mathlib.Core.List.{List}
use mathlib.Core.Path.{◌≡◌}
use lib.ListN.{length}
use Rattle.std.specs.Prelude as std
use Rattle.std.specs.Prelude.{Ok, Err, OnOk}
use Rattle.format.specs.declared.Refusal.{Refusal}
use Rattle.format.specs.Result.{Result}
use Rattle.format.specs.Walk.{ret, refuse, ◌>>=◌, run}
use Rattle.format.specs.Header.{Gathered, Object, object_of, header_messages, header_with, header_walk, pass_over}
use Rattle.format.specs.Message.{Message}
use Rattle.walk.specs.Lent.{blocks_of, Lent, Ended, ended, stopped, Walked}
use Rattle.laws.proofs.Simulation.{Simulation, start, returned, callee-value, callee-refusal, callee-stopped, callee-done}
use Rattle.kind.specs.Kind.{KnownAs}
use Rattle.image.specs.Header.{with_found}

module _ {S : Type 0} (visit : Message → S → Result S) (im : List ℕ) (eof room : ℕ) (ws : List ℕ) (count at : ℕ) (found : S) (l : Lent ws count room) where
  -- The whole header: its messages, then the kind.
  at-messages : Simulation im eof room (header_with visit at found) count ws
      (header_messages visit at found >>= λ g. object_of at g.all >>= λ o. ret (record { object = o; found = g.found })) count ws
  unfolding header_with
  at-messages = start im eof room (header_with visit at found) count ws l

  pub read-stopped : (ws' : List ℕ) (x : Refusal) → Walked ws ws' (stopped x) (run im eof room (header_messages visit at found) (blocks_of count ws)) →
      Walked ws ws' (stopped x) (run im eof room (header_with visit at found) (blocks_of count ws))
  read-stopped ws' x h = callee-stopped ws' _ _ at-messages h

  module _ (ws' : List ℕ) (g : Gathered S) (n : ℕ) (k : length ws' ≡ length ws)
      (h : Walked ws ws' (ended g n) (run im eof room (header_messages visit at found) (blocks_of count ws))) where
    pub read_known : (o : Object) → object_of at g.all ≡ ret o →
        Walked ws ws' (ended (record { object = o; found = g.found }) n) (run im eof room (header_with visit at found) (blocks_of count ws))
    read_known o e = returned (callee-value _ _ o e (callee-done ws' _ _ at-messages k h))

    pub read-refused : (x : Refusal) → object_of at g.all ≡ refuse x →
        Walked ws ws' (stopped x) (run im eof room (header_with visit at found) (blocks_of count ws))
    read-refused x e = callee-refusal _ _ x e (callee-done ws' _ _ at-messages k h)

-- the kind, with what was found with the messages
pub read_as : {S : Type 0} (visit : Message → S → Result S) (im : List ℕ) (eof room : ℕ) (ws : List ℕ) (count at : ℕ) (found : S) → Lent ws count room →
    (ws' : List ℕ) (g : Gathered S) (n : ℕ) → length ws' ≡ length ws →
    Walked ws ws' (ended g n) (run im eof room (header_messages visit at found) (blocks_of count ws)) →
    (e : Ended Object) → KnownAs (object_of at g.all) n e →
    Walked ws ws' (with_found g.found e) (run im eof room (header_with visit at found) (blocks_of count ws))
read_as visit im eof room ws count at found l ws' g n k h (ended o m) e = rw e.1 (read_known visit im eof room ws count at found l ws' g n k h o e.0)
read_as visit im eof room ws count at found l ws' g n k h (stopped x) e = read-refused visit im eof room ws count at found l ws' g n k h x e

-- A header read for its kind alone: nothing is done at a message.
pub kind-alone : (im : List ℕ) (eof room : ℕ) (ws ws' : List ℕ) (count at : ℕ) → Lent ws count room → length ws' ≡ length ws → (e : Ended Object) →
    Walked ws ws' (with_found tt e) (run im eof room (header_with pass_over at tt) (blocks_of count ws)) →
    Walked ws ws' e (run im eof room (header_walk at) (blocks_of count ws))
unfolding header_walk
kind-alone im eof room ws ws' count at l k (ended o n) h = returned (callee-done ws' _ _ (start im eof room (header_walk at) count ws l) k h)
kind-alone im eof room ws ws' count at l k (stopped x) h = callee-stopped ws' _ _ (start im eof room (header_walk at) count ws l) h

-- what holds whether or not there is a value
pub on-ok : {T E P : Type 0} (r : std.Result T E) → P → OnOk r P
on-ok (Ok x) p = p
on-ok (Err e) p = tt
