-- What a loop of reads keeps: any reads from here on are reads from the start on.
use Prim.Native.Nat.{ℕ, ◌+◌, ◌≤◌, ◌<◌}
use mathlib.Core.List.{List}
use mathlib.Core.Path.{◌≡◌}
use native.Mathlib.Omega.{arith}
use lib.ListN.{length}
use Rattle.std.specs.Prelude.{Result, Ok, Err}
use Rattle.input.specs.declared.Input.{Input}
use Rattle.input.specs.Reading.{Behind, Reads, fails, ends, fills, more}

-- so many bytes are read, and the last read brought k
pub record Going (E : Type 0) (b₀ b : List ℕ) (at k : ℕ) : Type 0 where
  pub same_length : length b ≡ length b₀
  pub within : at ≤ length b
  pub rest : at < length b → (b' : List ℕ) (i : Result Input E) → Reads b at b' i → Reads b₀ 0 b' i
  pub full : at ≡ length b → Reads {E = E} b₀ 0 b (Ok (record { length = at; last = k }))

pub going_start : {E : Type 0} (b : List ℕ) (k : ℕ) → 0 < length b → Going E b b 0 k
going_start b k h = record { same_length = omega arith; within = omega arith; rest = λ _ b' i r. r; full = λ e. absurd (omega (arith, h, e)) }

module _ {E : Type 0} (b₀ b : List ℕ) (at l : ℕ) (g : Going E b₀ b at l) (here : at < length b) (b' : List ℕ) (s : Behind at b b') where
  pub going_more : (k : ℕ) → 0 < k → at + k ≤ length b → Going E b₀ b' (at + k) k
  going_more k some most = record {
    same_length = omega (arith, s.same_length, g.same_length);
    within = omega (arith, s.same_length, most);
    rest = λ h b'' i r. g.rest here b'' i (more some (omega (arith, h, s.same_length)) s r);
    full = λ e. g.rest here b' _ (fills some (omega (arith, e, s.same_length)) s);
  }

  pub going-ends : Reads {E = E} b₀ 0 b' (Ok (record { length = at; last = 0 }))
  going-ends = g.rest here b' _ (ends here s)

  pub going-fails : (e : E) → Reads b₀ 0 b' (Err e)
  going-fails e = g.rest here b' (Err e) (fails here s)

-- no more is read than the buffer holds
abbrev pub ReadWithin : {E : Type 0} → ℕ → Result Input E → Type 0
ReadWithin long (Ok i) = i.length ≤ long
ReadWithin long (Err e) = Unit {0}

pub reads-within : {E : Type 0} {b b' : List ℕ} {at : ℕ} {i : Result Input E} → Reads b at b' i → ReadWithin (length b') i
reads-within (fails h s) = tt
reads-within (ends h s) = omega (arith, h, s.same_length)
reads-within (fills p h s) = omega (arith, h, s.same_length)
reads-within (more p h s r) = reads-within r
