-- Laws of the continuations of a header: the cursor over those that wait, and the walk that enters them.
use Prim.Native.Nat.{ℕ, zero, suc, ◌+◌, ◌-◌, ◌*◌, ◌≤◌, ◌<◌}
use mathlib.Core.List.{List, [], ◌∷◌, ◌++◌, append_assoc, append-nil}
use mathlib.Core.Logic.{inr, ⊎_elim}
use mathlib.Core.Path.{◌≡◌, refl, ap, sym, ◌∙◌, subst}
use native.Mathlib.Omega.{arith}
use lib.ListN.{length, get_or, drop_of_length-le}
use lib.Seq.{drop-append-le}
use Rattle.format.specs.Limits.{blocks_most}
use Rattle.format.specs.Bytes.{little_endian, u16, u64}
use Rattle.format.specs.Blocks.{Block}
use Rattle.format.specs.declared.Refusal.{Refusal}
use Rattle.format.specs.Result.{Result}
use Rattle.format.specs.Walk.{Walk, ret, enter_block, continuation_block, ◌>>=◌, run}
use Rattle.format.specs.Header.{Gathered, continuations}
use Rattle.format.specs.Message.{Message, of_type}
use Rattle.walk.specs.Numbers.{Number}
use Rattle.walk.specs.Entered.{SameWords}
use Rattle.walk.specs.declared.blocks.Blocks.{Blocks}
use Rattle.walk.specs.Lent.{blocks_of, Lent, Walked, ended, stopped}
use Rattle.walk.proofs.BlockList.{length-blocks_of, blocks-next}
use Rattle.walk.proofs.Parts.{part-part}
use Rattle.laws.proofs.Bind.{bind_assoc}
use Rattle.laws.proofs.Simulation.{Simulation, same-walk, returned, callee-stopped, callee-done}
use Rattle.tally.specs.Tally.{message_at, Tallied}
use Rattle.scan.specs.Scan.{Holds, TalliedWith, NextIs}
use Rattle.continuations.specs.Continuations.{Later, blocks_from, block_walk, NewBlock, Waiting, Next, Sought}
use Rattle.continuations.specs.Lending.{Lending}
use Rattle.tally.specs.declared.Tally.{Tally}
use Rattle.continuations.specs.declared.Reading.{Reading}
use Rattle.continuations.specs.declared.Cursor.{Cursor}

abbrev pub cursor : ℕ → ℕ → ℕ → Cursor
cursor block at end = record { block = block; at = at; end = end }

-- A search in the cursor's own block: it finds the first continuation that waits, or all that wait stand in later blocks.
module _ (im ws : List ℕ) (count : ℕ) (c : Cursor) (waiting : List Message) (at : ℕ) (w : Waiting im ws count c waiting) (n : NextIs im c.at c.end at) where
  pub found-here : at < c.end → Sought im ws count (cursor c.block at c.end) waiting
  found-here l =
      ⊎_elim (λ e. absurd (omega (arith, e.0)))
      (λ k.
      inr (
        k.0,
        record {
          rest = of_type 0x0010 k.1.rest ++ w.later;
          first = w.is ∙ rw k.1.first;
          next = record { here = k.1.rest; later = w.later; block = w.block; holds = k.1.holds; behind = w.behind; is = refl };
          long = k.1.long;
        },
      ))
      (n w.here w.holds)

  pub none-here : c.end ≤ at → Later im (blocks_from count (c.block + 1) ws) waiting
  none-here l =
      ⊎_elim (λ e. subst (λ (ms : List Message). Later im (blocks_from count (c.block + 1) ws) ms) (sym (w.is ∙ rw e.1)) w.behind)
      (λ k. absurd (omega (arith, k.0)))
      (n w.here w.holds)

module _ (im ws : List ℕ) (count b : ℕ) (waiting : List Message) (h : Later im (blocks_from count b ws) waiting) where
  -- the next block of the list
  pub next-block : b < count → Waiting im ws count (cursor b (get_or ws (4 * b) 0) (get_or ws (4 * b) 0 + get_or ws (4 * b + 1) 0)) waiting
  next-block l =
      let n = subst (λ (bs : List Block). Later im bs waiting) (blocks-next count b ws l) h in
      record { here = n.0; later = n.1; block = l; holds = n.2; behind = n.4; is = n.3 }

  -- there is no block more
  pub none-later : count ≤ b → waiting ≡ []
  none-later l = subst (λ (bs : List Block). Later im bs waiting) (drop_of_length-le (blocks_of count ws) {i = b} (rw length-blocks_of l)) h

-- A block more at the end of the list.
later_more : (im : List ℕ) (bs : List Block) (later new : List Message) (b : Block) → Later im bs later → Holds im b.at (b.at + b.size) new →
    Later im (bs ++ (b ∷ [])) (later ++ of_type 0x0010 new)
later_more im [] later new b l h = (new, [], h, ap (λ (x : List Message). x ++ of_type 0x0010 new) l ∙ sym (append-nil (of_type 0x0010 new)), refl)
later_more im (x ∷ bs) later new b l h = (
  l.0,
  l.1 ++ of_type 0x0010 new,
  l.2,
  ap (λ (x : List Message). x ++ of_type 0x0010 new) l.3 ∙ append_assoc
      (of_type 0x0010 l.0) l.1 (of_type 0x0010 new),
  later_more im bs l.1 new b l.4 h,
)

-- What waits once a continuation was entered, as the last block of the list, and read.
pub waiting-more : (im ws ws₁ : List ℕ) (n m : ℕ) (c : Cursor) (rest new : List Message) (b : Block) → blocks_of m ws₁ ≡ blocks_of n ws ++ (b ∷ []) →
    m ≡ n + 1 → Holds im b.at (b.at + b.size) new → Waiting im ws n c rest → Waiting im ws₁ m c (rest ++ of_type 0x0010 new)
waiting-more im ws ws₁ n m c rest new b e f h w =
    let more : blocks_from m (c.block + 1) ws₁ ≡ blocks_from n (c.block + 1) ws ++ (b ∷ []) =
    rw e (drop-append-le (c.block + 1) (blocks_of n ws) (b ∷ []) (rw length-blocks_of (omega (arith, w.block)))) in
    record {
      here = w.here;
      later = w.later ++ of_type 0x0010 new;
      block = omega (arith, w.block);
      holds = w.holds;
      behind =
          subst (λ (bs : List Block). Later im bs (w.later ++ of_type 0x0010 new)) (sym more)
          (later_more im (blocks_from n (c.block + 1) ws) w.later new b w.behind h);
      is = ap (λ (x : List Message). x ++ of_type 0x0010 new) w.is ∙ append_assoc (of_type 0x0010 w.here) w.later (of_type 0x0010 new);
    }

-- the two fields of a continuation message
fields_read : (im : List ℕ) (at b r : ℕ) → b + 8 ≤ u16 im (at + 2) → Number im (at + 8 + b) 8 r → u64 (message_at im 0x0010 (at + 8)).body b ≡ r
fields_read im at b r h n =
    let e : at + 8 - 6 ≡ at + 2 = omega arith in
    rw e (ap little_endian (part-part im (at + 8) (u16 im (at + 2)) b 8 h) ∙ sym n.value)

abbrev gathered : {S : Type 0} → List Message → S → Gathered S
gathered ms found = record { all = ms; found = found }

-- what is gathered with the messages of one block more
abbrev more : {S : Type 0} → List Message → Gathered S → Gathered S
more sofar new = gathered (sofar ++ new.all) new.found

module _ {S : Type 0} (visit : Message → S → Result S) (im : List ℕ) where
  -- the walk from a continuation that waits on: it is entered and read, and what it names waits behind the others
  next-walk : (fuel at address size : ℕ) (rest sofar : List Message) (found : S) → 16 ≤ u16 im (at + 2) → Number im (at + 8) 8 address →
      Number im (at + 16) 8 size →
      continuations visit (suc fuel) (message_at im 0x0010 (at + 8) ∷ rest) (gathered sofar found) ≡
      block_walk visit address size found >>= λ new. continuations visit fuel (rest ++ of_type 0x0010 new.all) (more sofar new)
  unfolding continuations
  next-walk fuel at address size rest sofar found l n o =
      let e : at + 8 + 0 ≡ at + 8 = omega arith in
      let f : at + 8 + 8 ≡ at + 16 = omega arith in
      rw (fields_read im at 0 address (omega arith) (rw e n), fields_read im at 8 size (omega arith) (rw f o))
      (sym (bind_assoc (enter_block continuation_block address size) _ _))

  none-waits : (fuel k : ℕ) (waiting : List Message) (g : Gathered S) → fuel ≡ suc k → waiting ≡ [] → continuations visit fuel waiting g ≡ ret g
  unfolding continuations
  none-waits fuel k waiting g e f = rw (e, f)

  one-waits : (fuel k at address size : ℕ) (waiting rest sofar : List Message) (found : S) → fuel ≡ suc k → waiting ≡ message_at im 0x0010 (at + 8) ∷ rest →
      16 ≤ u16 im (at + 2) → Number im (at + 8) 8 address → Number im (at + 16) 8 size →
      continuations visit fuel waiting (gathered sofar found) ≡
      block_walk visit address size found >>= λ new. continuations visit k (rest ++ of_type 0x0010 new.all) (more sofar new)
  one-waits fuel k at address size waiting rest sofar found e f l a s = rw (e, f) (next-walk k at address size rest sofar found l a s)

-- The loop over the continuations: the walk that was begun has come to those that wait at the cursor.
pub record Following {S : Type 0} (visit : Message → S → Result S) (im : List ℕ) (eof room : ℕ) (w₀ : Walk (Gathered S)) (n₀ : ℕ) (ws₀ : List ℕ)
    (c : Cursor) (t : Tally) (found : S) (n : ℕ) (ws : List ℕ) : Type 0 where
  pub fuel : ℕ
  pub waiting : List Message
  pub sofar : List Message
  pub come : Simulation im eof room w₀ n₀ ws₀ (continuations visit fuel waiting (gathered sofar found)) n ws
  pub sought : Sought im ws n c waiting
  pub tally : Tallied im sofar t
  pub lasts : blocks_most < n + fuel

module _ {S : Type 0} (visit : Message → S → Result S) (im : List ℕ) (eof room : ℕ) (w₀ : Walk (Gathered S)) (n₀ : ℕ) (ws₀ : List ℕ) (c : Cursor) (t : Tally)
    (found : S) (n : ℕ) (ws : List ℕ) (most : room ≤ blocks_most) (f : Following visit im eof room w₀ n₀ ws₀ c t found n ws) where
  -- the fuel is not out
  fuel-left : (k : ℕ) × (f.fuel ≡ suc k)
  fuel-left = go f.fuel f.lasts
    where
      go : (k : ℕ) → blocks_most < n + k → (j : ℕ) × (k ≡ suc j)
      go zero h = absurd (omega (arith, f.come.lent.counted))
      go (suc k) h = (k, refl)

  -- no continuation waits: all messages are read
  pub all_read : c.end ≤ c.at → Walked ws₀ ws (ended (gathered f.sofar found) n) (run im eof room w₀ (blocks_of n₀ ws₀))
  all_read l =
      ⊎_elim
      (λ e.
      let k = fuel-left in
      returned (same-walk (ret (gathered f.sofar found)) (none-waits visit im f.fuel k.0 f.waiting _ k.1 e.1) f.come))
      (λ e. absurd (omega (arith, e.0)))
      f.sought

  pub at_next : c.at < c.end → Next im ws n c f.waiting
  at_next l = ⊎_elim (λ e. absurd (omega (arith, e.0))) (λ e. e.1) f.sought

  -- its message lies inside the image, and has both fields
  pub message-inside : c.at < c.end → (c.at + 8 + u16 im (c.at + 2) ≤ length im) × (16 ≤ u16 im (c.at + 2))
  message-inside l = let n = at_next l in (omega (arith, n.next.holds.ordered, n.next.holds.inside), n.long)

  -- the next one is entered and read
  module _ (l : c.at < c.end) (address size : ℕ) (a : Number im (c.at + 8) 8 address) (s : Number im (c.at + 16) 8 size) (ws₁ : List ℕ) where
    abbrev k : ℕ
    k = fuel-left.0

    abbrev next : Next im ws n c f.waiting
    next = at_next l

    at_block : Simulation im eof room w₀ n₀ ws₀
        (block_walk visit address size found >>= λ new. continuations visit k (next.rest ++ of_type 0x0010 new.all) (more f.sofar new)) n ws
    at_block =
        same-walk _ (one-waits visit im f.fuel k c.at address size f.waiting next.rest f.sofar found fuel-left.1 next.first next.long
        a s) f.come

    pub not-read : (x : Refusal) → Walked ws ws₁ (stopped x) (run im eof room (block_walk visit address size found) (blocks_of n ws)) →
        Walked ws₀ ws₁ (stopped x) (run im eof room w₀ (blocks_of n₀ ws₀))
    not-read x h = callee-stopped ws₁ _ _ at_block h

    module _ (m : ℕ) (new : List Message) (found' : S) (t' : Tally) (same : length ws₁ ≡ length ws)
        (h : Walked ws ws₁ (ended (gathered new found') m) (run im eof room (block_walk visit address size found) (blocks_of n ws)))
        (b : NewBlock im ws n address size ws₁ m new) (tallied : TalliedWith im new t t') where
      behind-block : Simulation im eof room w₀ n₀ ws₀ (continuations visit k (next.rest ++ of_type 0x0010 new) (gathered (f.sofar ++ new) found')) m ws₁
      behind-block = callee-done ws₁ _ _ at_block same h

      -- the list may be lent on, with one block more
      pub block-lent : Lent ws₁ m room
      block-lent = behind-block.lent

      pub waits : Waiting im ws₁ m (cursor c.block (c.at + 8 + u16 im (c.at + 2)) c.end) (next.rest ++ of_type 0x0010 new)
      waits =
          waiting-more im ws ws₁ n m (cursor c.block (c.at + 8 + u16 im (c.at + 2)) c.end) next.rest new _ b.blocks b.counted b.holds
          next.next

      pub followed : (c' : Cursor) → Sought im ws₁ m c' (next.rest ++ of_type 0x0010 new) → Following visit im eof room w₀ n₀ ws₀ c' t' found' m ws₁
      followed c' o = record {
        fuel = k;
        waiting = next.rest ++ of_type 0x0010 new;
        sofar = f.sofar ++ new;
        come = behind-block;
        sought = o;
        tally = tallied f.sofar f.tally;
        lasts = omega (arith, f.lasts, fuel-left.1, b.counted);
      }

-- the list lent stays the same from one function to the next
pub same_words-then : (b c d : Blocks) → SameWords b c → SameWords c d → SameWords b d
same_words-then b c d s t = record { same = t.same ∙ s.same; long = t.long ∙ s.long }

-- The loop in the lists that were lent: what it has come to, for all that it may have been begun with.
pub record Loop {S : Type 0} (visit : Message → S → Result S) (im ws₀ : List ℕ) (q : Reading) (count : ℕ) (found₀ : S) (t₀ : Tally) (k₀ : Cursor)
    (ws : List ℕ) (n : ℕ) (found : S) (t : Tally) (k : Cursor) : Type 0 where
  pub going : (fuel : ℕ) (waiting sofar : List Message) → blocks_most < count + fuel → Lent ws₀ count q.bounds.room → Sought im ws₀ count k₀ waiting →
      Tallied im sofar t₀ →
      Following visit im q.bounds.end_of_file q.bounds.room (continuations visit fuel waiting (gathered sofar found₀)) count ws₀ k t found n ws

-- what is known in the loop, by what it was begun with
module _ {S : Type 0} {visit : Message → S → Result S} {im ws₀ : List ℕ} {q : Reading} {count : ℕ} {found₀ : S} {t₀ : Tally} {k₀ : Cursor} {ws : List ℕ} {n : ℕ}
    {found : S} {t : Tally} {k : Cursor} (r : Loop visit im ws₀ q count found₀ t₀ k₀ ws n found t k) (p : Lending im ws₀ q count)
    {waiting sofar : List Message} (o : Sought im ws₀ count k₀ waiting) (y : Tallied im sofar t₀) where
  pub loop-now : Following visit im q.bounds.end_of_file q.bounds.room
      (continuations visit (blocks_most + 1) waiting (gathered sofar found₀)) count ws₀ k t found
      n ws
  loop-now = r.going (blocks_most + 1) waiting sofar (omega arith) p.lent o y

  pub loop-inside : k.at < k.end → (k.at + 8 + u16 im (k.at + 2) ≤ length im) × (16 ≤ u16 im (k.at + 2))
  loop-inside l = message-inside _ _ _ _ _ _ _ _ _ _ _ _ p.most loop-now l
