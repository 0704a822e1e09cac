-- The loop over components against the definition.
use Prim.Native.Nat.{ℕ, ◌+◌, ◌-◌, ◌≤◌, ◌<◌}
use mathlib.Core.Bool.{Bool, true, false}
use mathlib.Core.List.{List, [], ◌∷◌}
use mathlib.Core.Path.{◌≡◌, refl, sym, ◌∙◌}
use native.Mathlib.Omega.{arith}
use borrow.Author.Tests.{le-leb, lt-leb, leb-true, leb-false, eq-eqb, ne_eqb}
use lib.ListN.{length, drop}
use lib.Dec.{leb, eqb}
use Rattle.std.specs.Prelude.{if◌then◌else◌}
use Rattle.format.specs.Bytes.{is_empty, part}
use Rattle.format.specs.declared.Refusal.{Refusal}
use Rattle.format.specs.Walk.{Walk, Outcome, done, refused, run, and_then, ◌>>◌}
use Rattle.format.specs.Superblock.{Superblock, superblock_walk}
use Rattle.format.specs.Path.{with_byte, path_parts}
use Rattle.format.specs.Lookup.{Target, object, symbolic, component_walk, from_target, follow}
use Rattle.walk.specs.Lent.{Lent}
use Rattle.walk.proofs.BlockList.{lent_none}
use Rattle.path.specs.Form.{EndsAt, components_of}
use Rattle.component.specs.Component.{EndsAs}
use Rattle.follow.specs.Follow.{target_run, rest_of}
use Rattle.std.specs.Prelude.{Ok, Err}
use Rattle.component.specs.declared.Target.TheVariants.{Object, Symbolic}

-- there is always a part, if only an empty one
parts-some : (bs : List ℕ) → is_empty (path_parts bs) ≡ false
unfolding path_parts
parts-some [] = refl
parts-some (c ∷ cs) = go (eqb c 0x2f) (path_parts cs)
  where
    byte : (ps : List (List ℕ)) → is_empty (with_byte c ps) ≡ false
    byte [] = refl
    byte (p ∷ ps) = refl

    go : (t : Bool) (ps : List (List ℕ)) → is_empty (if t then [] ∷ ps else with_byte c ps) ≡ false
    go true ps = refl
    go false ps = byte ps

-- a path that is longer than "/" has its components from its second byte on
pub rest-first : (path : List ℕ) → (length path ≡ 1 → ⊥) → 1 ≤ length path → components_of path ≡ rest_of path 1
unfolding rest_of
rest-first path n h = rw (ne_eqb (length path) 1 n, le-leb 1 (length path) h)

pub rest-root : (path : List ℕ) → length path ≡ 1 → components_of path ≡ []
rest-root path e = rw (eq-eqb (length path) 1 e)

pub rest_end : (path : List ℕ) (start : ℕ) → length path < start → rest_of path start ≡ []
unfolding rest_of
rest_end path start h = rw (lt-leb start (length path) h)

module _ (path : List ℕ) (start end : ℕ) (h : start ≤ length path) (e : EndsAt path start end) where
  -- a component, and those behind it
  pub rest-next : rest_of path start ≡ part path start (end - start) ∷ rest_of path (end + 1)
  unfolding rest_of
  rest-next = go (leb (end + 1) (length path)) refl
    where
      go : (t : Bool) → leb (end + 1) (length path) ≡ t → (if leb start (length path) then path_parts (drop start path) else []) ≡ part path start
          (end - start) ∷ (if leb (end + 1) (length path) then path_parts (drop (end + 1) path) else [])
      go true q = rw (q, le-leb start (length path) h) (e.more (omega (arith, leb-true (end + 1) (length path) q)))
      go false q = rw (q, le-leb start (length path) h) (e.last (omega (arith, leb-false (end + 1) (length path) q, e.inside)))

  -- whether it is the last
  pub rest-last : is_empty (rest_of path (end + 1)) ≡ eqb end (length path)
  unfolding rest_of
  rest-last = go (leb (end + 1) (length path)) refl
    where
      go : (t : Bool) → leb (end + 1) (length path) ≡ t → is_empty (if leb (end + 1) (length path) then path_parts (drop (end + 1) path) else []) ≡ eqb end
          (length path)
      go true q = rw q (parts-some (drop (end + 1) path) ∙ sym (ne_eqb end (length path) (λ z. omega (arith, leb-true (end + 1) (length path) q, z))))
      go false q = rw q (sym (eq-eqb end (length path) (omega (arith, leb-false (end + 1) (length path) q, e.inside))))

-- a list of the same length is lent anew as this one was
pub lent_same : {ws ws' : List ℕ} {room : ℕ} → Lent ws 0 room → length ws' ≡ length ws → Lent ws' 0 room
lent_same {ws} {ws'} l e =
    let none = lent_none ws' in record { counted = l.counted; lent = omega (arith, l.lent, e); numbered = none.numbered; indexed = none.indexed }

-- one component was looked up
module _ (im path : List ℕ) (s : Superblock) (room start end at : ℕ) (h : start ≤ length path) (e : EndsAt path start end) where
  abbrev found : Outcome Target
  found = run im s.end_of_file room (component_walk s (part path start (end - start)) (eqb end (length path)) at) []

  next : {o : Outcome Target} → found ≡ o → target_run im s room (rest_of path start) at ≡ and_then o
      (λ t bs. from_target t (λ a. target_run im s room (rest_of path (end + 1)) a) (done symbolic []))
  unfolding target_run
  next q = rw (rest-next path start end h e, rest-last path start end h e, q) refl

  pub object-next : (a : ℕ) → EndsAs (Ok (Object a)) found → target_run im s room (rest_of path start) at ≡ target_run im s room
      (rest_of path (end + 1)) a
  object-next a q = next q.1

  pub symbolic-next : EndsAs (Ok Symbolic) found → EndsAs (Ok Symbolic) (target_run im s room (rest_of path start) at)
  symbolic-next q = ([], next q.1)

  pub stopped-next : (r : Refusal) → EndsAs (Err r) found → EndsAs (Err r)
      (target_run im s room (rest_of path start) at)
  stopped-next r q = (q.0, next q.1)

-- no component is left
pub none_left : (im path : List ℕ) (s : Superblock) (room start at : ℕ) → length path < start → EndsAs (Ok (Object at))
    (target_run im s room (rest_of path start) at)
unfolding target_run
none_left im path s room start at h = ([], rw (rest_end path start h) refl)

pub root-alone : (im path : List ℕ) (s : Superblock) (room at : ℕ) → length path ≡ 1 → EndsAs (Ok (Object at))
    (target_run im s room (components_of path) at)
unfolding target_run
root-alone im path s room at h = ([], rw (rest-root path h) refl)

-- where the components lead, and then the last walk: what lookup and description come to
abbrev pub after_target : {A : Type 0} → Outcome Target → (ℕ → Outcome A) → Outcome A → Outcome A
after_target (done t bs) f x = from_target t f x
after_target (refused n bs) f x = refused n bs

pub follow-target : {A : Type 0} (im : List ℕ) (s : Superblock) (room : ℕ) (last : ℕ → Walk A) (x : Outcome A) (ps : List (List ℕ)) (at : ℕ) →
    follow im s room last x ps at ≡ after_target (target_run im s room ps at) (λ a. run im s.end_of_file room (superblock_walk s >> last a) []) x
unfolding follow target_run
follow-target im s room last x [] at = refl
follow-target {A} im s room last x (p ∷ ps) at = go (run im s.end_of_file room (component_walk s p (is_empty ps) at) [])
    (λ a. follow-target im s room last x ps a)
  where
    go : (o : Outcome Target) → ((a : ℕ) → follow im s room last x ps a ≡ after_target (target_run im s room ps a)
        (λ a. run im s.end_of_file room (superblock_walk s >> last a) []) x) →
        and_then o (λ t bs. from_target t (λ a. follow im s room last x ps a) x) ≡
        after_target (and_then o (λ t bs. from_target t (λ a. target_run im s room ps a) (done symbolic [])))
        (λ a. run im s.end_of_file room (superblock_walk s >> last a) []) x
    go (done (object a) bs) next = next a
    go (done symbolic bs) next = refl
    go (refused n bs) next = refl
