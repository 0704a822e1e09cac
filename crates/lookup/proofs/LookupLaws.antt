-- From where a path leads to the reply.
use Prim.Native.Nat.{ℕ}
use mathlib.Core.List.{List, []}
use mathlib.Core.Path.{◌≡◌, refl, ap, sym, ◌∙◌}
use lib.ListN.{replicate}
use Rattle.format.specs.Blocks.{room_of}
use Rattle.format.specs.declared.Refusal.{Refusal}
use Rattle.format.specs.Walk.{fault, Outcome, done, run, ◌>>◌}
use Rattle.format.specs.Superblock.{superblock_walk, opened, not_opened, open_image}
use Rattle.format.specs.Path.{components, bad_path, parse_path}
use Rattle.format.specs.Lookup as lookups
use Rattle.format.specs.Lookup.{Target, follow, locate_walk, lookup_run}
use Rattle.format.specs.Answers.{lookup_end, lookup}
use Rattle.superblock.specs.Superblock.{superblock_of}
use Rattle.superblock.specs.declared.Superblock.{Superblock}
use Rattle.path.specs.Form.{components_of}
use Rattle.component.specs.Component.{EndsAs}
use Rattle.follow.specs.Follow.{target_run}
use Rattle.last_object.specs.Last.{KindIs}
use Rattle.lookup.specs.Lookup.{reply_of, LocatedIs}
use Rattle.std.specs.Prelude.{Result, Ok, Err}
use Rattle.component.specs.declared.Target.TheVariants.{Object, Symbolic}
use Rattle.lookup.specs.declared.lookup.Located.{Located}
use Rattle.follow.proofs.FollowLaws.{after_target, follow-target}

-- A path followed with so much room, and the reply with any number of words lent that give this room.
module _ (im path : List ℕ) (room : ℕ) (s : Superblock) where
  abbrev target : Outcome Target
  target = target_run im (superblock_of s) room (components_of path) s.root

  abbrev last : ℕ → Outcome lookups.Located
  last a = run im s.end_of_file room (superblock_walk (superblock_of s) >> locate_walk a) []

  abbrev Replies : Result Located Refusal → Type 0
  Replies r = (lent : ℕ) → room_of lent ≡ room → LocatedIs im path lent s r

  -- the path was followed, and this is where it leads
  followed : (o : Outcome Target) → target ≡ o → follow im (superblock_of s) room locate_walk (done (record { kind = 4; address = 0 }) [])
      (components_of path) s.root ≡ after_target o last (done (record { kind = 4; address = 0 }) [])
  followed o e = follow-target im (superblock_of s) room locate_walk _ (components_of path) s.root ∙ ap
      (λ (t : Outcome Target). after_target t last (done (record { kind = 4; address = 0 }) [])) e

  ends : (r : Result Located Refusal) {o : Outcome lookups.Located} → follow im (superblock_of s) room locate_walk (done (record { kind = 4; address = 0 }) [])
      (components_of path) s.root ≡ o → ((lent : ℕ) → reply_of (replicate lent 0) r ≡ lookup_end lent o) → Replies r
  ends r e q lent fit = rw fit (q lent ∙ ap (lookup_end lent) (sym e))

  pub stopped-is : (x : Refusal) → EndsAs (Err x) target → Replies (Err x)
  stopped-is x h = ends (Err x) (followed _ h.1) (λ _. refl)

  pub symbolic-is : EndsAs (Ok Symbolic) target → Replies (Ok (record { kind = 4; address = 0 }))
  symbolic-is h = ends (Ok (record { kind = 4; address = 0 })) (followed _ h.1) (λ _. refl)

  module _ (a : ℕ) (h : EndsAs (Ok (Object a)) target) where
    pub last-stopped : (x : Refusal) → KindIs im s room a (Err x) → Replies (Err x)
    last-stopped x k = ends (Err x) (followed _ h.1 ∙ k.1) (λ _. refl)

    pub last-known : (n : ℕ) → KindIs im s room a (Ok n) → Replies (Ok (record { kind = n; address = a }))
    last-known n k = ends (Ok (record { kind = n; address = a })) (followed _ h.1 ∙ k.1) (λ _. refl)

module _ (im path : List ℕ) (lent : ℕ) where
  pub bad-path-is : parse_path path ≡ bad_path → reply_of (replicate lent 0) (Err (fault 14 0)) ≡ lookup im path lent
  unfolding lookup lookup_run
  bad-path-is e = rw e refl

  module _ (p : parse_path path ≡ components (components_of path)) where
    pub not-opened-is : (x : ℕ) → not_opened x ≡ open_image im → reply_of (replicate lent 0) (Err (fault x 0)) ≡ lookup im path lent
    unfolding lookup lookup_run
    not-opened-is x o = rw (p, ← o) refl

    pub opened-is : (s : Superblock) (r : Result Located Refusal) → opened (superblock_of s) ≡ open_image im → LocatedIs im path lent s r →
        reply_of (replicate lent 0) r ≡ lookup im path lent
    unfolding lookup lookup_run
    opened-is s r o h = rw (p, ← o) h
