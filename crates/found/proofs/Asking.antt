-- A path that is followed: it is parsed and the image is opened, or nothing is walked.
use Prim.Native.Nat.{ℕ, ◌≤◌}
use mathlib.Core.List.{List, []}
use mathlib.Core.Logic.{◌⊎◌, inl, inr}
use mathlib.Core.Path.{◌≡◌, refl}
use Rattle.format.specs.Blocks.{room_of}
use Rattle.format.specs.Walk.{Walk, fault, Outcome, refused}
use Rattle.format.specs.Superblock.{Superblock, Opening, opened, not_opened, open_image}
use Rattle.format.specs.Path.{Parsed, components, bad_path, parse_path}
use Rattle.format.specs.Lookup.{follow, follow_path}
use Rattle.links.proofs.AuditAnswers.{not-opened-number}
use Rattle.found.specs.Found.{Asked}

module _ (im path : List ℕ) (lent : ℕ) {A : Type 0} (last : ℕ → Walk A) (x : Outcome A) where
  -- the path is followed from the root
  pub asked-follow : (ps : List (List ℕ)) (s : Superblock) → Asked im path ps s →
      follow_path im (parse_path path) lent last x ≡ follow im s (room_of lent) last x ps s.root
  asked-follow ps s a = rw (a.parsed, a.walkable)

  abbrev pub Walks : Type 0
  Walks =
      (ps : List (List ℕ)) × (s : Superblock) × Asked im path ps
      s × (follow_path im (parse_path path) lent last x ≡ follow im s (room_of lent) last x ps s.root)

  -- 14, or the answer to an image that can't be opened
  abbrev pub Rests : Type 0
  Rests = (n : ℕ) × ((n ≡ 14) ⊎ ((n ≤ 4) × (open_image im ≡ not_opened n))) × (follow_path im (parse_path path) lent last x ≡ refused (fault n 0) [])

  pub asked-or-not : Walks ⊎ Rests
  asked-or-not = go (parse_path path) (open_image im) refl refl
    where
      go : (p : Parsed) (o : Opening) → parse_path path ≡ p → open_image im ≡ o → Walks ⊎ Rests
      go (components ps) (opened s) e f = let a : Asked im path ps s = record { parsed = e; walkable = f } in inl (ps, s, a, asked-follow ps s a)
      go (components ps) (not_opened n) e f = inr (n, inr ((not-opened-number im n f).1, f), rw (e, f))
      go bad_path o e f = inr (14, inl refl, rw e)
