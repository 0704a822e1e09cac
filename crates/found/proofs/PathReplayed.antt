-- A lookup and a description depend on nothing but what they are shown. On an image that the audit accepts this is covered by what the audit was shown.
use Prim.Native.Nat.{ℕ}
use mathlib.Core.Bool.{true}
use mathlib.Core.List.Memᴰ
use mathlib.Core.List.{List, [], ◌∷◌, ◌++◌}
use mathlib.Core.Logic.{⊎_elim}
use mathlib.Core.Path.{◌≡◌, refl, ap, ◌∙◌}
use Rattle.format.specs.Bytes.{is_empty}
use Rattle.format.specs.Blocks.{Block, room_of}
use Rattle.format.specs.Walk.{Walk, ◌>>◌, Outcome, done, refused, run, and_then}
use Rattle.format.specs.Superblock.{Superblock, Opening, opened, not_opened, open_image, run_opened, superblock_walk}
use Rattle.format.specs.Ledger.{Linked, in_ledger}
use Rattle.format.specs.Audit.{audit_walk, audit_run}
use Rattle.format.specs.Path.{Parsed, components, bad_path, parse_path}
use Rattle.format.specs.Lookup.{Target, object, symbolic, component_walk, from_target, follow, follow_path, locate_walk, lookup_run}
use Rattle.format.specs.Describe.{describe_walk, describe_run}
use Rattle.laws.specs.Shown.{Shown, shown_by, AllSame}
use Rattle.laws.proofs.Agreement.{run_agree}
use Rattle.links.specs.Reached.{at_root}
use Rattle.links.specs.Sound.{Sound}
use Rattle.links.proofs.AuditSound.{audit-sound}
use Rattle.found.specs.Covered.{AllCovered, audit_shown}
use Rattle.found.specs.PathShown.{shown_from, follow_shown, shown_opened, path_shown, lookup_shown, describe_shown}
use Rattle.found.proofs.Whole.{whole}
use Rattle.found.proofs.ReadWhole.{Sub, ReadWhole}
use Rattle.found.proofs.AuditReads.{audit-reads}
use Rattle.found.proofs.ObjectAgain.{component-among, locate-among, describe-among}
use Rattle.found.proofs.ComponentFound.{component-found}
use Rattle.found.proofs.LedgerClosed.{link-closed}
use Rattle.found.proofs.Replayed.{audit-walked, walk-replayed}

-- two images show the same in both of two lists
same_first : (im im' : List ℕ) (ss ts : List Shown) → AllSame im im' (ss ++ ts) → AllSame im im' ss
same_first im im' [] ts h = tt
same_first im im' (s ∷ ss) ts h = (h.0, same_first im im' ss ts h.1)

same_second : (im im' : List ℕ) (ss ts : List Shown) → AllSame im im' (ss ++ ts) → AllSame im im' ts
same_second im im' [] ts h = h
same_second im im' (s ∷ ss) ts h = same_second im im' ss ts h.1

-- an image that opens the same and shows a lookup the same gives it the same outcome
module _ (im im' : List ℕ) {A : Type 0} (last : ℕ → Walk A) (x : Outcome A) where
  follow-agree : (s : Superblock) (room : ℕ) (ps : List (List ℕ)) (at : ℕ) → AllSame im im' (follow_shown im s room last ps at) →
      follow im s room last x ps at ≡ follow im' s room last x ps at
  unfolding follow follow_shown
  follow-agree s room [] at h = run_agree im im' s.end_of_file room (superblock_walk s >> last at) [] h
  follow-agree s room (p ∷ ps) at h =
      let w = component_walk s p (is_empty ps) at in
      let o = run im s.end_of_file room w [] in
      let ss = shown_by im s.end_of_file room w [] in
      go o (same_second im im' ss _ h) (follow-agree s room ps)
      ∙ ap (λ (q : Outcome Target). and_then q (λ t cs. from_target t (λ a. follow im' s room last x ps a) x))
      (run_agree im im' s.end_of_file room w [] (same_first im im' ss _ h))
    where
      go : (o : Outcome Target) → AllSame im im' (shown_from o (λ a. follow_shown im s room last ps a)) →
          ((a : ℕ) → AllSame im im' (follow_shown im s room last ps a) → follow im s room last x ps a ≡ follow im' s room last x ps a) →
          and_then o (λ t cs. from_target t (λ a. follow im s room last x ps a) x) ≡ and_then o (λ t cs. from_target t (λ a. follow im' s room last x ps a) x)
      go (done (object a) bs) k rest = rest a k
      go (done symbolic bs) k rest = refl
      go (refused r bs) k rest = refl

  path-agree : open_image im ≡ open_image im' → (lent : ℕ) (q : Parsed) → AllSame im im' (path_shown im q lent last) →
      follow_path im q lent last x ≡ follow_path im' q lent last x
  path-agree same lent (components ps) h = go (open_image im) h ∙ ap (λ (o : Opening). run_opened o (λ s. follow im' s (room_of lent) last x ps s.root)) same
    where
      go : (o : Opening) → AllSame im im' (shown_opened o (λ s. follow_shown im s (room_of lent) last ps s.root)) →
          run_opened o (λ s. follow im s (room_of lent) last x ps s.root) ≡ run_opened o (λ s. follow im' s (room_of lent) last x ps s.root)
      go (opened s) k = follow-agree s (room_of lent) ps s.root k
      go (not_opened n) k = refl
  path-agree same lent bad_path h = refl

pub lookup-agree : (im im' path : List ℕ) (lent : ℕ) → open_image im ≡ open_image im' → AllSame im im' (lookup_shown im path lent) →
    lookup_run im path lent ≡ lookup_run im' path lent
unfolding lookup_run
lookup-agree im im' path lent same h = path-agree im im' locate_walk _ same lent (parse_path path) h

pub describe-agree : (im im' path : List ℕ) (lent : ℕ) → open_image im ≡ open_image im' → AllSame im im' (describe_shown im path lent) →
    describe_run im path lent ≡ describe_run im' path lent
unfolding describe_run
describe-agree im im' path lent same h = path-agree im im' describe_walk _ same lent (parse_path path) h

covered_none : (im : List ℕ) (ts : List Shown) → AllCovered im [] ts
covered_none im ts x m = absurd (Memᴰ.not-nil m)

covered-append : (im : List ℕ) (ss us ts : List Shown) → AllCovered im ss ts → AllCovered im us ts → AllCovered im (ss ++ us) ts
covered-append im ss us ts f g x m = ⊎_elim (f x) (g x) (Memᴰ.append_cases ss m)

module _ (im : List ℕ) (lent : ℕ) (s : Superblock) (os : List Linked) (bs : List Block) (p : open_image im ≡ opened s)
    (e : audit_run im lent ≡ done os bs) where
  abbrev total : List Shown
  total = whole im s.end_of_file (audit_walk s)

  sound : Sound im s os
  sound = audit-sound im lent s os bs p e

  read : (at : ℕ) → in_ledger at os ≡ true → ReadWhole im s (room_of lent) total at
  read = audit-reads im (room_of lent) s os bs (audit-walked im lent s os bs p e)

  module _ {A : Type 0} (last : ℕ → Walk A)
      (lasts : (at : ℕ) → ReadWhole im s (room_of lent) total at → Sub (whole im s.end_of_file (superblock_walk s >> last at)) total) (room : ℕ) where
    follow-covered : (ps : List (List ℕ)) (at : ℕ) → in_ledger at os ≡ true → AllCovered im (follow_shown im s room last ps at) (audit_shown im s lent)
    unfolding follow_shown
    follow-covered [] at i = walk-replayed im lent s os bs p e (superblock_walk s >> last at) (lasts at (read at i)) room
    follow-covered (q ∷ ps) at i =
        let w = component_walk s q (is_empty ps) at in
        covered-append im (shown_by im s.end_of_file room w []) _ (audit_shown im s lent)
        (walk-replayed im lent s os bs p e w (component-among im s (room_of lent) total at (read at i) q (is_empty ps)) room)
        (go (run im s.end_of_file room w []) refl (follow-covered ps))
      where
        go : (o : Outcome Target) → run im s.end_of_file room (component_walk s q (is_empty ps) at) [] ≡ o →
            ((a : ℕ) → in_ledger a os ≡ true → AllCovered im (follow_shown im s room last ps a) (audit_shown im s lent)) →
            AllCovered im (shown_from o (λ a. follow_shown im s room last ps a)) (audit_shown im s lent)
        go (done (object a) cs) r later =
            let h = (component-found im s room q (is_empty ps) at a cs).0 r in
            let closed : in_ledger h.0.header os ≡ true = link-closed im s room os sound at q h.0 cs i h.1 h.2 in
            let there : h.0.header ≡ a = h.3 in
            later a (rw there at closed)
        go (done symbolic cs) r later = covered_none im (audit_shown im s lent)
        go (refused n cs) r later = covered_none im (audit_shown im s lent)

  path-covered : {A : Type 0} (last : ℕ → Walk A)
      (lasts : (at : ℕ) → ReadWhole im s (room_of lent) total at → Sub (whole im s.end_of_file (superblock_walk s >> last at)) total)
      (words : ℕ) (q : Parsed) → AllCovered im (path_shown im q words last) (audit_shown im s lent)
  path-covered last lasts words (components ps) = rw p (follow-covered last lasts (room_of words) ps s.root (sound.found s.root at_root))
  path-covered last lasts words bad_path = covered_none im (audit_shown im s lent)

  pub lookup-replayed : (path : List ℕ) (words : ℕ) → AllCovered im (lookup_shown im path words) (audit_shown im s lent)
  lookup-replayed path words = path-covered locate_walk (λ at r. locate-among im s (room_of lent) total at r) words (parse_path path)

  pub describe-replayed : (path : List ℕ) (words : ℕ) → AllCovered im (describe_shown im path words) (audit_shown im s lent)
  describe-replayed path words = path-covered describe_walk (λ at r. describe-among im s (room_of lent) total at r) words (parse_path path)
