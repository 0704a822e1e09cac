-- A header that the audit accepts is sound for a lookup. On an image that the audit accepts, a lookup answers 0, 13, 14, 15, 16 or 17, and a description
-- one of these or 20: no path meets a fault.
use Prim.Native.Nat.{ℕ, ◌≤◌}
use mathlib.Core.Bool.{true}
use mathlib.Core.List.Memᴰ
use mathlib.Core.List.{List, []}
use mathlib.Core.Logic.{◌⊎◌, inl, ⊎_elim}
use mathlib.Core.Path.{◌≡◌, refl, ap, sym, ◌∙◌}
use native.Mathlib.Omega.{arith}
use Rattle.format.specs.Bytes.{is_empty}
use Rattle.format.specs.Blocks.{Block, room_of}
use Rattle.format.specs.Walk.{Walk, ◌>>◌, Outcome, done, run}
use Rattle.format.specs.Superblock.{Superblock, opened, open_image, superblock_walk}
use Rattle.format.specs.Message.{Message}
use Rattle.format.specs.Header.{Gathered, header_messages, Headed, header_with, pass_over, header_walk}
use Rattle.format.specs.Ledger.{Linked, in_ledger}
use Rattle.format.specs.Sharing.{Found, discover_sharing}
use Rattle.format.specs.Audit.{audit_walk, audit_run}
use Rattle.format.specs.Path.{parse_path}
use Rattle.format.specs.Lookup.{follow, follow_path, locate_walk, lookup_run}
use Rattle.format.specs.Describe.{describe_walk, describe_run}
use Rattle.format.specs.Answers.{lookup, describe}
use Rattle.laws.specs.Shown.{Shown}
use Rattle.laws.proofs.HeaderVisits.{messages-plain}
use Rattle.links.specs.Reached.{at_root}
use Rattle.links.specs.Sound.{Sound}
use Rattle.links.proofs.ObjectReferences.{followed, header-accepted}
use Rattle.links.proofs.AuditSound.{audit-sound}
use Rattle.found.specs.Accepted.{OneOf, accepted_lookup_numbers, accepted_describe_numbers}
use Rattle.found.proofs.Whole.{whole}
use Rattle.found.proofs.Following.{follow-cases}
use Rattle.found.proofs.Asking.{asked-or-not}
use Rattle.found.proofs.ReadWhole.{ReadWhole}
use Rattle.found.proofs.AuditReads.{audit-reads}
use Rattle.found.proofs.LedgerClosed.{leads-closed}
use Rattle.found.proofs.Replayed.{audit-walked}
use Rattle.links.proofs.Numbered.{Only}
use Rattle.links.proofs.ReplyNumbers.{lookup-reply-number, describe-reply-number, only-number}
use Rattle.found.proofs.ObjectAccepted.{locate-only, component-only, describe-only}

-- a header that the audit accepts is accepted by a lookup, with the same blocks and the same object
pub accepted-header : (im : List ℕ) (eof room at : ℕ) (f : Found) (bs : List Block) (h : Headed Found) (ms : List Block) →
    run im eof room (header_with discover_sharing at f) bs ≡ done h ms → run im eof room (header_walk at) bs ≡ done h.object ms
accepted-header im eof room at f bs h ms e = header-accepted im eof room discover_sharing at f bs h ms e

-- and the same messages
pub accepted-messages : (im : List ℕ) (eof room at : ℕ) (f : Found) (bs : List Block) (g : Gathered Found) (ms : List Block) →
    run im eof room (header_messages discover_sharing at f) bs ≡ done g ms →
    run im eof room (header_messages pass_over at tt) bs ≡ done (record { all = g.all; found = tt }) ms
accepted-messages im eof room at f bs g ms e =
    let p = followed im eof room _ (header_messages discover_sharing at f) (header_messages pass_over at tt) bs g ms (messages-plain discover_sharing at f) e in
    p.1 ∙ ap (λ (all : List Message). done (record { all = all; found = tt }) ms) (sym p.2)

-- an audit that is done with the room `enough`
module _ (im : List ℕ) (s : Superblock) (os : List Linked) (p : open_image im ≡ opened s) (sound : Sound im s os) (enough : ℕ) (bs : List Block)
    (e : run im s.end_of_file enough (audit_walk s) [] ≡ done os bs) where
  abbrev pub total : List Shown
  total = whole im s.end_of_file (audit_walk s)

  read : (at : ℕ) → in_ledger at os ≡ true → ReadWhole im s enough total at
  read = audit-reads im enough s os bs e

  -- 13 is asked of N unless there is so much room
  module _ (N : ℕ → Type 0) (words : ℕ) (full : N 13 ⊎ (enough ≤ room_of words)) (bad : N 14) (absence : N 15) (early : N 16) (inner : N 17) where
    module _ {A : Type 0} (last : ℕ → Walk A) (x : Outcome A)
        (lasts : (at : ℕ) → ReadWhole im s enough total at → Only N (run im s.end_of_file (room_of words) (superblock_walk s >> last at) []))
        (final : Only N x) where
      follow-only : (ps : List (List ℕ)) → Only N (follow im s (room_of words) last x ps s.root)
      follow-only ps =
          let room = room_of words in
          let root = sound.found s.root at_root in
          ⊎_elim (λ h. rw h.2 (lasts h.0 (read h.0 (leads-closed im s room os sound h.1 root))))
          (⊎_elim (λ h. rw h.1 final)
          (λ h.
          let t = h.2 in
          let c = component-only N im s enough total t.reached
          (read t.reached (leads-closed im s room os sound t.leads root)) room full inner absence early t.next (is_empty t.after) in
          rw h.3 (rw t.stops at c)))
          (follow-cases im s room last x ps s.root)

      path-only : (path : List ℕ) → Only N (follow_path im (parse_path path) words last x)
      path-only path =
          ⊎_elim
          (λ w.
          let same : w.1 ≡ s = cc w.2.walkable in
          rw (w.3, same) (follow-only w.0))
          (λ h. rw h.2 (⊎_elim (λ q. rw q bad) (λ q. let z : ◌≡◌ {A = ℕ} 0 1 = cc q.1 in absurd (omega arith)) h.1))
          (asked-or-not im path words last x)

    pub accepted-lookup-run : (path : List ℕ) → Only N (lookup_run im path words)
    unfolding lookup_run
    accepted-lookup-run = path-only locate_walk _ (λ at r. locate-only N im s enough total at r (room_of words) full) tt

    -- 20: no dataset
    pub accepted-describe-run : N 20 → (path : List ℕ) → Only N (describe_run im path words)
    unfolding describe_run
    accepted-describe-run other = path-only describe_walk _ (λ at r. describe-only N im s enough total at r (room_of words) full other) other

-- a number stands in a list
ruleset members = (refl, Memᴰ.head, Memᴰ.tail)

module _ (im : List ℕ) (lent : ℕ) (s : Superblock) (os : List Linked) (bs : List Block) (p : open_image im ≡ opened s)
    (e : audit_run im lent ≡ done os bs) where
  sound : Sound im s os
  sound = audit-sound im lent s os bs p e

  walked : run im s.end_of_file (room_of lent) (audit_walk s) [] ≡ done os bs
  walked = audit-walked im lent s os bs p e

  pub accepted-lookup : (path : List ℕ) (words : ℕ) → OneOf accepted_lookup_numbers (lookup im path words).number
  accepted-lookup path words =
      rw (lookup-reply-number im path words)
      (only-number (OneOf accepted_lookup_numbers) (search members) (lookup_run im path words)
      (accepted-lookup-run im s os p sound (room_of lent) bs walked (OneOf accepted_lookup_numbers) words (inl (search members depth 10))
      (search members depth 10) (search members depth 10) (search members depth 10) (search members depth 10) path))

  pub accepted-describe : (path : List ℕ) (words : ℕ) → OneOf accepted_describe_numbers (describe im path words).number
  accepted-describe path words =
      rw (describe-reply-number im path words)
      (only-number (OneOf accepted_describe_numbers) (search members) (describe_run im path words)
      (accepted-describe-run im s os p sound (room_of lent) bs walked (OneOf accepted_describe_numbers) words (inl (search members depth 10))
      (search members depth 10) (search members depth 10) (search members depth 10) (search members depth 10) (search members depth 10) path))
