-- On an image that the audit accepts, a header, a lookup in a group and a description of an object of the ledger are shown only what the audit was shown,
-- each block as one of the same kind, whatever the room.
use Prim.Native.Nat.{ℕ}
use mathlib.Core.Bool.{Bool, true}
use mathlib.Core.List.{List, []}
use mathlib.Core.Path.{◌≡◌}
use Rattle.format.specs.Blocks.{Block, room_of}
use Rattle.format.specs.Walk.{Walk, ◌>>◌, done, run}
use Rattle.format.specs.Superblock.{Superblock, opened, open_image, superblock_walk}
use Rattle.format.specs.Header.{header_walk}
use Rattle.format.specs.Ledger.{Linked, in_ledger}
use Rattle.format.specs.Audit.{audit_walk, audit_run}
use Rattle.format.specs.Lookup.{component_walk}
use Rattle.format.specs.Describe.{describe_walk}
use Rattle.laws.specs.Shown.{shown_by}
use Rattle.links.specs.Reached.{Reference, references_at}
use Rattle.links.proofs.AuditSound.{audit-opened}
use Rattle.found.specs.Covered.{AllCovered, audit_shown}
use Rattle.found.proofs.Whole.{whole}
use Rattle.found.proofs.WholeShown.{begun_more, shown-begun, done-shown, begun-covered}
use Rattle.found.proofs.ReadWhole.{Sub, ReadWhole}
use Rattle.found.proofs.AuditReads.{audit-reads}
use Rattle.found.proofs.ObjectAgain.{header-among, component-among, describe-among}

-- the run of an audit that is done
pub audit-walked : (im : List ℕ) (lent : ℕ) (s : Superblock) (os : List Linked) (bs : List Block) → open_image im ≡ opened s → audit_run im lent ≡ done os bs →
    run im s.end_of_file (room_of lent) (audit_walk s) [] ≡ done os bs
audit-walked im lent s os bs p e =
    let o = audit-opened im lent os bs e in
    let same : o.0 ≡ s = cc o.1 in
    rw same at o.2

module _ (im : List ℕ) (s : Superblock) (audited : ℕ) (os : List Linked) (bs : List Block)
    (e : run im s.end_of_file audited (audit_walk s) [] ≡ done os bs) where
  -- what is shown of a walk that is all among the audit's
  pub among-covered : {A : Type 0} (w : Walk A) → Sub (whole im s.end_of_file w) (whole im s.end_of_file (audit_walk s)) → (room : ℕ) (cs : List Block) →
      AllCovered im (shown_by im s.end_of_file room w cs) (whole im s.end_of_file (audit_walk s))
  among-covered w h room cs x m =
      begun-covered im s.end_of_file (audit_walk s) audited [] os bs e x
      (begun_more im (whole im s.end_of_file w) (whole im s.end_of_file (audit_walk s)) h x (shown-begun im s.end_of_file w room cs x m))

module _ (im : List ℕ) (lent : ℕ) (s : Superblock) (os : List Linked) (bs : List Block) (p : open_image im ≡ opened s)
    (e : audit_run im lent ≡ done os bs) where
  walked : run im s.end_of_file (room_of lent) (audit_walk s) [] ≡ done os bs
  walked = audit-walked im lent s os bs p e

  -- all that such a walk is shown, with any room, the audit was shown
  pub walk-replayed : {A : Type 0} (w : Walk A) → Sub (whole im s.end_of_file w) (whole im s.end_of_file (audit_walk s)) → (room : ℕ) →
      AllCovered im (shown_by im s.end_of_file room w []) (audit_shown im s lent)
  walk-replayed w h room =
      rw (done-shown im s.end_of_file (audit_walk s) (room_of lent) [] os bs walked) (among-covered im s (room_of lent) os bs walked w h room [])

  module _ (at : ℕ) (h : in_ledger at os ≡ true) where
    read : ReadWhole im s (room_of lent) (whole im s.end_of_file (audit_walk s)) at
    read = audit-reads im (room_of lent) s os bs walked at h

    pub header-replayed : (room : ℕ) → AllCovered im (shown_by im s.end_of_file room (superblock_walk s >> header_walk at) []) (audit_shown im s lent)
    header-replayed room =
        walk-replayed (superblock_walk s >> header_walk at) (header-among im s (room_of lent) (whole im s.end_of_file (audit_walk s)) at read) room

    pub component-replayed : (room : ℕ) (name : List ℕ) (is_last : Bool) →
        AllCovered im (shown_by im s.end_of_file room (component_walk s name is_last at) []) (audit_shown im s lent)
    component-replayed room name is_last =
        walk-replayed (component_walk s name is_last at) (component-among im s (room_of lent) (whole im s.end_of_file (audit_walk s)) at read name is_last) room

    pub description-replayed : (room : ℕ) → AllCovered im (shown_by im s.end_of_file room (superblock_walk s >> describe_walk at) []) (audit_shown im s lent)
    description-replayed room =
        walk-replayed (superblock_walk s >> describe_walk at) (describe-among im s (room_of lent) (whole im s.end_of_file (audit_walk s)) at read) room

    -- what reading this object by itself shows, which is the superblock and the blocks that the audit enters for it
    abbrev own : Walk (List Reference)
    own = superblock_walk s >> references_at s at

    alone : ReadWhole im s (room_of lent) (whole im s.end_of_file own) at
    alone = record { references = read.references; left = read.left; ran = read.ran; among = λ x m. m }

    own-covered : {A : Type 0} (w : Walk A) → Sub (whole im s.end_of_file w) (whole im s.end_of_file own) → (room : ℕ) →
        AllCovered im (shown_by im s.end_of_file room w []) (whole im s.end_of_file own)
    own-covered w i room x m =
        begun-covered im s.end_of_file own (room_of lent) [] read.references read.left read.ran x
        (begun_more im (whole im s.end_of_file w) (whole im s.end_of_file own) i x (shown-begun im s.end_of_file w room [] x m))

    -- the blocks that the audit enters for an object are all that a header, a lookup in it and its description are shown
    pub own-among : Sub (whole im s.end_of_file own) (whole im s.end_of_file (audit_walk s))
    own-among = read.among

    pub header-own : (room : ℕ) → AllCovered im (shown_by im s.end_of_file room (superblock_walk s >> header_walk at) []) (whole im s.end_of_file own)
    header-own room = own-covered (superblock_walk s >> header_walk at) (header-among im s (room_of lent) (whole im s.end_of_file own) at alone) room

    pub component-own : (room : ℕ) (name : List ℕ) (is_last : Bool) →
        AllCovered im (shown_by im s.end_of_file room (component_walk s name is_last at) []) (whole im s.end_of_file own)
    component-own room name is_last =
        own-covered (component_walk s name is_last at) (component-among im s (room_of lent) (whole im s.end_of_file own) at alone name is_last) room

    pub description-own : (room : ℕ) → AllCovered im (shown_by im s.end_of_file room (superblock_walk s >> describe_walk at) []) (whole im s.end_of_file own)
    description-own room = own-covered (superblock_walk s >> describe_walk at) (describe-among im s (room_of lent) (whole im s.end_of_file own) at alone) room
