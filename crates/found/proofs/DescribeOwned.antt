-- The list of a description has one header, so that the numbers behind the superblock are 0.
use Prim.Native.Nat.{ℕ, ◌≤◌}
use mathlib.Core.List.{List, [], ◌∷◌, ◌++◌, append-nil, flatten}
use mathlib.Core.Logic.{inl, inr}
use mathlib.Core.Path.{◌≡◌, refl, ap, ◌∙◌}
use native.Mathlib.Omega.{arith}
use borrow.Author.Tests.{eq-eqb}
use Rattle.format.specs.Bytes.{undefined_address}
use Rattle.format.specs.Blocks.{Block, block_of, superblock_kind, no_object, owner_after, block_words, room_of}
use Rattle.format.specs.Walk.{done}
use Rattle.format.specs.Superblock.{superblock_walk}
use Rattle.format.specs.Header.{Object, group, dataset, committed}
use Rattle.format.specs.Dataset.{Dataset}
use Rattle.format.specs.Describe.{dataset_of, describe_walk, describe_run}
use Rattle.laws.proofs.Plan.{plan, blocks}
use Rattle.laws.proofs.Restart.{run-done}
use Rattle.links.specs.Owners.{owned_by, AllKinds}
use Rattle.links.proofs.Outcomes.{bind_done}
use Rattle.links.proofs.KindsEntered.{Enters, enters-refuse}
use Rattle.links.proofs.KindsDataset.{dataset-enters}
use Rattle.links.proofs.OneHeader.{Inner, OneHeader, ObjectBlocks, one-header-bind, plain-header, planned-blocks}
use Rattle.links.proofs.OwnedLaws.{owner-inner, owned-superblock, owned-object}
use Rattle.links.proofs.AuditOwned.{superblock-entered}
use Rattle.found.specs.DescribeOwned.{zero_numbered, ContinuationOrData, DescribeOwned}
use Rattle.found.proofs.DescribeFound.{describe-found}

dataset-of-enters : (o : Object) → Enters ContinuationOrData (dataset_of o)
unfolding dataset_of
dataset-of-enters (group tree heap) = enters-refuse ContinuationOrData Dataset _
dataset-of-enters (dataset space type layout) = dataset-enters ContinuationOrData (inr refl) space type layout
dataset-of-enters committed = enters-refuse ContinuationOrData Dataset _

describe-header : (at : ℕ) → OneHeader ContinuationOrData at (describe_walk at)
unfolding describe_walk
describe-header at = one-header-bind ContinuationOrData at _ _ (plain-header ContinuationOrData (inl refl) at) dataset-of-enters

-- such a block is no header and no superblock
kind-inner : (v : ℕ) → ContinuationOrData v → Inner v
kind-inner v (inl e) = rw e (refl, refl)
kind-inner v (inr e) = rw e (refl, refl)

kinds-inner : (bs : List Block) → AllKinds ContinuationOrData bs → AllKinds Inner bs
kinds-inner [] h = tt
kinds-inner (b ∷ bs) h = (kind-inner b.kind h.0, kinds-inner bs h.1)

-- the words behind the header, and those of all blocks
inner-words : (bs : List Block) → AllKinds Inner bs → block_words 0 bs ≡ zero_numbered bs
unfolding block_words zero_numbered
inner-words [] h = refl
inner-words (b ∷ bs) h = rw (owner-inner 0 b.kind h.0, inner-words bs h.1)

object-words : (at : ℕ) (bs : List Block) → ObjectBlocks at bs → block_words no_object bs ≡ zero_numbered bs
unfolding block_words zero_numbered owner_after
object-words at bs b = rw (b.header, eq-eqb no_object no_object refl, inner-words b.others b.inner)

-- the superblock, then the blocks of one object
module _ (size at : ℕ) (bs : List Block) (b : ObjectBlocks at bs) where
  abbrev superblock : Block
  superblock = block_of superblock_kind 0 size

  abbrev Shape : ℕ → ℕ → List Block → Type 0
  Shape i a cs = ObjectBlocks a cs

  one : 1 ≤ no_object
  unfolding undefined_address
  one = omega arith

  one-first : owned_by no_object (superblock ∷ bs) ≡ superblock ∷ []
  unfolding flatten
  one-first =
      let first = owned-superblock Shape (λ i a cs h. h) size (at ∷ []) (bs ∷ []) (b, tt) one in
      rw (append-nil bs) at first

  one-rest : owned_by 0 (superblock ∷ bs) ≡ bs
  unfolding flatten
  one-rest =
      let rest = owned-object Shape (λ i a cs h. h) size (at ∷ []) (bs ∷ []) (b, tt) one 0 (omega arith) in
      rw (append-nil bs) at rest

  one-words : block_words no_object (superblock ∷ bs) ≡ 0 ∷ size ∷ superblock_kind ∷ no_object ∷ zero_numbered bs
  unfolding block_words owner_after
  one-words = rw (object-words at bs b)

pub describe-owned : (im path : List ℕ) (lent : ℕ) (d : Dataset) (bs : List Block) → describe_run im path lent ≡ done d bs →
    DescribeOwned im path lent d bs
describe-owned im path lent d bs e =
    let f = (describe-found im path lent d bs).0 e in
    let s = f.superblock in
    let eof = s.end_of_file in
    let w = describe_walk f.address in
    let own = blocks (plan im eof w) in
    let b = bind_done im eof (room_of lent) (superblock_walk s) (λ _. w) [] d bs f.read in
    let first = superblock-entered im eof (room_of lent) s b.0 b.1 b.2 in
    let ran = run-done im eof w (room_of lent) b.1 bs d b.3 in
    let h = planned-blocks ContinuationOrData im eof f.address w d (describe-header f.address) ran.ends in
    let own-blocks : ObjectBlocks f.address own =
    record { size = h.size; others = h.others; header = h.header; inner = kinds-inner h.others h.inner } in
    let all : bs ≡ block_of superblock_kind 0 s.size ∷ own = ran.all ∙ ap (λ (xs : List Block). xs ++ own) first in
    record {
      described = f;
      others = own;
      all = all;
      size = h.size;
      behind = h.others;
      header = h.header;
      kinds = h.inner;
      first = ap (owned_by no_object) all ∙ one-first s.size f.address own own-blocks;
      rest = ap (owned_by 0) all ∙ one-rest s.size f.address own own-blocks;
      words = ap (block_words no_object) all ∙ one-words s.size f.address own own-blocks;
    }
