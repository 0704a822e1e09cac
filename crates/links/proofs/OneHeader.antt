-- "An object's walk begins with its header and enters no other": the walks of objects, and the blocks that they plan.
use Prim.Native.Nat.{ℕ, ◌+◌}
use mathlib.Core.Bool.{Bool, true, false}
use mathlib.Core.List.{List, ◌∷◌}
use mathlib.Core.Path.{◌≡◌, refl}
use lib.Dec.{leb, eqb}
use Rattle.std.specs.Prelude.{if◌then◌else◌}
use Rattle.format.specs.Bytes.{part, u32}
use Rattle.format.specs.Blocks.{Block, block_of, superblock_kind, header_kind}
use Rattle.format.specs.declared.Refusal.{Refusal}
use Rattle.format.specs.Result.{Result}
use Rattle.format.specs.Walk.{shown, Length, stored, length_in, Walk, enter, header_block, ◌>>=◌}
use Rattle.format.specs.Superblock.{Superblock}
use Rattle.format.specs.Message.{Message}
use Rattle.format.specs.Header.{Object, group, dataset, committed, header_contents, header_messages, header_with, pass_over, header_walk}
use Rattle.format.specs.Ledger.{discover}
use Rattle.format.specs.Sharing.{Found, discover_sharing, known}
use Rattle.format.specs.Object.{content_walk, object_walk}
use Rattle.laws.proofs.Plan.{fault, step, plan, blocks, EndsIn}
use Rattle.links.specs.Owners.{AllKinds}
use Rattle.links.proofs.KindsEntered.{Enters, enters-bind, enters-ret, enters-located, plan-kinds}
use Rattle.links.proofs.KindsHeader.{object-enters, contents-enter}
use Rattle.links.proofs.KindsGroup.{group-enters}
use Rattle.links.proofs.KindsDataset.{sharing-enters}

-- neither a superblock's kind nor a header's
abbrev pub Inner : ℕ → Type 0
Inner v = (eqb v superblock_kind ≡ false) × (eqb v header_kind ≡ false)

-- the length of a header's block
abbrev pub header_length : Length
header_length = stored 16 (λ p. u32 p 8)

-- the walk enters the header at this address first, and behind it only blocks of a kind of which K holds
pub record OneHeader (K : ℕ → Type 0) {A : Type 0} (at : ℕ) (w : Walk A) : Type 0 where
  pub behind : List ℕ → Walk A
  pub walk : w ≡ enter header_block at header_length behind
  pub inner : (b : List ℕ) → Enters K (behind b)

module _ (K : ℕ → Type 0) where
  pub one-header-bind : {A B : Type 0} (at : ℕ) (w : Walk A) (f : A → Walk B) → OneHeader K at w → ((a : A) → Enters K (f a)) → OneHeader K at (w >>= f)
  unfolding ◌>>=◌
  one-header-bind at w f h c = record {
    behind = λ b. h.behind b >>= f;
    walk = rw h.walk;
    inner = λ b. enters-bind K (h.behind b) f (h.inner b) c;
  }

  module _ (continuation : K 3) where
    module _ {S : Type 0} (visit : Message → S → Result S) (at : ℕ) (found : S) where
      messages-header : OneHeader K at (header_messages visit at found)
      unfolding header_messages
      messages-header = record { behind = header_contents visit at found; walk = refl; inner = λ b. contents-enter K visit continuation at found b }

      pub visits-header : OneHeader K at (header_with visit at found)
      unfolding header_with
      visits-header = one-header-bind at _ _ messages-header (λ g. enters-bind K _ _ (object-enters K at g.all) (λ o. enters-ret K _))

    -- a header that is read for its kind alone
    pub plain-header : (at : ℕ) → OneHeader K at (header_walk at)
    unfolding header_walk
    plain-header at = one-header-bind at _ _ (visits-header pass_over at tt) (λ h. enters-ret K _)

content-inner : (s : Superblock) (o : Object) (f : Found) → Enters Inner (content_walk s o f)
unfolding content_walk
content-inner s (group tree heap) f =
    enters-bind Inner _ _
    (group-enters Inner (refl, refl) (refl, refl) (refl, refl) (refl, refl) s.leaf_k s.internal_k tree heap discover f.objects)
    (λ os. enters-ret Inner _)
content-inner s (dataset space type layout) f = sharing-enters Inner (refl, refl) space type layout f
content-inner s committed f = enters-ret Inner f

-- one object of the audit
pub object-header : (s : Superblock) (i at : ℕ) (f : Found) → OneHeader Inner at (object_walk s i at f)
unfolding object_walk
object-header s i at f =
    one-header-bind Inner at _ _ (visits-header Inner (refl, refl) discover_sharing at f)
    (λ h. enters-bind Inner _ _ (enters-located Inner at (known i h.object h.found)) (λ g. content-inner s h.object g))

-- the header at this address, then others of a kind of which K holds
pub record HeaderFirst (K : ℕ → Type 0) (at : ℕ) (bs : List Block) : Type 0 where
  pub size : ℕ
  pub others : List Block
  pub header : bs ≡ block_of header_kind at size ∷ others
  pub inner : AllKinds K others

-- the blocks of one object
abbrev pub ObjectBlocks : ℕ → List Block → Type 0
ObjectBlocks at bs = HeaderFirst Inner at bs

pub planned-blocks : (K : ℕ → Type 0) {A : Type 0} (im : List ℕ) (eof at : ℕ) (w : Walk A) (a : A) → OneHeader K at w → EndsIn a (plan im eof w) →
    HeaderFirst K at (blocks (plan im eof w))
unfolding plan
planned-blocks K {A} im eof at w a h e = let e' = rw h.walk at e in rw h.walk (go (leb (at + size) eof) _ e')
  where
    size : ℕ
    size = length_in im header_block at header_length

    rest : Walk A
    rest = h.behind (shown header_block (part im at size))

    go : (t : Bool) (r : Refusal) → EndsIn a (if t then step (block_of header_kind at size) (plan im eof rest) else fault r) →
        HeaderFirst K at (blocks (if t then step (block_of header_kind at size) (plan im eof rest) else fault r))
    go true r q = record {
      size = size;
      others = blocks (plan im eof rest);
      header = refl;
      inner = plan-kinds K im eof rest (h.inner (shown header_block (part im at size)));
    }
    go false r q = absurd q
