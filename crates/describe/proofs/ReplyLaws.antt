-- From what was read to the reply.
use Prim.Native.Nat.{ℕ, ◌≤◌}
use mathlib.Core.Bool.{Bool, true, false}
use mathlib.Core.List.{List, []}
use mathlib.Core.Path.{◌≡◌, refl, ap, ◌∙◌}
use native.Mathlib.Omega.{arith}
use lib.ListN.{length, drop}
use Rattle.format.specs.Limits.{rank_most}
use Rattle.format.specs.Bytes.{to_words, padded}
use Rattle.format.specs.Blocks.{Block, room_of, block_list}
use Rattle.format.specs.declared.Refusal.{Refusal}
use Rattle.format.specs.Walk.{Walk, fault, Outcome, done, refused, run}
use Rattle.format.specs.Superblock as definitions
use Rattle.format.specs.Superblock.{opened, not_opened, open_image}
use Rattle.format.specs.Dataset as datasets
use Rattle.format.specs.Lookup.{Target, follow}
use Rattle.format.specs.Describe.{describe_walk, describe_run}
use Rattle.format.specs.Answers.{DescribeReply, describe_end, describe}
use Rattle.walk.specs.Lent.{blocks_of, places_of, handed}
use Rattle.walk.proofs.BlockList.{length-blocks_of}
use Rattle.walk.proofs.Handed.{handed-none}
use Rattle.laws.proofs.Simulation.{walked-done, walked-refused}
use Rattle.message.specs.declared.Body.{Body}
use Rattle.path.specs.Form.{SoundPath, components_of}
use Rattle.dataspace.specs.Dataspace.{space_of}
use Rattle.dataset.specs.Dataset.{body_of, dataset_of}
use Rattle.dataset.specs.declared.dataset.Dataset.{Dataset}
use Rattle.dataspace.proofs.DataspaceLaws.{length-to_words}
use Rattle.component.specs.Component.{EndsAs}
use Rattle.follow.specs.Follow.{target_run}
use Rattle.std.specs.Prelude.{Result, Ok, Err}
use Rattle.component.specs.declared.Target.TheVariants.{Object, Symbolic}
use Rattle.follow.proofs.FollowLaws.{follow-target}
use Rattle.dataset_at.specs.Reader.{dataset_at_walk, ReaderIs}
use Rattle.describe.specs.Fields.{TypeIs, LayoutIs}
use Rattle.describe.specs.Describe.{reply_of, blocks_described}
use Rattle.describe.specs.declared.fields.TypeFields.{TypeFields}
use Rattle.describe.specs.declared.fields.LayoutFields.{LayoutFields}
use Rattle.describe.specs.declared.Description.{Description}

-- the fields of the reply, each as its reader gave it
pub fields-are : (b : List ℕ) (d : Dataset) (count : ℕ) (sizes maxima : List ℕ) (t : TypeFields) (l : LayoutFields) → sizes ≡ padded rank_most
    (to_words d.dimensions.rank (drop 8 b)) →
    maxima ≡ padded rank_most (space_of b d.dimensions.rank d.dimensions.maxima_stored).maxima → TypeIs d.datatype t → LayoutIs d.layout l → (lent : ℕ)
    (bs : List Block) → length bs ≡ count →
    reply_of (block_list lent bs) (Ok (record {
      block_count = count;
      rank = d.dimensions.rank;
      sizes = sizes;
      maxima = maxima;
      class = t.class;
      version = t.version;
      bits = t.bits;
      size = t.size;
      shared = t.shared;
      layout_class = l.class;
      data_address = l.address;
      data_size = l.size;
    })) ≡
    describe_end lent (done (dataset_of b d) bs)
fields-are b d count sizes maxima t l p q u v lent bs e =
    rw (e, p, q, length-to_words d.dimensions.rank (drop 8 b), u.class, u.version, u.bits, u.size, u.shared, v.class, v.address, v.size)

-- what was returned and left in a working list is the reply of this run, with any number of words lent
abbrev pub Replies : List ℕ → Result Description Refusal → Outcome datasets.Dataset → Type 0
Replies ws r o = (lent : ℕ) → reply_of (handed lent (blocks_described r) ws) r ≡ describe_end lent o

-- a refusal has no blocks, whatever the working list holds
pub refused-is : (ws : List ℕ) (x : Refusal) (bs : List Block) → Replies ws (Err x) (refused x bs)
refused-is ws x bs lent = rw (handed-none lent ws)

-- the walk of a dataset, on a working list
module _ (im : List ℕ) (eof room : ℕ) (w : Walk datasets.Dataset) (ws ws₁ : List ℕ) (is : room ≡ places_of (length ws)) where
  -- it was refused
  pub object-stopped : (x : Refusal) → ReaderIs im eof room w [] ws ws₁ (Err x) → Replies ws₁ (Err x) (run im eof (places_of (length ws)) w [])
  object-stopped x h = let o = walked-refused ws ws₁ x _ h.walked in rw (← is, o.1) (refused-is ws₁ x o.0)

  -- it is done
  module _ (d : Dataset) (space : Body) (count : ℕ)
      (h : ReaderIs im eof room w [] ws ws₁ (Ok (record { dataset = d; space = space; count = count }))) (r : Description)
      (f : (lent : ℕ) (bs : List Block) → length bs ≡ count →
      reply_of (block_list lent bs) (Ok r) ≡ describe_end lent (done (dataset_of (body_of im space) d) bs)) where
    fields : (lent : ℕ) →
        reply_of (block_list lent (blocks_of count ws₁)) (Ok r) ≡ describe_end lent (done (dataset_of (body_of im space) d) (blocks_of count ws₁))
    fields lent = f lent (blocks_of count ws₁) (length-blocks_of count ws₁)

    counted : r.block_count ≡ count
    counted = ap (λ (y : DescribeReply). y.block_count) (fields 0) ∙ length-blocks_of count ws₁

    pub object-within : r.block_count ≤ places_of (length ws)
    object-within = omega (arith, counted, is, h.lent.counted)

    list-is : (lent : ℕ) → handed lent r.block_count ws₁ ≡ block_list lent (blocks_of count ws₁)
    list-is lent = rw (counted, h.lent.numbered) refl

    pub object-described : Replies ws₁ (Ok r) (run im eof (places_of (length ws)) w [])
    object-described lent = rw (← is, walked-done ws ws₁ _ count _ h.walked) (ap (λ (l : List ℕ). reply_of l (Ok r)) (list-is lent) ∙ fields lent)

-- where the path leads
module _ (im : List ℕ) (s : definitions.Superblock) (room : ℕ) (ps : List (List ℕ)) (ws : List ℕ) where
  abbrev target : Outcome Target
  target = target_run im s room ps s.root

  abbrev followed : Outcome datasets.Dataset
  followed = follow im s room describe_walk (refused (fault 20 0) []) ps s.root

  pub path-stopped : (x : Refusal) → EndsAs (Err x) target → Replies ws (Err x) followed
  path-stopped x o = rw (follow-target im s room describe_walk (refused (fault 20 0) []) ps s.root, o.1) (refused-is ws x o.0)

  pub path-symbolic : EndsAs (Ok Symbolic) target → Replies ws (Err (fault 20 0)) followed
  path-symbolic o = rw (follow-target im s room describe_walk (refused (fault 20 0) []) ps s.root, o.1) (refused-is ws (fault 20 0) [])

  pub path-object : (r : Result Description Refusal) (a room₁ : ℕ) → room₁ ≡ room → EndsAs (Ok (Object a)) target →
      Replies ws r (run im s.end_of_file room₁ (dataset_at_walk s a) []) → Replies ws r followed
  path-object r a room₁ same o f lent = rw (follow-target im s room describe_walk (refused (fault 20 0) []) ps s.root, o.1, ← same) (f lent)

-- whether the path has a right form, and the image can be opened
module _ (im path ws : List ℕ) (room : ℕ) {t : Bool} (sound : SoundPath path t) where
  -- the reply with any number of words lent that give this room
  abbrev pub Described : Result Description Refusal → Type 0
  Described r = (lent : ℕ) → room_of lent ≡ room → reply_of (handed lent (blocks_described r) ws) r ≡ describe im path lent

  pub bad-is : t ≡ false → Described (Err (fault 14 0))
  unfolding describe describe_run
  bad-is n lent fit = rw (sound.bad n) (refused-is ws (fault 14 0) [] lent)

  pub not-opened-is : t ≡ true → (x : ℕ) → not_opened x ≡ open_image im → Described (Err (fault x 0))
  unfolding describe describe_run
  not-opened-is y x e lent fit = rw (sound.sound y, ← e) (refused-is ws (fault x 0) [] lent)

  pub opened-is : (r : Result Description Refusal) → t ≡ true → (s : definitions.Superblock) → opened s ≡ open_image im →
      Replies ws r (follow im s room describe_walk (refused (fault 20 0) []) (components_of path) s.root) → Described r
  unfolding describe describe_run
  opened-is r y s e f lent fit = rw (sound.sound y, ← e, fit) (f lent)
