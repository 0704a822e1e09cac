-- The steps of the code that reads the dataset at an address against the steps of its walk.
use Prim.Native.Nat.{ℕ}
use mathlib.Core.List.{List, []}
use mathlib.Core.Path.{◌≡◌, refl}
use lib.ListN.{length}
use Rattle.format.specs.Blocks.{Block}
use Rattle.format.specs.declared.Refusal.{Refusal}
use Rattle.format.specs.Walk.{Walk, ret, refuse, fault, ◌>>=◌, run}
use Rattle.format.specs.Superblock as definitions
use Rattle.format.specs.Superblock.{superblock_walk}
use Rattle.format.specs.Message.{Message}
use Rattle.format.specs.Header.{Object, group, dataset, committed, header_walk}
use Rattle.format.specs.Dataset as datasets
use Rattle.format.specs.Dataset.{dataset_walk}
use Rattle.format.specs.Describe as describes
use Rattle.format.specs.Describe.{describe_walk}
use Rattle.walk.specs.Lent.{blocks_of, Lent, ended, stopped, Walked}
use Rattle.laws.proofs.Simulation.{Simulation, start, same-walk, refusal, callee-done, callee-stopped, callee-last}
use Rattle.message.specs.declared.Body.{Body}
use Rattle.dataset.specs.Dataset.{Inside, body_of, dataset_of, Shaped}
use Rattle.dataset.specs.declared.dataset.Dataset.{Dataset}
use Rattle.dataset_at.specs.Reader.{dataset_at_walk, ReaderIs}
use Rattle.dataset_at.specs.declared.DatasetAt.{DatasetAt}
use Rattle.std.specs.Prelude.{Result, Ok, Err}

module _ (im : List ℕ) (eof room : ℕ) (ws ws₁ : List ℕ) where
  -- the walk was refused
  pub reader-stopped : {w : Walk datasets.Dataset} {bs : List Block} (x : Refusal) → Walked ws ws₁ (stopped x) (run im eof room w bs) → ReaderIs im eof
      room w bs ws ws₁ (Err x)
  reader-stopped x h = record { walked = h; lent = tt; readable = tt }

  -- what is left of a walk was walked
  reader-last : {w₀ w : Walk datasets.Dataset} {n₀ n : ℕ} {ws₀ : List ℕ} {r : Result DatasetAt Refusal} → Simulation im eof room w₀ n₀ ws₀ w n ws →
      ReaderIs im eof room w (blocks_of n ws) ws ws₁ r → ReaderIs im eof room w₀ (blocks_of n₀ ws₀) ws₀ ws₁ r
  reader-last s h = record { walked = callee-last ws₁ s h.walked; lent = h.lent; readable = h.readable }

module _ (im : List ℕ) (eof room : ℕ) (ws : List ℕ) (count : ℕ) (l : Lent ws count room) (ws₁ : List ℕ) where
  -- the messages of a dataset were read
  pub messages-read : (w : Walk datasets.Dataset) (space : Body) (d : Dataset) (n : ℕ) → length ws₁ ≡ length ws → Inside im space →
      Shaped (body_of im space) d →
      Walked ws ws₁ (ended (dataset_of (body_of im space) d) n) (run im eof room w (blocks_of count ws)) → ReaderIs im eof room w (blocks_of count ws) ws ws₁
      (Ok (record { dataset = d; space = space; count = n }))
  messages-read w space d n same i s h =
      let m = callee-done ws₁ w (λ a. ret a) (start im eof room (w >>= λ a. ret a) count ws l) same h in
      record { walked = h; lent = m.lent; readable = record { inside = i; shaped = s } }

  module _ (at : ℕ) where
    pub header-stopped : (x : Refusal) → Walked ws ws₁ (stopped x) (run im eof room (header_walk at) (blocks_of count ws)) → ReaderIs im eof room
        (describe_walk at) (blocks_of count ws) ws ws₁ (Err x)
    unfolding describe_walk
    header-stopped x h = reader-stopped im eof room ws ws₁ x (callee-stopped ws₁ (header_walk at) _ (start im eof room (describe_walk at) count ws l) h)

    module _ (o : Object) (n : ℕ) (same : length ws₁ ≡ length ws) (h : Walked ws ws₁ (ended o n) (run im eof room (header_walk at) (blocks_of count ws))) where
      pub at-kind : Simulation im eof room (describe_walk at) count ws (describes.dataset_of o) n ws₁
      unfolding describe_walk
      at-kind = callee-done ws₁ (header_walk at) _ (start im eof room (describe_walk at) count ws l) same h

      not-a-dataset : describes.dataset_of o ≡ refuse (fault 20 0) → ReaderIs im eof room (describe_walk at) (blocks_of count ws) ws ws₁ (Err (fault 20 0))
      not-a-dataset e = reader-stopped im eof room ws ws₁ (fault 20 0) (refusal (same-walk (refuse (fault 20 0)) e at-kind))

    module _ (n : ℕ) (same : length ws₁ ≡ length ws) where
      pub committed-found : Walked ws ws₁ (ended committed n) (run im eof room (header_walk at) (blocks_of count ws)) → ReaderIs im eof room
          (describe_walk at) (blocks_of count ws) ws ws₁ (Err (fault 20 0))
      unfolding describes.dataset_of
      committed-found h = not-a-dataset committed n same h refl

      pub group-found : (tree heap : ℕ) → Walked ws ws₁ (ended (group tree heap) n) (run im eof room (header_walk at) (blocks_of count ws)) →
          ReaderIs im eof room (describe_walk at) (blocks_of count ws) ws ws₁ (Err (fault 20 0))
      unfolding describes.dataset_of
      group-found tree heap h = not-a-dataset (group tree heap) n same h refl

      pub dataset-found : (space type layout : Message) (ws₂ : List ℕ) (r : Result DatasetAt Refusal) → Walked ws ws₁ (ended (dataset space type layout) n)
          (run im eof room (header_walk at) (blocks_of count ws)) →
          ReaderIs im eof room (dataset_walk space type layout) (blocks_of n ws₁) ws₁ ws₂ r →
          ReaderIs im eof room (describe_walk at) (blocks_of count ws) ws ws₂ r
      unfolding describes.dataset_of
      dataset-found space type layout ws₂ r h m = reader-last im eof room ws₁ ws₂ (at-kind (dataset space type layout) n same h) m

module _ (im : List ℕ) (eof room : ℕ) (ws : List ℕ) (l : Lent ws 0 room) (ws₁ : List ℕ) (s : definitions.Superblock) (at : ℕ) where
  pub superblock-stopped : (x : Refusal) → Walked ws ws₁ (stopped x) (run im eof room (superblock_walk s) []) → ReaderIs im eof room (dataset_at_walk s at) []
      ws ws₁ (Err x)
  unfolding blocks_of
  superblock-stopped x h = reader-stopped im eof room ws ws₁ x (callee-stopped ws₁ (superblock_walk s) _ (start im eof room (dataset_at_walk s at) 0 ws l) h)

  module _ (n : ℕ) (same : length ws₁ ≡ length ws) (h : Walked ws ws₁ (ended tt n) (run im eof room (superblock_walk s) [])) where
    pub at-header : Simulation im eof room (dataset_at_walk s at) 0 ws (describe_walk at) n ws₁
    unfolding blocks_of
    at-header = callee-done ws₁ (superblock_walk s) _ (start im eof room (dataset_at_walk s at) 0 ws l) same h

    pub object-read : (ws₂ : List ℕ) (r : Result DatasetAt Refusal) → ReaderIs im eof room (describe_walk at) (blocks_of n ws₁) ws₁ ws₂ r →
        ReaderIs im eof room (dataset_at_walk s at) [] ws ws₂ r
    unfolding blocks_of
    object-read ws₂ r m = reader-last im eof room ws₁ ws₂ at-header m
