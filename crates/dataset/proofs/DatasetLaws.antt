-- Laws of the dataset walk.
use Prim.Native.Nat.{ℕ, ◌+◌, ◌-◌, ◌*◌, ◌≤◌, ◌<◌}
use mathlib.Core.Bool.{Bool, true, false, not}
use mathlib.Core.List.{List}
use mathlib.Core.Path.{◌≡◌, refl, sym, ◌∙◌}
use native.Mathlib.Omega.{arith}
use borrow.Author.Tests.{eq-eqb, ne_eqb, le-leb, lt-leb}
use lib.Dec.{eqb}
use lib.ListN.{length, take, drop}
use Rattle.format.specs.Bytes.{part, to_words, undefined_address}
use Rattle.format.specs.Blocks.{entry_answer}
use Rattle.format.specs.Message.{Message}
use Rattle.format.specs.Dataspace.{Dataspace, read_dataspace, product}
use Rattle.format.specs.Datatype.{Datatype}
use Rattle.format.specs.Dataset.{head_at, read_type, has_data_block, data_walk, storage_walk, dataset_walk}
use Rattle.format.specs.declared.Refusal.{Refusal}
use Rattle.format.specs.Walk.{Walk, ret, located, data_block, ◌>>=◌, ◌>>◌, run}
use Rattle.walk.specs.Lent.{Lent, Walked, Ended, ended, stopped, blocks_of, entering, IsEntered, entry_end}
use Rattle.std.specs.Prelude.{Result, Ok, Err}
use Rattle.laws.proofs.Bind.{bind_assoc, ret-bind}
use Rattle.walk.proofs.Tests.{all-fails, all-passes, all-last}
use Rattle.laws.proofs.Simulation.{Simulation, start, same-walk, returned, callee-value, callee-refusal, callee-last, callee-stopped, callee-done, one_block}
use Rattle.message.specs.declared.Body.{Body}
use Rattle.message.specs.Message.{message_of}
use Rattle.dataset.specs.declared.dataset.Dataset.{Dataset}
use Rattle.dataset.specs.declared.dataset.Parts.{Parts}
use Rattle.datatype.specs.declared.Datatype.TheVariants.{Own}
use Rattle.datatype.specs.Datatype.{type_of}
use Rattle.layout.specs.declared.Layout.{Layout}
use Rattle.layout.specs.declared.Layout.TheVariants.{Compact, Contiguous}
use Rattle.layout.specs.Layout.{layout_of}
use Rattle.dataset.specs.Dataset.{body_of, dataset_of, data_fills, layout_walk, messages_read, storage_of}
use Rattle.dataset.specs.Dataset.{SpaceAndType, parts_walk, parts_of, parts_result}

-- a part of the image from a place to the end of a body is the body
pub body-part : (im : List ℕ) (a n : ℕ) → take (a + n - a) (drop a im) ≡ part im a n
body-part im a n = let e : a + n - a ≡ n = omega arith in rw e

-- an unshared datatype, a data size, and the sizes in the part b' of the image
pub own-fills : {b b' : List ℕ} (d : Dataset) {class version bits size stored : ℕ} {r : Bool} → b' ≡ b → d.datatype ≡ Own class version bits size →
    stored ≡ (layout_of d.layout).size → r ≡ eqb (product (to_words d.dimensions.rank (drop 8 b')) * size) stored → r ≡ data_fills (dataset_of b d)
own-fills d p e f h = rw (e, ← f, ← p) h

-- The data's block: contiguous data at a defined address, of a length above 0.
module _ (a s : ℕ) where
  compact-none : false ≡ has_data_block (layout_of (Compact a s))
  compact-none = all-fails _ refl

  undefined-none : a ≡ undefined_address → false ≡ has_data_block (layout_of (Contiguous a s))
  undefined-none h = all-passes _ refl (all-fails _ (rw (eq-eqb a undefined_address h)))

  module _ (h : a ≡ undefined_address → ⊥) where
    defined : not (eqb a undefined_address) ≡ true
    defined = rw (ne_eqb a undefined_address h)

    empty-none : s < 1 → false ≡ has_data_block (layout_of (Contiguous a s))
    empty-none k = all-passes _ refl (all-passes _ defined (all-fails _ (lt-leb 1 s k)))

    data-some : 1 ≤ s → true ≡ has_data_block (layout_of (Contiguous a s))
    data-some k = all-passes _ refl (all-passes _ defined (sym (le-leb 1 s k) ∙ all-last _))

-- What entering the data's block shows, by the layout.
module _ (im : List ℕ) (eof room n : ℕ) (ws : List ℕ) (lent : Lent ws n room) (l : Layout) where
  nothing-entered : false ≡ has_data_block (layout_of l) → Walked ws ws (ended tt n) (run im eof room (data_walk (layout_of l)) (blocks_of n ws))
  unfolding data_walk
  nothing-entered e = returned (same-walk (ret tt) (rw (← e)) (start im eof room (data_walk (layout_of l)) n ws lent))

  module _ {a s : ℕ} where
    pub compact-data : l ≡ Compact a s → Walked ws ws (ended tt n) (run im eof room (data_walk (layout_of l)) (blocks_of n ws))
    compact-data e = nothing-entered (rw e (compact-none a s))

    module _ (e : l ≡ Contiguous a s) where
      pub undefined-data : a ≡ undefined_address → Walked ws ws (ended tt n) (run im eof room (data_walk (layout_of l)) (blocks_of n ws))
      undefined-data h = nothing-entered (rw e (undefined-none a s h))

      module _ (h : a ≡ undefined_address → ⊥) where
        pub empty-data : s < 1 → Walked ws ws (ended tt n) (run im eof room (data_walk (layout_of l)) (blocks_of n ws))
        empty-data k = nothing-entered (rw e (empty-none a s h k))

        pub contiguous-data : 1 ≤ s → (ws₁ : List ℕ) (r : Result ℕ Refusal) →
            r ≡ entering (entry_answer eof room (blocks_of n ws) a s) 8 a s (blocks_of n ws) n →
            IsEntered (entry_answer eof room (blocks_of n ws) a s) ws n 8 a s ws₁ →
            Walked ws ws₁ (entry_end r) (run im eof room (data_walk (layout_of l)) (blocks_of n ws))
        unfolding data_walk
        contiguous-data k ws₁ r p q = rw (e, ← (data-some a s h k)) (one_block im eof room data_block a s n ws ws₁ r lent p q)

-- the storage walk is the layout's walk and then the data's
storage-split : (d : Dataspace) (t : Datatype) (layout : Message) → storage_walk d t layout ≡ (layout_walk d t layout >>= λ x. data_walk x.layout >> ret x)
unfolding storage_walk layout_walk
storage-split d t layout = simp (bind_assoc, ret-bind)

-- what follows dataspace and datatype follows the walk over both
pub parts-split : {A : Type 0} (space type : Message) (k : Dataspace → Datatype → Walk A) →
    (located (head_at space) (read_dataspace space.body) >>= λ d. located (head_at type) (read_type type) >>= λ t. k d t)
    ≡ (parts_walk space type >>= λ p. k p.space p.type)
unfolding parts_walk
parts-split space type k = simp (bind_assoc, ret-bind)

dataset-split : (space type layout : Message) → dataset_walk space type layout ≡ (parts_walk space type >>= λ p. storage_walk p.space p.type layout)
unfolding dataset_walk
dataset-split space type layout = parts-split space type (λ d t. storage_walk d t layout)

-- How the storage walk ends, by what was read of the layout and how the data's block was entered.
module _ (im : List ℕ) (eof room n : ℕ) (ws : List ℕ) (lent : Lent ws n room) (space : Body) (p : Parts) (layout : Body) where
  abbrev layouts : Walk Rattle.format.specs.Dataset.Dataset
  layouts = layout_walk (parts_of (body_of im space) p).space (type_of p.datatype) (message_of im 0x0008 layout)

  abbrev storage : Walk Rattle.format.specs.Dataset.Dataset
  storage = storage_of im space p layout

  begun : Simulation im eof room storage n ws (layouts >>= λ d. data_walk d.layout >> ret d) n ws
  begun =
      same-walk _ (storage-split (parts_of (body_of im space) p).space (type_of p.datatype) (message_of im 0x0008 layout))
      (start im eof room storage n ws lent)

  module _ {m : Result Dataset Refusal} (e : messages_read (body_of im space) m ≡ layouts) where
    pub messages-refused : {x : Refusal} → m ≡ Err x → Walked ws ws (stopped x) (run im eof room storage (blocks_of n ws))
    messages-refused {x} f = callee-refusal layouts (λ d. data_walk d.layout >> ret d) x (rw f at (sym e)) begun

    module _ {d : Dataset} (f : m ≡ Ok d) where
      abbrev value : Rattle.format.specs.Dataset.Dataset
      value = dataset_of (body_of im space) d

      messages-read : Simulation im eof room storage n ws (data_walk (layout_of d.layout) >> ret value) n ws
      messages-read = callee-value layouts (λ d. data_walk d.layout >> ret d) value (rw f at (sym e)) begun

      module _ (ws₁ : List ℕ) {r : Result ℕ Refusal}
          (h : Walked ws ws₁ (entry_end r) (run im eof room (data_walk (layout_of d.layout)) (blocks_of n ws))) where
        pub data-refused : {x : Refusal} → r ≡ Err x → Walked ws ws₁ (stopped x) (run im eof room storage (blocks_of n ws))
        data-refused g = callee-stopped ws₁ (data_walk (layout_of d.layout)) (λ _. ret value) messages-read (rw g at h)

        pub data-entered : {c : ℕ} → r ≡ Ok c → length ws₁ ≡ length ws → Walked ws ws₁ (ended value c) (run im eof room storage (blocks_of n ws))
        data-entered g q = returned (callee-done ws₁ (data_walk (layout_of d.layout)) (λ _. ret value) messages-read q (rw g at h))

-- How the dataset walk ends, by what was read of its parts and how its storage walk ended.
module _ (im : List ℕ) (eof room n : ℕ) (ws : List ℕ) (lent : Lent ws n room) (space type layout : Body) where
  abbrev both : Walk SpaceAndType
  both = parts_walk (message_of im 0x0001 space) (message_of im 0x0003 type)

  abbrev whole : Walk Rattle.format.specs.Dataset.Dataset
  whole = dataset_walk (message_of im 0x0001 space) (message_of im 0x0003 type) (message_of im 0x0008 layout)

  abbrev behind : SpaceAndType → Walk Rattle.format.specs.Dataset.Dataset
  behind v = storage_walk v.space v.type (message_of im 0x0008 layout)

  opened : Simulation im eof room whole n ws (both >>= behind) n ws
  opened =
      same-walk _ (dataset-split (message_of im 0x0001 space) (message_of im 0x0003 type) (message_of im 0x0008 layout))
      (start im eof room whole n ws lent)

  module _ {m : Result Parts Refusal} (e : parts_result (body_of im space) m ≡ both) where
    pub parts-refused : {x : Refusal} → m ≡ Err x → Walked ws ws (stopped x) (run im eof room whole (blocks_of n ws))
    parts-refused {x} f = callee-refusal both behind x (rw f at (sym e)) opened

    pub parts-read : {p : Parts} → m ≡ Ok p → (ws₁ : List ℕ) {r : Ended Rattle.format.specs.Dataset.Dataset} →
        Walked ws ws₁ r (run im eof room (storage_of im space p layout) (blocks_of n ws)) → Walked ws ws₁ r (run im eof room whole (blocks_of n ws))
    parts-read {p} f ws₁ h = callee-last ws₁ (callee-value both behind (parts_of (body_of im space) p) (rw f at (sym e)) opened) h
