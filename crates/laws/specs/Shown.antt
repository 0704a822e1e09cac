-- What a run is shown of an image: the blocks that it enters, of a header all but the count, and of a block that is refused its length.
use Rattle.std.specs.Prelude.{ℕ, List, [], ◌∷◌, ◌++◌, ◌≡◌}
use Rattle.format.specs.Bytes.{part}
use Rattle.format.specs.Blocks.{Block, block_of, entry_answer}
use Rattle.format.specs.Walk.{kind_number, Kind, Length, shown, length_in, Walk, ret, refuse, enter, if_entered}

-- n bytes at a, as a block of a kind; or the length of a block at a
pub data Shown : Type 0 where
  contents : Kind → ℕ → ℕ → Shown
  size : Kind → ℕ → Length → Shown

-- all that the run of a walk is shown, begun with the blocks bs
unfoldable pub shown_by : {A : Type 0} → List ℕ → ℕ → ℕ → Walk A → List Block → List Shown
shown_by im eof room (ret a) bs = []
shown_by im eof room (refuse r) bs = []
shown_by im eof room (enter v a l k) bs =
    let n = length_in im v a l in
    let r = shown_by im eof room (k (shown v (part im a n))) (bs ++ (block_of (kind_number v) a n ∷ [])) in
    if_entered (entry_answer eof room bs a n) (contents v a n ∷ r) (λ _. size v a l ∷ [])

-- two images show the same of one of these
abbrev pub Same : List ℕ → List ℕ → Shown → Type 0
Same im im' (contents v a n) = shown v (part im a n) ≡ shown v (part im' a n)
Same im im' (size v a l) = length_in im v a l ≡ length_in im' v a l

-- and of all
abbrev pub AllSame : List ℕ → List ℕ → List Shown → Type 0
AllSame im im' [] = Unit {0}
AllSame im im' (s ∷ ss) = Same im im' s × AllSame im im' ss
