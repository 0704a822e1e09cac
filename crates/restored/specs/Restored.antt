-- What a mend that is taken back returns and leaves beside the old image.
use Rattle.std.specs.Prelude.{ℕ, List, [], ◌∷◌, ◌≡◌}
use Rattle.format.specs.Front.{CMend, padded_bytes}
use Rattle.claims.specs.CDemand3.{entries_read}

-- the number, the list and the log of the mend m; a reply of r bytes, which is the mend's where it is refused, and else "undo's writes"
pub record Restored (m : CMend) (r number : ℕ) (blocks log reply : List ℕ) : Type 0 where
  pub same_number : number ≡ m.number
  pub same_list : blocks ≡ m.list
  pub same_log : log ≡ m.log
  pub refused : (m.number ≡ 0 → ⊥) → reply ≡ m.reply
  pub undone : m.number ≡ 0 → reply ≡ padded_bytes r (entries_read m ∷ [])
