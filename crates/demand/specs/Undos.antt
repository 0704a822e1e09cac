-- A list of undo calls.
use Rattle.std.specs.Prelude.{ℕ, List, [], ◌∷◌}
use Rattle.format.specs.Answers.{undo}

-- an undo call: so many entries, and a write limit
pub record Call : Type 0 where
  pub entries : ℕ
  pub limit : ℕ

-- the image after a list of undo calls: "each undo gets that log and the image as the last one left it"
unfoldable pub after_undos : List ℕ → List ℕ → List Call → List ℕ
after_undos im log [] = im
after_undos im log (u ∷ us) = after_undos (undo im log u.entries u.limit).image log us
