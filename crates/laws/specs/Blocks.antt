-- What holds of the blocks that a walk enters: "block not inside the end-of-file address", "block shares a byte with one already entered".
use Rattle.std.specs.Prelude.{ℕ, ◌+◌, ◌≤◌, false, List, [], ◌∷◌, ◌++◌, ◌≡◌}
use Rattle.format.specs.Blocks.{Block, overlaps_any}

-- none of cs shares a byte with one of bs, or with one before it in cs
abbrev pub Fresh : List Block → List Block → Type 0
Fresh bs [] = Unit {0}
Fresh bs (c ∷ cs) = (overlaps_any bs c.at c.size ≡ false) × Fresh (bs ++ (c ∷ [])) cs

-- every block of the list lies inside the end of file
abbrev pub Inside : ℕ → List Block → Type 0
Inside eof [] = Unit {0}
Inside eof (b ∷ bs) = (b.at + b.size ≤ eof) × Inside eof bs
