-- Changes that are among others: the first m, and all behind them.
use Prim.Native.Nat.{ℕ, zero, suc}
use mathlib.Core.List.Memᴰ
use mathlib.Core.List.{List, [], ◌∷◌, Memᴰ}
use mathlib.Core.Logic.{⊎_elim}
use lib.ListN.{take, drop}
use Rattle.format.specs.Log.{Change}

-- all of the first are among the second
abbrev pub Among : List Change → List Change → Type 0
Among ds cs = (d : Change) → Memᴰ d ds → Memᴰ d cs

pub take-among : (m : ℕ) (cs : List Change) → Among (take m cs) cs
take-among zero cs d i = absurd (Memᴰ.not-nil i)
take-among (suc m) [] d i = i
take-among (suc m) (c ∷ cs) d i = ⊎_elim (λ same. Memᴰ.head same) (λ j. Memᴰ.tail (take-among m cs d j)) (Memᴰ.cases_cons i)

pub drop-among : (m : ℕ) (cs : List Change) → Among (drop m cs) cs
drop-among zero cs d i = i
drop-among (suc m) [] d i = i
drop-among (suc m) (c ∷ cs) d i = Memᴰ.tail (drop-among m cs d i)
