-- The laws of what is done at a message: of the audit, and of nothing at all.
use Prim.Native.Nat.{ℕ, ◌+◌, ◌≤◌}
use mathlib.Core.List.{List, [], ◌∷◌, ◌++◌}
use mathlib.Core.Path.{◌≡◌, refl, ◌∙◌}
use native.Mathlib.Omega.{arith}
use Rattle.format.specs.Blocks.{Block}
use Rattle.walk.specs.Lent.{length_sum}
use Rattle.laws.specs.Blocks.{Fresh, Inside}
use Rattle.sharing.specs.Lent.{SameFound, TablesIn, KeptIn, CountingIn}
use Rattle.sharing.specs.Visit.{Lasts, Counts}

-- the lists lent stay the same from one function to the next
pub found_lasts : Lasts SameFound
found_lasts = record {
  itself = λ f.
      record {
        lent = refl;
        objects = record { addresses = refl; counts = refl; addresses_long = refl; counts_long = refl };
        marks = refl;
        marks_long = refl;
      };
  next = λ f g h s t.
      record {
        lent = t.lent ∙ s.lent;
        objects = record {
          addresses = t.objects.addresses ∙ s.objects.addresses;
          counts = t.objects.counts ∙ s.objects.counts;
          addresses_long = t.objects.addresses_long ∙ s.objects.addresses_long;
          counts_long = t.objects.counts_long ∙ s.objects.counts_long;
        };
        marks = t.marks ∙ s.marks;
        marks_long = t.marks_long ∙ s.marks_long;
      };
}

-- what is shown of lists of blocks for all walks, and holds here too
pub record BlockLaws : Type 0 where
  pub apart : (bs cs ds : List Block) → Fresh bs cs → Fresh (bs ++ cs) ds → Fresh bs (cs ++ ds)
  pub inside : (eof : ℕ) (bs cs : List Block) → Inside eof bs → Inside eof cs → Inside eof (bs ++ cs)
  pub lengths : (bs cs : List Block) → length_sum (bs ++ cs) ≡ length_sum bs + length_sum cs
  pub lengths_inside : (eof : ℕ) (bs : List Block) → Fresh [] bs → Inside eof bs → length_sum bs ≤ eof

longer : BlockLaws → (bs : List Block) (b : Block) → length_sum (bs ++ (b ∷ [])) ≡ length_sum bs + b.size
unfolding length_sum
longer l bs b = l.lengths bs (b ∷ []) ∙ (let z : length_sum bs + (b.size + 0) ≡ length_sum bs + b.size = omega arith in z)

-- links are counted in the tables, one at most for a message
pub found_counts : BlockLaws → Counts TablesIn KeptIn CountingIn
found_counts blocks = record {
  none = λ f n t. record { table = t.table; marked = t.marked; links = omega arith };
  more = λ f g h m n k l i j. record { table = j.table; marked = j.marked; links = omega (arith, i.links, j.links) };
  room = λ f g m n k l t j. record { table = j.table; marked = j.marked; fits = omega (arith, t.fits, j.links) };
  fits = λ f eof bs n k l c.
      record { table = c.table; marked = c.marked; fits = omega (arith, c.links, c.small, blocks.lengths_inside eof bs c.apart c.inside) };
  spare = λ f g eof bs m n k l c j.
      record { small = c.small; apart = c.apart; inside = c.inside; table = j.table; marked = j.marked; links = omega (arith, c.links, j.links) };
  entered = λ f eof bs b n fresh inside c.
      record {
        small = c.small;
        apart = blocks.apart [] bs (b ∷ []) c.apart fresh;
        inside = blocks.inside eof bs (b ∷ []) c.inside inside;
        table = c.table;
        marked = c.marked;
        links = omega (arith, c.links, longer blocks bs b);
      };
}

-- nothing is counted where nothing is done
pub nothing_lasts : {V : Type 0} → Lasts {V = V} (λ v w. Unit {0})
nothing_lasts = record { itself = λ v. tt; next = λ u v w s t. tt }

pub nothing_counts : {V : Type 0} → Counts {V = V} (λ v n. Unit {0}) (λ v n w. Unit {0}) (λ v eof bs n. Unit {0})
nothing_counts = record {
  none = λ v n r. tt;
  more = λ u v w m n k l i j. tt;
  room = λ u v m n k l r j. tt;
  fits = λ v eof bs n k l c. tt;
  spare = λ u v eof bs m n k l c j. tt;
  entered = λ v eof bs b n fresh inside c. tt;
}
