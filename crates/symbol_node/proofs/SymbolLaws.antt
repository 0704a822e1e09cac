-- The steps of the code that reads a symbol table node against the steps of its walk.
use Prim.Native.Nat.{ℕ, ◌+◌, ◌-◌, ◌*◌, ◌^◌, ◌≤◌, ◌<◌}
use mathlib.Core.List.{List, [], ◌∷◌}
use mathlib.Core.Path.{◌≡◌, refl, ap, sym, ◌∙◌}
use native.Mathlib.Omega.{arith}
use lib.Dec.{eqb}
use lib.ListN.{length, get_or, drop}
use Rattle.format.specs.Bytes.{in_range, little_endian, part, u8, u16, u32}
use Rattle.format.specs.Blocks.{block_of, entry_answer}
use Rattle.format.specs.Result.{value}
use Rattle.format.specs.declared.Refusal.{Refusal}
use Rattle.format.specs.Walk.{fault, symbol_block, Walk, ret, refuse, shown, check, ◌>>=◌, ◌>>◌, run}
use Rattle.format.specs.Names.{Bound}
use Rattle.format.specs.Entry.{GroupState}
use Rattle.format.specs.Symbols.{SNOD, entries, symbol_walk}
use Rattle.walk.specs.Lent.{blocks_of, length_sum, Lent, Walked, stopped, entering, IsEntered}
use Rattle.walk.specs.Numbers.{Number}
use Rattle.std.specs.Prelude.{Result, Ok, Err}
use Rattle.walk.proofs.Parts.{part-byte, part-number, part-first-number, drop-part}
use Rattle.laws.specs.Blocks.{Fresh, Inside}
use Rattle.laws.proofs.Growth.{Grown}
use Rattle.laws.proofs.SumOfLengths.{grown-apart, grown-inside, lengths-append, lengths-inside}
use Rattle.laws.proofs.Simulation.{Simulation, start, same-walk, returned, refusal, passed}
use Rattle.laws.proofs.Simulation.{failed, entered-blocks, entered-grown, block-entered, block_refused, entered-inside}
use Rattle.walk.proofs.Tests.{field-equal, field-unequal, range-below, range-above, range_inside}
use Rattle.visit.specs.Visit.{Visit}
use Rattle.symbol.specs.Entry.{group_of, state_of, EntriesAre}
use Rattle.symbol_node.specs.Tree.{Descending, SymbolsAre}
use Rattle.symbol.specs.declared.entry.Group.{Group}
use Rattle.symbol.specs.declared.entry.NameRange.{NameRange}
use Rattle.range.specs.declared.Name.{Name}

-- the signature is the number of these four bytes
signed : (n : ℕ) → n ≡ 0x444f4e53 → n ≡ SNOD
unfolding SNOD little_endian
signed n e = e

unsigned : (n : ℕ) → (n ≡ 0x444f4e53 → ⊥) → n ≡ SNOD → ⊥
unfolding SNOD little_endian
unsigned n h e = h e

-- The node's block was entered: it lies in the image, and the links found and one for each entry of it are no more than the bytes of all blocks.
pub record NodeEntered (im : List ℕ) (g : Group) (links at : ℕ) (ws₁ : List ℕ) (m : ℕ) : Type 0 where
  pub there : at + (8 + 80 * g.leaf_k) ≤ length im
  pub lent : Lent ws₁ m g.bounds.room
  pub apart : Fresh [] (blocks_of m ws₁)
  pub inside : Inside g.bounds.end_of_file (blocks_of m ws₁)
  pub room : links + (8 + 80 * g.leaf_k) ≤ length_sum (blocks_of m ws₁)

-- so links of the entries fit 32 bits
pub links-small : {im : List ℕ} {g : Group} {links at : ℕ} {ws₁ : List ℕ} {m : ℕ} (n : ℕ) → NodeEntered im g links at ws₁ m → g.bounds.end_of_file < 2 ^ 32 →
    n ≤ 8 + 80 * g.leaf_k → links + n < 2 ^ 32
links-small {im} {g} {links} {at} {ws₁} {m} n e h k = omega (arith, lengths-inside g.bounds.end_of_file (blocks_of m ws₁) e.apart e.inside, e.room)

-- for any keys above
module _ {S : Type 0} {im seg map ws : List ℕ} {g : Group} {r : NameRange} {count links : ℕ} (d : Descending im seg map ws g r count links) (visit : Visit S)
    (found : S) (at : ℕ) (ws₁ : List ℕ) where
  abbrev size : ℕ
  size = 8 + 80 * g.leaf_k

  abbrev b : List ℕ
  b = part im at size

  abbrev answer : ℕ
  answer = entry_answer g.bounds.end_of_file g.bounds.room (blocks_of count ws) at size

  abbrev w : List Bound → Walk (GroupState S)
  w bounds = symbol_walk (group_of seg visit g) at bounds (state_of seg r.last found)

  -- what is left of the walk, with so many blocks
  abbrev Left : List Bound → Walk (GroupState S) → ℕ → Type 0
  Left bounds w' m = Simulation im g.bounds.end_of_file g.bounds.room (w bounds) count ws w' m ws₁

  wrong : {x : Refusal} {m : ℕ} →
      ((bounds : List Bound) → Walked ws ws₁ (stopped x) (run im g.bounds.end_of_file g.bounds.room (w bounds) (blocks_of count ws))) →
      SymbolsAre im seg ws visit g r at count found ws₁ m links found (Err x)
  wrong h = record { walked = λ bounds t. h bounds; sound = tt }

  module _ (q : IsEntered answer ws count 7 at size ws₁) where
    begun : (bounds : List Bound) → Simulation im g.bounds.end_of_file g.bounds.room (w bounds) count ws (w bounds) count ws
    begun bounds = start im g.bounds.end_of_file g.bounds.room (w bounds) count ws d.sound.lent

    pub symbols-refused : {m : ℕ} (x : Refusal) → Err x ≡ entering answer 7 at size (blocks_of count ws) count →
        SymbolsAre im seg ws visit g r at count found ws₁ m links found (Err x)
    unfolding symbol_walk ◌>>=◌
    symbols-refused x e = wrong (λ bounds. block_refused size refl refl ws₁ (begun bounds) q x e)

    module _ (m : ℕ) (e : Ok m ≡ entering answer 7 at size (blocks_of count ws) count) where
      at-signature : (bounds : List Bound) → Left bounds
          (check (eqb (u32 b 0) SNOD) (fault 7 at) >> (check (eqb (u8 b 4) 1) (fault 7 at) >>
          (check (in_range 1 (2 * g.leaf_k) (u16 b 6)) (fault 8 at) >>
          entries (group_of seg visit g) bounds (u16 b 6) (at + 8) (drop 8 b) (state_of seg r.last found)))) m
      unfolding symbol_walk ◌>>=◌ shown
      at-signature bounds = block-entered size refl refl ws₁ (begun bounds) q m e

      inside_file : at + size ≤ g.bounds.end_of_file
      unfolding symbol_walk ◌>>=◌
      inside_file = entered-inside size refl refl ws₁ (begun []) q m e

      grown : Grown g.bounds.end_of_file g.bounds.room (blocks_of count ws) (blocks_of m ws₁)
      grown = entered-grown g.bounds.end_of_file g.bounds.room symbol_block at size count ws ws₁ d.sound.lent q m e

      lengths : length_sum (blocks_of m ws₁) ≡ length_sum (blocks_of count ws) + size
      unfolding length_sum
      lengths =
          rw (entered-blocks g.bounds.end_of_file g.bounds.room symbol_block at size count ws ws₁ d.sound.lent q m e)
          (lengths-append (blocks_of count ws) (block_of 7 at size ∷ []) ∙ omega arith)

      pub node-entered : NodeEntered im g links at ws₁ m
      node-entered = record {
        there = omega (arith, inside_file, d.fixed.file);
        lent = (at-signature []).lent;
        apart = grown-apart grown d.sound.apart;
        inside = grown-inside grown d.sound.inside;
        room = omega (arith, lengths, d.sound.links);
      }

      module _ (signature : ℕ) (n : Number im at 4 signature) where
        signature-there : u32 b 0 ≡ signature
        signature-there = part-first-number im at size 4 (omega arith) ∙ sym n.value

        pub signature-wrong : (signature ≡ 0x444f4e53 → ⊥) → SymbolsAre im seg ws visit g r at count found ws₁ m links found (Err (fault 7 at))
        signature-wrong h =
            wrong (λ bounds.
            failed (eqb (u32 b 0) SNOD) (fault 7 at) _ (field-unequal signature-there (unsigned signature h)) (at-signature bounds))

        module _ (h : signature ≡ 0x444f4e53) where
          at-version : (bounds : List Bound) → Left bounds
              (check (eqb (u8 b 4) 1) (fault 7 at) >> (check (in_range 1 (2 * g.leaf_k) (u16 b 6)) (fault 8 at) >>
              entries (group_of seg visit g) bounds (u16 b 6) (at + 8) (drop 8 b) (state_of seg r.last found))) m
          at-version bounds = passed (eqb (u32 b 0) SNOD) (fault 7 at) _ (field-equal signature-there (signed signature h)) (at-signature bounds)

          version-there : u8 b 4 ≡ get_or im (at + 4) 0
          version-there = part-byte im at size 4 (omega arith)

          pub version-wrong : (get_or im (at + 4) 0 ≡ 1 → ⊥) → SymbolsAre im seg ws visit g r at count found ws₁ m links found (Err (fault 7 at))
          version-wrong o = wrong (λ bounds. failed (eqb (u8 b 4) 1) (fault 7 at) _ (field-unequal version-there o) (at-version bounds))

          module _ (o : get_or im (at + 4) 0 ≡ 1) (used : ℕ) (u : Number im (at + 6) 2 used) where
            at_count : (bounds : List Bound) → Left bounds
                (check (in_range 1 (2 * g.leaf_k) (u16 b 6)) (fault 8 at) >>
                entries (group_of seg visit g) bounds (u16 b 6) (at + 8) (drop 8 b) (state_of seg r.last found)) m
            at_count bounds = passed (eqb (u8 b 4) 1) (fault 7 at) _ (field-equal version-there o) (at-version bounds)

            used-there : u16 b 6 ≡ used
            used-there = part-number im at size 6 2 (omega arith) ∙ sym u.value

            pub count_low : used < 1 → SymbolsAre im seg ws visit g r at count found ws₁ m links found (Err (fault 8 at))
            count_low p =
                wrong (λ bounds.
                failed (in_range 1 (2 * g.leaf_k) (u16 b 6)) (fault 8 at) _ (rw used-there (range-below 1 (2 * g.leaf_k) used p)) (at_count bounds))

            pub count-high : 2 * g.leaf_k < used → SymbolsAre im seg ws visit g r at count found ws₁ m links found (Err (fault 8 at))
            count-high p =
                wrong (λ bounds.
                failed (in_range 1 (2 * g.leaf_k) (u16 b 6)) (fault 8 at) _ (rw used-there (range-above 1 (2 * g.leaf_k) used p)) (at_count bounds))

            module _ (p : 1 ≤ used) (v : used ≤ 2 * g.leaf_k) where
              at-entries : (bounds : List Bound) → Left bounds
                  (entries (group_of seg visit g) bounds used (at + 8) (part im (at + 8) (80 * g.leaf_k)) (state_of seg r.last found)) m
              at-entries bounds =
                  let z : 8 + 80 * g.leaf_k - 8 ≡ 80 * g.leaf_k = omega arith in
                  let y : drop 8 b ≡ part im (at + 8) (80 * g.leaf_k) = drop-part im at size 8 ∙ ap (part im (at + 8)) z in
                  same-walk _ (rw (used-there, y))
                  (passed (in_range 1 (2 * g.leaf_k) (u16 b 6)) (fault 8 at) _ (rw used-there (range_inside 1 (2 * g.leaf_k) used p v)) (at_count bounds))

              -- the entries' answer is the node's
              pub symbols-end : (links' : ℕ) (found' : S) (x : Result Name Refusal) → links' ≤ links + used →
                  EntriesAre im seg visit g r (at + 8) used found found' x → SymbolsAre im seg ws visit g r at count found ws₁ m links' found' x
              symbols-end links' found' (Ok t) h k = record {
                walked = λ bounds y.
                    returned (same-walk (ret (state_of seg t found'))
                    (sym (k.walk bounds (80 * g.leaf_k) y (omega arith) (omega (arith, node-entered.there)))) (at-entries bounds));
                sound = record {
                  lent = node-entered.lent;
                  last = k.last;
                  apart = node-entered.apart;
                  inside = node-entered.inside;
                  links = omega (arith, h, node-entered.room);
                };
              }
              symbols-end links' found' (Err y) h k = record {
                walked = λ bounds z.
                    refusal (same-walk (refuse y)
                    (sym (k.walk bounds (80 * g.leaf_k) z (omega arith) (omega (arith, node-entered.there)))) (at-entries bounds));
                sound = tt;
              }

-- the block was entered, whatever is done at an entry
pub block-there : {im seg map ws : List ℕ} {g : Group} {r : NameRange} {count links : ℕ} → Descending im seg map ws g r count links → (at : ℕ)
    (ws₁ : List ℕ) → IsEntered (entry_answer g.bounds.end_of_file g.bounds.room (blocks_of count ws) at (8 + 80 * g.leaf_k)) ws count 7 at
    (8 + 80 * g.leaf_k) ws₁ →
    (m : ℕ) → Ok m ≡ entering (entry_answer g.bounds.end_of_file g.bounds.room (blocks_of count ws) at (8 + 80 * g.leaf_k)) 7 at (8 + 80 * g.leaf_k)
    (blocks_of count ws) count → NodeEntered im g links at ws₁ m
block-there d at ws₁ q m e = node-entered {S = Unit {0}} d (λ e u. value u) tt at ws₁ q m e
