-- Laws of counting references.
use Prim.Native.Nat.{ℕ}
use mathlib.Core.Bool.{Bool, true, false}
use mathlib.Core.List.{List, [], ◌∷◌, ◌++◌, append_assoc, append-nil}
use mathlib.Core.Path.{◌≡◌, refl, ap, sym, ◌∙◌, fun_ext}
use Rattle.std.specs.Prelude.{if◌then◌else◌}
use Rattle.format.specs.Result.{Result, value, ◌>>=◌}
use Rattle.format.specs.Entry.{Entry, is_hard}
use Rattle.format.specs.Ledger.{Linked, in_ledger, count_link, discover}
use Rattle.laws.proofs.Results.{value-bind, bind_assoc, both_values}
use Rattle.ledger.specs.Links.{addresses_of}
use Rattle.ledger.proofs.LedgerLaws.{discover-hard, discover-other, count-addresses}
use Rattle.group.specs.Entries.{count_entries}
use Rattle.links.specs.Reached.{Reference, hard_link, target, hard_links_of, sharings_of}
use Rattle.links.specs.Trace.{count_references}

-- references after others
pub count-append : (rs ss : List Reference) (os : List Linked) → count_references (rs ++ ss) os ≡ count_references rs os >>= count_references ss
unfolding count_references
count-append [] ss os = sym (value-bind os (count_references ss))
count-append (r ∷ rs) ss os =
    ap (λ (f : List Linked → Result (List Linked)). count_link (target r) os >>= f) (fun_ext λ os'. count-append rs ss os')
    ∙ sym (bind_assoc (count_link (target r) os) (count_references rs) (count_references ss))

pub counted-on : (rs ss : List Reference) (os ps qs : List Linked) → count_references rs os ≡ value ps → count_references ss ps ≡ value qs →
    count_references (rs ++ ss) os ≡ value qs
counted-on rs ss os ps qs c d = count-append rs ss os ∙ ap (λ (w : Result (List Linked)). w >>= count_references ss) c ∙ value-bind ps (count_references ss) ∙ d

-- the entries of a group are counted as their hard links are
pub count_entries_lem : (es : List Entry) (os : List Linked) → count_entries es os ≡ count_references (hard_links_of es) os
unfolding count_entries count_references hard_links_of
count_entries_lem [] os = refl
count_entries_lem (e ∷ es) os = go (is_hard e) refl (count_entries_lem es)
  where
    go : (t : Bool) → is_hard e ≡ t → ((ps : List Linked) → count_entries es ps ≡ count_references (hard_links_of es) ps) →
        (discover e os >>= count_entries es) ≡ count_references (if t then hard_link e.header ∷ hard_links_of es else hard_links_of es) os
    go true h i =
        ap (λ (w : Result (List Linked)). w >>= count_entries es) (discover-hard e os h)
        ∙ ap (λ (f : List Linked → Result (List Linked)). count_link e.header os >>= f) (fun_ext i)
    go false h i = ap (λ (w : Result (List Linked)). w >>= count_entries es) (discover-other e os h) ∙ value-bind os (count_entries es) ∙ i os

pub sharings-append : (xs ys : List ℕ) → sharings_of (xs ++ ys) ≡ sharings_of xs ++ sharings_of ys
unfolding sharings_of
sharings-append [] ys = refl
sharings-append (x ∷ xs) ys = rw (sharings-append xs ys)

-- what references that are counted keep, if every one that is counted keeps it
module _ (P : List Linked → Type 0) (step : (a : ℕ) (os os' : List Linked) → count_link a os ≡ value os' → P os → P os') where
  pub counting-keeps : (rs : List Reference) (os os' : List Linked) → count_references rs os ≡ value os' → P os → P os'
  unfolding count_references
  counting-keeps [] os os' c p = let same : os ≡ os' = cc in rw same at p
  counting-keeps (r ∷ rs) os os' c p =
      let b = both_values (count_link (target r) os) (count_references rs) os' c in
      counting-keeps rs b.0 os' b.2 (step (target r) os b.0 b.1 p)

-- the addresses stay, in order, and new ones come behind them
pub counting-appends : (rs : List Reference) (os os' : List Linked) → count_references rs os ≡ value os' →
    (new : List ℕ) × (addresses_of os' ≡ addresses_of os ++ new)
counting-appends rs os os' c =
    counting-keeps (λ (ps : List Linked). (new : List ℕ) × (addresses_of ps ≡ addresses_of os ++ new))
    (λ a ps ps' e h. (h.0 ++ (if in_ledger a ps then [] else a ∷ []), count-addresses a ps ps' e ∙ simp (h.1, append_assoc)))
    rs os os' c ([], sym (append-nil _))
