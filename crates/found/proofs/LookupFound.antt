-- "A name is found exactly when the group's sound index holds it and the header it links to is sound; absent only from a sound index."
use Prim.Native.Nat.{ℕ, ◌≤◌}
use mathlib.Core.List.{List, []}
use mathlib.Core.Logic.{◌⊎◌, inl, inr, ◌↔◌}
use mathlib.Core.Path.{◌≡◌, ap, sym, subst, ◌∙◌}
use native.Mathlib.Omega.{arith}
use Rattle.format.specs.Blocks.{Block, room_of}
use Rattle.format.specs.Walk.{Walk, ret, Outcome, done, run, and_then, ◌>>◌}
use Rattle.format.specs.Superblock.{Superblock, superblock_walk}
use Rattle.format.specs.Header.{Object, header_walk}
use Rattle.format.specs.Lookup.{Located, kind_number, locate_walk, lookup_run}
use Rattle.laws.proofs.Bind.{bind_assoc, run_bind}
use Rattle.links.proofs.Numbered.{run-number}
use Rattle.found.specs.Found.{RefusedWith, HeaderIs, LeadsToObject, LeadsToSymbolic, IsFound, IsAbsent}
use Rattle.links.proofs.Outcomes.{then-done}
use Rattle.found.proofs.Outcomes.{done_refused}
use Rattle.found.proofs.NumberedLookup.{locate-numbered}
use Rattle.found.proofs.PathFound.{DoneAt, path-done, path-absent}

abbrev place : ℕ → Object → Located
place a o = record { kind = kind_number o; address = a }

-- what a lookup answers of a final symbolic link
abbrev link : Outcome Located
link = done (record { kind = 4; address = 0 }) []

-- the object found: its header is read, and its kind and address are given
locate-run : (im : List ℕ) (s : Superblock) (room a : ℕ) →
    run im s.end_of_file room (superblock_walk s >> locate_walk a) [] ≡
    and_then (run im s.end_of_file room (superblock_walk s >> header_walk a) []) (λ o bs. done (place a o) bs)
unfolding locate_walk run
locate-run im s room a =
    ap (λ (w : Walk Located). run im s.end_of_file room w []) (sym (bind_assoc (superblock_walk s) (λ _. header_walk a) (λ o. ret (place a o))))
    ∙ run_bind im s.end_of_file room (superblock_walk s >> header_walk a) (λ o. ret (place a o)) []

-- the end of a lookup at an object
located : (im : List ℕ) (s : Superblock) (room a k b : ℕ) (bs : List Block) →
    run im s.end_of_file room (superblock_walk s >> locate_walk a) [] ≡ done (record { kind = k; address = b }) bs →
    (o : Object) × HeaderIs im s room b o bs × (k ≡ kind_number o) × (a ≡ b)
located im s room a k b bs e =
    let d = then-done (run im s.end_of_file room (superblock_walk s >> header_walk a) []) (λ o cs. done (place a o) cs)
    (record { kind = k; address = b }) bs (sym (locate-run im s room a) ∙ e) in
    let same : d.1 ≡ bs = cc d.3 in
    let found : place a d.0 ≡ record { kind = k; address = b } = cc d.3 in
    let here : a ≡ b = ap (λ (l : Located). l.address) found in
    (d.0, subst (λ (z : ℕ). HeaderIs im s room z d.0 bs) here (rw same at d.2), sym (ap (λ (l : Located). l.kind) found), here)

module _ (im path : List ℕ) (lent : ℕ) where
  -- found: the path leads to the address of a sound header, or to a symbolic link
  pub lookup-found : (k a : ℕ) (bs : List Block) → (lookup_run im path lent ≡ done (record { kind = k; address = a }) bs) ↔ IsFound im path lent k a bs
  unfolding lookup_run
  lookup-found k a bs = (forth, back)
    where
      leads : (ps : List (List ℕ)) (s : Superblock) → DoneAt im path lent locate_walk link s ps (record { kind = k; address = a }) bs →
          LeadsToObject im s (room_of lent) ps k a bs ⊎ LeadsToSymbolic im s (room_of lent) ps k a bs
      leads ps s (inl h) =
          let d = located im s (room_of lent) h.0 k a bs h.2 in
          let same : h.0 ≡ a = d.3 in
          inl (record { path = rw same at h.1; found = d.0; header = d.1; of_kind = d.2 })
      leads ps s (inr h) =
          let q = h.1 in
          let v : ◌≡◌ {A = Located} (record { kind = 4; address = 0 }) (record { kind = k; address = a }) = cc in
          inr (record { path = h.0; of_kind = sym (ap (λ (l : Located). l.kind) v); no_address = sym (ap (λ (l : Located). l.address) v); no_blocks = cc })

      forth : lookup_run im path lent ≡ done (record { kind = k; address = a }) bs → IsFound im path lent k a bs
      forth e =
          let f = (path-done im path lent locate_walk link (record { kind = k; address = a }) bs).0 e in
          record { parts = f.0; superblock = f.1; asked = f.2; leads = leads f.0 f.1 f.3 }

      ends : (ps : List (List ℕ)) (s : Superblock) → LeadsToObject im s (room_of lent) ps k a bs ⊎ LeadsToSymbolic im s (room_of lent) ps k a bs →
          DoneAt im path lent locate_walk link s ps (record { kind = k; address = a }) bs
      ends ps s (inl h) = inl (a, h.path, locate-run im s (room_of lent) a ∙ rw (h.header, h.of_kind))
      ends ps s (inr h) = inr (h.path, rw (h.of_kind, h.no_address, h.no_blocks))

      back : IsFound im path lent k a bs → lookup_run im path lent ≡ done (record { kind = k; address = a }) bs
      back f =
          (path-done im path lent locate_walk link (record { kind = k; address = a }) bs).1
          (f.parts, f.superblock, f.asked, ends f.parts f.superblock f.leads)

  -- absent: the path leads to a group whose sound index lacks the next component
  pub lookup_absent : (bs : List Block) → RefusedWith (lookup_run im path lent) 15 bs ↔ IsAbsent im path lent bs
  unfolding lookup_run
  lookup_absent bs =
      path-absent im path lent locate_walk link bs
      (λ s room a e. omega (
        arith,
        e.2,
        run-number (λ n. n ≤ 13) (omega arith) (omega arith) (omega arith) im s.end_of_file room
            (superblock_walk s >> locate_walk a) [] e.0 bs (locate-numbered (λ n. n ≤ 13) (omega arith) (omega arith) (omega arith) s a) e.1,
      ))
      (λ e. done_refused (record { kind = 4; address = 0 }) [] e.0 bs e.1)
