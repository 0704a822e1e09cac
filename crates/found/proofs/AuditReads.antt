-- Every object of an audit that is done can be read whole behind the superblock with the audit's room, and is then shown only what the audit was shown.
use Prim.Native.Nat.{ℕ, zero, suc, ◌+◌, ◌≤◌}
use mathlib.Core.Bool.{true, false}
use mathlib.Core.List.Memᴰ
use mathlib.Core.List.{List, [], ◌∷◌, ◌++◌, append_assoc, append-nil}
use mathlib.Core.Path.{◌≡◌, refl, ap, sym, ◌∙◌}
use native.Mathlib.Omega.{arith}
use lib.ListN.{length, length-append, drop, drop_of_length-le}
use Rattle.format.specs.Limits.{objects_most}
use Rattle.format.specs.Bytes.{with_first}
use Rattle.format.specs.Blocks.{Block}
use Rattle.format.specs.Walk.{Walk, ret, ◌>>=◌, done, run}
use Rattle.format.specs.Superblock.{Superblock, superblock_walk}
use Rattle.format.specs.Ledger.{Linked, in_ledger}
use Rattle.format.specs.Sharing.{Found}
use Rattle.format.specs.Object.{object_walk}
use Rattle.format.specs.Audit.{objects_walk, root_found, audit_walk}
use Rattle.walk.specs.Lent.{left}
use Rattle.laws.proofs.Bind.{run_bind}
use Rattle.laws.proofs.Disjoint.{Apart, fresh-apart, apart-first}
use Rattle.laws.proofs.Growth.{run-grown}
use Rattle.laws.proofs.Plan.{plan, blocks}
use Rattle.laws.proofs.Restart.{run-done, restart}
use Rattle.laws.specs.Shown.{Shown}
use Rattle.links.specs.Reached.{Reference, references_at}
use Rattle.links.specs.Trace.{Trace, ended, next}
use Rattle.links.proofs.Outcomes.{bind_done, done-fits}
use Rattle.links.proofs.Marks.{Fits}
use Rattle.links.proofs.ObjectReferences.{taken-follows, followed}
use Rattle.links.proofs.AuditTrace.{root-fits}
use Rattle.links.proofs.TraceReferences.{trace-references, each-find}
use Rattle.found.proofs.Whole.{whole, whole-then, whole-quiet, whole-followed}
use Rattle.found.proofs.ReadWhole.{Sub, sub-append, ReadWhole}

module _ (im : List ℕ) (room : ℕ) (s : Superblock) (ss : List Shown) (sb : List Block) (sup : run im s.end_of_file room (superblock_walk s) [] ≡ done tt sb)
    (sup_among : Sub (whole im s.end_of_file (superblock_walk s)) ss) where
  abbrev eof : ℕ
  eof = s.end_of_file

  abbrev Begins : List Block → Type 0
  Begins bs = (rest : List Block) × (bs ≡ sb ++ rest)

  -- an object that was read whole after others, the superblock first of all
  read_behind : (at : ℕ) (rs : List Reference) (bs ms : List Block) → length bs ≤ room → Begins bs → run im eof room (references_at s at) bs ≡ done rs ms →
      Sub (whole im eof (references_at s at)) ss → ReadWhole im s room ss at
  read_behind at rs bs ms l g e among =
      let own = blocks (plan im eof (references_at s at)) in
      let d = run-done im eof (references_at s at) room bs ms rs e in
      let fresh = rw g.1 at d.fresh in
      let apart : Apart sb own = apart-first sb g.0 own (fresh-apart (sb ++ g.0) own fresh) in
      let fits = done-fits im eof room (references_at s at) bs rs ms l e in
      let all : length ms ≡ length bs + length own = ap length d.all ∙ length-append bs own in
      let front : length bs ≡ length sb + length g.0 = ap length g.1 ∙ length-append sb g.0 in
      let second : run im eof room (references_at s at) sb ≡ done rs (sb ++ own) =
      restart im eof (references_at s at) room bs ms rs e room sb apart (omega arith) in
      record {
        references = rs;
        left = sb ++ own;
        ran = run_bind im eof room (superblock_walk s) (λ _. references_at s at) [] ∙ rw sup second;
        among = λ x m.
            sub-append (whole im eof (superblock_walk s)) (whole im eof (references_at s at)) ss sup_among among x
            (rw (whole-then im eof (superblock_walk s) (λ _. references_at s at) room [] tt sb sup) at m);
      }

  begins-more : {A : Type 0} (w : Walk A) (bs : List Block) (x : A) (ms : List Block) → length bs ≤ room → run im eof room w bs ≡ done x ms → Begins bs →
      Begins ms
  begins-more w bs x ms l e g =
      let r = run-grown im eof room w bs l in
      let all : ms ≡ bs ++ r.new = ap left (sym e) ∙ r.all in
      (g.0 ++ r.new, all ∙ ap (λ (cs : List Block). cs ++ r.new) g.1 ∙ append_assoc sb g.0 r.new)

  abbrev Reads : ℕ → Found → Found → Type 0
  Reads i f last = Trace (λ at rs. ReadWhole im s room ss at) i f.objects last.objects

  reads_end : (i : ℕ) (f last : Found) → f ≡ last → drop i f.objects ≡ [] → Reads i f last
  reads_end i f last same d = rw (← same) (ended d)

  -- the i-th object, then those behind it
  abbrev onward : ℕ → ℕ → Found → Linked → Walk Found
  onward fuel i f o = object_walk s i o.address f >>= λ f'. objects_walk s fuel (i + 1) f'

  -- the walk from the i-th object on, with the fuel that is left
  objects-read : (fuel i : ℕ) (f : Found) (bs : List Block) (last : Found) (ms : List Block) → objects_most ≤ i + fuel → Fits f → length bs ≤ room → Begins bs →
      run im eof room (objects_walk s fuel i f) bs ≡ done last ms → Sub (whole im eof (objects_walk s fuel i f)) ss → Reads i f last
  unfolding objects_walk run
  objects-read zero i f bs last ms n m l g e among = reads_end i f last (cc) (drop_of_length-le f.objects {i = i} (omega (arith, m.most)))
  objects-read (suc fuel) i f bs last ms n m l g e among =
      go (drop i f.objects) refl e among (λ f' cs m' l' g' e' among'. objects-read fuel (i + 1) f' cs last ms (omega arith) m' l' g' e' among')
    where
      go : (rest : List Linked) → drop i f.objects ≡ rest → run im eof room (with_first rest (ret f) (onward fuel i f)) bs ≡ done last ms →
          Sub (whole im eof (with_first rest (ret f) (onward fuel i f))) ss →
          ((f' : Found) (cs : List Block) → Fits f' → length cs ≤ room → Begins cs → run im eof room (objects_walk s fuel (i + 1) f') cs ≡ done last ms →
          Sub (whole im eof (objects_walk s fuel (i + 1) f')) ss → Reads (i + 1) f' last) →
          Reads i f last
      go [] d r h more = reads_end i f last (cc) d
      go (o ∷ rest) d r h more =
          let w = object_walk s i o.address f in
          let own = references_at s o.address in
          let b = bind_done im eof room w (λ f'. objects_walk s fuel (i + 1) f') bs last ms r in
          let follows = taken-follows s i f o rest m d in
          let c = followed im eof room _ w own bs b.0 b.1 follows b.2 in
          let fits = done-fits im eof room w bs b.0 b.1 l b.2 in
          let both = whole-then im eof w (λ f'. objects_walk s fuel (i + 1) f') room bs b.0 b.1 b.2 in
          let same = whole-followed im eof false _ w own room bs b.0 b.1 b.2 follows in
          let later = whole im eof (objects_walk s fuel (i + 1) b.0) in
          let here : Sub (whole im eof own) ss = λ x q. h x (rw both (Memᴰ.append_left later (rw same at q))) in
          let there : Sub later ss = λ x q. h x (rw both (Memᴰ.append_right (whole im eof w) q)) in
          next d (read_behind o.address c.0 bs b.1 l g c.1 here) c.2.counted
          (more b.0 b.1 c.2.fits fits (begins-more w bs b.0 b.1 l b.2 g) b.3 there)

module _ (im : List ℕ) (room : ℕ) (s : Superblock) (os : List Linked) (bs : List Block) (e : run im s.end_of_file room (audit_walk s) [] ≡ done os bs) where
  abbrev objects : Walk Found
  objects = objects_walk s objects_most 0 (root_found s)

  -- all that the audit is shown: the superblock, then the objects
  audit-whole : (sb : List Block) → run im s.end_of_file room (superblock_walk s) [] ≡ done tt sb →
      whole im s.end_of_file (audit_walk s) ≡ whole im s.end_of_file (superblock_walk s) ++ whole im s.end_of_file objects
  unfolding audit_walk whole
  audit-whole sb h =
      whole-then im s.end_of_file (superblock_walk s) (λ _. objects >>= λ f. ret f.objects) room [] tt sb h
      ∙ ap (λ (ss : List Shown). whole im s.end_of_file (superblock_walk s) ++ ss) (whole-quiet im s.end_of_file objects (λ f. ret f.objects) (λ f. refl))

  audit-done : (sb : List Block) × (last : Found) × (ms : List Block) × (run im s.end_of_file room (superblock_walk s) [] ≡ done tt sb)
      × (run im s.end_of_file room objects sb ≡ done last ms) × (last.objects ≡ os)
  unfolding audit_walk run
  audit-done =
      let b = bind_done im s.end_of_file room (superblock_walk s) (λ _. objects >>= λ f. ret f.objects) [] os bs e in
      let c = bind_done im s.end_of_file room objects (λ f. ret f.objects) b.1 os bs b.3 in
      (b.1, c.0, c.1, b.2, c.2, cc c.3)

  pub audit-reads : (at : ℕ) → in_ledger at os ≡ true → ReadWhole im s room (whole im s.end_of_file (audit_walk s)) at
  audit-reads at h =
      let total = whole im s.end_of_file (audit_walk s) in
      let b = audit-done in
      let both = audit-whole b.0 b.3 in
      let fits = done-fits im s.end_of_file room (superblock_walk s) [] tt b.0 (omega arith) b.3 in
      let first : Sub (whole im s.end_of_file (superblock_walk s)) total = λ x q. rw both (Memᴰ.append_left (whole im s.end_of_file objects) q) in
      let second : Sub (whole im s.end_of_file objects) total = λ x q. rw both (Memᴰ.append_right (whole im s.end_of_file (superblock_walk s)) q) in
      let t = objects-read im room s total b.0 b.3 first objects_most 0 (root_found s) b.0 b.1 b.2 (omega arith)
      (root-fits im room s) fits ([], sym (append-nil b.0)) b.4 second in
      let r = trace-references (λ a rs. ReadWhole im s room total a) t in
      (each-find (λ a rs. ReadWhole im s room total a) at b.1.objects r.0 (rw b.5 h) r.1).1
