-- An object that the audit has read: a lookup in it, its header and its description are shown only what the audit was shown of it.
use Prim.Native.Nat.{ℕ}
use mathlib.Core.Bool.{Bool, true, false}
use mathlib.Core.List.Memᴰ
use mathlib.Core.List.{List, [], ◌++◌}
use mathlib.Core.Path.{◌≡◌, refl, ap, sym, ◌∙◌}
use Rattle.format.specs.Blocks.{Block}
use Rattle.format.specs.Walk.{Walk, ret, ◌>>=◌, ◌>>◌, done, run}
use Rattle.format.specs.Superblock.{Superblock, superblock_walk}
use Rattle.format.specs.Header.{Object, group, dataset, committed, header_with, header_walk}
use Rattle.format.specs.Dataset.{dataset_walk}
use Rattle.format.specs.Sharing.{shared_by}
use Rattle.format.specs.Lookup.{Link, absent, hard, soft, find_walk, target_walk, component_walk, locate_walk}
use Rattle.format.specs.Describe.{dataset_of, describe_walk}
use Rattle.laws.proofs.Bind.{bind-ret}
use Rattle.laws.specs.Shown.{Shown}
use Rattle.laws.proofs.HeaderVisits.{header-plain}
use Rattle.links.specs.Reached.{Reference, hard_links_of, sharings_of, keep_sharing, content_references, references_at}
use Rattle.links.proofs.Outcomes.{bind_done}
use Rattle.links.proofs.ObjectReferences.{header-accepted}
use Rattle.found.specs.Leads.{index_of}
use Rattle.found.proofs.Whole.{whole, whole-then, whole-quiet, whole-followed}
use Rattle.found.proofs.Index.{Says, find-follows}
use Rattle.found.proofs.ReadWhole.{Sub, sub-append, ReadWhole}

sub-none : (ss ts : List Shown) → ss ≡ [] → Sub ss ts
sub-none ss ts e x m = absurd (Memᴰ.not-nil (rw e at m))

sub_same : (ss ts : List Shown) → ss ≡ ts → Sub ss ts
sub_same ss ts e x m = rw e at m

target-quiet : (im : List ℕ) (eof : ℕ) (is_last : Bool) (l : Link) → whole im eof (target_walk is_last l) ≡ []
unfolding whole target_walk
target-quiet im eof is_last absent = refl
target-quiet im eof is_last (hard a) = refl
target-quiet im eof true soft = refl
target-quiet im eof false soft = refl

-- the steps of an object's reading for its references; its header read for its kind alone is done too, with the same blocks and the same object
pub record Steps (im : List ℕ) (s : Superblock) (room at : ℕ) (ms : List Block) : Type 0 where
  pub first : List Block
  pub superblock : run im s.end_of_file room (superblock_walk s) [] ≡ done tt first
  pub object : Object
  pub shared : List ℕ
  pub second : List Block
  pub kept : run im s.end_of_file room (header_with keep_sharing at []) first ≡ done (record { object = object; found = shared }) second
  pub header : run im s.end_of_file room (header_walk at) first ≡ done object second
  pub behind : List Reference
  pub content : run im s.end_of_file room (content_references s object) second ≡ done behind ms

pub read-steps : (im : List ℕ) (s : Superblock) (room at : ℕ) (rs : List Reference) (ms : List Block) →
    run im s.end_of_file room (superblock_walk s >> references_at s at) [] ≡ done rs ms → Steps im s room at ms
unfolding references_at run
read-steps im s room at rs ms e =
    let b = bind_done im s.end_of_file room (superblock_walk s) (λ _. references_at s at) [] rs ms e in
    let h = bind_done im s.end_of_file room (header_with keep_sharing at []) _ b.1 rs ms b.3 in
    let c = bind_done im s.end_of_file room (content_references s h.0.object) _ h.1 rs ms h.3 in
    let left : c.1 ≡ ms = cc c.3 in
    record {
      first = b.1;
      superblock = b.2;
      object = h.0.object;
      shared = h.0.found;
      second = h.1;
      kept = h.2;
      header = header-accepted im s.end_of_file room keep_sharing at [] b.1 h.0 h.1 h.2;
      behind = c.0;
      content = rw left at c.2;
    }

module _ (im : List ℕ) (s : Superblock) (room : ℕ) (ss : List Shown) (at : ℕ) (r : ReadWhole im s room ss at) where
  abbrev eof : ℕ
  eof = s.end_of_file

  steps : Steps im s room at r.left
  steps = read-steps im s room at r.references r.left r.ran

  -- the superblock and the header, then what comes behind them
  whole-object : {B : Type 0} (f : Object → Walk B) →
      whole im eof (superblock_walk s >>= λ _. header_walk at >>= f) ≡
      whole im eof (superblock_walk s) ++ (whole im eof (header_walk at) ++ whole im eof (f steps.object))
  whole-object f =
      whole-then im eof (superblock_walk s) (λ _. header_walk at >>= f) room [] tt steps.first steps.superblock
      ∙ ap (λ (ts : List Shown). whole im eof (superblock_walk s) ++ ts)
      (whole-then im eof (header_walk at) f room steps.first steps.object steps.second steps.header)

  -- the header for its sharings is shown what the header for its kind is
  read_whole : whole im eof (references_at s at) ≡ whole im eof (header_walk at) ++ whole im eof (content_references s steps.object)
  unfolding references_at whole
  read_whole =
      whole-then im eof (header_with keep_sharing at []) (λ h. content_references s h.object >>= λ rs. ret (sharings_of h.found ++ rs)) room
      steps.first (record { object = steps.object; found = steps.shared }) steps.second steps.kept
      ∙ ap (λ (ts : List Shown). ts ++ whole im eof (content_references s steps.object >>= λ rs. ret (sharings_of steps.shared ++ rs)))
      (sym
      (whole-followed im eof false _ (header_with keep_sharing at []) (header_walk at) room steps.first _ steps.second steps.kept
      (header-plain keep_sharing at [])))
      ∙ ap (λ (ts : List Shown). whole im eof (header_walk at) ++ ts)
      (whole-quiet im eof (content_references s steps.object) (λ rs. ret (sharings_of steps.shared ++ rs)) (λ rs. refl))

  read-object : whole im eof (superblock_walk s >> references_at s at) ≡
      whole im eof (superblock_walk s) ++ (whole im eof (header_walk at) ++ whole im eof (content_references s steps.object))
  read-object =
      whole-then im eof (superblock_walk s) (λ _. references_at s at) room [] tt steps.first steps.superblock
      ∙ ap (λ (ts : List Shown). whole im eof (superblock_walk s) ++ ts) read_whole

  object-among : {B : Type 0} (f : Object → Walk B) → Sub (whole im eof (f steps.object)) (whole im eof (content_references s steps.object)) →
      Sub (whole im eof (superblock_walk s >>= λ _. header_walk at >>= f)) ss
  object-among f h x m =
      let superblock = whole im eof (superblock_walk s) in
      let header = whole im eof (header_walk at) in
      let content = whole im eof (content_references s steps.object) in
      let whole-read : Sub (superblock ++ (header ++ content)) ss = λ y q. r.among y (rw read-object q) in
      let first : Sub superblock ss = λ y q. whole-read y (Memᴰ.append_left (header ++ content) q) in
      let second : Sub header ss = λ y q. whole-read y (Memᴰ.append_right superblock (Memᴰ.append_left content q)) in
      let third : Sub content ss = λ y q. whole-read y (Memᴰ.append_right superblock (Memᴰ.append_right header q)) in
      let other = whole im eof (f steps.object) in
      sub-append superblock (header ++ other) ss first (sub-append header other ss second (λ y q. third y (h y q))) x (rw (whole-object f) at m)

  pub header-among : Sub (whole im eof (superblock_walk s >> header_walk at)) ss
  unfolding whole
  header-among = rw bind-ret at (object-among (λ o. ret o) (sub-none [] _ refl))

  pub locate-among : Sub (whole im eof (superblock_walk s >> locate_walk at)) ss
  unfolding locate_walk whole
  locate-among = object-among _ (sub-none [] _ refl)

  find-sub : (name : List ℕ) (o : Object) (cs : List Block) (rs : List Reference) (ms : List Block) →
      run im eof room (content_references s o) cs ≡ done rs ms → Sub (whole im eof (find_walk s name o)) (whole im eof (content_references s o))
  unfolding content_references index_of find_walk whole
  find-sub name (group tree heap) cs rs ms e =
      let index = index_of s (group tree heap) in
      let b = bind_done im eof room index (λ es. ret (hard_links_of es)) cs rs ms e in
      sub_same _ _
      (whole-followed im eof true (Says name) index (find_walk s name (group tree heap)) room cs b.0 b.1 b.2
      (find-follows s name (group tree heap))
      ∙ sym (whole-quiet im eof index (λ es. ret (hard_links_of es)) (λ es. refl)))
  find-sub name (dataset space type layout) cs rs ms e = sub-none [] _ refl
  find-sub name committed cs rs ms e = sub-none [] _ refl

  pub component-among : (name : List ℕ) (is_last : Bool) → Sub (whole im eof (component_walk s name is_last at)) ss
  unfolding component_walk
  component-among name is_last =
      object-among (λ o. find_walk s name o >>= target_walk is_last)
      (λ x m. find-sub name steps.object steps.second steps.behind r.left steps.content x
      (rw (whole-quiet im eof (find_walk s name steps.object) (target_walk is_last) (target-quiet im eof is_last)) at m))

  dataset-sub : (o : Object) → Sub (whole im eof (dataset_of o)) (whole im eof (content_references s o))
  unfolding content_references dataset_of whole
  dataset-sub (group tree heap) = sub-none [] _ refl
  dataset-sub (dataset space type layout) =
      sub_same _ _ (sym (whole-quiet im eof (dataset_walk space type layout) (λ d. ret (sharings_of (shared_by d.type))) (λ x. refl)))
  dataset-sub committed = sub-none [] _ refl

  pub describe-among : Sub (whole im eof (superblock_walk s >> describe_walk at)) ss
  unfolding describe_walk
  describe-among = object-among dataset_of (dataset-sub steps.object)
