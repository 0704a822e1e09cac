-- The steps of the code that walks an object against the steps of its walk.
use Prim.Native.Nat.{ℕ, ◌≤◌}
use mathlib.Core.Bool.{true, false}
use mathlib.Core.List.{List}
use mathlib.Core.Path.{◌≡◌, ap, sym, ◌∙◌}
use native.Mathlib.Omega.{arith}
use lib.ListN.{length}
use Rattle.format.specs.declared.Refusal.{Refusal}
use Rattle.format.specs.Result.{value, answer}
use Rattle.format.specs.Walk.{Walk, ret, refuse, fault, located, ◌>>=◌, ◌>>◌, run}
use Rattle.format.specs.Message.{Message}
use Rattle.format.specs.Header.{Object, group, dataset, committed, Headed, header_with}
use Rattle.format.specs.Dataset.{head_at, storage_walk}
use Rattle.format.specs.Tree.{group_walk}
use Rattle.format.specs.Ledger.{discover}
use Rattle.format.specs.Sharing.{Found, share_each, discover_sharing, shared_by, known, not_committed}
use Rattle.format.specs.Object.{sharing_dataset, content_walk, object_walk}
use Rattle.walk.specs.Lent.{blocks_of, places_of, Lent, ended, stopped, Walked}
use Rattle.walk.proofs.BlockList.{places-most, lent_none}
use Rattle.laws.proofs.Growth.{Grown}
use Rattle.laws.proofs.SumOfLengths.{grown-apart, grown-inside, grown-lengths}
use Rattle.laws.proofs.Simulation.{Simulation, start, same-walk, returned, callee-value, callee-refusal, callee-done, callee-stopped, callee-last}
use Rattle.ledger.specs.Links.{link_sum}
use Rattle.ledger.specs.Table.{linked_of, Table}
use Rattle.std.specs.Prelude.{Result, Ok, Err}
use Rattle.sharing.specs.Sharing.{found_of, Kept, Counting, KindKnown}
use Rattle.dataset.specs.Dataset.{SpaceAndType, parts_walk}
use Rattle.dataset.proofs.DatasetLaws.{parts-split}
use Rattle.group.specs.Group.{Ready, GroupIs}
use Rattle.superblock.specs.Superblock.{superblock_of}
use Rattle.superblock.specs.declared.Superblock as superblocks
use Rattle.object.specs.Object.{Opened, Bounded, Listed, ObjectRead, walked_to, FoundWalked, behind_header}

-- an image that was opened, with the room that a list of so many words gives
pub opened : (im : List ℕ) (s : superblocks.Superblock) (room lent : ℕ) → room ≡ places_of lent → Bounded im s → Opened im s room
opened im s room lent is b = record { file = b.2; small = b.3; bounded = b.5; most = rw is (places-most lent); leaf = b.0; internal = b.1 }

-- the whole list is lent, with no block entered
pub room-lent : (ws : List ℕ) (room : ℕ) → room ≡ places_of (length ws) → Lent ws 0 room
room-lent ws room is = rw is (lent_none ws)

-- What lists keep: with more blocks, with other marks, with a link more, with less to spare.
module _ {ws addresses counts marks : List ℕ} {eof room count objects spare : ℕ} (h : Listed ws addresses counts marks eof room count objects spare) where
  pub listed_more : {ws₁ : List ℕ} {n : ℕ} → Lent ws₁ n room → Grown eof room (blocks_of count ws) (blocks_of n ws₁) →
      Listed ws₁ addresses counts marks eof room n objects spare
  listed_more l g = record {
    lent = l;
    counting = record {
      small = h.counting.small;
      apart = grown-apart g h.counting.apart;
      inside = grown-inside g h.counting.inside;
      table = h.counting.table;
      marked = h.counting.marked;
      links = omega (arith, h.counting.links, grown-lengths g);
    };
  }

  pub listed-marked : {marks' : List ℕ} → length marks' ≡ length marks → Listed ws addresses counts marks' eof room count objects spare
  listed-marked e = record {
    lent = h.lent;
    counting = record {
      small = h.counting.small;
      apart = h.counting.apart;
      inside = h.counting.inside;
      table = h.counting.table;
      marked = omega (arith, h.counting.marked);
      links = h.counting.links;
    };
  }

  pub listed-counted : {addresses' counts' marks' : List ℕ} {objects' : ℕ} → Kept addresses counts objects spare addresses' counts' marks' objects' →
      Listed ws addresses' counts' marks' eof room count objects' 0
  listed-counted k = record {
    lent = h.lent;
    counting = record {
      small = h.counting.small;
      apart = h.counting.apart;
      inside = h.counting.inside;
      table = k.table;
      marked = k.marked;
      links = omega (arith, h.counting.links, k.links);
    };
  }

  pub listed-less : (less : ℕ) → less ≤ spare → Listed ws addresses counts marks eof room count objects less
  listed-less less l = record {
    lent = h.lent;
    counting = record {
      small = h.counting.small;
      apart = h.counting.apart;
      inside = h.counting.inside;
      table = h.counting.table;
      marked = h.counting.marked;
      links = omega (arith, h.counting.links);
    };
  }

  -- after a group
  pub ready-listed : {ws₁ addresses₁ counts₁ : List ℕ} {n objects₁ : ℕ} → Table addresses₁ counts₁ objects₁ →
      Ready ws₁ eof room n (link_sum (linked_of objects₁ addresses₁ counts₁)) → Listed ws₁ addresses₁ counts₁ marks eof room n objects₁ 0
  ready-listed t r = record {
    lent = r.lent;
    counting = record {
      small = h.counting.small;
      apart = r.apart;
      inside = r.inside;
      table = t;
      marked = h.counting.marked;
      links = omega (arith, r.links);
    };
  }

module _ (im : List ℕ) (s : superblocks.Superblock) (room : ℕ) (ws addresses counts marks : List ℕ) (count objects : ℕ) where
  abbrev eof : ℕ
  eof = s.end_of_file

  abbrev f : Found
  f = found_of addresses counts marks objects

  -- what w makes of what was found
  abbrev Walks : (Found → Walk Found) → List ℕ → List ℕ → List ℕ → List ℕ → Result ObjectRead Refusal → Type 0
  Walks w ws₁ addresses₁ counts₁ marks₁ r = FoundWalked im ws addresses counts marks s room w count objects ws₁ addresses₁ counts₁ marks₁ r

  module _ {spare : ℕ} (y : Listed ws addresses counts marks eof room count objects spare) where
    begun : (w : Found → Walk Found) → Simulation im eof room (w f) count ws (w f) count ws
    begun w = start im eof room (w f) count ws y.lent

    -- a group was read
    pub group-is : (tree heap : ℕ) (ws₁ addresses₁ counts₁ : List ℕ) (n objects₁ : ℕ) (r : Result (Unit {0}) Refusal) → length ws₁ ≡ length ws →
        Table addresses₁ counts₁ objects₁ →
        GroupIs im ws discover eof room s.leaf_k s.internal_k tree heap count f.objects ws₁ n (link_sum (linked_of objects₁ addresses₁ counts₁))
        (linked_of objects₁ addresses₁ counts₁) r →
        Walks (content_walk (superblock_of s) (group tree heap)) ws₁ addresses₁ counts₁ marks (walked_to n objects₁ r)
    unfolding content_walk
    group-is tree heap ws₁ addresses₁ counts₁ n objects₁ (Ok u) same t h = record {
      walked = returned (callee-done ws₁ (group_walk s.leaf_k s.internal_k tree heap discover f.objects) _
          (begun (content_walk (superblock_of s) (group tree heap))) same h.walked);
      listed = ready-listed y t h.ready;
    }
    group-is tree heap ws₁ addresses₁ counts₁ n objects₁ (Err x) same t h = record {
      walked = callee-stopped ws₁ (group_walk s.leaf_k s.internal_k tree heap discover f.objects) _
          (begun (content_walk (superblock_of s) (group tree heap))) h.walked;
      listed = tt;
    }

    -- a dataset was read
    module _ (space type layout : Message) where
      abbrev w : Found → Walk Found
      w = content_walk (superblock_of s) (dataset space type layout)

      at-parts : Simulation im eof room (w f) count ws
          (parts_walk space type >>= λ p. located (head_at type) (share_each (shared_by p.type) f) >>= λ f'. storage_walk p.space p.type layout >> ret f')
          count ws
      unfolding content_walk sharing_dataset
      at-parts =
          same-walk _
          (parts-split space type (λ d t. located (head_at type) (share_each (shared_by t) f) >>= λ f'. storage_walk d t layout >> ret f')) (begun w)

      pub parts-refused : (x : Refusal) → refuse x ≡ parts_walk space type → Walks w ws addresses counts marks (Err x)
      parts-refused x e = record { walked = callee-refusal _ _ x (sym e) at-parts; listed = tt }

      module _ (p : SpaceAndType) (e : ret p ≡ parts_walk space type) (addresses₁ counts₁ marks₁ : List ℕ) where
        at-sharing : Simulation im eof room (w f) count ws
            (located (head_at type) (share_each (shared_by p.type) f) >>= λ f'. storage_walk p.space p.type layout >> ret f') count ws
        at-sharing = callee-value _ _ p (sym e) at-parts

        pub sharing-refused : (n : ℕ) → answer n ≡ share_each (shared_by p.type) f → Walks w ws addresses₁ counts₁ marks₁ (Err (fault n (head_at type)))
        sharing-refused n g = record { walked = callee-refusal _ _ (fault n (head_at type)) (ap (located (head_at type)) (sym g)) at-sharing; listed = tt }

        module _ (objects₁ : ℕ) (g : value (found_of addresses₁ counts₁ marks₁ objects₁) ≡ share_each (shared_by p.type) f) (ws₁ : List ℕ) where
          abbrev f₁ : Found
          f₁ = found_of addresses₁ counts₁ marks₁ objects₁

          at-storage : Simulation im eof room (w f) count ws (storage_walk p.space p.type layout >> ret f₁) count ws
          at-storage = callee-value _ _ f₁ (ap (located (head_at type)) (sym g)) at-sharing

          pub storage-stopped : (x : Refusal) → Walked ws ws₁ (stopped x) (run im eof room (storage_walk p.space p.type layout) (blocks_of count ws)) →
              Walks w ws₁ addresses₁ counts₁ marks₁ (Err x)
          storage-stopped x h = record { walked = callee-stopped ws₁ _ _ at-storage h; listed = tt }

          pub storage-read : (d : Rattle.format.specs.Dataset.Dataset) (n : ℕ) → length ws₁ ≡ length ws →
              Walked ws ws₁ (ended d n) (run im eof room (storage_walk p.space p.type layout) (blocks_of count ws)) →
              Kept addresses counts objects spare addresses₁ counts₁ marks₁ objects₁ →
              Walks w ws₁ addresses₁ counts₁ marks₁ (Ok (record { count = n; objects = objects₁ }))
          storage-read d n same h k =
              let m = callee-done ws₁ _ _ at-storage same h in
              record { walked = returned m; listed = listed_more (listed-counted y k) m.lent m.blocks }

    -- the kind is known: of an object that is no committed datatype
    module _ (i at : ℕ) (o : Object) (e : known i o f ≡ not_committed i f) (marks₁ : List ℕ) where
      pub shared-before : KindKnown marks i marks₁ false → Walks (behind_header s i at o) ws addresses counts marks₁ (Err (fault 10 at))
      shared-before k = record {
        walked = callee-refusal _ _ (fault 10 at) (ap (located at) (e ∙ sym (k.walk f.objects))) (begun (behind_header s i at o));
        listed = tt;
      }

      pub not-shared : KindKnown marks i marks₁ true → (ws₂ addresses₂ counts₂ marks₂ : List ℕ) (r : Result ObjectRead Refusal) →
          FoundWalked im ws addresses counts marks₁ s room (content_walk (superblock_of s) o) count objects ws₂ addresses₂ counts₂ marks₂ r →
          Walks (behind_header s i at o) ws₂ addresses₂ counts₂ marks₂ r
      not-shared k ws₂ addresses₂ counts₂ marks₂ r c =
          let m = callee-value _ _ (found_of addresses counts marks₁ objects) (ap (located at) (e ∙ sym (k.walk f.objects)))
          (begun (behind_header s i at o)) in
          record { walked = callee-last ws₂ m c.walked; listed = c.listed }

    -- the header was read
    module _ (i at : ℕ) (ws₁ : List ℕ) where
      abbrev whole : Found → Walk Found
      whole = object_walk (superblock_of s) i at

      abbrev header : Walk (Headed Found)
      header = header_with discover_sharing at f

      at-header : Simulation im eof room (whole f) count ws (header >>= λ h. behind_header s i at h.object h.found) count ws
      unfolding object_walk
      at-header = begun whole

      pub header-stopped : (addresses₁ counts₁ marks₁ : List ℕ) (x : Refusal) → Walked ws ws₁ (stopped x) (run im eof room header (blocks_of count ws)) →
          Walks whole ws₁ addresses₁ counts₁ marks₁ (Err x)
      header-stopped addresses₁ counts₁ marks₁ x h = record { walked = callee-stopped ws₁ _ _ at-header h; listed = tt }

      module _ (o : Object) (n : ℕ) (addresses₁ counts₁ marks₁ : List ℕ) (objects₁ : ℕ) (same : length ws₁ ≡ length ws)
          (h : Walked ws ws₁ (ended (record { object = o; found = found_of addresses₁ counts₁ marks₁ objects₁ }) n)
          (run im eof room header (blocks_of count ws))) where
        at-kind : Simulation im eof room (whole f) count ws (behind_header s i at o (found_of addresses₁ counts₁ marks₁ objects₁)) n ws₁
        at-kind = callee-done ws₁ _ _ at-header same h

        pub kind-listed : (left : ℕ) → Counting addresses₁ counts₁ marks₁ objects₁ eof (blocks_of n ws₁) left →
            Listed ws₁ addresses₁ counts₁ marks₁ eof room n objects₁ left
        kind-listed left c = record { lent = at-kind.lent; counting = c }

        pub kind-read : (ws₂ addresses₂ counts₂ marks₂ : List ℕ) (r : Result ObjectRead Refusal) →
            FoundWalked im ws₁ addresses₁ counts₁ marks₁ s room (behind_header s i at o) n objects₁ ws₂ addresses₂ counts₂ marks₂ r →
            Walks whole ws₂ addresses₂ counts₂ marks₂ r
        kind-read ws₂ addresses₂ counts₂ marks₂ r c = record { walked = callee-last ws₂ at-kind c.walked; listed = c.listed }

      -- a committed datatype has nothing behind its header
      pub committed-read : (n : ℕ) (addresses₁ counts₁ marks₁ : List ℕ) (objects₁ : ℕ) → length ws₁ ≡ length ws →
          Walked ws ws₁ (ended (record { object = committed; found = found_of addresses₁ counts₁ marks₁ objects₁ }) n)
          (run im eof room header (blocks_of count ws)) →
          (left : ℕ) → Counting addresses₁ counts₁ marks₁ objects₁ eof (blocks_of n ws₁) left →
          Walks whole ws₁ addresses₁ counts₁ marks₁ (Ok (record { count = n; objects = objects₁ }))
      unfolding content_walk ◌>>=◌
      committed-read n addresses₁ counts₁ marks₁ objects₁ same h left c = record {
        walked = returned (at-kind committed n addresses₁ counts₁ marks₁ objects₁ same h);
        listed = listed-less (kind-listed committed n addresses₁ counts₁ marks₁ objects₁ same h left c) 0 (omega arith);
      }

-- Behind a header that was read, of an object that is no committed datatype: its kind is known, then its contents are walked.
module _ (im : List ℕ) (s : superblocks.Superblock) (room : ℕ) (ws addresses counts marks : List ℕ) (count objects i at : ℕ) {spare : ℕ}
    (y : Listed ws addresses counts marks s.end_of_file room count objects spare) (o : Object) (n : ℕ) (ws₁ addresses₁ counts₁ marks₁ : List ℕ) (objects₁ : ℕ)
    (same : length ws₁ ≡ length ws)
    (h : Walked ws ws₁ (ended (record { object = o; found = found_of addresses₁ counts₁ marks₁ objects₁ }) n)
    (run im s.end_of_file room (header_with discover_sharing at (found_of addresses counts marks objects)) (blocks_of count ws)))
    (c : Counting addresses₁ counts₁ marks₁ objects₁ s.end_of_file (blocks_of n ws₁) 16) where
  listed : Listed ws₁ addresses₁ counts₁ marks₁ s.end_of_file room n objects₁ 16
  listed = kind-listed im s room ws addresses counts marks count objects y i at ws₁ o n addresses₁ counts₁ marks₁ objects₁ same h 16 c

  pub known-listed : (left : ℕ) (marks₂ : List ℕ) → left ≤ 16 → length marks₂ ≡ length marks₁ →
      Listed ws₁ addresses₁ counts₁ marks₂ s.end_of_file room n objects₁ left
  known-listed left marks₂ l e = listed-marked (listed-less listed left l) e

  module _ (e : known i o (found_of addresses₁ counts₁ marks₁ objects₁) ≡ not_committed i (found_of addresses₁ counts₁ marks₁ objects₁)) (marks₂ : List ℕ) where
    behind : (ws₂ addresses₂ counts₂ marks₂ : List ℕ) (r : Result ObjectRead Refusal) →
        FoundWalked im ws₁ addresses₁ counts₁ marks₁ s room (behind_header s i at o) n objects₁ ws₂ addresses₂ counts₂ marks₂ r →
        FoundWalked im ws addresses counts marks s room (object_walk (superblock_of s) i at) count objects ws₂ addresses₂ counts₂ marks₂ r
    behind = kind-read im s room ws addresses counts marks count objects y i at ws₁ o n addresses₁ counts₁ marks₁ objects₁ same h

    pub known-refused : KindKnown marks₁ i marks₂ false →
        FoundWalked im ws addresses counts marks s room (object_walk (superblock_of s) i at) count objects ws₁ addresses₁ counts₁ marks₂ (Err (fault 10 at))
    known-refused k = behind _ _ _ _ _ (shared-before im s room ws₁ addresses₁ counts₁ marks₁ n objects₁ listed i at o e marks₂ k)

    pub known-read : KindKnown marks₁ i marks₂ true → (ws₂ addresses₂ counts₂ marks₃ : List ℕ) (r : Result ObjectRead Refusal) →
        FoundWalked im ws₁ addresses₁ counts₁ marks₂ s room (content_walk (superblock_of s) o) n objects₁ ws₂ addresses₂ counts₂ marks₃ r →
        FoundWalked im ws addresses counts marks s room (object_walk (superblock_of s) i at) count objects ws₂ addresses₂ counts₂ marks₃ r
    known-read k ws₂ addresses₂ counts₂ marks₃ r w =
        behind _ _ _ _ _ (not-shared im s room ws₁ addresses₁ counts₁ marks₁ n objects₁ listed i at o e marks₂ k ws₂ addresses₂ counts₂ marks₃ r w)
