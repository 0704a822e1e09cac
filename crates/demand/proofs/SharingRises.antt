-- What the audit's steps that enter no block add to the links and sharings found.
use Prim.Native.Nat.{ℕ, ◌+◌, ◌≤◌}
use mathlib.Core.Bool.{Bool, true, false, not, ◌||◌}
use mathlib.Core.List.{List, [], ◌∷◌}
use mathlib.Core.Path.{◌≡◌, refl, ap, sym, ◌∙◌}
use native.Mathlib.Omega.{arith}
use lib.Dec.{leb, eqb}
use lib.ListN.{length, get_or}
use Rattle.std.specs.Prelude.{if◌then◌else◌}
use Rattle.format.specs.Bytes.{in_range, part, u8, u16, u64}
use Rattle.format.specs.Result.{value, ◌>>=◌}
use Rattle.format.specs.Message.{Message}
use Rattle.format.specs.Header.{Object, group, dataset, committed}
use Rattle.format.specs.Attribute.{taken, name_start, shares_type, read_shared_part, read_attribute}
use Rattle.format.specs.Datatype.{Datatype, own, shared_at, shared_read}
use Rattle.format.specs.Entry.{Entry, is_hard}
use Rattle.format.specs.Ledger.{Linked, count_link, discover}
use Rattle.format.specs.Sharing.{Found, shared_mark, other_mark, place_of, share, share_each, discover_sharing, shared_by, not_committed, known}
use Rattle.laws.proofs.Results.{both_values, check-value}
use Rattle.ledger.specs.Links.{link_sum}
use Rattle.ledger.proofs.LedgerLaws.{discover-hard, discover-other, count-sum}

-- all links and sharings found
abbrev pub total : Found → ℕ
total f = link_sum f.objects

-- one link more at an entry, or none
pub visit-rises : (e : Entry) (os os' : List Linked) → discover e os ≡ value os' → link_sum os' ≤ link_sum os + 1
visit-rises e os os' d = go (is_hard e) refl
  where
    go : (t : Bool) → is_hard e ≡ t → link_sum os' ≤ link_sum os + 1
    go true h = omega (arith, count-sum e.header os os' (sym (discover-hard e os h) ∙ d))
    go false h = let same : os ≡ os' = cc (discover-other e os h) in omega (arith, ap link_sum same)

-- one more at a sharing
share-rises : (a : ℕ) (f f' : Found) → share a f ≡ value f' → total f' ≤ total f + 1
unfolding share
share-rises a f f' e =
    let b = both_values (count_link a f.objects) _ f' e in
    let c = check-value (not (eqb (get_or f.marks (place_of a b.0) 0) other_mark)) 10 _ f' b.2 in
    let same : f'.objects ≡ b.0 = cc c.1 in
    omega (arith, ap link_sum same, count-sum a f.objects b.0 b.1)

pub shares-rise : (addresses : List ℕ) (f f' : Found) → share_each addresses f ≡ value f' → total f' ≤ total f + length addresses
unfolding share_each
shares-rise [] f f' e = let same : f ≡ f' = cc in omega (arith, ap total same)
shares-rise (a ∷ rest) f f' e =
    let b = both_values (share a f) (share_each rest) f' e in
    omega (arith, share-rises a f b.0 b.1, shares-rise rest b.0 f' b.2)

-- an attribute shares at most one address, and so does a datatype message
attribute-one : (b : List ℕ) (addresses : List ℕ) → read_attribute b ≡ value addresses → length addresses ≤ 1
unfolding read_attribute read_shared_part
attribute-one b addresses e =
    let version = u8 b 0 in
    let start = name_start version + taken version (u16 b 2) in
    let long = check-value (leb 8 (length b)) 10 _ addresses e in
    let known-version = check-value (in_range 1 3 version) 3 _ addresses long.1 in
    let known-flags = check-value (eqb version 1 || leb (u8 b 1) 1) 3 _ addresses known-version.1 in
    let inside = check-value (leb (start + taken version (u16 b 4) + taken version (u16 b 6)) (length b)) 10 _ addresses known-flags.1 in
    go (shares_type b) (part b start (u16 b 4)) inside.1
  where
    part-one : (p : List ℕ) → read_shared_part p ≡ value addresses → length addresses ≤ 1
    part-one p q =
        let long = check-value (leb 10 (length p)) 10 _ addresses q in
        let read = check-value (shared_read p) 3 _ addresses long.1 in
        let one : u64 p 2 ∷ [] ≡ addresses = cc read.1 in
        omega (arith, ap (λ (xs : List ℕ). length xs) one)

    go : (t : Bool) (p : List ℕ) → (if t then read_shared_part p else value []) ≡ value addresses → length addresses ≤ 1
    go true p q = part-one p q
    go false p q = let none : [] ≡ addresses = cc in omega (arith, ap (λ (xs : List ℕ). length xs) none)

pub message-rises : (m : Message) (f f' : Found) → discover_sharing m f ≡ value f' → total f' ≤ total f + 1
unfolding discover_sharing
message-rises m f f' e = go (eqb m.type 0x000c) e
  where
    go : (t : Bool) → (if t then read_attribute m.body >>= (λ addresses. share_each addresses f) else value f) ≡ value f' →
        total f' ≤ total f + 1
    go true q =
        let b = both_values (read_attribute m.body) _ f' q in
        omega (arith, attribute-one m.body b.0 b.1, shares-rise b.0 f f' b.2)
    go false q = let same : f ≡ f' = cc in omega (arith, ap total same)

pub type-one : (t : Datatype) → length (shared_by t) ≤ 1
type-one (own class version bits size) = omega arith
type-one (shared_at address) = omega arith

other-rises : (i : ℕ) (f f' : Found) → not_committed i f ≡ value f' → total f' ≤ total f
unfolding not_committed
other-rises i f f' e =
    let c = check-value (not (eqb (get_or f.marks i 0) shared_mark)) 10 _ f' e in
    let same : f'.objects ≡ f.objects = cc c.1 in
    omega (arith, ap link_sum same)

pub known-rises : (i : ℕ) (o : Object) (f f' : Found) → known i o f ≡ value f' → total f' ≤ total f
known-rises i (group tree heap) f f' e = other-rises i f f' e
known-rises i (dataset space type layout) f f' e = other-rises i f f' e
known-rises i committed f f' e = let same : f ≡ f' = cc in omega (arith, ap total same)
