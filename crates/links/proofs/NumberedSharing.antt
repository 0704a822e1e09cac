-- The numbers with which discoveries and sharings are refused: 3, 10, 12.
use Prim.Native.Nat.{ℕ}
use mathlib.Core.List.{List, [], ◌∷◌}
use Rattle.format.specs.Header.{Object, group, dataset, committed}
use Rattle.format.specs.Message.{Message}
use Rattle.format.specs.Entry.{Entry}
use Rattle.format.specs.Attribute.{read_shared_part, read_attribute}
use Rattle.format.specs.Ledger.{Linked, count_link, discover}
use Rattle.format.specs.Sharing.{Found, share, share_each, discover_sharing, not_committed, known}
use Rattle.links.proofs.Numbered.{Answered, answered-bind, answered-value, answers}

module _ (N : ℕ → Type 0) (three : N 3) (ten : N 10) (twelve : N 12) where
  link-answered : (a : ℕ) (os : List Linked) → Answered N (count_link a os)
  unfolding count_link
  link-answered a os = search answers depth 8

  pub discover-answered : (e : Entry) (os : List Linked) → Answered N (discover e os)
  unfolding discover
  discover-answered e os = search (answers, link-answered) depth 8

  share-answered : (a : ℕ) (f : Found) → Answered N (share a f)
  unfolding share
  share-answered a f = search (answers, link-answered) depth 8

  pub shares-answered : (addresses : List ℕ) (f : Found) → Answered N (share_each addresses f)
  unfolding share_each
  shares-answered [] f = answered-value N f
  shares-answered (a ∷ rest) f = answered-bind N (share a f) (share_each rest) (share-answered a f) (shares-answered rest)

  part-answered : (p : List ℕ) → Answered N (read_shared_part p)
  unfolding read_shared_part
  part-answered p = search answers depth 8

  attribute-answered : (b : List ℕ) → Answered N (read_attribute b)
  unfolding read_attribute
  attribute-answered b = search (answers, part-answered) depth 20

  pub sharing-answered : (m : Message) (f : Found) → Answered N (discover_sharing m f)
  unfolding discover_sharing
  sharing-answered m f = search (answers, attribute-answered, shares-answered) depth 8

  other-answered : (i : ℕ) (f : Found) → Answered N (not_committed i f)
  unfolding not_committed
  other-answered i f = search answers depth 8

  pub known-answered : (i : ℕ) (o : Object) (f : Found) → Answered N (known i o f)
  known-answered i (group tree heap) f = other-answered i f
  known-answered i (dataset space type layout) f = other-answered i f
  known-answered i committed f = answered-value N f
