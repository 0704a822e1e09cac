-- The first of its own type by `one_more`, and those of other types as they were.
use Rattle.tally.proofs.TallyLaws.{first-kept, total-more}
use native.Mathlib.Omega.{arith}
use Rattle.tally.proofs.counted.Goals as goal

pub returns-in-1 : goal.returns-in-1
returns-in-1 c = λ im ms p t. record {
  total = total-more ms _ _ _ t.total c.next_total.ensures;
  space = rw c.in-1.is (c.one_more.ensures im ms 1 (rw c.in-1.is at p) t.space);
  datatype = first-kept im ms _ 3 _ (λ e. omega (arith, e, c.in-1.is)) t.datatype;
  layout = first-kept im ms _ 8 _ (λ e. omega (arith, e, c.in-1.is)) t.layout;
  table = first-kept im ms _ 17 _ (λ e. omega (arith, e, c.in-1.is)) t.table;
}

pub returns-in-3 : goal.returns-in-3
returns-in-3 c = λ im ms p t. record {
  total = total-more ms _ _ _ t.total c.next_total.ensures;
  space = first-kept im ms _ 1 _ (λ e. omega (arith, e, c.in-3.is)) t.space;
  datatype = rw c.in-3.is (c.one_more-in-3.ensures im ms 3 (rw c.in-3.is at p) t.datatype);
  layout = first-kept im ms _ 8 _ (λ e. omega (arith, e, c.in-3.is)) t.layout;
  table = first-kept im ms _ 17 _ (λ e. omega (arith, e, c.in-3.is)) t.table;
}

pub returns-in-8 : goal.returns-in-8
returns-in-8 c = λ im ms p t. record {
  total = total-more ms _ _ _ t.total c.next_total.ensures;
  space = first-kept im ms _ 1 _ (λ e. omega (arith, e, c.in-8.is)) t.space;
  datatype = first-kept im ms _ 3 _ (λ e. omega (arith, e, c.in-8.is)) t.datatype;
  layout = rw c.in-8.is (c.one_more-in-8.ensures im ms 8 (rw c.in-8.is at p) t.layout);
  table = first-kept im ms _ 17 _ (λ e. omega (arith, e, c.in-8.is)) t.table;
}

pub returns-in-17 : goal.returns-in-17
returns-in-17 c = λ im ms p t. record {
  total = total-more ms _ _ _ t.total c.next_total.ensures;
  space = first-kept im ms _ 1 _ (λ e. omega (arith, e, c.in-17.is)) t.space;
  datatype = first-kept im ms _ 3 _ (λ e. omega (arith, e, c.in-17.is)) t.datatype;
  layout = first-kept im ms _ 8 _ (λ e. omega (arith, e, c.in-17.is)) t.layout;
  table = rw c.in-17.is (c.one_more-in-17.ensures im ms 17 (rw c.in-17.is at p) t.table);
}

pub returns-in_default : goal.returns-in_default
returns-in_default c = λ im ms p t. record {
  total = total-more ms _ _ _ t.total c.next_total.ensures;
  space = first-kept im ms _ 1 _ (λ e. omega arith) t.space;
  datatype = first-kept im ms _ 3 _ (λ e. omega arith) t.datatype;
  layout = first-kept im ms _ 8 _ (λ e. omega arith) t.layout;
  table = first-kept im ms _ 17 _ (λ e. omega arith) t.table;
}
