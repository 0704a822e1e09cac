-- Each arm by what the tally has of each type.
use Rattle.kind.proofs.KindLaws.{is-group, is-dataset, is-committed, is-shared, is-none, not-absent, not-once}
use Rattle.kind.proofs.kind_of.Goals as goal

pub returns-in-Once-Once-Once-Absent : goal.returns-in-Once-Once-Once-Absent
returns-in-Once-Once-Once-Absent c =
    let m = c.in-Once-Once-Once-Absent in
    is-dataset _ _ _ _ _ _ _ _ _ m.is-0 m.is-1 m.is-2 m.is-3 c.body_at.ensures c.body_at-in-Once-Once-Once-Absent.ensures
    c.body_at-in-Once-Once-Once-Absent-2.ensures

pub returns-in-Absent-Absent-Absent-Once : goal.returns-in-Absent-Absent-Absent-Once
returns-in-Absent-Absent-Absent-Once c =
    let m = c.in-Absent-Absent-Absent-Once in
    is-group _ _ _ _ _ _ m.is-0 m.is-1 m.is-2 m.is-3 c.u64_at.ensures c.u64_at-in-Absent-Absent-Absent-Once.ensures

pub returns-then-body-eq1 : goal.returns-then-body-eq1
returns-then-body-eq1 c =
    let m = c.in-Absent-Once-Absent-Absent in
    is-shared _ _ _ _ _ m.is-0 m.is-1 m.is-2 m.is-3 c.body_at-body.ensures c.if-body-eq1.true

pub returns-else-body-eq1 : goal.returns-else-body-eq1
returns-else-body-eq1 c =
    let m = c.in-Absent-Once-Absent-Absent in
    is-committed _ _ _ _ _ m.is-0 m.is-1 m.is-2 m.is-3 c.body_at-body.ensures c.if-body-eq1.false

pub returns-in_default : goal.returns-in_default
returns-in_default c =
    let m = c.in_default in
    is-none _ _ _ (rw (m.is-0, m.is-1, m.is-2, not-once _ m.not-Once-3))

pub returns-in_default-2 : goal.returns-in_default-2
returns-in_default-2 c =
    let m = c.in_default in
    is-none _ _ _ (rw (m.is-0, m.is-1, not-absent _ m.not-Absent-2))

pub returns-in_default-3 : goal.returns-in_default-3
returns-in_default-3 c =
    let m = c.in_default in
    is-none _ _ _ (rw (m.is-0, m.is-1, m.is-2, not-absent _ m.not-Absent-3))

pub returns-in_default-4 : goal.returns-in_default-4
returns-in_default-4 c =
    let m = c.in_default in
    is-none _ _ _ (rw (m.is-0, m.is-1, not-absent _ m.not-Absent-2))

pub returns-in_default-5 : goal.returns-in_default-5
returns-in_default-5 c =
    let m = c.in_default in
    is-none _ _ _ (rw (m.is-0, m.is-1))

pub returns-in_default-6 : goal.returns-in_default-6
returns-in_default-6 c =
    let m = c.in_default in
    is-none _ _ _ (rw (m.is-0, m.is-1, m.is-2, not-absent _ m.not-Absent-3))

pub returns-in_default-7 : goal.returns-in_default-7
returns-in_default-7 c =
    let m = c.in_default in
    is-none _ _ _ (rw (m.is-0, m.is-1, not-once _ m.not-Once-2))

pub returns-in_default-8 : goal.returns-in_default-8
returns-in_default-8 c =
    let m = c.in_default in
    is-none _ _ _ (rw (m.is-0, not-once _ m.not-Once-1))

pub returns-in_default-9 : goal.returns-in_default-9
returns-in_default-9 c = is-none _ _ _ (rw c.in_default.is-0)
