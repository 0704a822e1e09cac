-- A right count leaves the log as it is; a wrong one is written behind the first n entries.
use native.Mathlib.Omega.{arith}
use Prim.Native.Nat.{◌+◌, ◌≤◌}
use lib.ListN.{length}
use lib.ListN.{length-set}
use Rattle.undo_log.proofs.LogLaws.{entry-none, entry-room, entry-one}
use Rattle.undo_log.proofs.put_entry.Goals as goal
use Rattle.undo_log.proofs.put_entry.Goals.{Else-stored-true_count}

pub returns-then-stored-true_count : goal.returns-then-stored-true_count
returns-then-stored-true_count c =
    let a = c.args in
    let p = entry-none a.log.now a.n a.address a.stored a.true_count c.if-stored-true_count.true in
    record {
      value = p.0;
      log_after = p.1;
      news_fit = p.2;
    }

-- a wrong count has room for its entry
room : (c : Else-stored-true_count) → c.args.n + c.args.n + 2 ≤ length c.args.log.now
room c =
    let a = c.args in
    entry-room a.log.now a.n a.address a.stored a.true_count c.if-stored-true_count.false c.requires.true_count_in_bounds

pub bounds-log-n : goal.bounds-log-n
bounds-log-n c = omega (arith, room c)

pub bounds-log-n-2 : goal.bounds-log-n-2
bounds-log-n-2 c = simp length-set (omega (arith, room c))

pub returns : goal.returns
returns c =
    let a = c.args in
    let p = entry-one a.log.now a.n a.address a.stored a.true_count c.if-stored-true_count.false (omega (arith, c.ranges.true_count)) (room c) in
    record {
      value = p.0;
      log_after = p.1;
      news_fit = p.2;
    }
