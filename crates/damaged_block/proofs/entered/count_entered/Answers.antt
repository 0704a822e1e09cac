-- The blocks before this one have an address.
use Rattle.std.proofs.Common.{◌≤◌, ◌*◌, length, arith}
use Rattle.format.specs.Bytes.{undefined_address}
use Rattle.walk.proofs.BlockList.{lent_none}
use Rattle.damaged_block.proofs.Filled.{addressed-more}
use Rattle.damaged_block.proofs.entered.count_entered.Goals as goal

pub loop-count-init : goal.loop-count-init
loop-count-init c =
    let list = c.args.list.now in
    let room : 4 * c.places-room.result ≤ length list = omega (arith, c.places-room.ensures, (lent_none list).lent) in
    (room, λ k h. absurd (omega arith))

pub returns-then-list-count : goal.returns-then-list-count
unfolding undefined_address
returns-then-list-count c =
    let l = c.loop-count in
    record { within = omega (arith, c.places-room.ensures); before = l.invariant.1; after = λ h. c.if-list-count.true }

pub loop-count-preserved : goal.loop-count-preserved
unfolding undefined_address
loop-count-preserved c =
    let l = c.loop-count in
    (l.invariant.0, addressed-more c.args.list.now l.count l.invariant.1 c.if-list-count.false)

pub returns : goal.returns
returns c =
    let room = c.places-room.ensures in
    record { within = omega (arith, room); before = λ k h. c.loop-count.invariant.1 k (omega arith); after = λ h. absurd (omega (arith, rw (← room) at h)) }
