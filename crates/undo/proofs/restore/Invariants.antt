-- The image holds the old counts from the ith entry on; each turn reads the entry before and writes its old count. Writing keeps the length,
-- so that each field stays inside.
use Rattle.std.proofs.Common.{◌≡◌, ◌≤◌, ◌/◌, length, drop}
use Rattle.format.specs.Log.{changes, restored}
use Rattle.undo.specs.Reply.{words_of}
use Rattle.undo.proofs.restore.Given as goal

abbrev pub invariant-loop-i : goal.invariant-loop-i
invariant-loop-i l =
    (l.i ≤ length l.log / 16) × (length l.image ≡ length l.initial.image) ×
    (l.image ≡ restored l.initial.image (drop l.i (changes (length l.log / 16) (words_of l.log))))
