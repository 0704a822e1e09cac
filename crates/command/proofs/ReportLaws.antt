-- What was written is what the command prints: for an input that is too long, and for one that was audited.
use Prim.Native.Nat.{ℕ, ◌+◌, ◌*◌, ◌≤◌, ◌<◌}
use mathlib.Core.List.{List, []}
use mathlib.Core.Path.{◌≡◌, ap, sym, ◌∙◌}
use native.Mathlib.Omega.{arith}
use borrow.Author.Tests.{le-leb, lt-leb}
use lib.ListN.{length}
use Rattle.format.specs.Limits.{input_most, command_blocks}
use Rattle.format.specs.Bytes.{overwrite}
use Rattle.format.specs.Audit.{Counted}
use Rattle.format.specs.Command.{object_lines, lines, command}
use Rattle.std.specs.Prelude.{Ok, Err}
use Rattle.format.specs.declared.Refusal.{Refusal}
use Rattle.format.specs.Walk.{answer_of}
use Rattle.format.specs.Answers.{AuditReply, audit}
use Rattle.ledger.specs.Report.{counted_of}
use Rattle.audit.specs.Audit.{with_ledger, AuditIs}
use Rattle.audit.specs.declared.Reply.{Reply}
use Rattle.walk.proofs.Overwrite.{length-overwrite, part-overwrite}
use Rattle.output.specs.Text.{first_line, output_most, Printed}
use Rattle.output.proofs.OverwriteLaws.{overwrite-behind}
use Rattle.output.proofs.LineLaws.{length-places, length-lines, lines-written}

command-long : (input : List ℕ) → input_most < length input → command input ≡ lines 1 []
unfolding command
command-long input h = rw (lt-leb (length input) input_most h)

command-short : (input : List ℕ) → length input ≤ input_most →
    command input ≡ lines (audit input (4 * command_blocks)).number (audit input (4 * command_blocks)).objects
unfolding command
command-short input h = rw (le-leb (length input) input_most h)

-- the lines of any answer and objects
printed : (input b : List ℕ) (n : ℕ) (os : List Counted) → command input ≡ lines n os → 17 + 33 * length os ≤ length b →
    Printed input b (overwrite (overwrite b 0 (first_line n (length os))) 17 (object_lines os)) (17 + 33 * length os)
printed input b n os e h =
    let l = length-lines n os in
    rw (lines-written, ← l)
    (record {
      within = rw length-overwrite (omega arith);
      text = part-overwrite b 0 (lines n os) (omega arith) ∙ sym e;
      rest = overwrite-behind b (lines n os)
          (omega arith);
    })

pub printed-long : (input b : List ℕ) → input_most < length input → output_most ≤ length b → Printed input b (overwrite b 0 (first_line 1 0)) 17
unfolding output_most object_lines overwrite
printed-long input b h l = printed input b 1 [] (command-long input h) (omega arith)

-- what the command prints of an audit's answer and objects
audited : (input : List ℕ) (lent : ℕ) (a : AuditReply) → a ≡ audit input lent → lent ≡ 4 * command_blocks → length input ≤ input_most →
    command input ≡ lines a.number a.objects
audited input lent a is e h =
    command-short input h ∙ ap (λ (k : ℕ). lines (audit input k).number (audit input k).objects) (sym e)
    ∙ ap (λ (x : AuditReply). lines x.number x.objects) (sym is)

module _ (input b ws : List ℕ) (lent : ℕ) (e : lent ≡ 4 * command_blocks) (h : length input ≤ input_most) (m : output_most ≤ length b) where
  pub printed-refused : (x : Refusal) (n : ℕ) → n ≡ answer_of x → AuditIs input lent ws (Err x) → Printed input b (overwrite b 0 (first_line n 0)) 17
  unfolding output_most object_lines overwrite
  printed-refused x n is a = rw is (printed input b (answer_of x) [] (audited input lent (with_ledger ws (Err x)) a.reply e h) (omega arith))

  pub printed-audit : (r : Reply) → AuditIs input lent ws (Ok r) →
      Printed input b (overwrite (overwrite b 0 (first_line 0 r.ledger.objects)) 17 (object_lines (counted_of r.ledger))) (17 + 33 * r.ledger.objects)
  unfolding output_most
  printed-audit r a =
      let l = r.ledger in
      let places = length-places l.objects l.addresses l.stored l.true_counts in
      rw places at (printed input b 0 (counted_of l) (audited input lent (with_ledger ws (Ok r)) a.reply e h) (omega (arith, places, a.placed.fits)))
