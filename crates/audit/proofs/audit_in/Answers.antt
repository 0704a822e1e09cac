-- Arrays of zeros are empty lists, and the addresses of a done audit are copied into its ledger.
use Prim.Native.Nat.{ℕ, ◌*◌}
use mathlib.Core.List.{List}
use mathlib.Core.Path.{◌≡◌, refl, sym}
use lib.ListN.{length}
use Rattle.format.specs.Limits.{objects_most}
use Rattle.format.specs.Blocks.{room_of}
use Rattle.std.specs.Prelude.{Ok}
use Rattle.walk.specs.Lent.{places_of, handed}
use Rattle.audit.specs.Audit.{Placed, AuditedIs}
use Rattle.audit.specs.declared.Audited.{Audited}
use Rattle.walk.proofs.BlockList.{places-most, room-fours}
use Rattle.ledger.specs.Index.{table_words}
use Rattle.audit.proofs.ReplyLaws.{empty-table, refused-reply, full-reply}
use native.Mathlib.Omega.{arith}
use lib.Seq.{length-take-le}
use Rattle.ledger.proofs.ReportLaws.{copied-taken}
use Rattle.audit.proofs.audit_in.Goals as goal

pub audit_into-requires : goal.audit_into-requires
unfolding objects_most
audit_into-requires c = record { addresses_empty = empty-table table_words (omega arith); stored_empty = refl; counts_empty = refl }

-- the objects have places
placed : (im ws ws' addresses stored counts : List ℕ) (a : Audited) →
    ((lent : ℕ) → room_of lent ≡ places_of (length ws) → AuditedIs im lent (handed lent a.block_count ws') addresses stored counts (Ok a)) →
    Placed im addresses stored counts a.objects
placed im ws ws' addresses stored counts a h =
    let room = places_of (length ws) in
    (h (4 * room) (room-fours room (places-most (length ws)))).placed

pub slice_bounds-objects_table-end : goal.slice_bounds-objects_table-end
unfolding objects_most
slice_bounds-objects_table-end c =
    let h = placed c.args.image.now c.args.list.now _ _ _ _ _ c.in-Ok.ensures.by_index in
    omega (arith, h.readable.listed, c.audit_into.auto.addresses)

pub slice_bounds-table-end : goal.slice_bounds-table-end
unfolding objects_most
slice_bounds-table-end c =
    let h = placed c.args.image.now c.args.list.now _ _ _ _ _ c.in-Ok.ensures.by_index in
    sym (length-take-le _ _ h.readable.listed)

pub fill-requires : goal.fill-requires
unfolding objects_most
fill-requires c =
    let h = placed c.args.image.now c.args.list.now _ _ _ _ _ c.in-Ok.ensures.by_index in
    rw (length-take-le _ _ h.readable.listed) h.fits

pub returns-in-Ok : goal.returns-in-Ok
returns-in-Ok c =
    let a = c.in-Ok.audited in
    let table = c.audit_into.new.addresses in
    record {
      block_count_bound = c.in-Ok.ensures.block_count_bound;
      by_index = λ lent fit.
          let h = c.in-Ok.ensures.by_index lent fit in
          let l = h.placed.readable.listed in
          let e = length-take-le a.objects table l in
          rw (c.fill.ensures.whole, e) (full-reply c.args.image.now lent _ _ _ _ a h _ (copied-taken table a.objects l _ _ c.fill.ensures.copied));
      refused = tt;
    }

pub returns-in-Err : goal.returns-in-Err
returns-in-Err c =
    record {
      block_count_bound = tt;
      by_index = λ lent fit. refused-reply c.args.image.now lent _ _ _ _ _ (c.in-Err.ensures.by_index lent fit);
      refused = c.clear.ensures;
    }
