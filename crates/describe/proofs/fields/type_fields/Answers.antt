-- Each field by the case of the datatype.
use Rattle.describe.proofs.fields.type_fields.Goals as goal

pub returns-in-Own : goal.returns-in-Own
returns-in-Own c = let e = c.in-Own.is in record { class = rw e; version = rw e; bits = rw e; size = rw e; shared = rw e }
