-- The header, then what stands behind it by its kind.
use mathlib.Core.Path.{refl}
use Rattle.format.specs.Header.{group, dataset}
use Rattle.object.proofs.ObjectLaws.{header-stopped, committed-read, known-listed, known-refused, known-read}
use native.Mathlib.Omega.{arith}
use Rattle.std.proofs.lemmas.Result.{err_from_is_err_and}
use Rattle.object.proofs.object.read.Goals as goal

pub read_with-requires-clause-lending : goal.read_with-requires-clause-lending
read_with-requires-clause-lending c =
    rw c.bounds.ensures (record { lent = c.requires.listed.lent; most = c.requires.opened.most; file = c.requires.opened.file })

pub read_with-requires-clause-counting : goal.read_with-requires-clause-counting
read_with-requires-clause-counting c = rw c.bounds.ensures c.requires.listed.counting

pub returns-in_err-header-clause-walked : goal.returns-in_err-header-clause-walked
returns-in_err-header-clause-walked c =
    let p = err_from_is_err_and c.from_residual.result c.from_residual.ensures.1 in
    let headed = rw c.bounds.ensures at c.in_err-header.ensures.headed in
    rw (p.1, p.2) (header-stopped _ c.args.file.superblock _ _ _ _ _ _ _ c.requires.listed _ _ _ _ _ _ _ headed.walked)

pub returns-in-Committed-clause-walked : goal.returns-in-Committed-clause-walked
returns-in-Committed-clause-walked c =
    let headed = rw (c.bounds.ensures, c.in-Committed.is) at c.in_ok-header.ensures.headed in
    committed-read _ c.args.file.superblock _ _ _ _ _ _ _ c.requires.listed _ _ _ _ _ _ _ _ c.read_with.ensures.kept.long headed.walked 16
    (rw c.bounds.ensures at c.in_ok-header.ensures.counting_on)

pub read_dataset-requires-clause-listed : goal.read_dataset-requires-clause-listed
read_dataset-requires-clause-listed c =
    let headed = rw (c.bounds.ensures, c.in-Dataset.is) at c.in_ok-header.ensures.headed in
    let counting = rw c.bounds.ensures at c.in_ok-header.ensures.counting_on in
    rw c.known.ensures.objects
    (known-listed _ c.args.file.superblock _ _ _ _ _ _ _ c.args.i _ c.requires.listed _ _ _ _ _ _ _ c.read_with.ensures.kept.long headed.walked counting
    1 _ (omega arith) c.in_ok-known-in-Dataset.ensures.known.marks_same)

pub returns-in_err-known-in-Dataset-clause-walked : goal.returns-in_err-known-in-Dataset-clause-walked
returns-in_err-known-in-Dataset-clause-walked c =
    let headed = rw (c.bounds.ensures, c.in-Dataset.is) at c.in_ok-header.ensures.headed in
    let counting = rw c.bounds.ensures at c.in_ok-header.ensures.counting_on in
    let p = err_from_is_err_and c.from_residual-in_err-known-in-Dataset.result c.from_residual-in_err-known-in-Dataset.ensures.1 in
    let shared = c.in_err-known-in-Dataset.ensures.known in
    rw (p.1, p.2, shared.1, c.known.ensures.objects)
    (known-refused _ c.args.file.superblock _ _ _ _ _ _ _ _ _ c.requires.listed _ _ _ _ _ _ _
    c.read_with.ensures.kept.long headed.walked counting refl _ shared.0)

pub returns-in_ok-known-in-Dataset-clause-walked : goal.returns-in_ok-known-in-Dataset-clause-walked
returns-in_ok-known-in-Dataset-clause-walked c =
    let headed = rw (c.bounds.ensures, c.in-Dataset.is) at c.in_ok-header.ensures.headed in
    let counting = rw c.bounds.ensures at c.in_ok-header.ensures.counting_on in
    known-read _ c.args.file.superblock _ _ _ _ _ _ _ _ _ c.requires.listed _ _ _ _ _ _ _ c.read_with.ensures.kept.long headed.walked counting refl _
    c.in_ok-known-in-Dataset.ensures.known _ _ _ _ _ (rw c.known.ensures.objects at c.read_dataset.ensures.walked)

pub read_group-requires-clause-listed : goal.read_group-requires-clause-listed
read_group-requires-clause-listed c =
    let headed = rw (c.bounds.ensures, c.in-Group.is) at c.in_ok-header.ensures.headed in
    let counting = rw c.bounds.ensures at c.in_ok-header.ensures.counting_on in
    rw c.known-in-Group.ensures.objects
    (known-listed _ c.args.file.superblock _ _ _ _ _ _ _ c.args.i _ c.requires.listed _ _ _ _ _ _ _ c.read_with.ensures.kept.long headed.walked counting
    0 _ (omega arith) c.in_ok-known-in-Group.ensures.known.marks_same)

pub returns-in_err-known-in-Group-clause-walked : goal.returns-in_err-known-in-Group-clause-walked
returns-in_err-known-in-Group-clause-walked c =
    let headed = rw (c.bounds.ensures, c.in-Group.is) at c.in_ok-header.ensures.headed in
    let counting = rw c.bounds.ensures at c.in_ok-header.ensures.counting_on in
    let p = err_from_is_err_and c.from_residual-in_err-known-in-Group.result c.from_residual-in_err-known-in-Group.ensures.1 in
    let shared = c.in_err-known-in-Group.ensures.known in
    rw (p.1, p.2, shared.1, c.known-in-Group.ensures.objects)
    (known-refused _ c.args.file.superblock _ _ _ _ _ _ _ _ _ c.requires.listed _ _ _ _ _ _ _
    c.read_with.ensures.kept.long headed.walked counting refl _ shared.0)

pub returns-in_ok-known-in-Group-clause-walked : goal.returns-in_ok-known-in-Group-clause-walked
returns-in_ok-known-in-Group-clause-walked c =
    let headed = rw (c.bounds.ensures, c.in-Group.is) at c.in_ok-header.ensures.headed in
    let counting = rw c.bounds.ensures at c.in_ok-header.ensures.counting_on in
    known-read _ c.args.file.superblock _ _ _ _ _ _ _ _ _ c.requires.listed _ _ _ _ _ _ _ c.read_with.ensures.kept.long headed.walked counting refl _
    c.in_ok-known-in-Group.ensures.known _ _ _ _ _ (rw c.known-in-Group.ensures.objects at c.read_group.ensures.walked)
