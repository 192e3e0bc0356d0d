use Rattle.std.proofs.Common.{Some, None}
use Rattle.std.proofs.lemmas.Result.{err_from_is_err_and}
use Rattle.serde_json.specs.View.{view}
use Rattle.segment_shape.proofs.FileLemmas.{file_by_ids, file_of_fault}
use Rattle.segment_shape.proofs.shape.file_of.Goals as goal

pub returns-in_err-shape-clause-err : goal.returns-in_err-shape-clause-err
returns-in_err-shape-clause-err c =
    let p = err_from_is_err_and c.from_residual.result c.from_residual.ensures.1 in
    rw (p.1, p.2) (file_of_fault (view c.args.value.now) c.in_err-shape.field-0.0 c.in_err-shape.ensures.err)

pub returns-in-None-clause-ok : goal.returns-in-None-clause-ok
returns-in-None-clause-ok c =
    file_by_ids (view c.args.value.now) c.in_ok-shape.shape c.deref.result.now None c.in_ok-shape.ensures.ok c.deref.ensures.value c.in-None.ensures

pub returns-in-Some-clause-err : goal.returns-in-Some-clause-err
returns-in-Some-clause-err c =
    file_by_ids (view c.args.value.now) c.in_ok-shape.shape c.deref.result.now (Some c.in-Some.id.bytes) c.in_ok-shape.ensures.ok c.deref.ensures.value c.in-Some.ensures
