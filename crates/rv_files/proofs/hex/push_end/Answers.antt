use Rattle.std.proofs.Common.{[], ◌++◌}
use Rattle.std.proofs.lemmas.List.{append-nil}
use Rattle.std.proofs.lemmas.Result.{err_from_is_err_and}
use Rattle.rv_text.specs.BlockLaws.{lost_first, gathers_then}
use Rattle.rv_files.specs.Hex.{record_text, end_record}
use Rattle.rv_files.proofs.hex.push_end.Goals as goal

pub returns-in_err-push_record-clause-text : goal.returns-in_err-push_record-clause-text
returns-in_err-push_record-clause-text g c =
    let p = err_from_is_err_and c.from_residual.result c.from_residual.ensures.1 in
    rw p.1 (lost_first _ _ _ _ (record_text end_record ++ []) c.in_err-push_record.ensures.text)

pub returns-clause-text : goal.returns-clause-text
returns-clause-text g c =
    rw (append-nil (record_text end_record)) (gathers_then _ _ _ _ _ _ _ _ _ c.in_ok-push_record.ensures.text c.push_record-2.ensures.text)
