use Rattle.std.proofs.Common.{[], ◌∷◌}
use Rattle.std.specs.List.{flat_map}
use Rattle.std.proofs.lemmas.Result.{err_from_is_err_and}
use Rattle.rv_text.specs.BlockLaws.{lost_first, gathers_then}
use Rattle.rv_files.specs.Hex.{record_text, start_record, end_record}
use Rattle.rv_files.proofs.HexRows.{all_rows}
use Rattle.rv_files.proofs.hex.push_hex.Goals as goal

pub returns-in_err-push_segments-clause-text : goal.returns-in_err-push_segments-clause-text
returns-in_err-push_segments-clause-text g c =
    let p = err_from_is_err_and c.from_residual.result c.from_residual.ensures.1 in
    rw (p.1, all_rows c.args.segments.now c.args.entry) (lost_first _ _ _ _ (flat_map record_text (start_record c.args.entry ∷ end_record ∷ [])) c.in_err-push_segments.ensures.text)

pub returns-clause-text : goal.returns-clause-text
returns-clause-text g c =
    rw (all_rows c.args.segments.now c.args.entry) (gathers_then _ _ _ _ _ _ _ _ _ c.in_ok-push_segments.ensures.text c.push_end.ensures.text)
