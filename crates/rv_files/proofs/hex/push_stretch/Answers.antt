use Rattle.std.proofs.Common.{◌≡◌, ◌/◌, arith}
use Rattle.std.proofs.lemmas.Result.{err_from_is_err_and}
use Rattle.rv_text.specs.BlockLaws.{lost_first, gathers_then}
use Rattle.rv_files.specs.Hex.{Stretch, record_text, data_record, upper_of}
use Rattle.rv_files.proofs.HexRows.{stretch_rows}
use Rattle.rv_files.proofs.hex.push_stretch.Goals as goal

pub returns-in_err-push_upper-clause-text : goal.returns-in_err-push_upper-clause-text
returns-in_err-push_upper-clause-text g c =
    let p = err_from_is_err_and c.from_residual.result c.from_residual.ensures.1 in
    let s : Stretch = record { address = c.args.address; bytes = c.args.bytes.now } in
    let half : c.args.address / 65536 ≡ upper_of c.args.address = omega (arith, c.ranges.address.fits) in
    let text = rw half at c.in_err-push_upper.ensures.text in
    rw (p.1, stretch_rows c.args.upper s) (lost_first _ _ _ _ (record_text (data_record s)) text)

pub returns-clause-text : goal.returns-clause-text
returns-clause-text g c =
    let s : Stretch = record { address = c.args.address; bytes = c.args.bytes.now } in
    let half : c.args.address / 65536 ≡ upper_of c.args.address = omega (arith, c.ranges.address.fits) in
    let text = rw half at c.in_ok-push_upper.ensures.text in
    rw (stretch_rows c.args.upper s) (gathers_then _ _ _ _ _ _ _ _ _ text c.push_record.ensures.text)
