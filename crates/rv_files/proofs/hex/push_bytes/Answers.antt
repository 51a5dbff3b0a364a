use Rattle.std.proofs.Common.{arith}
use Rattle.std.proofs.lemmas.Grind.{common_steps}
use Rattle.std.proofs.lemmas.List.{take_all}
use Rattle.rv_files.specs.Hex.{row_text}
use Rattle.rv_files.proofs.hex.push_bytes.Goals as goal

pub returns-clause-text : goal.returns-clause-text
unfolding row_text
returns-clause-text g c =
    let all = take_all c.loop-byte.byte-index c.args.bytes.now c.loop-byte-test.false in
    let row = rw (c.loop-byte.invariant.text, all) at c.push_text-2.ensures.text in
    rw (c.bytes.ensures, row) at c.push.ensures.text

pub loop-byte-preserved : goal.loop-byte-preserved
loop-byte-preserved g c = grind (arith, common_steps)
