use Rattle.std.proofs.Common.{append_assoc}
use Rattle.std.proofs.lemmas.List.{take_all}
use Rattle.rv_list.specs.Image.{byte_row}
use Rattle.rv_list.proofs.image.push_byte_row.Goals as goal

pub returns-clause-text : goal.returns-clause-text
unfolding byte_row
returns-clause-text g c =
    let all = take_all c.loop-byte.byte-index c.args.bytes.now c.loop-byte-test.false in
    let row = rw (c.loop-byte.invariant.text, all, append_assoc) at c.push_text-2.ensures.text in
    rw (c.bytes.ensures, row) at c.push.ensures.text
