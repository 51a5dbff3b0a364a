use Rattle.std.proofs.Common.{ap, ◌∙◌, arith}
use Rattle.std.specs.Prelude.{slice_index}
use Rattle.rv_dis.specs.Rows.{byte_row}
use Rattle.rv_dis.proofs.Showing.{byte_shown}
use Rattle.rv_dis.proofs.disassembly.first_row.Goals as goal

pub returns-clause-first : goal.returns-clause-first
returns-clause-first c =
    let row = c.set_byte.ensures ∙ ap (λ a. byte_row a (slice_index c.args.bytes.now 0)) c.at-row.ensures.address in
    byte_shown c.set_byte.new.row c.args.address c.args.bytes.now (omega arith) row
