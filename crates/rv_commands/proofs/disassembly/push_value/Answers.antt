use Rattle.std.proofs.Common.{◌++◌, ◌*◌, ◌∙◌, sym, ap}
use Rattle.rv_text.specs.Rows.{hex}
use Rattle.rv_commands.proofs.HexColumns.{low_half}
use Rattle.rv_commands.proofs.disassembly.push_value.Goals as goal

pub returns-in-2-clause-text : goal.returns-in-2-clause-text
returns-in-2-clause-text c =
    c.push_half.ensures.text
    ∙ ap (λ digits. c.args.columns.now ++ digits) (low_half c.args.row.now.value ∙ ap (λ len. hex (2 * len) c.args.row.now.value) (sym c.in-2.is))
