use Rattle.std.proofs.Common.{◌/◌, ◌%◌, append_assoc}
use Rattle.rv_text.specs.Rows.{hex}
use Rattle.rv_commands.proofs.HexColumns.{word_of_halves}
use Rattle.rv_commands.proofs.columns.push_word.Goals as goal

pub returns-clause-text : goal.returns-clause-text
returns-clause-text c =
    rw (c.push_half-2.ensures.text, c.push_half.ensures.text, word_of_halves c.args.n)
    (append_assoc c.args.columns.now (hex 4 (c.args.n / 65536)) (hex 4 (c.args.n % 65536)))
