use Rattle.std.proofs.Common.{◌/◌, ◌%◌, append_assoc}
use Rattle.rv_text.specs.Rows.{hex}
use Rattle.rv_commands.proofs.HexColumns.{half_of_pairs}
use Rattle.rv_commands.proofs.columns.push_half.Goals as goal

pub returns-clause-text : goal.returns-clause-text
returns-clause-text c =
    rw (c.push_text-2.ensures.text, c.push_text.ensures.text, c.pair.ensures, c.pair-2.ensures, half_of_pairs c.args.n)
    (append_assoc c.args.columns.now (hex 2 (c.args.n / 256)) (hex 2 (c.args.n % 256)))
