use Rattle.std.proofs.Common.{◌++◌, ap}
use Rattle.std.proofs.lemmas.List.{take-replicate}
use Rattle.rv_list.proofs.rows.push_spaces.Goals as goal

pub returns-clause-text : goal.returns-clause-text
returns-clause-text c =
    rw (c.push_text.ensures.text, c.split_at.ensures.front) (ap (λ l. c.args.row.now ++ l) (take-replicate c.args.count 16 32 c.requires.few))
