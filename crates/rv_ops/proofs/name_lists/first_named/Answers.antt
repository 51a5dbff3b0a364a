use Rattle.std.proofs.Common.{rules, tests}
use Rattle.std.proofs.lemmas.Iterator.{YieldsList-from_slice}
use Rattle.std.proofs.lemmas.Iterator.Search.{find_from_yields_List}
use Rattle.std.specs.Str.{str_eq_ignore_ascii_case}
use Rattle.rv_ops.proofs.Naming.{first_named-found_row}
use Rattle.rv_ops.proofs.name_lists.first_named.Goals as goal

pub returns : goal.returns
returns g c =
    first_named-found_row (λ row. row.0) (λ row. row.1.now) c.args.rows.now c.args.name.now c.find.result c.map.result
    (find_from_yields_List (λ row. str_eq_ignore_ascii_case row.1.now c.args.name.now) _ _ _ c.find.ensures.ran (YieldsList-from_slice _ c.iter.ensures.rest) (λ x b q k. search (rules, tests)))
    (search (rules, tests))
