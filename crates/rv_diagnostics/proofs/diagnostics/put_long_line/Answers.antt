use Rattle.std.proofs.Common.{◌++◌, ◌∷◌, [], ap, refl, ◌∙◌}
use Rattle.json.specs.Token.{end_object}
use Rattle.rv_diagnostics.proofs.Written.{same_head}
use Rattle.rv_diagnostics.specs.Diagnostics.{long_line}
use Rattle.rv_diagnostics.proofs.diagnostics.put_long_line.Goals as goal

pub returns : goal.returns
unfolding long_line
returns c =
    let head = same_head _ _ _ _ _ _ 1 _ _ _ _ refl c.limit_column-column.ensures c.limit_column-column.ensures refl refl in
    c.in_ok-put_diagnostic.ensures ∙ ap (λ h. c.args.m.now ++ (h ++ end_object ∷ [])) head
