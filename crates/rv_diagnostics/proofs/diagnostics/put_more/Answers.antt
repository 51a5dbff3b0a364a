use Rattle.std.proofs.Common.{◌++◌, ◌∷◌, [], ap, refl, ◌∙◌}
use Rattle.json.specs.Token.{end_object}
use Rattle.rv_diagnostics.proofs.Written.{same_head}
use Rattle.rv_diagnostics.specs.Diagnostics.{more_diagnostics}
use Rattle.rv_diagnostics.proofs.diagnostics.put_more.Goals as goal

pub returns : goal.returns
unfolding more_diagnostics
returns c =
    let head = same_head _ _ _ _ _ _ c.args.severity _ _ _ _ refl refl refl refl (c.as_str.ensures.value ∙ c.in_ok-said.ensures.ok) in
    c.in_ok-put_diagnostic.ensures ∙ ap (λ h. c.args.m.now ++ (h ++ end_object ∷ [])) head
