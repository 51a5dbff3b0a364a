use Rattle.std.proofs.Common.{◌≡◌, IfOk, length, map, min, arith, subst, ◌∙◌}
use Rattle.rv_files.proofs.FirstReports.{as_many}
use Rattle.rv_files.proofs.text_symbols.first_names.Goals as goal

pub returns : goal.returns
returns c =
    let count : c.min.result ≡ min c.args.most (length c.args.symbols.now) = omega (arith, c.min.ensures) in
    let first = c.split_at.ensures.front ∙ as_many _ c.min.result c.args.most count in
    subst (λ symbols. IfOk c.names.result (λ names. map (λ t. t.now) names.items ≡ map (λ s. s.name) symbols)) first c.names.ensures
