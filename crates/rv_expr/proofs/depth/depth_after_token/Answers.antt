use Rattle.std.proofs.Common.{◌+◌, map, max, sym, ap, ◌∙◌}
use Rattle.rv_text.specs.declared.lexeme.Token.{Token}
use Rattle.rv_text.specs.declared.lexeme.TokenKind.TheVariants.{Identifier}
use Rattle.rv_expr.specs.Depth.{depth_from}
use Rattle.rv_expr.specs.TokenRoles.{token_role}
use Rattle.rv_expr.specs.Reading.{run_of}
use Rattle.rv_expr.proofs.Runs.{roles_step}
use Rattle.rv_expr.proofs.depth.depth_after_token.Goals as goal

-- a token for where there is none
abbrev other : Token
other = record { kind = Identifier; span = record { from = 0; to = 0 } }

pub returns-clause-step : goal.returns-clause-step
returns-clause-step c = λ to before.
    let read = rw (c.tokens.ensures, c.text.ensures other) at c.depth_after.ensures.depth in
    ap (depth_from c.args.depth) (roles_step c.args.tokens.now c.args.k to other c.requires.within before)
    ∙ ap (λ d. max c.args.depth (depth_from d (map token_role (run_of c.args.tokens.now (c.args.k + 1) to)))) (sym read)
