use Rattle.std.proofs.Common.{◌+◌, ◌∷◌, map, ap, ◌∙◌}
use Rattle.rv_text.specs.declared.lexeme.Token.{Token}
use Rattle.rv_text.specs.declared.lexeme.TokenKind.TheVariants.{Identifier}
use Rattle.rv_expr.specs.TokenRoles.{token_role}
use Rattle.rv_expr.specs.Reading.{run_of}
use Rattle.rv_expr.proofs.Runs.{roles_step}
use Rattle.rv_expr.proofs.expression_tokens.expression_token_at.Goals as goal

-- a token for where there is none
abbrev other : Token
other = record { kind = Identifier; span = record { from = 0; to = 0 } }

pub returns : goal.returns
returns c = λ to before.
    let read = rw (c.tokens.ensures, c.text.ensures other) at c.expression_token_of_text.ensures in
    roles_step c.args.tokens.now c.args.k to other c.requires before ∙ ap (λ r. r ∷ map token_role (run_of c.args.tokens.now (c.args.k + 1) to)) read
