use Rattle.std.proofs.Common.{map, refl}
use Rattle.rv_expr.specs.TokenRoles.{token_role}
use Rattle.rv_expr.proofs.ReadIsSpelled.{spelled_from_expecting_operand}
use Rattle.rv_expr.proofs.RoleGrammar.{roles_from_tokens, tokens_from_roles}
use Rattle.rv_expr.proofs.SpelledIsRead.{expecting_operand_from_spelled}
use Rattle.rv_expr.proofs.laws.reads_the_grammar.Goals as goal

pub returns-clause-spelled : goal.returns-clause-spelled
returns-clause-spelled c = λ run e spells. expecting_operand_from_spelled (map token_role run) e (roles_from_tokens spells)

pub returns-clause-only : goal.returns-clause-only
returns-clause-only c = λ run e read. tokens_from_roles (spelled_from_expecting_operand (map token_role run) e read) run refl
