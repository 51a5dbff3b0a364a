use Rattle.std.proofs.Common.{◌≡◌, ap, ◌∙◌}
use Rattle.rv_fix.specs.Values.{operand_values_of}
use Rattle.rv_program.specs.Codes.{values_of_body}
use Rattle.rv_program.specs.Layout.{address_at}
use Rattle.rv_program.specs.internal.LineNames.{given_by}
use Rattle.rv_program.specs.Pairs.{names_at}
use Rattle.rv_program.specs.internal.ValueRows.{base_of, program_of_rows}
use Rattle.rv_program.proofs.ValueLaws.{values_of_operands}
use Rattle.rv_program.proofs.line_values.values_of_body.Goals as goal

pub returns-in_ok-values-in_default-clause-values : goal.returns-in_ok-values-in_default-clause-values
returns-in_ok-values-in_default-clause-values g c =
    let base = base_of c.args.rows.now in
    let program = program_of_rows c.args.rows.now in
    let line = c.args.line in
    let place = c.place_on-place.result in
    let b = c.statement_on-stmt.result.now.body in
    let address : place.address ≡ address_at base program line = ap (λ p. p.address) c.place_on-place.ensures in
    let names : given_by c.names_at-names.result place.address ≡ names_at base program line = ap (given_by c.names_at-names.result) address ∙ c.names_at-names.ensures in
    values_of_operands base program line b c.in_ok-values-in_default.values c.in_default.not-Align c.in_default.not-Equ
    (c.in_ok-values-in_default.ensures.values
    ∙ ap (λ given. operand_values_of given place.address b) names
    ∙ ap (λ here. operand_values_of (names_at base program line) here b) address)
    ∙ ap (λ s. values_of_body base program line s.body) c.statement_on-stmt.ensures

pub returns-in_ok-values-in_default-clause-parsed : goal.returns-in_ok-values-in_default-clause-parsed
returns-in_ok-values-in_default-clause-parsed g c = c.operand_values.ensures.parsed

pub returns-in_ok-values-in_default-clause-encoded : goal.returns-in_ok-values-in_default-clause-encoded
returns-in_ok-values-in_default-clause-encoded g c = c.operand_values.ensures.encoded

pub returns-in_err-values-in_default-clause-least : goal.returns-in_err-values-in_default-clause-least
returns-in_err-values-in_default-clause-least g c = c.operand_values.ensures.least

pub returns-in_err-values-in_default-clause-parsed : goal.returns-in_err-values-in_default-clause-parsed
returns-in_err-values-in_default-clause-parsed g c = c.operand_values.ensures.parsed

pub returns-in_err-values-in_default-clause-encoded : goal.returns-in_err-values-in_default-clause-encoded
returns-in_err-values-in_default-clause-encoded g c = c.operand_values.ensures.encoded
