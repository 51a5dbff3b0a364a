use Rattle.rv_program.specs.internal.Work.{equ_operands}
use Rattle.std.proofs.Common.{◌≡◌, suc, ◌+◌, true, false, None, arith, ap, sym, refl, ◌∙◌, ◌≤◌, subst}
use Rattle.std.specs.Result.{result_ok}
use Rattle.std.proofs.lemmas.List.{length-set}
use Rattle.rv_stmt.specs.declared.statement.Body.TheVariants.{Equ as EquBody}
use Rattle.rv_stmt.specs.Statement.{statement_of}
use Rattle.rv_layout.specs.Shapes.{constants}
use Rattle.rv_program.specs.Constants.{defined_value, constant_through}
use Rattle.rv_program.specs.Program.{Program, program_of, body_at}
use Rattle.rv_program.specs.internal.Rows.{in_row}
use Rattle.rv_program.specs.lemmas.ConstantRows.{equ-by_row, constants-kept, constants-set, body-read}
use Rattle.rv_program.proofs.constants.settle_constant.Goals as goal

pub returns-in_default-clause-after : goal.returns-in_default-clause-after
returns-in_default-clause-after g c =
    let program : Program = program_of c.args.lines.now in
    let next : suc c.args.i ≡ c.args.i + 1 = omega arith in
    let here : body_at program (suc c.args.i) ≡ (statement_of c.index-lines-i.result).body = body-read c.args.lines.now c.args.i _ c.requires.within c.index-lines-i.is in
    record {
      each = c.requires.before.each
          ∙ sym (constants-kept program c.args.i (λ d is.
          equ-by_row program c.args.names.now c.args.definitions.now c.requires.definitions c.args.i d.symbol false
          (c.in_default.ensures.none refl d (sym here ∙ is))))
          ∙ ap (constant_through program) next;
      within = c.requires.before.within;
    }

pub returns-clause-after : goal.returns-clause-after
returns-clause-after g c =
    let program : Program = program_of c.args.lines.now in
    let next : suc c.args.i ≡ c.args.i + 1 = omega arith in
    let here : body_at program (suc c.args.i) ≡ (statement_of c.index-lines-i.result).body = body-read c.args.lines.now c.args.i _ c.requires.within c.index-lines-i.is in
    let d = c.in-Some.definition.now in
    record {
      each = constants-set program c.args.i c.args.names.now c.args.row.now.items d c.in-Some.number c.ok.result
          (here ∙ c.in-Some.ensures.body)
          (equ-by_row program c.args.names.now c.args.definitions.now c.requires.definitions c.args.i d.symbol true c.in-Some.ensures.defines)
          c.in-Some.ensures.number
          (omega (arith, c.requires.as_many, c.in-Some.ensures.within))
          c.requires.before.each
          (c.ok.ensures.value ∙ ap result_ok (c.defined_value-value.ensures.value ∙ ap (λ xs. defined_value (constants (in_row c.args.names.now xs None)) (EquBody d)) c.as_slice.ensures.value))
          ∙ ap (constant_through program) next;
      within = rw length-set (omega (arith, c.requires.as_many, c.requires.definitions.within));
    }

pub returns-clause-parsed : goal.returns-clause-parsed
returns-clause-parsed g c = c.defined_value-value.ensures.parsed

pub returns-clause-encoded : goal.returns-clause-encoded
returns-clause-encoded g c = c.defined_value-value.ensures.encoded

pub returns-clause-operands : goal.returns-clause-operands
returns-clause-operands g c =
    let program : Program = program_of c.args.lines.now in
    let next : c.args.i + 1 ≡ suc c.args.i = omega arith in
    let here : body_at program (suc c.args.i) ≡ (statement_of c.index-lines-i.result).body = body-read c.args.lines.now c.args.i _ c.requires.within c.index-lines-i.is in
    let body : body_at program (c.args.i + 1) ≡ EquBody c.in-Some.definition.now = ap (body_at program) next ∙ here ∙ c.in-Some.ensures.body in
    subst (λ b. g.C.Count.valued_count c.defined_value-value.new.counter ≤ g.C.Count.valued_count c.args.counter.now + equ_operands b) (sym body) c.defined_value-value.ensures.operands

pub returns-clause-as_many : goal.returns-clause-as_many
returns-clause-as_many g c = rw length-set c.requires.as_many
