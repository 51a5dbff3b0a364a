use Rattle.std.proofs.Common.{◌≡◌, length, None, Err, vec_len, arith, ap, ◌∙◌}
use Rattle.rv_expr.specs.declared.faults.ValueFault.TheVariants.{LaterEqu}
use Rattle.rv_list.specs.declared.view.DefinitionPlace.TheVariants.{Nowhere}
use Rattle.rv_program.specs.internal.Rows.{in_row}
use Rattle.rv_program.specs.lemmas.NameRows.{row-placed}
use Rattle.rv_store.proofs.survey.Survey.lengthen_rows.Goals as goal

pub returns-in_err-resize-clause-symbols : goal.returns-in_err-resize-clause-symbols
returns-in_err-resize-clause-symbols c base program k are = record {
  definitions = record { each = ap (λ r. in_row c.args.names.now r Nowhere) c.in_err-resize.ensures.items ∙ are.definitions.each; within = rw c.in_err-resize.ensures.items are.definitions.within };
  constants = are.constants;
  equ_values = are.equ_values;
}

pub returns-in_err-resize-2-clause-symbols : goal.returns-in_err-resize-2-clause-symbols
returns-in_err-resize-2-clause-symbols c base program k are =
    let counted : vec_len c.args.self.now.definitions ≡ length c.args.self.now.definitions.items = omega (arith, c.args.self.now.definitions.ok.0) in
    let definitions = row-placed c.args.names.now c.args.self.now.definitions.items c.resize.new.self.items Nowhere c.len.result _ c.in_ok-resize.ensures.items counted c.len.ensures are.definitions.within in
    record {
      definitions = record { each = definitions.0 ∙ are.definitions.each; within = definitions.1 };
      constants = record { each = ap (λ r. in_row c.args.names.now r None) c.in_err-resize-2.ensures.items ∙ are.constants.each; within = rw c.in_err-resize-2.ensures.items are.constants.within };
      equ_values = are.equ_values;
    }

pub returns-in_err-resize-3-clause-symbols : goal.returns-in_err-resize-3-clause-symbols
returns-in_err-resize-3-clause-symbols c base program k are =
    let counted : vec_len c.args.self.now.definitions ≡ length c.args.self.now.definitions.items = omega (arith, c.args.self.now.definitions.ok.0) in
    let definitions = row-placed c.args.names.now c.args.self.now.definitions.items c.resize.new.self.items Nowhere c.len.result _ c.in_ok-resize.ensures.items counted c.len.ensures are.definitions.within in
    let counted-2 : vec_len c.args.self.now.constants ≡ length c.args.self.now.constants.items = omega (arith, c.args.self.now.constants.ok.0) in
    let constants = row-placed c.args.names.now c.args.self.now.constants.items c.resize-2.new.self.items None c.len-2.result _ c.in_ok-resize-2.ensures.items counted-2 c.len-2.ensures are.constants.within in
    record {
      definitions = record { each = definitions.0 ∙ are.definitions.each; within = definitions.1 };
      constants = record { each = constants.0 ∙ are.constants.each; within = constants.1 };
      equ_values = record { each = ap (λ r. in_row c.args.names.now r (Err LaterEqu)) c.in_err-resize-3.ensures.items ∙ are.equ_values.each; within = rw c.in_err-resize-3.ensures.items are.equ_values.within };
    }

pub returns-clause-symbols : goal.returns-clause-symbols
returns-clause-symbols c base program k are =
    let counted : vec_len c.args.self.now.definitions ≡ length c.args.self.now.definitions.items = omega (arith, c.args.self.now.definitions.ok.0) in
    let definitions = row-placed c.args.names.now c.args.self.now.definitions.items c.resize.new.self.items Nowhere c.len.result _ c.in_ok-resize.ensures.items counted c.len.ensures are.definitions.within in
    let counted-2 : vec_len c.args.self.now.constants ≡ length c.args.self.now.constants.items = omega (arith, c.args.self.now.constants.ok.0) in
    let constants = row-placed c.args.names.now c.args.self.now.constants.items c.resize-2.new.self.items None c.len-2.result _ c.in_ok-resize-2.ensures.items counted-2 c.len-2.ensures are.constants.within in
    let counted-3 : vec_len c.args.self.now.equ_values ≡ length c.args.self.now.equ_values.items = omega (arith, c.args.self.now.equ_values.ok.0) in
    let equ_values = row-placed c.args.names.now c.args.self.now.equ_values.items c.resize-3.new.self.items (Err LaterEqu) c.len-3.result _ c.in_ok-resize-3.ensures.items counted-3 c.len-3.ensures are.equ_values.within in
    record {
      definitions = record { each = definitions.0 ∙ are.definitions.each; within = definitions.1 };
      constants = record { each = constants.0 ∙ are.constants.each; within = constants.1 };
      equ_values = record { each = equ_values.0 ∙ are.equ_values.each; within = equ_values.1 };
    }
