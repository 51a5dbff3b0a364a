use Rattle.std.proofs.Common.{◌≡◌, ◌+◌, ◌-◌, length, arith, sym, subst, ◌∙◌}
use Rattle.rv_program.specs.Program.{program_of}
use Rattle.rv_program.specs.internal.Rows.{AreConstants, AreEquValues}
use Rattle.rv_store.proofs.survey.Survey.settle_last.Goals as goal

pub settle_constant-requires-clause-before : goal.settle_constant-requires-clause-before
settle_constant-requires-clause-before g c =
    let all = c.args.self.now.lines.items in
    let names = c.args.names.now in
    let row = c.args.self.now.constants.items in
    let count : c.len-last.result - 1 ≡ length all - 1 = omega (arith, c.len-last.ensures) in
    subst (λ k. AreConstants (program_of c.as_slice.result.now) k names row) (sym count)
    (subst (λ ls. AreConstants (program_of ls) (length all - 1) names row) (sym c.as_slice.ensures) c.requires.symbols.constants)

pub settle_equ-requires-clause-before : goal.settle_equ-requires-clause-before
settle_equ-requires-clause-before g c =
    let all = c.args.self.now.lines.items in
    let names = c.args.names.now in
    let row = c.args.self.now.equ_values.items in
    let count : c.len-last.result - 1 ≡ length all - 1 = omega (arith, c.len-last.ensures) in
    let lines = c.in_column-lines.ensures ∙ c.as_slice-2.ensures in
    subst (λ k. AreEquValues c.args.base (program_of c.in_column-lines.result) k names row) (sym count)
    (subst (λ ls. AreEquValues c.args.base (program_of ls) (length all - 1) names row) (sym lines) c.requires.symbols.equ_values)

pub returns-clause-symbols : goal.returns-clause-symbols
returns-clause-symbols g c =
    let all = c.args.self.now.lines.items in
    let names = c.args.names.now in
    let lines = c.in_column-lines.ensures ∙ c.as_slice-2.ensures in
    let last : c.len-last.result - 1 + 1 ≡ length all = omega (arith, c.len-last.ensures, c.requires.some) in
    record {
      definitions = c.requires.symbols.definitions;
      constants =
          subst (λ k. AreConstants (program_of all) k names c.settle_constant.new.row.items) last
          (subst (λ ls. AreConstants (program_of ls) (c.len-last.result - 1 + 1) names c.settle_constant.new.row.items) c.as_slice.ensures c.settle_constant.ensures.after);
      equ_values =
          subst (λ k. AreEquValues c.args.base (program_of all) k names c.settle_equ.new.row.items) last
          (subst (λ ls. AreEquValues c.args.base (program_of ls) (c.len-last.result - 1 + 1) names c.settle_equ.new.row.items) lines c.settle_equ.ensures.after);
    }

pub returns-clause-parsed : goal.returns-clause-parsed
returns-clause-parsed g c = c.settle_equ.ensures.parsed ∙ c.settle_constant.ensures.parsed

pub returns-clause-encoded : goal.returns-clause-encoded
returns-clause-encoded g c = c.settle_equ.ensures.encoded ∙ c.settle_constant.ensures.encoded
