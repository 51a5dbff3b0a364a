use Rattle.std.proofs.Common.{◌≡◌, ap, ◌∙◌, length, map}
use Rattle.std.specs.Option.{option_map}
use Rattle.rv_program.specs.Codes.{code_at}
use Rattle.rv_program.specs.Program.{program_of, for_lines}
use Rattle.rv_store.proofs.Stores.{part_at_line}
use Rattle.rv_store.proofs.store.Store.coded.Goals as goal

pub returns : goal.returns
returns c =
    let lines = c.args.self.now.lines in
    let coded : map (λ i. i.code) c.self.inside.items.items ≡ for_lines (code_at c.args.self.now.base (program_of lines)) (length lines) = rw (← c.self.view_is) c.self.invariant.assembled.codes in
    ap (option_map (λ i. i.code)) c.in_ok-item.ensures ∙ part_at_line lines (code_at c.args.self.now.base (program_of lines)) (λ i. i.code) c.self.inside.items.items c.args.k coded

pub returns-in_err-item : goal.returns-in_err-item
returns-in_err-item c =
    let lines = c.args.self.now.lines in
    let coded : map (λ i. i.code) c.self.inside.items.items ≡ for_lines (code_at c.args.self.now.base (program_of lines)) (length lines) = rw (← c.self.view_is) c.self.invariant.assembled.codes in
    ap (option_map (λ r. r.now)) c.from_residual.ensures
    ∙ ap (option_map (λ i. i.code)) c.in_err-item.ensures
    ∙ part_at_line lines (code_at c.args.self.now.base (program_of lines)) (λ i. i.code) c.self.inside.items.items c.args.k coded
