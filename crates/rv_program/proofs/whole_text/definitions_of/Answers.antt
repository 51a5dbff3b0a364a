use Rattle.std.proofs.Common.{◌≡◌, ◌+◌, ◌<◌, length, get_or, arith, ap, sym, ◌∙◌}
use Rattle.std.proofs.lemmas.List.{get_or-map}
use Rattle.rv_stmt.specs.Statement.{statement_of}
use Rattle.rv_program.specs.internal.Defining.{also_on}
use Rattle.rv_program.specs.Definitions.{place_in_statement}
use Rattle.rv_program.specs.Program.{program_of}
use Rattle.rv_program.specs.lemmas.NameRows.{grows-trans}
use Rattle.rv_program.specs.lemmas.Programs.{length-program}
use Rattle.rv_program.proofs.WholeTexts.{definitions-next}
use Rattle.rv_program.proofs.whole_text.definitions_of.Goals as goal

pub loop-i-preserved : goal.loop-i-preserved
loop-i-preserved c =
    let lines = c.args.lines.now in
    let i = c.loop-i.i in
    let line = c.index-lines-i.result in
    let s = statement_of line in
    let within : i < length (program_of lines) = omega (arith, c.loop-i-test.true, length-program lines) in
    let read : s ≡ get_or (program_of lines) i s = sym (get_or-map statement_of lines i line s c.loop-i-test.true ∙ ap statement_of (sym c.index-lines-i.is)) in
    let row = c.in_ok-define_with_numbers.ensures.row in
    record {
      row = record {
        each = row.each
            ∙ ap (λ f. also_on (i + 1) f (place_in_statement (i + 1) s)) c.loop-i.invariant.row.each
            ∙ definitions-next (program_of lines) i s within read;
        within = row.within;
      };
      names = grows-trans c.args.names.now c.loop-i.names c.define_with_numbers.new.names c.loop-i.invariant.names c.define_with_numbers.ensures.names;
    }
