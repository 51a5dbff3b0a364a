use Rattle.std.proofs.Common.{ap, sym, ◌∙◌}
use Rattle.rv_program.specs.Layout.{shape_at}
use Rattle.rv_program.specs.Program.{program_of, for_lines}
use Rattle.rv_program.specs.internal.Rows.{AreShapes}
use Rattle.rv_program.specs.lemmas.Programs.{length-program}
use Rattle.rv_store.proofs.Surveys.{placed}
use Rattle.rv_store.proofs.survey.Survey.of_rows.Goals as goal

pub equ_values-requires-clause-rows : goal.equ_values-requires-clause-rows
equ_values-requires-clause-rows g c =
    let program = program_of c.args.lines.items in
    let shapes : AreShapes program c.args.sized.shapes.items = c.requires.sized.shapes ∙ ap (for_lines (shape_at program)) (sym (length-program c.args.lines.items)) in
    record {
      defined = rw (c.in_column-column.ensures, c.as_slice-2.ensures, c.deref.ensures.value) c.requires.definitions;
      placed = rw (c.in_column-column.ensures, c.as_slice-2.ensures, c.deref-2.ensures.value) (placed c.args.base program c.args.sized.shapes.items _ shapes c.requires.places);
      located = rw (c.in_column-column.ensures, c.as_slice-2.ensures, length-program) c.requires.locals;
    }

pub all_highs-requires-clause-rows : goal.all_highs-requires-clause-rows
all_highs-requires-clause-rows g c =
    let program = program_of c.args.lines.items in
    let shapes : AreShapes program c.args.sized.shapes.items = c.requires.sized.shapes ∙ ap (for_lines (shape_at program)) (sym (length-program c.args.lines.items)) in
    record {
      text = record {
        defined = rw (c.in_column-column.ensures, c.as_slice-2.ensures, c.deref.ensures.value) c.requires.definitions;
        placed = rw (c.in_column-column.ensures, c.as_slice-2.ensures, c.deref-2.ensures.value) (placed c.args.base program c.args.sized.shapes.items _ shapes c.requires.places);
        located = rw (c.in_column-column.ensures, c.as_slice-2.ensures, length-program) c.requires.locals;
      };
      constants = rw (c.in_column-column.ensures, c.as_slice-2.ensures, c.deref-3.ensures.value) c.requires.sized.constants;
      equ_values = rw c.deref-4.ensures.value c.in_ok-equ_values.ensures.values;
    }

pub returns-clause-survey : goal.returns-clause-survey
returns-clause-survey g c =
    let program = program_of c.args.lines.items in
    let shapes : AreShapes program c.args.sized.shapes.items = c.requires.sized.shapes ∙ ap (for_lines (shape_at program)) (sym (length-program c.args.lines.items)) in
    record {
      definitions = c.requires.definitions;
      constants = rw length-program c.requires.sized.constants;
      shapes = shapes;
      limited = c.requires.sized.limited;
      ends = c.requires.ends;
      places = placed c.args.base program c.args.sized.shapes.items _ shapes c.requires.places;
      locals = rw length-program c.requires.locals;
      equ_values = rw length-program (rw (c.in_column-column.ensures, c.as_slice-2.ensures) at c.in_ok-equ_values.ensures.values);
      highs = rw (c.in_column-column.ensures, c.as_slice-2.ensures) at c.in_ok-highs.ensures.highs;
    }
