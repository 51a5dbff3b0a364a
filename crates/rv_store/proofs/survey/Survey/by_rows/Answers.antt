use Rattle.std.proofs.Common.{◌∙◌}
use Rattle.rv_program.specs.internal.Before.{base_before}
use Rattle.rv_program.specs.Program.{program_of}
use Rattle.rv_program.specs.lemmas.Programs.{length-program}
use Rattle.rv_store.proofs.Surveys.{placed}
use Rattle.rv_store.proofs.survey.Survey.by_rows.Goals as goal

pub equ_values_after-requires-clause-rows : goal.equ_values_after-requires-clause-rows
equ_values_after-requires-clause-rows g c = record {
  defined = rw (c.in_column-column.ensures, c.lines.ensures, c.deref.ensures.value) c.requires.definitions;
  placed = rw (c.in_column-column.ensures, c.lines.ensures, c.deref-2.ensures.value) (placed (base_before c.args.before.now) (program_of c.args.searched.now) c.args.sized.shapes.items _ c.requires.shapes c.requires.places);
  located = rw (c.in_column-column.ensures, c.lines.ensures, length-program) c.requires.locals;
}

pub differing_names-requires-clause-rows : goal.differing_names-requires-clause-rows
differing_names-requires-clause-rows g c = record {
  text = record {
    defined = rw (c.in_column-column.ensures, c.lines.ensures, c.deref.ensures.value) c.requires.definitions;
    placed = rw (c.in_column-column.ensures, c.lines.ensures, c.deref-2.ensures.value) (placed (base_before c.args.before.now) (program_of c.args.searched.now) c.args.sized.shapes.items _ c.requires.shapes c.requires.places);
    located = rw (c.in_column-column.ensures, c.lines.ensures, length-program) c.requires.locals;
  };
  constants = rw (c.in_column-column.ensures, c.lines.ensures, c.deref-3.ensures.value) c.requires.constants;
  equ_values = rw c.deref-4.ensures.value c.in_ok-equ_values.ensures.values;
}

pub highs-requires-clause-rows : goal.highs-requires-clause-rows
highs-requires-clause-rows g c = record {
  text = record {
    defined = rw (c.in_column-column.ensures, c.lines.ensures, c.deref.ensures.value) c.requires.definitions;
    placed = rw (c.in_column-column.ensures, c.lines.ensures, c.deref-2.ensures.value) (placed (base_before c.args.before.now) (program_of c.args.searched.now) c.args.sized.shapes.items _ c.requires.shapes c.requires.places);
    located = rw (c.in_column-column.ensures, c.lines.ensures, length-program) c.requires.locals;
  };
  constants = rw (c.in_column-column.ensures, c.lines.ensures, c.deref-3.ensures.value) c.requires.constants;
  equ_values = rw c.deref-4.ensures.value c.in_ok-equ_values.ensures.values;
}

pub returns-clause-survey : goal.returns-clause-survey
returns-clause-survey g c = record {
  definitions = c.requires.definitions;
  constants = rw length-program c.requires.constants;
  shapes = c.requires.shapes;
  limited = c.requires.limited;
  ends = c.requires.ends;
  places = placed (base_before c.args.before.now) (program_of c.args.searched.now) c.args.sized.shapes.items _ c.requires.shapes c.requires.places;
  locals = rw length-program c.requires.locals;
  equ_values = rw length-program (rw (c.in_column-column.ensures, c.lines.ensures) at c.in_ok-equ_values.ensures.values);
  highs = rw (c.in_column-column.ensures, c.lines.ensures) at c.in_ok-highs.ensures.highs;
}

pub returns-in_err-equ_values-clause-parsed : goal.returns-in_err-equ_values-clause-parsed
returns-in_err-equ_values-clause-parsed g c = c.equ_values_after.ensures.parsed

pub returns-in_err-highs-clause-parsed : goal.returns-in_err-highs-clause-parsed
returns-in_err-highs-clause-parsed g c = c.highs.ensures.parsed ∙ c.equ_values_after.ensures.parsed

pub returns-clause-parsed : goal.returns-clause-parsed
returns-clause-parsed g c = c.highs.ensures.parsed ∙ c.equ_values_after.ensures.parsed

pub returns-in_err-equ_values-clause-encoded : goal.returns-in_err-equ_values-clause-encoded
returns-in_err-equ_values-clause-encoded g c = c.equ_values_after.ensures.encoded

pub returns-in_err-highs-clause-encoded : goal.returns-in_err-highs-clause-encoded
returns-in_err-highs-clause-encoded g c = c.highs.ensures.encoded ∙ c.equ_values_after.ensures.encoded

pub returns-clause-encoded : goal.returns-clause-encoded
returns-clause-encoded g c = c.highs.ensures.encoded ∙ c.equ_values_after.ensures.encoded
