use Rattle.rv_program.specs.lemmas.Programs.{length-program}
use Rattle.rv_store.proofs.survey.Survey.symbols.Goals as goal

pub returns-clause-rows : goal.returns-clause-rows
returns-clause-rows c = record {
  text = record {
    defined = rw c.deref.ensures.value c.requires.definitions;
    placed = rw c.deref-2.ensures.value c.requires.places;
    located = c.requires.locals;
  };
  constants = rw (c.deref-3.ensures.value, ← length-program c.args.lines.now) c.requires.constants;
  equ_values = rw (c.deref-4.ensures.value, ← length-program c.args.lines.now) c.requires.equ_values;
}
