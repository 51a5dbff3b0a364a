use Rattle.std.proofs.Common.{length, map}
use Rattle.rv_program.specs.Program.{Program, program_of}
use Rattle.rv_store.proofs.RememberedNames.{definitions-remembered, constants-remembered, equ_values-remembered}
use Rattle.rv_store.proofs.store.Store.forget_names.Goals as goal

pub invariant_of-self : goal.invariant_of-self
invariant_of-self c =
    let base = c.self.inside.base in
    let names = c.self.inside.names in
    let survey = c.self.inside.survey in
    let program : Program = program_of (map (λ i. i.line) c.self.inside.items.items) in
    let is = c.self.invariant.surveyed in
    let kept = c.in-Ok.remembered in
    record {
      based = c.self.invariant.based;
      lined = c.self.invariant.lined;
      few = c.self.invariant.few;
      listed = c.self.invariant.listed;
      surveyed = record {
        definitions = definitions-remembered program names survey kept c.in-Ok.ensures is.definitions;
        constants = constants-remembered program (length program) names survey kept c.in-Ok.ensures is.definitions is.constants;
        shapes = is.shapes;
        limited = is.limited;
        ends = is.ends;
        places = is.places;
        locals = is.locals;
        equ_values = equ_values-remembered base program (length program) names survey kept c.in-Ok.ensures is.definitions is.equ_values;
        highs = is.highs;
      };
      assembled = c.self.invariant.assembled;
    }
