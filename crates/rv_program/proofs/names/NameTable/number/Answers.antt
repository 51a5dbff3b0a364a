use Rattle.std.proofs.Common.{ℕ, ◌∙◌, ap, sym, bytes_eq, Vec, Global}
use Rattle.rv_program.specs.internal.Rows.{number_of}
use Rattle.rv_program.specs.lemmas.NameRows.{position-map}
use Rattle.rv_program.proofs.names.NameTable.number.Goals as goal

pub returns-clause-number : goal.returns-clause-number
returns-clause-number c =
    c.get_index_of.ensures.index
    ∙ sym (position-map {A = Vec ℕ Global} (bytes_eq c.args.name.now) (λ n. n.items) c.self.inside.names.keys)
    ∙ ap (λ names. number_of names c.args.name.now) c.self.view_is
