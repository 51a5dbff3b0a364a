use Rattle.std.proofs.lemmas.Grind.{common_steps}
use Rattle.std.proofs.Common.{◌≡◌, ℕ, ◌<◌, length, get_or, arith, ap, sym, ◌∙◌, Vec, Global}
use Rattle.std.proofs.lemmas.List.{length-map}
use Rattle.rv_program.specs.internal.Rows.{number_of}
use Rattle.rv_program.specs.lemmas.NameRows.{number-of_place}
use Rattle.rv_program.proofs.names.NameTable.name.Goals as goal

pub returns : goal.returns
returns c =
    let keys = c.self.inside.names.keys in
    let name = c.index-as_slice-number.result in
    let count : length keys ≡ length c.args.self.now = sym (length-map {A = Vec ℕ Global} keys (λ n. n.items)) ∙ ap length c.self.view_is in
    let within : c.args.number < length keys = omega (arith, count, c.requires) in
    let here : name ≡ get_or keys c.args.number name = c.index-as_slice-number.is ∙ ap (λ ks. get_or ks c.args.number name) c.as_slice.ensures.keys in
    ap (number_of c.args.self.now) c.as_slice-2.ensures.value
    ∙ ap (λ names. number_of names name.items) (sym c.self.view_is)
    ∙ number-of_place {A = Vec ℕ Global} (λ n. n.items) keys name c.args.number c.as_slice.ensures.unique within here

pub bounds-as_slice-number : goal.bounds-as_slice-number
bounds-as_slice-number c = grind (arith, common_steps)

pub offset_bounds-as_slice-number : goal.offset_bounds-as_slice-number
offset_bounds-as_slice-number c = grind (arith, common_steps)
