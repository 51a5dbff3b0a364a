use Rattle.std.proofs.Common.{◌≡◌, rules, Ok, ap, ◌∙◌}
use Rattle.rv_program.specs.Jumps.{distance}
use Rattle.rv_program.specs.Layout.{address_at}
use Rattle.rv_program.specs.References.{address_of_line, local_line}
use Rattle.rv_program.specs.internal.TextRows.{program_in}
use Rattle.rv_fix.specs.Displacements.{displacement}
use Rattle.rv_program.proofs.jumps.local_distance.Goals as goal

pub returns : goal.returns
returns c =
    let text = c.args.text.now in
    let line = c.args.line in
    let here : c.place_on-here.result.address ≡ address_at text.base (program_in text) line = ap (λ p. p.address) c.place_on-here.ensures in
    let far : Ok (displacement c.place_on-here.result.address c.in_ok-address.address) ≡ distance (address_at text.base (program_in text) line) (address_of_line text.base (program_in text) (local_line (program_in text) line c.args.number c.args.direction)) =
    (λ i. distance (here i) (c.in_ok-address.ensures i)) in
    search rules ∙ far
