use Rattle.std.proofs.lemmas.Grind.{common_steps}
use Rattle.std.proofs.Common.{◌≡◌, rules, Ok, ap, ◌∙◌, arith}
use Rattle.rv_fix.specs.Displacements.{displacement}
use Rattle.rv_program.specs.Jumps.{distance}
use Rattle.rv_program.specs.Layout.{address_at}
use Rattle.rv_program.specs.References.{reference_of}
use Rattle.rv_program.specs.internal.TextRows.{program_in}
use Rattle.rv_program.proofs.LinePairLaws.{reference-open}
use Rattle.rv_program.proofs.jumps.distance.Goals as goal

pub returns : goal.returns
returns c = λ name numbered.
    let text = c.args.rows.now.text in
    let line = c.args.line in
    let here : c.place_on-here.result.address ≡ address_at text.base (program_in text) line = ap (λ p. p.address) c.place_on-here.ensures in
    let address : Ok c.in_ok-address.address ≡ reference_of text.base (program_in text) line name =
    c.in_ok-address.ensures name numbered ∙ reference-open text line name c.requires.no_equ in
    let far : Ok (displacement c.place_on-here.result.address c.in_ok-address.address) ≡ distance (address_at text.base (program_in text) line) (reference_of text.base (program_in text) line name) =
    (λ i. distance (here i) (address i)) in
    search rules ∙ far

pub returns-in_err-address : goal.returns-in_err-address
returns-in_err-address c = grind (arith, common_steps)
