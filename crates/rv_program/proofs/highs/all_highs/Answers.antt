use Rattle.std.proofs.Common.{◌≡◌, inl, inr, length, ap, ◌∙◌, sym}
use Rattle.std.proofs.lemmas.Bool.{eqb-true, eqb-false}
use Rattle.rv_program.specs.Layout.{place_at}
use Rattle.rv_program.specs.internal.TextRows.{program_in}
use Rattle.rv_program.proofs.PairedHighs.{highs-nothing, highs-paired}
use Rattle.rv_program.specs.lemmas.Programs.{length-program, length-for_lines}
use Rattle.rv_program.proofs.highs.all_highs.Goals as goal

pub returns-then-is_empty-clause-highs : goal.returns-then-is_empty-clause-highs
returns-then-is_empty-clause-highs g c =
    let text = c.args.rows.now.text in
    let none = eqb-true c.in_ok-row.row.len 0 (sym c.is_empty.ensures ∙ c.if-is_empty.true) in
    highs-nothing text.base (program_in text) c.in_ok-row.row.items (sym c.in_ok-row.row.ok.0 ∙ none) c.in_ok-row.ensures.highs

pub pair_highs-requires : goal.pair_highs-requires
pair_highs-requires g c =
    let text = c.args.rows.now.text in
    let places : length text.places.now ≡ length text.lines.now =
    ap length c.requires.rows.text.placed ∙ length-for_lines (place_at text.base (program_in text)) (length (program_in text)) ∙ length-program text.lines.now in
    elim c.in_ok-row.ensures.many [
      | inl none ↦ absurd (eqb-false c.in_ok-row.row.len 0 (sym c.is_empty.ensures ∙ c.if-is_empty.false) (c.in_ok-row.row.ok.0 ∙ none))
      | inr all ↦ all ∙ sym places
    ]

pub returns-clause-highs : goal.returns-clause-highs
returns-clause-highs g c =
    let text = c.args.rows.now.text in
    highs-paired text.base (program_in text) text.places.now c.in_ok-row.row.items c.pair_highs.new.highs.items c.requires.rows.text.placed c.in_ok-row.ensures.highs c.pair_highs.ensures.many c.pair_highs.ensures.paired
