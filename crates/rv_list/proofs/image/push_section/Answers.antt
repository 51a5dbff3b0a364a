use Rattle.std.proofs.Common.{◌≡◌, [], true, ◌∙◌, sym, if◌then◌else◌}
use Rattle.std.proofs.lemmas.Result.{err_from_is_err_and}
use Rattle.rv_text.specs.BlockLaws.{lost_first, gathers_then}
use Rattle.rv_list.specs.Image.{byte_rows, section_bytes, section_text}
use Rattle.rv_list.specs.Shown.{shows_bytes}
use Rattle.rv_list.proofs.Sections.{shown_section}
use Rattle.rv_list.proofs.image.push_section.Goals as goal

pub returns-in_err-push_section_row-clause-text : goal.returns-in_err-push_section_row-clause-text
unfolding section_text
returns-in_err-push_section_row-clause-text g c =
    let p = err_from_is_err_and c.from_residual.result c.from_residual.ensures.1 in
    let shown = g.V.View.shown c.args.view.now in
    let text = rw (c.as_bytes.ensures.value, c.section_name.ensures.name, c.section-place.ensures) at c.in_err-push_section_row.ensures.text in
    rw p.1 (lost_first _ _ _ _ (if shows_bytes c.args.section then byte_rows (shown.section c.args.section).base (section_bytes shown c.args.section) else []) text)

pub returns-then-shows_bytes-clause-text : goal.returns-then-shows_bytes-clause-text
returns-then-shows_bytes-clause-text g c =
    let shown = g.V.View.shown c.args.view.now in
    let shows : shows_bytes c.args.section ≡ true = sym c.shows_bytes.ensures ∙ c.if-shows_bytes.true in
    let text = rw (c.as_bytes.ensures.value, c.section_name.ensures.name, c.section-place.ensures) at c.in_ok-push_section_row.ensures.text in
    let bytes = rw (c.new.ensures, c.section-place.ensures) at c.push_byte_rows.ensures.text in
    rw (shown_section shown c.args.section shows) (gathers_then _ _ _ _ _ _ _ _ _ text bytes)
