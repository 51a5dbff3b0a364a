use Rattle.std.proofs.Common.{◌≡◌, ◌==◌, ◌<◌, Bool, true, false, length, get_or, set, if◌then◌else◌, arith, ap, sym, ◌∙◌}
use Rattle.std.proofs.lemmas.Bool.{eq-eqb, ne_eqb}
use Rattle.std.proofs.lemmas.List.{get_or_default}
use Rattle.rv_layout.specs.Sections.{section_number}
use Rattle.rv_program.specs.internal.TextRows.{no_place}
use Rattle.rv_store.proofs.PutHighs.{looked-many, looked-left, looked-done}
use Rattle.rv_store.proofs.waiting.put_behind.Goals.{then-section_number-section, else-section_number-section}
use Rattle.rv_store.proofs.waiting.put_behind.Goals as goal

pub lines-preserved : goal.lines-preserved
lines-preserved c =
    let places = c.args.places.now in
    let i = c.lines.i in
    let t = c.args.section in
    let row = c.lines.highs.items in
    let new = c.if-section_number-section.highs.items in
    let before = c.lines.invariant in
    let many : length row ≡ length places = before.many ∙ c.requires in
    let below : i < length row = omega (arith, c.lines-test.true, c.len.ensures, c.lines.highs.ok.0) in
    let section : c.section_number.result ≡ section_number (get_or places i no_place).section =
    c.section_number.ensures.value ∙ ap (λ l. section_number l.section) (get_or_default places i _ no_place (omega (arith, below, many))) in
    let put : (b : Bool) × ((section_number (get_or places i no_place).section == t) ≡ b) × (new ≡ (if b then set row i c.args.high else row)) =
    elim c.if-section_number-section.branch [
      | then-section_number-section w ↦ (true, eq-eqb (section_number (get_or places i no_place).section) t (sym section ∙ omega (arith, w.if-section_number-section.true)), ap (λ v. v.items) w.highs-is)
      | else-section_number-section w ↦ (false, ne_eqb (section_number (get_or places i no_place).section) t (λ e. omega (arith, e, section, w.if-section_number-section.false)), ap (λ v. v.items) w.highs-is)
    ] in
    record {
      many = looked-many places t c.args.first c.args.high c.args.highs.now.items i row new before.from below many put.0 put.1 put.2 ∙ before.many;
      from = let from = before.from in omega (arith, from);
      done = looked-done places t c.args.first c.args.high c.args.highs.now.items i row new before.from below many put.0 put.1 put.2 before.left before.done;
      left = looked-left places t c.args.first c.args.high c.args.highs.now.items i row new before.from below many put.0 put.1 put.2 before.left;
    }
