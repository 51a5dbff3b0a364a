use Rattle.std.proofs.Common.{◌≡◌, ◌+◌, ◌-◌, vec_len, length, if◌then◌else◌, arith, ap, sym, subst, ◌∙◌}
use Rattle.rv_layout.specs.Sections.{section_number}
use Rattle.rv_program.specs.Pairs.{high_at}
use Rattle.rv_program.specs.Program.{program_of}
use Rattle.rv_program.specs.internal.Rows.{AreEquValues}
use Rattle.rv_program.specs.lemmas.Programs.{length-program}
use Rattle.rv_program.specs.lemmas.TextLines.{length_of_places}
use Rattle.rv_store.specs.internal.HighRows.{GetHigh}
use Rattle.rv_store.specs.internal.Waiting.{waits_there}
use Rattle.rv_store.proofs.PutHighs.{lengthened}
use Rattle.rv_store.proofs.survey.Survey.put_high.Goals as goal

pub high_on-high-requires-clause-values : goal.high_on-high-requires-clause-values
high_on-high-requires-clause-values g c =
    let s = c.args.self.now in
    let names = c.args.names.now in
    let whole = c.in_column-lines.ensures ∙ c.as_slice.ensures in
    let kept = subst (λ n. AreEquValues c.args.base (program_of s.lines.items) n names s.equ_values.items) (length-program s.lines.items) c.requires.rows.equ_values in
    subst (AreEquValues c.args.base (program_of c.in_column-lines.result) (length c.in_column-lines.result) names) (sym c.deref-3.ensures.value)
    (subst (λ ls. AreEquValues c.args.base (program_of ls) (length ls) names s.equ_values.items) (sym whole) kept)

pub put_behind-requires : goal.put_behind-requires
put_behind-requires g c =
    let s = c.args.self.now in
    let counted : vec_len s.highs ≡ length s.highs.items = omega (arith, s.highs.ok.0) in
    let longer = lengthened s.highs.items c.resize.new.self.items c.len-count.result _ c.in_ok-resize.ensures.items counted (let within = c.requires.within in omega (arith, within, c.len-count.ensures)) in
    omega (arith, longer.0, c.len-count.ensures, ap length c.deref-4.ensures.value, length_of_places c.args.base s.lines.items s.places.items c.requires.rows.places)

pub returns-clause-ok : goal.returns-clause-ok
returns-clause-ok g c =
    let s = c.args.self.now in
    let t = section_number c.args.still.now.place.section in
    let first = c.in-Some.first in
    let whole = c.in_column-lines.ensures ∙ c.as_slice.ensures in
    let counted : vec_len s.highs ≡ length s.highs.items = omega (arith, s.highs.ok.0) in
    let longer = lengthened s.highs.items c.resize.new.self.items c.len-count.result _ c.in_ok-resize.ensures.items counted (let within = c.requires.within in omega (arith, within, c.len-count.ensures)) in
    let count = length_of_places c.args.base s.lines.items s.places.items c.requires.rows.places in
    let number = c.len-count.ensures in
    let places = c.deref-4.ensures.value in
    let section = c.section_number-section.ensures.value in
    let high = c.high_on-high.ensures.value ∙ (λ j. high_at c.args.base (program_of (whole j)) (number j)) in
    let last : c.len-count.result ≡ length s.highs.items + (c.len-count.result - length s.highs.items) = (let within = c.requires.within in omega (arith, within, number)) in
    subst (λ o. GetHigh o s.places.items t (high_at c.args.base (program_of s.lines.items) (length s.lines.items)) s.highs.items c.put_behind.new.highs.items) (sym c.in-Some.is)
    (record {
      each = λ i.
          let row = longer.1 i in
          c.put_behind.ensures.each i ∙ (λ j. if waits_there (places j) (section j) first i then high j else row j);
      many = c.put_behind.ensures.many ∙ omega (arith, longer.0, number, count);
      more = omega (arith, c.put_behind.ensures.many, longer.0, last);
    })
