use Rattle.std.proofs.Common.{◌≡◌, ◌≤◌, ◌+◌, ◌^◌, length, rules, arith, ap, subst, sym, ◌∙◌}
use Rattle.std.proofs.lemmas.List.{length-append}
use Rattle.rv_layout.specs.Sections.{sections}
use Rattle.rv_store.specs.internal.Ends.{next_offset, IsReached}
use Rattle.rv_store.proofs.EndLaws.{next-short, next-IsLimited, reached-next, placed-next}
use Rattle.rv_store.proofs.places.push_next.Goals as goal

pub advance-size-requires-clause-short : goal.advance-size-requires-clause-short
advance-size-requires-clause-short c =
    subst (λ e. next_offset e ≤ 2 ^ 30) (sym c.requires.reached) (next-short c.args.shapes.now (length c.args.row.now.items) c.requires.few c.requires.limited)

pub advance-size-requires-clause-limited : goal.advance-size-requires-clause-limited
advance-size-requires-clause-limited c =
    let count : length c.args.row.now.items ≡ c.len.result = search rules in
    next-IsLimited c.args.shapes.now c.len.result c.index-shapes-len.result c.requires.limited (omega (arith, count, c.requires.left)) c.index-shapes-len.is

pub returns-clause-reached : goal.returns-clause-reached
returns-clause-reached c =
    let ms = c.args.shapes.now in
    let i = c.len.result in
    let count : length c.args.row.now.items ≡ i = search rules in
    let more : length c.push_reserved.new.self.items ≡ i + 1 = ap length c.push_reserved.ensures.items ∙ length-append c.args.row.now.items _ ∙ ap (λ n. n + 1) count in
    subst (λ n. IsReached ms n c.advance-size.new.self) (sym more)
    (reached-next ms c.args.reached.now c.advance-size.new.self i c.index-shapes-len.result c.args.row.now.items c.push_reserved.new.self.items c.advance-size.result c.index-shapes-len.is (omega (arith, count, c.requires.left)) c.requires.few c.requires.limited
    (subst (λ n. IsReached ms n c.args.reached.now) count c.requires.reached) count c.advance-size.ensures.ends)

pub returns-clause-places : goal.returns-clause-places
returns-clause-places c base placed =
    let ms = c.args.shapes.now in
    let i = c.len.result in
    let count : length c.args.row.now.items ≡ i = search rules in
    let many : length c.args.reached.now.ends.offsets ≡ sections = search rules in
    placed-next ms c.args.reached.now c.advance-size.new.self i c.index-shapes-len.result c.args.row.now.items c.push_reserved.new.self.items c.advance-size.result c.index-shapes-len.is (omega (arith, count, c.requires.left)) c.requires.few c.requires.limited
    (subst (λ n. IsReached ms n c.args.reached.now) count c.requires.reached) count base c.args.bases.now c.requires.base many c.advance-size.ensures.size c.push_reserved.ensures.items placed
