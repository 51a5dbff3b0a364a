use Rattle.std.proofs.Common.{◌≡◌, suc, pos, ◌-◌, ◌<◌, length, get_or, set, if◌then◌else◌, Ok, Err, refl, arith, ap, sym, subst, ◌∙◌, get_or-set_other}
use Rattle.std.proofs.lemmas.List.{length-set, get_or_default}
use Rattle.rv_expr.specs.declared.faults.ValueFault.TheVariants.{NoPartner}
use Rattle.rv_layout.specs.Sections.{section_number, sections}
use Rattle.rv_program.specs.internal.PairedHighs.{high_in, next_in, has_bytes_there, paired_high_in, AreNext}
use Rattle.rv_program.specs.internal.TextRows.{no_place}
use Rattle.rv_program.proofs.PairedHighs.{next-passed, next-paired, high-at, row-paired}
use Rattle.rv_program.proofs.pairs.pair_highs.Goals as goal

pub loop-i-preserved : goal.loop-i-preserved
loop-i-preserved c =
    let i = c.loop-i.i - 1 in
    let places = c.args.places.now in
    let highs = c.args.highs.now.items in
    let row = c.loop-i.highs.items in
    let new = c.pass_line.new.next in
    let before = c.loop-i.invariant in
    let below : i < length places = omega (arith, c.loop-i-test.true, before.within) in
    let count : i < length row = omega (arith, below, before.many) in
    let next : suc i ≡ c.loop-i.i = omega (arith, c.loop-i-test.true) in
    let value = get_or new c.section_number.result (Ok (pos 0)) in
    let high : c.index.result.now ≡ high_in highs (suc i) =
    c.index.ensures ∙ get_or_default row i c.index.result.now (Err NoPartner) count ∙ sym (high-at row i) ∙ before.left i (omega (arith, c.loop-i-test.true)) in
    let place = c.place_behind-place.result in
    let lies : place ≡ get_or places i no_place = c.place_behind-place.ensures in
    let are : AreNext places highs i new =
    next-passed places highs i place c.loop-i.next new below (sym lies) (subst (λ n. AreNext places highs n c.loop-i.next) (sym next) before.next)
    (λ t under. c.pass_line.ensures t under ∙ ap (λ h. if has_bytes_there t place then h else next_in c.loop-i.next t) high) in
    let section : c.section_number.result ≡ section_number (get_or places i no_place).section =
    c.section_number.ensures.value ∙ ap (λ p. section_number p.section) lies in
    let under : section_number (get_or places i no_place).section < sections = subst (λ n. n < sections) section c.section_number.ensures.below in
    let long : c.section_number.result < length new = omega (arith, c.section_number.ensures.below, c.pass_line.array_long) in
    let paired : value ≡ paired_high_in places highs (suc i) =
    get_or_default new c.section_number.result (Ok (pos 0)) (Err NoPartner) long ∙ ap (next_in new) section
    ∙ next-paired places highs i (get_or places i no_place) new refl under are in
    record {
      within = omega (arith, below);
      many = length-set row i value ∙ before.many;
      left = λ k first. high-at (set row i value) k ∙ get_or-set_other row i k value (Err NoPartner) (λ e. omega (arith, e, first)) ∙ sym (high-at row k) ∙ before.left k (omega (arith, first));
      done = row-paired places highs i row value count paired (λ k from. before.done k (omega (arith, from, next)));
      next = are;
    }
