use Rattle.std.proofs.Common.{◌≡◌, ℕ, Bool, true, false, not, ◌&&◌, ◌||◌, List, [], ◌∷◌, true≢false, ap, sym, refl, ◌∙◌}
use Rattle.std.specs.List.{list_any}
use Rattle.std.proofs.lemmas.Bool.{eq-eqb}
use Rattle.rv_program.specs.internal.Before.{base_before}
use Rattle.rv_program.specs.Changes.{differs_in_place}
use Rattle.rv_program.specs.internal.NameSets.{brief_of_names, may_have}
use Rattle.rv_program.specs.internal.TextRows.{program_in}
use Rattle.rv_program.specs.Program.{body_at}
use Rattle.rv_program.specs.Uses.{names_used, uses_symbols, uses_address, uses_local_label, uses_paired_high, is_equ}
use Rattle.rv_program.proofs.ValidLines.{valid-by_brief}
use Rattle.rv_program.proofs.invalidation.may_be_invalidated.Goals as goal

pub returns-then-brief-3 : goal.returns-then-brief-3
returns-then-brief-3 c = λ unmoved.
    let before = c.args.before.now in
    let after = c.args.after.now.text in
    valid-by_brief before after c.args.line c.requires.before c.requires.after c.requires.first c.requires.last c.args.differing.now c.requires.differing c.args.brief c.requires.brief
    (λ new. c.if-may_be_new.false (c.place.ensures.only c.args.line new)) c.if-brief-2.false (c.meets.ensures c.if-meets.false)
    (λ stood stands. ap (λ used. used && differs_in_place (base_before before) (program_in before.symbols.text) (program_in after) c.args.line stood) c.if-brief-3.true ∙ c.is_new_or_moved.ensures unmoved stood stands)

pub returns-else-brief-3 : goal.returns-else-brief-3
returns-else-brief-3 c = λ placeless.
    let before = c.args.before.now in
    let after = c.args.after.now.text in
    valid-by_brief before after c.args.line c.requires.before c.requires.after c.requires.first c.requires.last c.args.differing.now c.requires.differing c.args.brief c.requires.brief
    (λ new. c.if-may_be_new.false (c.place.ensures.only c.args.line new)) c.if-brief-2.false (c.meets.ensures c.if-meets.false)
    (λ stood stands. ap (λ used. used && differs_in_place (base_before before) (program_in before.symbols.text) (program_in after) c.args.line stood) placeless)

-- a line that depends on nothing else
alone-parts : (symbols address uncompared : Bool) → not (symbols || address || uncompared) ≡ true → (symbols ≡ false) × (address ≡ false) × (uncompared ≡ false)
alone-parts true address uncompared is = absurd (true≢false (sym is))
alone-parts false true uncompared is = absurd (true≢false (sym is))
alone-parts false false true is = absurd (true≢false (sym is))
alone-parts false false false is = (refl, refl, refl)

no-names : (names : List (List ℕ)) → list_any (λ name. true) names ≡ false → names ≡ []
no-names [] none = refl
no-names (n ∷ ns) none = absurd (true≢false none)

pub returns-then-brief : goal.returns-then-brief
returns-then-brief c = λ stays.
    let before = c.args.before.now in
    let after = c.args.after.now.text in
    let body = body_at (program_in after) c.args.line in
    let brief = c.requires.brief in
    let parts = alone-parts (uses_symbols body) (uses_address body) (uses_local_label body || uses_paired_high body || is_equ body) (sym (ap (λ b. b.alone) brief) ∙ c.if-brief.true) in
    valid-by_brief before after c.args.line c.requires.before c.requires.after c.requires.first c.requires.last c.args.differing.now c.requires.differing c.args.brief brief
    (λ new. true≢false (sym (eq-eqb c.args.line c.place.result (c.place.ensures.only c.args.line new)) ∙ stays))
    (ap (λ b. b.uncompared) brief ∙ parts.2)
    (λ bucket has. ap (λ b. may_have b.names bucket) brief ∙ ap (λ names. may_have (brief_of_names names) bucket) (no-names (names_used body) parts.0))
    (λ stood stands. ap (λ used. used && differs_in_place (base_before before) (program_in before.symbols.text) (program_in after) c.args.line stood) (ap (λ b. b.address) brief ∙ parts.1))
