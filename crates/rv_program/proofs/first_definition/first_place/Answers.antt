use Rattle.std.proofs.Common.{◌+◌, ◌<◌, length, get_or, [], arith, ap, sym, subst, ◌∙◌}
use Rattle.std.proofs.lemmas.List.{get_or_default}
use Rattle.rv_stmt.specs.Statement.{statement_of}
use Rattle.rv_program.specs.Definitions.{place_in_statement, is_defined}
use Rattle.rv_program.specs.internal.LineSearch.{AreUnwanted}
use Rattle.rv_program.specs.internal.Masks.{mask_of_bucket}
use Rattle.rv_program.proofs.LineSearches.{nowhere, place-past, place-next, place-found, place-none}
use Rattle.rv_program.proofs.first_definition.first_place.Goals as goal

pub lines-init : goal.lines-init
lines-init c =
    let lines = c.args.searched.now in
    let next = c.next-i.ensures in
    let mask = c.of_bucket-wanted.ensures ∙ ap mask_of_bucket c.bucket_of.ensures.bucket in
    record {
      within = next.within;
      place = sym (place-past c.args.name.now lines c.args.from c.next-i.result next.up next.within (subst (λ m. AreUnwanted m lines c.args.from c.next-i.result) mask next.passed));
    }

pub lines-preserved : goal.lines-preserved
lines-preserved c =
    let lines = c.args.searched.now in
    let name = c.args.name.now in
    let i = c.lines.i in
    let next = c.next-i-in-lines in
    let mask = c.of_bucket-wanted.ensures ∙ ap mask_of_bucket c.bucket_of.ensures.bucket in
    let within : i < length lines = omega (arith, c.lines-test.true, ap length c.lines-lines.ensures) in
    let line = c.index-lines-i.is ∙ ap (λ ls. get_or ls i c.index-lines-i.result) c.lines-lines.ensures ∙ get_or_default lines i c.index-lines-i.result [] within in
    let none = ap (λ l. place_in_statement (i + 1) (statement_of l) name) (sym line) ∙ sym c.place_on-place.ensures ∙ nowhere c.place_on-place.result (sym c.is_defined.ensures ∙ c.if-is_defined.false) in
    record {
      within = next.ensures.within;
      place = sym (place-past name lines (i + 1) next.result next.ensures.up next.ensures.within (subst (λ m. AreUnwanted m lines (i + 1) next.result) mask next.ensures.passed))
          ∙ sym (place-next name lines i within none)
          ∙ c.lines.invariant.place;
    }

pub returns-then-is_defined : goal.returns-then-is_defined
returns-then-is_defined c =
    let lines = c.args.searched.now in
    let name = c.args.name.now in
    let i = c.lines.i in
    let within : i < length lines = omega (arith, c.lines-test.true, ap length c.lines-lines.ensures) in
    let line = c.index-lines-i.is ∙ ap (λ ls. get_or ls i c.index-lines-i.result) c.lines-lines.ensures ∙ get_or_default lines i c.index-lines-i.result [] within in
    let here = c.place_on-place.ensures ∙ ap (λ l. place_in_statement (i + 1) (statement_of l) name) line in
    here ∙ sym (place-found name lines i within (ap is_defined (sym here) ∙ sym c.is_defined.ensures ∙ c.if-is_defined.true)) ∙ c.lines.invariant.place

pub returns : goal.returns
returns c = sym (place-none c.args.name.now c.args.searched.now c.lines.i (c.lines.i + 1) (omega (arith, c.lines-test.false, ap length c.lines-lines.ensures))) ∙ c.lines.invariant.place
