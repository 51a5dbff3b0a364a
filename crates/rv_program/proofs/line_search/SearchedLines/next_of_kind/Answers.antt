use Rattle.std.proofs.Common.{◌≡◌, ◌+◌, ◌<◌, length, get_or, arith, ap, sym, subst, ◌∙◌}
use Rattle.std.proofs.lemmas.List.{get_or_default}
use Rattle.rv_program.specs.internal.Briefs.{is_brief_of}
use Rattle.rv_program.specs.internal.LineSearch.{AreUnwanted}
use Rattle.rv_program.specs.internal.LinesWithout.{is_of_kind, AreWithout}
use Rattle.rv_program.specs.Program.{program_of}
use Rattle.rv_program.proofs.LineSearches.{other-kind, unwanted-without, without-joined, without-next}
use Rattle.rv_program.proofs.line_search.SearchedLines.next_of_kind.Goals as goal

pub loop-at-init : goal.loop-at-init
loop-at-init c =
    let lines = c.args.self.now in
    let next = c.next-at in
    record {
      up = next.ensures.up;
      within = next.ensures.within;
      passed = unwanted-without lines c.args.kind c.args.i next.result next.ensures.within (subst (λ m. AreUnwanted m lines c.args.i next.result) c.of_kind-wanted.ensures next.ensures.passed);
    }

pub loop-at-preserved : goal.loop-at-preserved
loop-at-preserved c =
    let lines = c.args.self.now in
    let program = program_of lines in
    let kind = c.args.kind in
    let at = c.loop-at.at in
    let before = c.loop-at.invariant in
    let next = c.next-at-in-loop-at in
    let within : at < length lines = omega (arith, c.loop-at-test.true, ap length c.self.view_is) in
    let line = get_or c.self.inside.lines.now at c.index-self-at.result in
    let is : line ≡ get_or lines at line = ap (λ ls. get_or ls at c.index-self-at.result) c.self.view_is ∙ get_or_default lines at c.index-self-at.result line within in
    let none = other-kind lines kind at line within is (ap (is_brief_of kind) (sym c.brief.ensures) ∙ sym c.is_of.ensures ∙ c.if-is_of.false) in
    let after = unwanted-without lines kind (at + 1) next.result next.ensures.within (subst (λ m. AreUnwanted m lines (at + 1) next.result) c.of_kind-wanted.ensures next.ensures.passed) in
    record {
      up = omega (arith, before.up, next.ensures.up);
      within = next.ensures.within;
      passed = without-joined program kind c.args.i (at + 1) next.result (without-next program kind c.args.i at none before.passed) after;
    }

pub returns-then-is_of-clause-passed : goal.returns-then-is_of-clause-passed
returns-then-is_of-clause-passed c = λ lines are. subst (λ ls. AreWithout (is_of_kind c.args.kind) (program_of ls) c.args.i c.loop-at.at) are c.loop-at.invariant.passed

pub returns-clause-passed : goal.returns-clause-passed
returns-clause-passed c = λ lines are. subst (λ ls. AreWithout (is_of_kind c.args.kind) (program_of ls) c.args.i c.loop-at.at) are c.loop-at.invariant.passed
