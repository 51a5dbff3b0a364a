use Rattle.std.proofs.Common.{◌≡◌, Some, arith, ap, sym, ◌∙◌}
use Rattle.rv_expr.specs.Nodes.{tree_of_node}
use Rattle.rv_expr.specs.Tree.{Symbol, Local}
use Rattle.rv_program.specs.internal.Before.{edit_on}
use Rattle.rv_program.specs.Counted.{counts_of}
use Rattle.rv_program.specs.Edits.{line_before_edit}
use Rattle.rv_program.specs.Jumps.{target_of}
use Rattle.rv_program.specs.Program.{body_at}
use Rattle.rv_program.specs.internal.TextRows.{program_in}
use Rattle.rv_program.specs.Uses.{is_equ}
use Rattle.rv_program.proofs.ComparedJumps.{local-compared, not-compared}
use Rattle.rv_program.proofs.DueLines.{reencoded-by_distance, jump-open}
use Rattle.rv_program.proofs.LinePairLaws.{stood-before, body-before}
use Rattle.rv_program.proofs.due.is_jump_due.Goals as goal

pub differs_in_distance-requires-clause-no_equ_before : goal.differs_in_distance-requires-clause-no_equ_before
differs_in_distance-requires-clause-no_equ_before g c =
    let before = c.args.before.now in
    let after = c.args.after.now.text in
    let same = body-before before after c.args.line c.in-Some.stood c.requires.before c.requires.after c.requires.first c.requires.last (sym c.line_before.ensures ∙ c.in-Some.is) in
    ap is_equ (sym same) ∙ jump-open (body_at (program_in after) c.args.line) c.args.target.now c.requires.target

pub differs_in_local_distance-requires-clause-last_stood : goal.differs_in_local_distance-requires-clause-last_stood
differs_in_local_distance-requires-clause-last_stood g c =
    (stood-before c.args.before.now c.args.after.now.text c.args.line c.in-Some.stood c.requires.before c.requires.after c.requires.first c.requires.last (sym c.line_before.ensures ∙ c.in-Some.is)).last

pub returns-in-Symbol-clause-due : goal.returns-in-Symbol-clause-due
returns-in-Symbol-clause-due g c =
    let before = c.args.before.now in
    let after = c.args.after.now.text in
    let stands : line_before_edit (edit_on before) c.args.line ≡ Some c.in-Some.stood = sym c.line_before.ensures ∙ c.in-Some.is in
    let same = body-before before after c.args.line c.in-Some.stood c.requires.before c.requires.after c.requires.first c.requires.last stands in
    let goes : target_of (body_at (program_in after) c.args.line) ≡ Some (Symbol c.bytes.result.now) =
    c.requires.target ∙ ap Some (sym c.target.view_is ∙ ap tree_of_node c.in-Symbol.is ∙ ap Symbol (sym c.bytes.ensures)) in
    c.differs_in_distance.ensures
    ∙ reencoded-by_distance before after c.args.line c.in-Some.stood (Symbol c.bytes.result.now) c.requires.after stands goes (sym same)

pub returns-in-Local-clause-due : goal.returns-in-Local-clause-due
returns-in-Local-clause-due g c =
    let before = c.args.before.now in
    let after = c.args.after.now.text in
    let stands : line_before_edit (edit_on before) c.args.line ≡ Some c.in-Some.stood = sym c.line_before.ensures ∙ c.in-Some.is in
    let same = body-before before after c.args.line c.in-Some.stood c.requires.before c.requires.after c.requires.first c.requires.last stands in
    let goes : target_of (body_at (program_in after) c.args.line) ≡ Some (Local c.in-Local.number c.in-Local.direction) =
    c.requires.target ∙ ap Some (sym c.target.view_is ∙ ap tree_of_node c.in-Local.is) in
    c.differs_in_local_distance.ensures.differs
    ∙ reencoded-by_distance before after c.args.line c.in-Some.stood (Local c.in-Local.number c.in-Local.direction) c.requires.after stands goes (sym same)

pub returns-in-Symbol-clause-compared : goal.returns-in-Symbol-clause-compared
returns-in-Symbol-clause-compared g c =
    not-compared c.args.before.now c.args.after.now.text c.args.line c.requires.after c.requires.first (counts_of g.C.Count.parsed_count g.C.Count.valued_count g.C.Count.encoded_count c.args.counter.now)

pub returns-in-Local-clause-compared : goal.returns-in-Local-clause-compared
returns-in-Local-clause-compared g c =
    let before = c.args.before.now in
    let after = c.args.after.now.text in
    let goes : target_of (body_at (program_in after) c.args.line) ≡ Some (Local c.in-Local.number c.in-Local.direction) =
    c.requires.target ∙ ap Some (sym c.target.view_is ∙ ap tree_of_node c.in-Local.is) in
    let one = local-compared before after c.args.line c.requires.after c.requires.first c.in-Some.stood c.in-Local.number c.in-Local.direction (sym c.line_before.ensures ∙ c.in-Some.is) goes in
    let counted = c.differs_in_local_distance.ensures in
    record {
      parsed = counted.parsed;
      least = omega (arith, counted.valued);
      one = omega (arith, counted.valued);
      most = omega (arith, counted.valued, one);
      encoded = counted.encoded;
    }

pub returns-in_default-clause-compared : goal.returns-in_default-clause-compared
returns-in_default-clause-compared g c =
    not-compared c.args.before.now c.args.after.now.text c.args.line c.requires.after c.requires.first (counts_of g.C.Count.parsed_count g.C.Count.valued_count g.C.Count.encoded_count c.args.counter.now)

pub differs_in_distance-requires-clause-first_stood : goal.differs_in_distance-requires-clause-first_stood
differs_in_distance-requires-clause-first_stood g c =
    (stood-before c.args.before.now c.args.after.now.text c.args.line c.in-Some.stood c.requires.before c.requires.after c.requires.first c.requires.last (sym c.line_before.ensures ∙ c.in-Some.is)).first

pub differs_in_distance-requires-clause-last_stood : goal.differs_in_distance-requires-clause-last_stood
differs_in_distance-requires-clause-last_stood g c =
    (stood-before c.args.before.now c.args.after.now.text c.args.line c.in-Some.stood c.requires.before c.requires.after c.requires.first c.requires.last (sym c.line_before.ensures ∙ c.in-Some.is)).last

pub differs_in_local_distance-requires-clause-first_stood : goal.differs_in_local_distance-requires-clause-first_stood
differs_in_local_distance-requires-clause-first_stood g c =
    (stood-before c.args.before.now c.args.after.now.text c.args.line c.in-Some.stood c.requires.before c.requires.after c.requires.first c.requires.last (sym c.line_before.ensures ∙ c.in-Some.is)).first
