use Rattle.std.proofs.Common.{◌≡◌, ◌+◌, ◌-◌, ℕ, List, length, Option, Some, None, arith, ap, sym, subst, ◌∙◌}
use Rattle.std.specs.Option.{IfSome}
use Rattle.std.proofs.lemmas.List.{length-map}
use Rattle.std.proofs.lemmas.Option.{IfSome_then}
use Rattle.rv_stmt.specs.Statement.{statement_of}
use Rattle.rv_layout.specs.Shapes.{shape_of}
use Rattle.rv_program.specs.Constants.{constant_through}
use Rattle.rv_program.specs.Program.{program_of}
use Rattle.rv_store.specs.internal.StillLines.{IsStillLine}
use Rattle.rv_store.proofs.Endings.{inserted-put}
use Rattle.rv_program.specs.lemmas.EarlierLines.{insert_within}
use Rattle.rv_program.specs.lemmas.Programs.{length-program}
use Rattle.rv_store.proofs.store.Store.ending.Goals as goal

pub apart_ending-requires-clause-shape : goal.apart_ending-requires-clause-shape
apart_ending-requires-clause-shape c =
    let old = c.args.self.now in
    let lines : List (List ℕ) = c.self.inside.survey.lines.items in
    let same : lines ≡ old.lines = c.self.invariant.listed ∙ ap (λ t. t.lines) c.self.view_is in
    let within = insert_within old.lines c.args.k c.args.line.now c.requires.allowed in
    let behind : c.args.k - 1 ≡ length (program_of lines) =
    omega (arith, within.1, c.if-k-len.false, c.len.ensures.value, length-program lines, ap length c.self.invariant.listed, ap length same, length-map c.self.inside.items.items (λ i. i.line)) in
    c.requires.shape
    ∙ ap (λ ls. shape_of (constant_through (program_of ls) (c.args.k - 1)) (statement_of c.args.line.now).body) (sym same)
    ∙ ap (λ n. shape_of (constant_through (program_of lines) n) (statement_of c.args.line.now).body) behind

any_some : {A Q : Type 0} (o : Option A) → Q → IfSome o (λ x. Q)
any_some None q = tt
any_some (Some x) q = q

pub returns-clause-edit : goal.returns-clause-edit
returns-clause-edit c =
    let old = c.args.self.now in
    let within = insert_within old.lines c.args.k c.args.line.now c.requires.allowed in
    any_some c.apart_ending.result
    (inserted-put old.lines c.args.k c.args.line.now
    (omega (arith, within.1, c.if-k-len.false, c.len.ensures.value, ap (λ t. length t.lines) c.self.view_is, length-map c.self.inside.items.items (λ i. i.line))))

pub returns-clause-still : goal.returns-clause-still
returns-clause-still c =
    let old = c.args.self.now in
    let within = insert_within old.lines c.args.k c.args.line.now c.requires.allowed in
    let at_end : c.args.k ≡ length old.lines + 1 =
    omega (arith, within.1, c.if-k-len.false, c.len.ensures.value, ap (λ t. length t.lines) c.self.view_is, length-map c.self.inside.items.items (λ i. i.line)) in
    IfSome_then c.apart_ending.result c.apart_ending.ensures
    (λ end is.
    let number : length c.self.inside.survey.lines.items + 1 ≡ c.args.k = omega (arith, at_end, ap length c.self.invariant.listed, ap (λ t. length t.lines) c.self.view_is) in
    subst (λ t. IsStillLine t.base t.lines c.args.k c.args.line.now end.still end.users.items) c.self.view_is
    (subst (λ ls. IsStillLine c.self.inside.base ls c.args.k c.args.line.now end.still end.users.items) c.self.invariant.listed
    (subst (λ n. IsStillLine c.self.inside.base c.self.inside.survey.lines.items n c.args.line.now end.still end.users.items) number is)))
