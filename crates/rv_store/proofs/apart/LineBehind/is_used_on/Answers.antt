use Rattle.std.proofs.Common.{◌≡◌, ℕ, true, List, IfSome, ap, subst, sym, ◌∙◌}
use Rattle.rv_stmt.specs.Statement.{statement_of}
use Rattle.rv_program.specs.internal.NameSets.{bucket_of, may_have}
use Rattle.rv_program.specs.Uses.{names_used}
use Rattle.rv_store.specs.internal.Apart.{added_by}
use Rattle.rv_store.proofs.ApartLines.{unused-by_bucket}
use Rattle.rv_store.proofs.apart.LineBehind.is_used_on.Goals as goal

pub returns-in-Some : goal.returns-in-Some
returns-in-Some c =
    let behind = c.args.self.now in
    let bucket = c.in-Some.bucket in
    let only = subst (λ o. IfSome o (λ b. (name : List ℕ) → added_by behind name ≡ true → bucket_of name ≡ b)) c.in-Some.is c.requires in
    sym (unused-by_bucket behind bucket (names_used (statement_of c.args.line.now).body) only
    (ap (λ b. may_have b.names bucket) (sym c.brief.ensures) ∙ sym c.may_have.ensures ∙ c.if-not-may_have.true))
