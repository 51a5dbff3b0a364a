use Rattle.std.proofs.Common.{◌≡◌, ℕ, true, List, IfSome, arith, subst}
use Rattle.std.proofs.lemmas.Bool.{lt-leb, and_left, or_from}
use Rattle.rv_program.specs.internal.NameSets.{bucket_of}
use Rattle.rv_store.specs.internal.Apart.{added_by}
use Rattle.rv_store.proofs.ApartLines.{unused-by_first}
use Rattle.rv_store.proofs.apart.LineBehind.lines_untouched.Goals as goal

pub returns-clause-untouched : goal.returns-clause-untouched
returns-clause-untouched c lines count are line first last =
    let behind = c.args.self.now in
    let bucket = c.in-Some.bucket in
    let only = subst (λ o. IfSome o (λ b. (name : List ℕ) → added_by behind name ≡ true → bucket_of name ≡ b)) c.in-Some.is c.requires.only in
    or_from _ _
    (unused-by_first lines behind c.args.uses.now bucket only are line first (omega (arith, last, count, c.min-2.ensures)) (omega (arith, last, c.first.ensures, c.min.ensures, c.min-2.ensures)))
    (and_left _ _ (lt-leb behind.from line (omega (arith, first, last, c.min.ensures, c.min-2.ensures, c.saturating_sub-before.ensures))))
