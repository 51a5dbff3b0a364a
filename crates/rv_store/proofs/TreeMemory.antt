-- Edits of the tree of items that have a place there: they are refused for memory alone.
use Rattle.std.proofs.Common.{◌≡◌, ℕ, ◌+◌, ◌<◌, ◌≤◌, Option, None, Result, Ok, Err, arith, ap, ◌∙◌}
use Rattle.std.proofs.lemmas.Grind.{common_steps}
use Rattle.std.proofs.lemmas.Bool.Decides.{nat_tests}
use Rattle.std.specs.Option.{unwrap_or}
use Rattle.std.specs.Result.{IfErr, IsErrAnd}
use Rattle.rv_tree.specs.Refusals.{place_refusal, insert_refusal}
use Rattle.rv_tree.specs.declared.error.TreeError.{TreeError}
use Rattle.rv_tree.specs.declared.error.TreeError.TheVariants as tree
use Rattle.rv_program.specs.declared.edit_error.EditError.{EditError}
use Rattle.rv_program.specs.declared.edit_error.EditError.TheVariants.{Memory}
use Rattle.rv_program.specs.internal.TreeRefusals.{refusal_by_tree}

by-memory : {T : Type 0} (r : Result T EditError) (e : TreeError) (why : Option TreeError) → IsErrAnd r (λ y. y ≡ refusal_by_tree e) → e ≡ unwrap_or why tree.Memory → why ≡ None → IfErr r (λ y. y ≡ Memory)
by-memory (Ok x) e why gives is none = tt
by-memory (Err y) e why gives is none = gives ∙ ap refusal_by_tree (is ∙ ap (λ o. unwrap_or o tree.Memory) none)

has-place : (k n : ℕ) → 1 ≤ k → k ≤ n → place_refusal k n ≡ None
has-place k n first last = grind (arith, nat_tests, common_steps)

has-room : (k n : ℕ) → 1 ≤ k → k ≤ n + 1 → n < 16384 → insert_refusal k n ≡ None
has-room k n first last few = grind (arith, nat_tests, common_steps)

-- an item is deleted or replaced
pub place-by-memory : {T : Type 0} (r : Result T EditError) (e : TreeError) (k n : ℕ) → IsErrAnd r (λ y. y ≡ refusal_by_tree e) → e ≡ unwrap_or (place_refusal k n) tree.Memory → 1 ≤ k → k ≤ n → IfErr r (λ y. y ≡ Memory)
place-by-memory r e k n gives is first last = by-memory r e (place_refusal k n) gives is (has-place k n first last)

-- an item is put in
pub insert-by-memory : {T : Type 0} (r : Result T EditError) (e : TreeError) (k n : ℕ) → IsErrAnd r (λ y. y ≡ refusal_by_tree e) → e ≡ unwrap_or (insert_refusal k n) tree.Memory → 1 ≤ k → k ≤ n + 1 → n < 16384 → IfErr r (λ y. y ≡ Memory)
insert-by-memory r e k n gives is first last few = by-memory r e (insert_refusal k n) gives is (has-room k n first last few)
