-- The stack of what waits.
use Rattle.std.proofs.Common.{◌≡◌, List, [], ◌∷◌, ◌++◌}
use Rattle.std.proofs.lemmas.List.{reverse-append}
use Rattle.rv_expr.specs.declared.reading.Pending.{Pending}
use Rattle.rv_expr.specs.ReaderState.{waits}

pub waits_push : (xs : List Pending) (x : Pending) → waits (xs ++ x ∷ []) ≡ x ∷ waits xs
waits_push xs x = reverse-append xs (x ∷ [])
