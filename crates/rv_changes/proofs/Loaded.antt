-- Texts that lines are put at the end of.
use Rattle.std.proofs.Common.{◌≡◌, ℕ, suc, ◌-◌, ◌<◌, List, [], ◌∷◌, ◌++◌, take, ap, sym, ◌∙◌, arith, append_assoc}
use Rattle.std.specs.Prelude.{map}

-- one more behind the last
pub appended_first : {A B : Type 0} (f : A → B) (done : List B) (x : A) (later all : List A) (left : ℕ) → 0 < left → all ≡ x ∷ later → (done ++ f x ∷ []) ++ map f (take (left - 1) later) ≡ done ++ map f (take left all)
appended_first f done x later all left some is =
    let more : left ≡ suc (left - 1) = omega arith in
    append_assoc done (f x ∷ []) (map f (take (left - 1) later))
    ∙ ap (λ n. done ++ map f (take n (x ∷ later))) (sym more)
    ∙ ap (λ l. done ++ map f (take left l)) (sym is)
