-- What is found beside a name.
use Rattle.std.proofs.Common.{MatchOption, option_map, ◌≡◌, ℕ, ◌<◌, List, [], ◌∷◌, true, false, cond, Option, Some, None, refl, sym, ap, ◌∙◌, map, Bor}
use Rattle.std.specs.Prelude.{◌↔◌, IsSome}
use Rattle.std.specs.Str.{str_eq_ignore_ascii_case}
use Rattle.std.specs.Option.{IfSome}
use Rattle.std.proofs.lemmas.Bool.{cond_both}
use Rattle.std.specs.List.{find}
use Rattle.rv_ops.specs.Names.{first_named}

mapped_twice : {R A : Type 0} (beside : R → A) (found : Option (Bor R)) → option_map (λ row. beside row.now) found ≡ option_map beside (option_map (λ row. row.now) found)
mapped_twice beside None = refl
mapped_twice beside (Some x) = refl

-- what stands beside the name in the first row that has it
first_named-find : {R A : Type 0} (beside : R → A) (name : R → List ℕ) (rows : List R) (text : List ℕ) → option_map beside (find (λ row. str_eq_ignore_ascii_case (name row) text) rows) ≡ first_named (map (λ row. (beside row, name row)) rows) text
first_named-find beside name [] text = refl
first_named-find beside name (x ∷ rows) text =
    let rest = first_named (map (λ row. (beside row, name row)) rows) text in
    cond_both (str_eq_ignore_ascii_case (name x) text) (Some x) (find (λ row. str_eq_ignore_ascii_case (name row) text) rows) (λ r. option_map beside r ≡ cond (str_eq_ignore_ascii_case (name x) text) (Some (beside x)) rest)
    (λ e. sym (ap (λ t. cond t (Some (beside x)) rest) e))
    (λ e. first_named-find beside name rows text ∙ sym (ap (λ t. cond t (Some (beside x)) rest) e))

-- the same, of the row that `find` gave by reference
pub first_named-found_row : {R A : Type 0} (beside : R → A) (name : R → List ℕ) (rows : List R) (text : List ℕ) (found : Option (Bor R)) (result : Option A) → option_map (λ row. row.now) found ≡ find (λ row. str_eq_ignore_ascii_case (name row) text) rows → result ≡ option_map (λ row. beside row.now) found → result ≡ first_named (map (λ row. (beside row, name row)) rows) text
first_named-found_row beside name rows text found result e m =
    m ∙ mapped_twice beside found ∙ ap (λ r. option_map beside r) e ∙ first_named-find beside name rows text

-- a type's own number below its bound
found_number : (bound : ℕ) (r : Option ℕ) (n : ℕ) → (IsSome r ↔ (n < bound)) → IfSome r (λ m. m ≡ n) → n < bound → r ≡ Some n
found_number bound None n exists value h =
    let e : false ≡ true = exists.1 h in
    absurd (cc)
found_number bound (Some m) n exists value h = ap (λ k. Some k) value

pub mapped_is_some : {T U : Type 0} (f : T → U) (r : Option T) → IsSome (option_map f r) → IsSome r
mapped_is_some f None h = h
mapped_is_some f (Some x) h = refl

pub mapped_if_some : {T U : Type 0} (f : T → U) (r : Option T) (P : U → Type 0) → IfSome (option_map f r) P → IfSome r (λ x. P (f x))
mapped_if_some f None P h = tt
mapped_if_some f (Some x) P h = h

-- what is made of a number that is found below the bound is that number
pub made_number : (bound : ℕ) (found : Option ℕ) (result : Option ℕ) → IfSome found (λ n. n < bound) → MatchOption found (result ≡ None) (λ n. (IsSome result ↔ (n < bound)) × IfSome result (λ m. m ≡ n)) → result ≡ found
made_number bound None result below made = made
made_number bound (Some n) result below made = found_number bound result n made.0 made.1 below
