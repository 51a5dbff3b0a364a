-- Diagnostics that are written.
use Rattle.std.proofs.Common.{◌≡◌, ℕ, ◌-◌, ◌≤◌, List, [], ◌∷◌, ◌++◌, length, take, drop, min, ap, sym, ◌∙◌, arith, append_assoc}
use Rattle.std.specs.Prelude.{get_or, Option}
use Rattle.std.specs.List.{flat_map}
use Rattle.std.proofs.lemmas.Grind.{flat_map-append}
use Rattle.std.proofs.lemmas.List.{take_all, take_min}
use Rattle.rv_text.specs.declared.faults.Fault.{Fault}
use Rattle.rv_list.specs.Faults.{body_faults, found}
use Rattle.rv_diagnostics.specs.Diagnostics.{diagnostic_head}

-- what a diagnostic begins with, by what it is made of
pub same_head : (line line' from from' to to' severity : ℕ) (code code' message message' : List ℕ) → line ≡ line' → from ≡ from' → to ≡ to' → code ≡ code' → message ≡ message' → diagnostic_head line from to severity code message ≡ diagnostic_head line' from' to' severity code' message'
same_head line line' from from' to to' severity code code' message message' l f t c m =
    ap (λ x. diagnostic_head x from to severity code message) l
    ∙ ap (λ x. diagnostic_head line' x to severity code message) f
    ∙ ap (λ x. diagnostic_head line' from' x severity code message) t
    ∙ ap (λ x. diagnostic_head line' from' to' severity x message) c
    ∙ ap (λ x. diagnostic_head line' from' to' severity code' x) m

-- the first items, at most so many
pub first_of : {A : Type 0} (count most : ℕ) (xs : List A) → count ≡ min (length xs) most → take count xs ≡ take most xs
first_of count most xs is = ap (λ n. take n xs) (let other : count ≡ min most (length xs) = omega (arith, is) in other) ∙ take_min most xs

-- Parts one after another

pub two_parts : {A : Type 0} (a b old m1 m2 : List A) → m1 ≡ old ++ a → m2 ≡ m1 ++ b → m2 ≡ old ++ (a ++ b)
two_parts a b old m1 m2 one two = two ∙ ap (λ l. l ++ b) one ∙ append_assoc old a b

pub three_parts : {A : Type 0} (a b c old m1 m2 m3 : List A) → m1 ≡ old ++ a → m2 ≡ m1 ++ b → m3 ≡ m2 ++ c → m3 ≡ old ++ (a ++ (b ++ c))
three_parts a b c old m1 m2 m3 one two three = two_parts a (b ++ c) old m1 m3 one (two_parts b c m1 m2 m3 two three)

-- Faults one after another

-- the fault of the first place, and those of the others
found_first : (faults : List (Option Fault)) (d : Option Fault) → 1 ≤ length faults → found faults ≡ body_faults (get_or faults 0 d) ++ found (take (length faults - 1) (drop 1 faults))
found_first [] d some = absurd (omega (arith, some))
found_first (x ∷ xs) d some =
    let count : length (x ∷ xs) - 1 ≡ length xs = omega arith in
    ap (λ l. body_faults x ++ found l) (sym (ap (λ n. take n xs) count ∙ take_all (length xs) xs (omega arith)))

-- the diagnostics of the fault of the first place are written, and then those of the others
pub next_faults : {B : Type 0} (f : Fault → List B) (faults : List (Option Fault)) (d : Option Fault) (old new : List B) → 1 ≤ length faults → new ≡ old ++ flat_map f (body_faults (get_or faults 0 d)) → new ++ flat_map f (found (take (length faults - 1) (drop 1 faults))) ≡ old ++ flat_map f (found faults)
next_faults f faults d old new some is =
    let later = found (take (length faults - 1) (drop 1 faults)) in
    ap (λ l. l ++ flat_map f later) is
    ∙ append_assoc old (flat_map f (body_faults (get_or faults 0 d))) (flat_map f later)
    ∙ ap (λ l. old ++ l) (sym (flat_map-append f (body_faults (get_or faults 0 d)) later) ∙ ap (flat_map f) (sym (found_first faults d some)))
