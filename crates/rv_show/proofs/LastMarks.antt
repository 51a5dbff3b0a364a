-- Where a line comes from, mark by mark.
use Rattle.std.proofs.Common.{◌≡◌, ℕ, ◌-◌, ◌<◌, ◌≤◌, true, cond, nat_lt, List, [], ◌∷◌, length, take, drop, map, get_or, refl, ap, sym, ◌∙◌, arith}
use Rattle.std.specs.Prelude.{Some, None}
use Rattle.std.specs.List.{last_or}
use Rattle.std.specs.Option.{option_map_or}
use Rattle.std.proofs.lemmas.Bool.{lt-ltb}
use Rattle.std.proofs.lemmas.List.Sums.{take_while-cons}
use Rattle.rv_text.specs.SliceLaws.{rest_of}
use Rattle.rv_show.specs.declared.origins.LineMark.{LineMark}
use Rattle.rv_show.specs.Origins.{Mark, Origin, mark_of, marks_above, origin_by}

-- by the last of some marks above a line, and as given where there is none
abbrev pub origin_after : (given : Origin) → List Mark → (line : ℕ) → Origin
origin_after given marks line = option_map_or (λ mark. origin_by mark line) (last_or None (marks_above line marks)) given

-- a mark is the last one if none follows
last_kept : {A B : Type 0} (f : A → B) (given : B) (x : A) (xs : List A) → option_map_or f (last_or None xs) (f x) ≡ option_map_or f (last_or (Some x) xs) given
last_kept f given x [] = refl
last_kept f given x (y ∷ ys) = sym (last_kept f (f x) y ys) ∙ last_kept f given y ys

above_more : (mark : Mark) (later : List Mark) (line : ℕ) → nat_lt mark.on line ≡ true → marks_above line (mark ∷ later) ≡ mark ∷ marks_above line later
above_more mark later line above = take_while-cons (λ m. nat_lt m.on line) mark later ∙ ap (λ t. cond t (mark ∷ marks_above line later) []) above

next_mark : (given : Origin) (mark : Mark) (later : List Mark) (line : ℕ) → nat_lt mark.on line ≡ true → origin_after (origin_by mark line) later line ≡ origin_after given (mark ∷ later) line
next_mark given mark later line above =
    last_kept (λ m. origin_by m line) given mark (marks_above line later)
    ∙ sym (ap (λ ms. option_map_or (λ m. origin_by m line) (last_or None ms) given) (above_more mark later line above))

-- one mark more of those that are lent
pub next_lent : (given : Origin) (marks : List LineMark) (line : ℕ) (origin : Origin) (d : LineMark) → 1 ≤ length marks → origin ≡ origin_by (mark_of (get_or marks 0 d)) line → (get_or marks 0 d).on < line → origin_after origin (map mark_of (take (length marks - 1) (drop 1 marks))) line ≡ origin_after given (map mark_of marks) line
next_lent given [] line origin d l e above = absurd (omega (arith, l))
next_lent given (mark ∷ later) line origin d l e above =
    ap (λ o. origin_after o (map mark_of (take (length (mark ∷ later) - 1) (drop 1 (mark ∷ later)))) line) e
    ∙ ap (λ ms. origin_after (origin_by (mark_of mark) line) (map mark_of ms) line) (rest_of mark later)
    ∙ next_mark given (mark_of mark) (map mark_of later) line (lt-ltb mark.on line above)
