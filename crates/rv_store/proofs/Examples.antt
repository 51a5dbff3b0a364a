-- Worked examples of the definitions, computed. The words are those of the assembler of LLVM 14.0.6.
use Rattle.std.specs.Prelude.{◌≡◌, [], ◌∷◌, None, Some, codes, refl, replicate}
use Rattle.rv_program.specs.declared.edit_error.EditError.TheVariants.{Place, Line, TooMany}
use Rattle.rv_program.specs.Text.{Insert, Delete, refusal_of, lines_after}

-- why edits are refused
insert_nowhere : refusal_of [] (Insert 0 []) ≡ Some Place
insert_nowhere = refl

insert_beyond : refusal_of ([] ∷ []) (Insert 3 (10 ∷ [])) ≡ Some Place
insert_beyond = refl

insert_last : refusal_of ([] ∷ []) (Insert 2 (replicate 1000 32)) ≡ None
insert_last = refl

insert_long : refusal_of [] (Insert 1 (replicate 1001 32)) ≡ Some Line
insert_long = refl

insert_break : refusal_of [] (Insert 1 (codes "a\nb")) ≡ Some Line
insert_break = refl

insert_full : refusal_of (replicate 16384 []) (Insert 1 []) ≡ Some TooMany
insert_full = refl

insert_almost_full : refusal_of (replicate 16383 []) (Insert 16384 []) ≡ None
insert_almost_full = refl

insert_long_full : refusal_of (replicate 16384 []) (Insert 16386 (10 ∷ [])) ≡ Some Place
insert_long_full = refl

delete_empty : refusal_of [] (Delete 1) ≡ Some Place
delete_empty = refl

delete_nowhere : refusal_of ([] ∷ []) (Delete 0) ≡ Some Place
delete_nowhere = refl

-- what edits give
insert_first : lines_after ((1 ∷ []) ∷ (2 ∷ []) ∷ []) (Insert 1 (3 ∷ [])) ≡ (3 ∷ []) ∷ (1 ∷ []) ∷ (2 ∷ []) ∷ []
insert_first = refl

insert_end : lines_after ((1 ∷ []) ∷ (2 ∷ []) ∷ []) (Insert 3 (3 ∷ [])) ≡ (1 ∷ []) ∷ (2 ∷ []) ∷ (3 ∷ []) ∷ []
insert_end = refl

delete_second : lines_after ((1 ∷ []) ∷ (2 ∷ []) ∷ (3 ∷ []) ∷ []) (Delete 2) ≡ (1 ∷ []) ∷ (3 ∷ []) ∷ []
delete_second = refl
