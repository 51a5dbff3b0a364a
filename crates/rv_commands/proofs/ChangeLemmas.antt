-- What an insertion is spelled as.
use Rattle.std.proofs.Common.{◌≡◌, ℕ, true, false, List, refl}
use Rattle.std.specs.Prelude.{codes, bytes_eq, Some}
use Rattle.rv_program.specs.Text.{Insert}
use Rattle.rv_commands.specs.Commands.{Change, first_word, after_word, place_of, change_of}

-- the first word behind `i` is the number of a line, and the line is what stands behind that
pub insert_asked : (word rest number line : List ℕ) (place : ℕ) → bytes_eq word (codes "a") ≡ false → bytes_eq word (codes "i") ≡ true → number ≡ first_word rest → line ≡ after_word rest → place_of number ≡ Some place → Some (Change (Insert place line)) ≡ change_of word rest
insert_asked word rest number line place other is n l p = rw (other, is, ← n, p, l) refl
