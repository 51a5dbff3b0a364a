-- The faults that were found in a line.
use Rattle.std.proofs.Common.{◌≡◌, ℕ, List, [], ◌∷◌, length, map, Option, Some, refl, ap, sym, ◌∙◌}
use Rattle.std.proofs.lemmas.List.{length-map}
use Rattle.rv_text.specs.declared.faults.Fault.{Fault}
use Rattle.rv_list.specs.Faults.{found, fault_row}

-- the faults that were found are those
pub all_found : (fs : List Fault) → found (map (λ f. Some f) fs) ≡ fs
all_found [] = refl
all_found (f ∷ fs) = ap (λ l. f ∷ l) (all_found fs)

-- and a line has a row for each
pub found_rows : (line : ℕ) (fs : List Fault) (found : List (Option Fault)) → found ≡ map (λ f. Some f) fs → length found ≡ length (map (fault_row line) fs)
found_rows line fs found is = ap length is ∙ length-map fs (λ f. Some f) ∙ sym (length-map fs (fault_row line))
