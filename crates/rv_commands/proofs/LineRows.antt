-- Lines that are gathered one after another.
use Rattle.std.proofs.Common.{◌≡◌, ℕ, ◌+◌, ◌-◌, ◌==◌, List, ◌++◌, take, sym, arith}
use Rattle.std.proofs.lemmas.Option.{get_or_from_slice_get, slice_get_within}
use Rattle.std.specs.List.{flat_map, slice_get}
use Rattle.std.specs.Prelude.{Option, Some, None, false, if◌then◌else◌}
use Rattle.std.proofs.lemmas.Bool.Decides.{nat_tests}
use Rattle.rv_text.specs.Streams.{WritesPrefix}
use Rattle.rv_text.specs.Blocks.{Waits}
use Rattle.rv_commands.specs.Pages.{ended}
use Rattle.rv_commands.proofs.ItemTexts.{item_gathered, item_lost}

-- the line that a store has at this place
pub line_at : (lines : List (List ℕ)) (k : ℕ) (line : List ℕ) → Some line ≡ (if k + 1 == 0 then None else slice_get lines (k + 1 - 1)) → slice_get lines k ≡ Some line
line_at lines k line e =
    let later : (k + 1 == 0) ≡ false = grind (arith, nat_tests) in
    let same : k + 1 - 1 ≡ k = omega arith in
    sym (rw (later, same) at e)

pub line_gathered : (lines : List (List ℕ)) (k : ℕ) (line : List ℕ) (t0 t1 t2 : Option (List ℕ)) (p0 p1 p2 : List ℕ) → slice_get lines k ≡ Some line → Waits t0 p0 (flat_map ended (take k lines)) t1 p1 → Waits t1 p1 (ended line) t2 p2 → Waits t0 p0 (flat_map ended (take (k + 1) lines)) t2 p2
line_gathered lines k line t0 t1 t2 p0 p1 p2 e a b =
    item_gathered ended lines k line (slice_get_within lines k line e) (sym (get_or_from_slice_get lines k line line e)) t0 t1 t2 p0 p1 p2 a b

-- a write fails within the next line
pub line_lost : (lines : List (List ℕ)) (k : ℕ) (line : List ℕ) (t0 t1 t2 : Option (List ℕ)) (p0 p1 : List ℕ) → slice_get lines k ≡ Some line → Waits t0 p0 (flat_map ended (take k lines)) t1 p1 → WritesPrefix t1 (p1 ++ ended line) t2 → WritesPrefix t0 (p0 ++ flat_map ended lines) t2
line_lost lines k line t0 t1 t2 p0 p1 e a w =
    item_lost ended lines k line (slice_get_within lines k line e) (sym (get_or_from_slice_get lines k line line e)) t0 t1 t2 p0 p1 a w
