-- Texts of rows with their number.
use Rattle.std.proofs.Common.{◌≡◌, ℕ, List, ◌++◌, length}
use Rattle.std.specs.List.{concat}
use Rattle.std.specs.Prelude.{Option, Result}
use Rattle.rv_text.specs.Streams.{WritesPrefix}
use Rattle.rv_text.specs.Blocks.{Waits, Gathers}
use Rattle.rv_text.specs.BlockLaws.{gathers_then, lost_first}
use Rattle.rv_list.specs.Rows.{count_row, counted}

-- a write fails within the first row
pub lost_count : (name : List ℕ) (rows : List (List ℕ)) (n : ℕ) (t0 t1 : Option (List ℕ)) (p : List ℕ) → length rows ≡ n → WritesPrefix t0 (p ++ count_row name n) t1 → WritesPrefix t0 (p ++ counted name rows) t1
lost_count name rows n t0 t1 p e w = rw e (lost_first t0 t1 p (count_row name n) (concat rows) w)

-- the rows come after the first row
pub gathers_counted : {A E : Type 0} (name : List ℕ) (rows : List (List ℕ)) (n : ℕ) (t0 t1 t2 : Option (List ℕ)) (p0 p1 p2 : List ℕ) (result : Result A E) → length rows ≡ n → Waits t0 p0 (count_row name n) t1 p1 → Gathers t1 p1 (concat rows) result t2 p2 → Gathers t0 p0 (counted name rows) result t2 p2
gathers_counted name rows n t0 t1 t2 p0 p1 p2 result e w g =
    rw e (gathers_then t0 t1 t2 p0 p1 p2 (count_row name n) (concat rows) result w g)
