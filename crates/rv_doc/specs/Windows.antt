-- Which rows are shown where not all are.
use Rattle.std.specs.Prelude.{ℕ, ◌-◌, ◌/◌, ◌==◌, ◌&&◌, nat_lt, min, Bool, List, take, drop}
use Rattle.rv_doc.specs.declared.window.Window.{Window}

-- the rows behind those that are skipped, up to so many
abbrev pub windowed : {A : Type 0} → Window → List A → List A
windowed window rows = take window.most (drop window.skipped rows)

-- what of a window is left behind so many rows
abbrev pub passed : Window → (count : ℕ) → Window
passed window count = record { skipped = window.skipped - count; most = window.most - (count - window.skipped) }

-- it shows the next row
abbrev pub shows : Window → Bool
shows window = (window.skipped == 0) && nat_lt 0 window.most

-- The window of the rows that are nearest to a place, before which so many of all rows stand: as many before it as behind it, where there
-- are enough on both sides.
abbrev pub nearest : (most before all : ℕ) → Window
nearest most before all = record { skipped = min (before - most / 2) (all - most); most = most }
