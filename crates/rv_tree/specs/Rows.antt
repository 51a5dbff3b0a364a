-- The items of a leaf.
use Rattle.std.specs.Prelude.{ℕ, List, map, take, drop}
use Rattle.std.specs.declared.rc.Rc.{Rc}
use Rattle.std.specs.declared.alloc.Global.{Global}

-- items that are shared, as they are
abbrev pub values : {T : Type 0} → List (Rc T Global) → List T
values shared = map (λ x. x.value) shared

-- n items behind the first i
abbrev pub some_behind : {T : Type 0} → ℕ → ℕ → List T → List T
some_behind i n xs = take n (drop i xs)
