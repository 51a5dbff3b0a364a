-- The bytes of the name of a symbol, as they are kept.
use Rattle.std.specs.Prelude.{ℕ, ◌≤◌, List, take}
use Rattle.rv_expr.specs.declared.naming.Bytes.{Bytes}
use Rattle.rv_expr.specs.declared.naming.Bytes.TheVariants.{InPlace, Elsewhere}

abbrev pub bytes_of : Bytes → List ℕ
bytes_of (InPlace count place) = take count place
bytes_of (Elsewhere bytes) = bytes.value.items

-- those in place are within it
abbrev pub AreWithin : Bytes → Type 0
AreWithin (InPlace count place) = count ≤ 14
AreWithin (Elsewhere bytes) = Unit {0}
