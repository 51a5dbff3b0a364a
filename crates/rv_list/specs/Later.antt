-- Lists one after another, from one of them on.
use Rattle.std.specs.Prelude.{ℕ, zero, suc, ◌+◌, ◌-◌, List, [], ◌++◌, drop}
use Rattle.rv_list.specs.Image.{bytes_in}
use Rattle.rv_list.specs.Shown.{Shown}

-- what k, k + 1 and so on give, as many as are asked for
abbrev pub later : {A : Type 0} → (ℕ → List A) → (k n : ℕ) → List A
later f k zero = []
later f k (suc n) = f k ++ later f (suc k) n

-- the bytes that line number k + 1 has in section number t
abbrev pub bytes_after : Shown → (t k : ℕ) → List ℕ
bytes_after shown t k = bytes_in t (shown.line (k + 1))

-- the bytes that the last of so many lines has in a section
abbrev pub bytes_of_last : Shown → (t passed : ℕ) → List ℕ
bytes_of_last shown t zero = []
bytes_of_last shown t (suc k) = bytes_after shown t k

-- the bytes of a section that are left after so many lines, and after so many bytes of the last of them
abbrev pub bytes_left : Shown → (t passed taken : ℕ) → List ℕ
bytes_left shown t passed taken =
    drop taken (bytes_of_last shown t passed) ++ later (bytes_after shown t) passed (shown.count - passed)
