-- The numbers of control and status registers that have names.
use Rattle.std.proofs.Common.{◌≡◌, ℕ, ◌≤◌, List, Option, Some, None, refl, arith}
use Rattle.std.specs.Option.{IfSome}
use Rattle.rv_ops.specs.Csrs.{csr_name, csr_named, csr_names}
use Rattle.rv_ops.specs.NameLaws.{csr_named-name, csr_named-found, IsFound}

named_below : (o : Option (List ℕ)) (n : ℕ) → IfSome o (λ text. csr_named text ≡ Some n) → 4096 ≤ n → o ≡ None
named_below None n h large = refl
named_below (Some text) n h large =
    let found : IfSome (Some n) (IsFound csr_names 4096 text) = rw h at (csr_named-found text) in
    absurd (omega (arith, found.0))

-- a control and status register that has a name is below 4096
pub no_name : (n : ℕ) → 4096 ≤ n → csr_name n ≡ None
no_name n large = named_below (csr_name n) n (csr_named-name n) large
