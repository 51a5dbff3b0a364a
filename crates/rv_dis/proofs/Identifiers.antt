-- The names in the text of an instruction are identifiers, and the names of sets are read as these.
use Rattle.std.proofs.Common.{◌≡◌, ℕ, zero, suc, ◌<◌, Bool, true, false, List, [], ◌∷◌, Option, Some, None, refl, ap, arith, ⊎_elim, below_more, ltb-true}
use Rattle.std.specs.Prelude.{◌==◌, ◌&&◌, ◌||◌, nat_eq, nat_lt}
use Rattle.std.specs.List.{list_all}
use Rattle.std.specs.Option.{IfSome}
use Rattle.std.proofs.lemmas.Bool.{and_parts, or_cases, cond_both, eqb-true}
use Rattle.rv_text.specs.Lexical.{is_identifier}
use Rattle.rv_ops.specs.Csrs.{csr_name, csr_names}
use Rattle.rv_ops.specs.Names.{first_name}
use Rattle.rv_ops.specs.Registers.{register_name}
use Rattle.rv_ops.specs.Table.{operation_name, row_of}
use Rattle.rv_ops.specs.declared.layouts.RegisterClass.TheVariants.{Set}
use Rattle.rv_ops.specs.declared.op.Op.{Op}
use Rattle.rv_ops.specs.declared.op.Op.TheVariants.{Lui}
use Rattle.rv_code.specs.Encoding.{is_in}
use Rattle.rv_stmt.specs.Registers.{set_name, set_named, set_names}
use Rattle.rv_dis.specs.Text.{set_text}

-- a test of each number below a bound
all_below : (ℕ → Bool) → ℕ → Bool
all_below p zero = true
all_below p (suc n) = p n && all_below p n

all_below-true : (p : ℕ → Bool) (n : ℕ) → all_below p n ≡ true → (k : ℕ) → k < n → p k ≡ true
unfolding all_below
all_below-true p zero e k h = absurd (omega arith)
all_below-true p (suc n) e k h =
    let parts = and_parts (p n) (all_below p n) e in
    below_more (λ j. p j ≡ true) n (all_below-true p n parts.1) parts.0 k (omega arith)

-- registers
registers : all_below (λ n. is_identifier (register_name n)) 32 ≡ true
unfolding all_below register_name
registers = refl

pub register_identifier : (n : ℕ) → n < 32 → is_identifier (register_name n) ≡ true
register_identifier n h = all_below-true (λ n. is_identifier (register_name n)) 32 registers n h

-- operations
pub operation_identifier : (o : Op) → is_identifier (operation_name o) ≡ true
unfolding operation_name row_of
operation_identifier Lui = refl
operation_identifier _ = refl

-- control and status registers
first_name_identifier : (rows : List (ℕ × List ℕ)) (n : ℕ) → list_all (λ row. is_identifier row.1) rows ≡ true → IfSome (first_name rows n) (λ text. is_identifier text ≡ true)
first_name_identifier [] n h = tt
first_name_identifier (x ∷ rows) n h =
    let parts = and_parts (is_identifier x.1) (list_all (λ (row : ℕ × List ℕ). is_identifier row.1) rows) h in
    cond_both (nat_eq x.0 n) (Some x.1) (first_name rows n) (λ r. IfSome r (λ text. is_identifier text ≡ true))
    (λ e. parts.0)
    (λ _. first_name_identifier rows n parts.1)

csrs : list_all (λ (row : ℕ × List ℕ). is_identifier row.1) csr_names ≡ true
unfolding csr_names
csrs = refl

pub csr_identifier : (n : ℕ) → IfSome (csr_name n) (λ text. is_identifier text ≡ true)
unfolding csr_name
csr_identifier n = first_name_identifier csr_names n csrs

-- sets
is_number : Option ℕ → ℕ → Bool
is_number None n = false
is_number (Some m) n = nat_eq m n

is_number-true : (o : Option ℕ) (n : ℕ) → is_number o n ≡ true → o ≡ Some n
unfolding is_number
is_number-true None n e = absurd (cc)
is_number-true (Some m) n e = ap (λ k. Some k) (eqb-true m n e)

-- the text is an identifier, and the name of the set
is_set_text : ℕ → List ℕ → Bool
is_set_text n text = is_identifier text && is_number (set_named text) n

sets : all_below (λ n. n == 0 || is_set_text n (set_text (set_name n))) 16 ≡ true
unfolding all_below is_set_text is_number set_name set_named set_names
sets = refl

pub record IsSet (n : ℕ) : Type 0 where
  pub identifier : is_identifier (set_text (set_name n)) ≡ true
  pub named : set_named (set_text (set_name n)) ≡ Some n

set_passed : (n : ℕ) → is_set_text n (set_text (set_name n)) ≡ true → IsSet n
unfolding is_set_text
set_passed n h =
    let parts = and_parts (is_identifier (set_text (set_name n))) (is_number (set_named (set_text (set_name n))) n) h in
    record { identifier = parts.0; named = is_number-true (set_named (set_text (set_name n))) n parts.1 }

-- each set that a fence takes
pub set_is : (n : ℕ) → is_in Set n ≡ true → IsSet n
set_is n h =
    let bounds = and_parts (nat_lt 0 n) (nat_lt n 16) h in
    let test = all_below-true (λ n. n == 0 || is_set_text n (set_text (set_name n))) 16 sets n (ltb-true _ _ bounds.1) in
    ⊎_elim
    (λ (none : (n == 0) ≡ true). absurd (let e = eqb-true n 0 none in omega (arith, ltb-true 0 n bounds.0)))
    (set_passed n)
    (or_cases (n == 0) (is_set_text n (set_text (set_name n))) test)
