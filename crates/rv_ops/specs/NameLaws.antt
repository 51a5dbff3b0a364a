-- Each name is read as what it names.
use Rattle.std.proofs.Common.{is_some, ◌≡◌, ℕ, ◌<◌, List, [], ◌∷◌, Bool, true, false, cond, Option, Some, None, refl, sym, ap, ◌∙◌, subst, ltb, ltb-true, zero, suc, arith, below_more}
use Rattle.std.specs.Prelude.{◌&&◌, nat_eq, IsSome}
use Rattle.std.specs.Str.{str_eq_ignore_ascii_case, str_to_ascii_lowercase, bytes_eq}
use Rattle.std.specs.Option.{IfSome}
use Rattle.std.proofs.lemmas.Bool.{and_parts, cond_both, eqb-true}
use Rattle.std.proofs.lemmas.Slice.Eq.{bytes_eq-Decides}
use Rattle.std.proofs.lemmas.List.Elements.{All-contains, Contains-append_left, Contains-append_right, Contains-push}
use Rattle.std.proofs.lemmas.List.Sums.{AllPass-from_list_all}
use Rattle.std.proofs.lemmas.Option.{IfSome_then}
use Rattle.std.specs.List.{list_all, Contains}
use Rattle.rv_ops.specs.declared.op.Op.{Op}
use Rattle.rv_ops.specs.declared.op.Op.TheVariants.{Lui}
use Rattle.rv_ops.specs.Csrs.{csr_names, csr_name, csr_named, IsNameOfCsr}
use Rattle.rv_ops.specs.Names.{first_named, first_name}
use Rattle.rv_ops.specs.Registers.{register_names, register_name, register_named, IsNameOfRegister}
use Rattle.rv_ops.specs.Table.{row_of, operation_name, operation_names, operation_named}

pub bytes_eq-true : (a b : List ℕ) → bytes_eq a b ≡ true → a ≡ b
bytes_eq-true a b e = (bytes_eq-Decides a b).0 e

-- letter case does not matter
pub first_named-same : {A : Type 0} → (rows : List (A × List ℕ)) (m n : List ℕ) → str_to_ascii_lowercase m ≡ str_to_ascii_lowercase n → first_named rows m ≡ first_named rows n
first_named-same [] m n e = refl
first_named-same (x ∷ rows) m n e =
    ap (λ t. cond (bytes_eq (str_to_ascii_lowercase x.1) t) (Some x.0) (first_named rows m)) e
    ∙ ap (λ r. cond (bytes_eq (str_to_ascii_lowercase x.1) (str_to_ascii_lowercase n)) (Some x.0) r) (first_named-same rows m n e)

-- the first row with an operation's mnemonic is its own
pub operation_named-name : (o : Op) → operation_named (operation_name o) ≡ Some o
unfolding operation_named operation_names operation_name row_of
operation_named-name Lui = refl
operation_named-name _ = refl

is_own : (row : Op × List ℕ) → Bool
unfolding operation_name row_of
is_own row = bytes_eq row.1 (operation_name row.0)

all_own : list_all is_own operation_names ≡ true
unfolding is_own operation_names operation_name row_of
all_own = refl

first_named-found : (rows : List (Op × List ℕ)) (n : List ℕ) → list_all is_own rows ≡ true → IfSome (first_named rows n) (λ o. str_eq_ignore_ascii_case (operation_name o) n ≡ true)
unfolding is_own
first_named-found [] n h = tt
first_named-found (x ∷ rows) n h =
    let parts = and_parts _ _ h in
    cond_both (str_eq_ignore_ascii_case x.1 n) (Some x.0) (first_named rows n) (λ r. IfSome r (λ o. str_eq_ignore_ascii_case (operation_name o) n ≡ true))
    (λ e. subst (λ t. str_eq_ignore_ascii_case t n ≡ true) (bytes_eq-true x.1 (operation_name x.0) parts.0) e)
    (λ _. first_named-found rows n parts.1)

-- what is found has the mnemonic
pub operation_named-found : (n : List ℕ) → IfSome (operation_named n) (λ o. str_eq_ignore_ascii_case (operation_name o) n ≡ true)
unfolding operation_named
operation_named-found n = first_named-found operation_names n all_own

-- an operation whose mnemonic it is, is found
pub operation_named-only : (n : List ℕ) (o : Op) → str_eq_ignore_ascii_case (operation_name o) n ≡ true → operation_named n ≡ Some o
unfolding operation_named
operation_named-only n o e =
    sym (first_named-same operation_names (operation_name o) n (bytes_eq-true _ _ e)) ∙ operation_named-name o

-- a row's name is in lower case, and its number below a bound
is_sound : ℕ → ℕ × List ℕ → Bool
is_sound bound row = ltb row.0 bound && bytes_eq row.1 (str_to_ascii_lowercase row.1)

abbrev pub IsFound : List (ℕ × List ℕ) → ℕ → List ℕ → ℕ → Type 0
IsFound rows bound text n = (n < bound) × Contains rows (n, str_to_ascii_lowercase text)

first_number-found : (rows : List (ℕ × List ℕ)) (bound : ℕ) (text : List ℕ) → list_all (is_sound bound) rows ≡ true → IfSome (first_named rows text) (IsFound rows bound text)
unfolding is_sound
first_number-found [] bound text h = tt
first_number-found (x ∷ rows) bound text h =
    let parts = and_parts (ltb x.0 bound && bytes_eq x.1 (str_to_ascii_lowercase x.1)) (list_all (is_sound bound) rows) h in
    let sound = and_parts (ltb x.0 bound) (bytes_eq x.1 (str_to_ascii_lowercase x.1)) parts.0 in
    cond_both (str_eq_ignore_ascii_case x.1 text) (Some x.0) (first_named rows text) (λ r. IfSome r (IsFound (x ∷ rows) bound text))
    (λ e.
    let same : x.1 ≡ str_to_ascii_lowercase text = bytes_eq-true _ _ sound.1 ∙ bytes_eq-true _ _ e in
    (ltb-true _ _ sound.0, subst (λ t. Contains (x ∷ rows) (x.0, t)) same (Contains-append_left (x ∷ []) rows x (Contains-push [] x))))
    (λ _. IfSome_then (first_named rows text) (first_number-found rows bound text parts.1) (λ n f. (f.0, Contains-append_right (x ∷ []) rows _ f.1)))

is_number : Option ℕ → ℕ → Bool
is_number None n = false
is_number (Some m) n = nat_eq m n

is_number-true : (o : Option ℕ) (n : ℕ) → is_number o n ≡ true → o ≡ Some n
unfolding is_number
is_number-true None n e = absurd (cc)
is_number-true (Some m) n e = ap (λ k. Some k) (eqb-true m n e)

-- a row is the first with its name
is_read : List (ℕ × List ℕ) → ℕ × List ℕ → Bool
is_read rows row = is_number (first_named rows row.1) row.0

first_number-only : (rows : List (ℕ × List ℕ)) (bound : ℕ) → list_all (is_sound bound) rows ≡ true → list_all (is_read rows) rows ≡ true → (text : List ℕ) (n : ℕ) → Contains rows (n, str_to_ascii_lowercase text) → first_named rows text ≡ Some n
unfolding is_read is_sound
first_number-only rows bound are_sound are_read text n h =
    let lower = str_to_ascii_lowercase text in
    let read : is_number (first_named rows lower) n ≡ true =
    All-contains (λ row. is_read rows row ≡ true) rows (n, lower) (AllPass-from_list_all (is_read rows) rows are_read) h in
    let sound : (ltb n bound && bytes_eq lower (str_to_ascii_lowercase lower)) ≡ true =
    All-contains (λ row. is_sound bound row ≡ true) rows (n, lower) (AllPass-from_list_all (is_sound bound) rows are_sound) h in
    let parts = and_parts (ltb n bound) (bytes_eq lower (str_to_ascii_lowercase lower)) sound in
    sym (first_named-same rows lower text (sym (bytes_eq-true _ _ parts.1))) ∙ is_number-true _ n read

registers_sound : list_all (is_sound 32) register_names ≡ true
unfolding is_sound register_names
registers_sound = refl

registers_read : list_all (is_read register_names) register_names ≡ true
unfolding is_read is_number register_names
registers_read = refl

-- what is found is a register, and stands beside the name
pub register_named-found : (text : List ℕ) → IfSome (register_named text) (IsFound register_names 32 text)
unfolding register_named
register_named-found text = first_number-found register_names 32 text registers_sound

pub register_named-only : (text : List ℕ) (n : ℕ) → IsNameOfRegister n text → register_named text ≡ Some n
unfolding register_named
register_named-only = first_number-only register_names 32 registers_sound registers_read

all_below : (ℕ → Bool) → ℕ → Bool
all_below p zero = true
all_below p (suc n) = p n && all_below p n

all_below-true : (p : ℕ → Bool) (n : ℕ) → all_below p n ≡ true → (k : ℕ) → k < n → p k ≡ true
unfolding all_below
all_below-true p zero e k h = absurd (omega arith)
all_below-true p (suc n) e k h =
    let parts = and_parts (p n) (all_below p n) e in
    below_more (λ j. p j ≡ true) n (all_below-true p n parts.1) parts.0 k (omega arith)

is_written : ℕ → Bool
unfolding register_names register_name
is_written n = is_number (first_named register_names (register_name n)) n

all_written : all_below is_written 32 ≡ true
unfolding all_below is_written is_number register_names register_name
all_written = refl

-- the name by which a register is written is read as the register
pub register_named-name : (n : ℕ) → n < 32 → register_named (register_name n) ≡ Some n
unfolding register_named is_written
register_named-name n h = is_number-true _ n (all_below-true is_written 32 all_written n h)

csrs_sound : list_all (is_sound 4096) csr_names ≡ true
unfolding is_sound csr_names
csrs_sound = refl

csrs_read : list_all (is_read csr_names) csr_names ≡ true
unfolding is_read is_number csr_names
csrs_read = refl

-- what is found is the number of a control and status register, and stands beside the name
pub csr_named-found : (text : List ℕ) → IfSome (csr_named text) (IsFound csr_names 4096 text)
unfolding csr_named
csr_named-found text = first_number-found csr_names 4096 text csrs_sound

pub csr_named-only : (text : List ℕ) (n : ℕ) → IsNameOfCsr n text → csr_named text ≡ Some n
unfolding csr_named
csr_named-only = first_number-only csr_names 4096 csrs_sound csrs_read

-- the first name beside a number stands beside it
first_name-found : (rows : List (ℕ × List ℕ)) (n : ℕ) → IfSome (first_name rows n) (λ text. Contains rows (n, text))
first_name-found [] n = tt
first_name-found (x ∷ rows) n =
    cond_both (nat_eq x.0 n) (Some x.1) (first_name rows n) (λ r. IfSome r (λ text. Contains (x ∷ rows) (n, text)))
    (λ e. subst (λ m. Contains (x ∷ rows) (m, x.1)) (eqb-true x.0 n e) (Contains-append_left (x ∷ []) rows x (Contains-push [] x)))
    (λ _. IfSome_then (first_name rows n) (first_name-found rows n) (λ text h. Contains-append_right (x ∷ []) rows _ h))

-- a row's name, as it stands there, is read as its number
csr_named-row : (n : ℕ) (text : List ℕ) → Contains csr_names (n, text) → csr_named text ≡ Some n
unfolding is_sound
csr_named-row n text h =
    let sound : (ltb n 4096 && bytes_eq text (str_to_ascii_lowercase text)) ≡ true =
    All-contains (λ row. is_sound 4096 row ≡ true) csr_names (n, text) (AllPass-from_list_all (is_sound 4096) csr_names csrs_sound) h in
    let parts = and_parts (ltb n 4096) (bytes_eq text (str_to_ascii_lowercase text)) sound in
    csr_named-only text n (subst (λ t. Contains csr_names (n, t)) (bytes_eq-true _ _ parts.1) h)

-- a name of a control and status register is read as the register
pub csr_named-name : (n : ℕ) → IfSome (csr_name n) (λ text. csr_named text ≡ Some n)
unfolding csr_name
csr_named-name n = IfSome_then (first_name csr_names n) (first_name-found csr_names n) (λ text h. csr_named-row n text h)

has_name : List (ℕ × List ℕ) → ℕ × List ℕ → Bool
has_name rows row = is_some (first_name rows row.0)

csrs_have_names : list_all (has_name csr_names) csr_names ≡ true
unfolding has_name csr_names
csrs_have_names = refl

-- a control and status register that has a name is given one
pub csr_name-only : (n : ℕ) (text : List ℕ) → IsNameOfCsr n text → IsSome (csr_name n)
unfolding csr_name has_name
csr_name-only n text h =
    All-contains (λ row. has_name csr_names row ≡ true) csr_names (n, str_to_ascii_lowercase text) (AllPass-from_list_all (has_name csr_names) csr_names csrs_have_names) h
