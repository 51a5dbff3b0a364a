-- The tests for sameness answer whether two things are equal.
use Rattle.std.proofs.Common.{◌≡◌, ℤ, refl, ap, sym, ◌∙◌, Bool, true, Option, None, Some, rules}
use Rattle.std.proofs.lemmas.Bool.{and_parts, false≢true}
use Rattle.std.proofs.lemmas.Bool.Decides.{Decides-and, Decides-like}
use Rattle.std.proofs.lemmas.Slice.Eq.{bytes_eq-Decides, slice_eq-Decides}
use Rattle.std.specs.Bool.{Decides, beq}
use Rattle.std.specs.Cmp.{booleans_Decides, unsigned_Decides}
use Rattle.std.specs.Option.{option_eq}
use Rattle.rv_text.specs.declared.faults.Fault.{Fault}
use Rattle.rv_text.specs.contracts.faults.FaultPartialEq.TheImpl.{ghosts as faults}
use Rattle.rv_stmt.specs.declared.section.Sect.{Sect}
use Rattle.rv_layout.specs.declared.measured.Measured.{Measured}
use Rattle.rv_layout.specs.declared.measured.Measured.TheVariants.{Bytes, Align, Switch, Faulty}
use Rattle.rv_fix.specs.declared.coded.Coded.{Coded}
use Rattle.rv_fix.specs.Values.{Entry}
use Rattle.rv_program.specs.declared.line_values.LineValues.{LineValues}
use Rattle.rv_program.specs.declared.line_values.LineValues.TheVariants.{Nothing, Operands, Symbol, Padding}
use Rattle.rv_program.specs.Sameness.{same_section, same_shape, same_constant, same_entry, same_values, same_code}

-- a test that only equal things pass, and that each thing passes with itself
decides : {A : Type 0} (test : A → A → Bool) → ((x y : A) → test x y ≡ true → x ≡ y) → ((x : A) → test x x ≡ true) → (x y : A) → Decides (test x y) (x ≡ y)
decides test equal same x y = (equal x y, λ e. ap (test x) (sym e) ∙ same x)

pub same_section-Decides : (s t : Sect) → Decides (same_section s t) (s ≡ t)
same_section-Decides = decides same_section (λ s t e. search (rules, e)) (λ s. search rules)

fault-equal : (f g : Fault) → faults.eq f g ≡ true → f ≡ g
fault-equal f g e = search (rules, e)

same_shape-equal : (x y : Measured) → same_shape x y ≡ true → x ≡ y
same_shape-equal (Bytes m) (Bytes n) e = search (rules, e)
same_shape-equal (Align a) (Align b) e = search (rules, e)
same_shape-equal (Switch s) (Switch t) e = search (rules, e)
same_shape-equal Measured.Nothing Measured.Nothing e = refl
same_shape-equal (Faulty f) (Faulty g) e = ap Faulty (fault-equal f g e)
same_shape-equal _ _ e = absurd (false≢true e)

pub same_shape-Decides : (x y : Measured) → Decides (same_shape x y) (x ≡ y)
same_shape-Decides = decides same_shape same_shape-equal (λ x. search rules)

pub same_constant-Decides : (x y : Option ℤ) → Decides (same_constant x y) (x ≡ y)
same_constant-Decides = decides same_constant (λ x y e. search (rules, e)) (λ x. search rules)

pub same_entry-Decides : (x y : Entry) → Decides (same_entry x y) (x ≡ y)
same_entry-Decides = decides same_entry (λ x y e. search (rules, e)) (λ x. search rules)

same_fault-equal : (x y : Option Fault) → option_eq faults.eq x y ≡ true → x ≡ y
same_fault-equal None None e = refl
same_fault-equal (Some f) (Some g) e = ap Some (fault-equal f g e)
same_fault-equal _ _ e = absurd (false≢true e)

same_fault-Decides : (x y : Option Fault) → Decides (option_eq faults.eq x y) (x ≡ y)
same_fault-Decides = decides (option_eq faults.eq) same_fault-equal (λ x. search rules)

same_values-equal : (x y : LineValues) → same_values x y ≡ true → x ≡ y
same_values-equal Nothing Nothing e = refl
same_values-equal (Operands xs) (Operands ys) e = ap Operands ((slice_eq-Decides same_entry-Decides xs ys _ refl).0 e)
same_values-equal (Symbol x) (Symbol y) e = ap Symbol ((same_entry-Decides x y).0 e)
same_values-equal (Padding s m) (Padding t n) e =
    let parts = and_parts (beq s t) _ e in
    λ i. Padding ((booleans_Decides s t).0 parts.0 i) ((unsigned_Decides m n).0 parts.1 i)
same_values-equal _ _ e = absurd (false≢true e)

same_values-same : (x : LineValues) → same_values x x ≡ true
same_values-same Nothing = refl
same_values-same (Operands xs) = (slice_eq-Decides same_entry-Decides xs xs _ refl).1 refl
same_values-same (Symbol x) = (same_entry-Decides x x).1 refl
same_values-same (Padding s m) = (Decides-and _ _ (booleans_Decides s s) (unsigned_Decides m m)).1 (refl, refl)

pub same_values-Decides : (x y : LineValues) → Decides (same_values x y) (x ≡ y)
same_values-Decides = decides same_values same_values-equal same_values-same

pub same_code-Decides : (c d : Coded) → Decides (same_code c d) (c ≡ d)
same_code-Decides c d = Decides-like _
    (λ parts. λ i. record { payload = parts.0 i; fault = parts.1 i })
    (λ e. (ap (λ (c : Coded). c.payload) e, ap (λ (c : Coded). c.fault) e))
    (Decides-and _ _ (bytes_eq-Decides c.payload d.payload) (same_fault-Decides c.fault d.fault))
