-- The operands of a text, joined one by one.
use Rattle.std.proofs.Common.{◌≡◌, ℕ, ◌+◌, ◌<◌, ◌≤◌, ◌++◌, List, [], ◌∷◌, length, get_or, take, drop, map, sym, ap, suc, ◌-◌, ◌∙◌, refl, arith, append_assoc}
use Rattle.std.specs.Prelude.{codes}
use Rattle.std.proofs.lemmas.List.{append-nil, take_all, drop_more, drop_all}
use Rattle.rv_ops.specs.Table.{shape_of, operation_name}
use Rattle.rv_ops.specs.declared.op.Op.{Op}
use Rattle.rv_code.specs.declared.instruction.Fields.{Fields}
use Rattle.rv_stmt.specs.declared.slots.Slot.{Slot}
use Rattle.rv_stmt.specs.Forms.{slots_of}
use Rattle.rv_dis.specs.Text.{after_comma, after_name, operand_text, instruction_text}

-- the text of an instruction from its name and its operands
text_is : (a : ℕ) (o : Op) (f : Fields) (name : List ℕ) (slots : List Slot) → name ≡ operation_name o → slots ≡ slots_of (shape_of o) → name ++ after_name (map (operand_text a (shape_of o) f) slots) ≡ instruction_text a o f
unfolding instruction_text
text_is a o f name slots e h = rw (e, h) refl

first_and_others : (slots : List Slot) (d : Slot) → 1 ≤ length slots → slots ≡ get_or slots 0 d ∷ take (length slots - 1) (drop 1 slots)
first_and_others [] d h = absurd (omega arith)
first_and_others (s ∷ ss) d h = ap (λ ss. s ∷ ss) (sym (take_all (suc (length ss) - 1) ss (omega arith)))

operands_begin : (g : Slot → List ℕ) (slots : List Slot) (first : Slot) (others : List Slot) (name : List ℕ) → slots ≡ first ∷ others → name ++ after_name (map g slots) ≡ (name ++ codes " " ++ g first) ++ after_comma (map g others)
operands_begin g slots first others name e =
    ap (λ slots. name ++ after_name (map g slots)) e
    ∙ sym (append_assoc (name ++ codes " ") (g first) (after_comma (map g others)) ∙ append_assoc name (codes " ") (g first ++ after_comma (map g others)))

-- a name without operands is the whole text
pub name_alone : (a : ℕ) (o : Op) (f : Fields) (name : List ℕ) (slots : List Slot) → name ≡ operation_name o → slots ≡ slots_of (shape_of o) → length slots < 1 → name ≡ instruction_text a o f
name_alone a o f name [] e h none = sym (append-nil name) ∙ text_is a o f name [] e h
name_alone a o f name (s ∷ ss) e h none = absurd (omega arith)

-- a name, the first operand, and then the others are the whole text
pub text_begins : (a : ℕ) (o : Op) (f : Fields) (name : List ℕ) (slots : List Slot) (d : Slot) → name ≡ operation_name o → slots ≡ slots_of (shape_of o) → 1 ≤ length slots → (name ++ codes " " ++ operand_text a (shape_of o) f (get_or slots 0 d)) ++ after_comma (map (operand_text a (shape_of o) f) (take (length slots - 1) (drop 1 slots))) ≡ instruction_text a o f
text_begins a o f name slots d e h some =
    sym (operands_begin (operand_text a (shape_of o) f) slots (get_or slots 0 d) (take (length slots - 1) (drop 1 slots)) name (first_and_others slots d some)) ∙ text_is a o f name slots e h

-- one more operand
pub operands_go_on : (g : Slot → List ℕ) (items : List Slot) (i : ℕ) (d : Slot) (out next last whole : List ℕ) → i < length items → next ≡ out ++ codes ", " → last ≡ next ++ g (get_or items i d) → out ++ after_comma (map g (drop i items)) ≡ whole → last ++ after_comma (map g (drop (i + 1) items)) ≡ whole
operands_go_on g items i d out next last whole within e f so_far =
    let rest = after_comma (map g (drop (i + 1) items)) in
    let t = g (get_or items i d) in
    let more = drop_more items i d within in
    rw (f, e) (append_assoc (out ++ codes ", ") t rest ∙ append_assoc out (codes ", ") (t ++ rest) ∙ rw more at so_far)

pub operands_end : (g : Slot → List ℕ) (items : List Slot) (i : ℕ) (out whole : List ℕ) → length items ≤ i → out ++ after_comma (map g (drop i items)) ≡ whole → out ≡ whole
operands_end g items i out whole all so_far =
    let none = drop_all i items all in
    sym (append-nil out) ∙ rw none at so_far
