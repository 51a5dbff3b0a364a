-- What a word says of its instruction.
use Rattle.std.proofs.Common.{◌≡◌, ℕ, ◌%◌, true, false, nat_eq, ⊎_elim, sym, ap, ◌∙◌, refl, eq-eqb}
use Rattle.std.proofs.lemmas.Bool.{cases_Bool, eqb-true}
use Rattle.rv_ops.specs.declared.op.Op.{Op}
use Rattle.rv_ops.specs.Table.{is_full}
use Rattle.rv_code.specs.declared.instruction.Fields.{Fields}
use Rattle.rv_code.specs.declared.word.Word.TheVariants.{Half, Full}
use Rattle.rv_code.specs.Encoding.{Fits, encoding_of, word_of}
use Rattle.rv_code.proofs.Decoded.{number_of_word, one, not_full, not_half}
use Rattle.rv_code.proofs.Words.{word_of-full, word_of-half}

number_is : (o : Op) (f : Fields) → number_of_word (word_of o f) ≡ encoding_of o f
number_is o f =
    ⊎_elim
    (λ (full : is_full o ≡ true). ap number_of_word (word_of-full o f full))
    (λ (half : is_full o ≡ false). ap number_of_word (word_of-half o f half))
    (cases_Bool (is_full o))

pub one_instruction : (o p : Op) (f g : Fields) → Fits o f → Fits p g → word_of o f ≡ word_of p g → ◌≡◌ {A = Op × Fields} (o, f) (p, g)
one_instruction o p f g h k e =
    let number : encoding_of o f ≡ encoding_of p g = sym (number_is o f) ∙ ap number_of_word e ∙ number_is p g in
    one o p f g (encoding_of p g) (record { fits = h; word = number }) (record { fits = k; word = refl })

pub full_bits : (o : Op) (f : Fields) (n : ℕ) → Fits o f → word_of o f ≡ Full n → n % 4 ≡ 3
full_bits o f n h e =
    ⊎_elim
    (λ (full : nat_eq (n % 4) 3 ≡ true). eqb-true (n % 4) 3 full)
    (λ (half : nat_eq (n % 4) 3 ≡ false). absurd (not_full n half o f h e))
    (cases_Bool (nat_eq (n % 4) 3))

pub half_bits : (o : Op) (f : Fields) (n : ℕ) → Fits o f → word_of o f ≡ Half n → n % 4 ≡ 3 → ⊥
half_bits o f n h e low = not_half n (eq-eqb (n % 4) 3 low) o f h e
