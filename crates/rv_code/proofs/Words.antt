-- The two lengths of a word.
use Rattle.std.proofs.Common.{◌≡◌, true, false, ap, ◌∙◌, List, [], ◌∷◌, ◌++◌}
use Rattle.std.specs.Prelude.{cond}
use Rattle.rv_code.specs.declared.instruction.Fields.{Fields}
use Rattle.rv_ops.specs.declared.op.Op.{Op}
use Rattle.rv_code.specs.declared.word.Word.TheVariants.{Half, Full}
use Rattle.rv_ops.specs.Table.{is_full}
use Rattle.rv_code.specs.Encoding.{encoding_of, word_of}

pub word_of-full : (o : Op) (f : Fields) → is_full o ≡ true → word_of o f ≡ Full (encoding_of o f)
unfolding word_of
word_of-full o f e = ap (λ full. cond full (Full (encoding_of o f)) (Half (encoding_of o f))) e

pub word_of-half : (o : Op) (f : Fields) → is_full o ≡ false → word_of o f ≡ Half (encoding_of o f)
unfolding word_of
word_of-half o f e = ap (λ full. cond full (Full (encoding_of o f)) (Half (encoding_of o f))) e

-- four items, pushed one after the other
pub pushed : {A : Type 0} {o p q r s : List A} {a b c d : A} → o ≡ [] → p ≡ o ++ (a ∷ []) → q ≡ p ++ (b ∷ []) → r ≡ q ++ (c ∷ []) → s ≡ r ++ (d ∷ []) → s ≡ a ∷ b ∷ c ∷ d ∷ []
pushed {a = a} {b = b} {c = c} {d = d} e f g h k =
    k ∙ ap (λ x. x ++ (d ∷ [])) (h ∙ ap (λ x. x ++ (c ∷ [])) (g ∙ ap (λ x. x ++ (b ∷ [])) (f ∙ ap (λ x. x ++ (a ∷ [])) e)))
