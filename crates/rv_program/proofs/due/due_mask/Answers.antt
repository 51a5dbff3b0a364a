use Rattle.std.proofs.Common.{◌≡◌, ℕ, not, true, Option, Some, None, ap, sym, ◌∙◌, refl}
use Rattle.rv_program.specs.declared.mask.Kind.TheVariants.{Addressed, Uncompared}
use Rattle.rv_program.specs.declared.mask.Mask.{Mask}
use Rattle.rv_program.specs.internal.Masks.{both_masks, with_kind, has_name, has_kind}
use Rattle.rv_program.specs.internal.NameSets.{Marks, has_bucket}
use Rattle.rv_program.specs.lemmas.MaskLaws.{name-in_first, name-in_second, name-kept, kind-added, kind-kept}
use Rattle.rv_program.proofs.due.due_mask.Goals as goal
use Rattle.rv_program.proofs.due.due_mask.Goals.{in-Some, in-None}

mask-of : (others set : Marks) (mask : Mask) → ◌≡◌ {A = Option Marks} (Some others) (Some set) → ((bucket : ℕ) → has_bucket set bucket ≡ true → has_name mask bucket ≡ true) → (bucket : ℕ) → has_bucket others bucket ≡ true → has_name mask bucket ≡ true
mask-of others set mask same of_set bucket has = let is : others ≡ set = cc in of_set bucket (ap (λ s. has_bucket s bucket) (sym is) ∙ has)

pub returns : goal.returns
returns c =
    let names = both_masks c.mask.result c.match-lows.lows in
    let compared = with_kind names Uncompared true in
    let still = c.args.still in
    let is : c.with_kind-2.result ≡ with_kind compared Addressed (not still) =
    c.with_kind-2.ensures ∙ ap (λ m. with_kind m Addressed (not still)) (c.with_kind.ensures ∙ ap (λ m. with_kind m Uncompared true) c.with.ensures) in
    record {
      names = λ bucket has.
          ap (λ m. has_name m bucket) is
          ∙ name-kept compared Addressed (not still) bucket (name-kept names Uncompared true bucket (name-in_first c.mask.result c.match-lows.lows bucket (c.mask.ensures bucket has)));
      of_lows = λ others same bucket has.
          ap (λ m. has_name m bucket) is
          ∙ name-kept compared Addressed (not still) bucket
          (name-kept names Uncompared true bucket
          (name-in_second c.mask.result c.match-lows.lows bucket (elim c.match-lows.branch [
            | in-Some w ↦ ap (λ m. has_name m bucket) w.lows-is ∙ mask-of others _ w.mask-lows.result (sym same ∙ w.in-Some.is) w.mask-lows.ensures bucket has
            | in-None w ↦ absurd (let no : None ≡ Some others = sym w.in-None.is ∙ same in cc)
          ])));
      uncompared = ap (λ m. has_kind m Uncompared) is ∙ kind-kept compared Addressed (not still) Uncompared (kind-added names Uncompared true refl);
      addressed = λ moved. ap (λ m. has_kind m Addressed) (is ∙ ap (λ b. with_kind compared Addressed (not b)) moved) ∙ kind-added compared Addressed true refl;
    }
