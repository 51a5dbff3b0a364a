-- Sets of names: what they have, and which tests no name of a line passes.
use Rattle.std.proofs.Common.{◌≡◌, ℕ, ◌<◌, ◌%◌, ◌==◌, ◌⊎◌, inl, inr, Bool, true, false, ◌||◌, List, [], ◌∷◌, length, get_or, replicate, slice_set, Option, Some, None, true≢false, arith, ap, sym, subst, ◌∙◌, refl}
use Rattle.std.specs.Int.{bit_at}
use Rattle.std.specs.List.{list_any, fold}
use Rattle.std.proofs.lemmas.Bool.{cases_eq, eqb-true, eq-eqb, or_cases, or_left, or_right}
use Rattle.std.proofs.lemmas.List.{get_or-set_same, get_or-set_other}
use Rattle.rv_program.specs.declared.mask.Mask.{Mask}
use Rattle.rv_program.specs.declared.used_names.UsedNames.{UsedNames}
use Rattle.rv_program.specs.declared.used_names.UsedNames.TheVariants.{Few, Many}
use Rattle.rv_program.specs.declared.name_set.Mark.{Mark}
use Rattle.rv_program.specs.declared.name_set.Mark.TheVariants.{Unknown, Same, Moved, Changed}
use Rattle.rv_program.specs.internal.NameSets.{next_bucket, bucket_of, differs, IsBelow, AreMasked, no_names, with_bucket, with_name, with_names, brief_of_names, is_bucket, may_have, mask_of_one, mask_of_used}
use Rattle.rv_program.specs.internal.Groups.{bits_of, no_groups, with_group, has_group}
use Rattle.rv_program.specs.internal.Masks.{both_masks, part_of, mask_of_bucket, has_name}
use Rattle.rv_program.specs.lemmas.GroupLaws.{group-added, group-kept}
use Rattle.rv_program.specs.lemmas.MaskLaws.{name-in_first, name-in_second, name-of_bucket, part-of_remainders}
use Rattle.rv_program.specs.lemmas.Lists.{get_or-same}

bucket-after : (bucket : ℕ) (name : List ℕ) → bucket < 16384 → fold next_bucket bucket name < 16384
bucket-after bucket [] below = below
bucket-after bucket (byte ∷ bytes) below = bucket-after (next_bucket bucket byte) bytes (omega arith)

pub bucket-below : (name : List ℕ) → bucket_of name < 16384
bucket-below name = bucket-after 0 name (omega arith)

-- The marks of a set

pub none-masked : (n : ℕ) (mask : Mask) → AreMasked (replicate n Unknown) mask
none-masked n mask bucket has = absurd (true≢false (sym has ∙ ap differs (get_or-same n bucket Unknown)))

module _ (marks : List Mark) (mask : Mask) (place : ℕ) (mark : Mark) (masked : AreMasked marks mask) where
  pub masked-with : AreMasked (slice_set marks place mark) (both_masks mask (mask_of_bucket place))
  masked-with bucket has = at (cases_eq bucket place)
    where
      at : (bucket ≡ place) ⊎ (bucket ≡ place → ⊥) → has_name (both_masks mask (mask_of_bucket place)) bucket ≡ true
      at (inl same) = ap (has_name (both_masks mask (mask_of_bucket place))) same ∙ name-in_second mask (mask_of_bucket place) place (name-of_bucket place)
      at (inr other) = name-in_first mask (mask_of_bucket place) bucket (masked bucket (sym (ap differs (get_or-set_other marks place bucket mark Unknown other)) ∙ has))

pub below-itself : (mark : Mark) → IsBelow mark mark
below-itself Unknown = tt
below-itself Same = tt
below-itself Moved = tt
below-itself Changed = tt

-- a mark is put in the place of one that says more
pub below-put : (marks : List Mark) (place : ℕ) (mark : Mark) → place < length marks → IsBelow (get_or marks place Unknown) mark → (other : ℕ) → IsBelow (get_or marks other Unknown) (get_or (slice_set marks place mark) other Unknown)
below-put marks place mark within below other = at (cases_eq other place)
  where
    at : (other ≡ place) ⊎ (other ≡ place → ⊥) → IsBelow (get_or marks other Unknown) (get_or (slice_set marks place mark) other Unknown)
    at (inl same) =
        subst (λ k. IsBelow (get_or marks k Unknown) (get_or (slice_set marks place mark) k Unknown)) (sym same)
        (subst (IsBelow (get_or marks place Unknown)) (sym (get_or-set_same marks place mark Unknown within)) below)
    at (inr apart) = subst (IsBelow (get_or marks other Unknown)) (sym (get_or-set_other marks place other mark Unknown apart)) (below-itself (get_or marks other Unknown))

-- The names of a line

pub bucket-added : (used : UsedNames) (bucket : ℕ) → may_have (with_bucket used bucket) bucket ≡ true
bucket-added (Few None second) bucket = or_left (bucket == bucket) (is_bucket second bucket) (eq-eqb bucket bucket refl)
bucket-added (Few (Some first) None) bucket = or_right (first == bucket) (bucket == bucket) (eq-eqb bucket bucket refl)
bucket-added (Few (Some first) (Some second)) bucket = group-added (with_group (with_group no_groups first) second) bucket
bucket-added (Many groups) bucket = group-added groups bucket

-- the groups have the buckets of which they were made
group-of-first : (first second bucket other : ℕ) → (first == other) ≡ true → has_group (with_group (with_group (with_group no_groups first) second) bucket) other ≡ true
group-of-first first second bucket other is =
    group-kept (with_group (with_group no_groups first) second) bucket other
    (group-kept (with_group no_groups first) second other
    (ap (has_group (with_group no_groups first)) (sym (eqb-true first other is)) ∙ group-added no_groups first))

group-of-second : (first second bucket other : ℕ) → (second == other) ≡ true → has_group (with_group (with_group (with_group no_groups first) second) bucket) other ≡ true
group-of-second first second bucket other is =
    group-kept (with_group (with_group no_groups first) second) bucket other
    (ap (has_group (with_group (with_group no_groups first) second)) (sym (eqb-true second other is)) ∙ group-added (with_group no_groups first) second)

bucket-kept : (used : UsedNames) (bucket other : ℕ) → may_have used other ≡ true → may_have (with_bucket used bucket) other ≡ true
bucket-kept (Few None second) bucket other has = or_right (bucket == other) (is_bucket second other) has
bucket-kept (Few (Some first) None) bucket other has = at (or_cases (first == other) false has)
  where
    at : ((first == other) ≡ true) ⊎ (false ≡ true) → ((first == other) || (bucket == other)) ≡ true
    at (inl is) = or_left (first == other) (bucket == other) is
    at (inr is) = absurd (true≢false (sym is))
bucket-kept (Few (Some first) (Some second)) bucket other has = at (or_cases (first == other) (second == other) has)
  where
    at : ((first == other) ≡ true) ⊎ ((second == other) ≡ true) → has_group (with_group (with_group (with_group no_groups first) second) bucket) other ≡ true
    at (inl is) = group-of-first first second bucket other is
    at (inr is) = group-of-second first second bucket other is
bucket-kept (Many groups) bucket other has = group-kept groups bucket other has

-- the mask has them
one-masked : (one : Option ℕ) (bucket : ℕ) → is_bucket one bucket ≡ true → has_name (mask_of_one one) bucket ≡ true
one-masked None bucket is = absurd (true≢false (sym is))
one-masked (Some other) bucket is = subst (λ b. has_name (mask_of_bucket b) bucket ≡ true) (sym (eqb-true other bucket is)) (name-of_bucket bucket)

pub used-masked : (used : UsedNames) (bucket : ℕ) → may_have used bucket ≡ true → has_name (mask_of_used used) bucket ≡ true
used-masked (Few first second) bucket has = at (or_cases (is_bucket first bucket) (is_bucket second bucket) has)
  where
    at : (is_bucket first bucket ≡ true) ⊎ (is_bucket second bucket ≡ true) → has_name (both_masks (mask_of_one first) (mask_of_one second)) bucket ≡ true
    at (inl is) = name-in_first (mask_of_one first) (mask_of_one second) bucket (one-masked first bucket is)
    at (inr is) = name-in_second (mask_of_one first) (mask_of_one second) bucket (one-masked second bucket is)
used-masked (Many groups) bucket has = ap (λ n. bit_at n (bucket % 59) == 1) (part-of_remainders (bits_of groups) (part_of bucket)) ∙ has

names-kept : (used : UsedNames) (names : List (List ℕ)) (bucket : ℕ) → may_have used bucket ≡ true → may_have (with_names used names) bucket ≡ true
names-kept used [] bucket has = has
names-kept used (n ∷ ns) bucket has = names-kept (with_name used n) ns bucket (bucket-kept used (bucket_of n) bucket has)

-- no name of a line passes a test if only names of some buckets do, and none of these may be one of the line's
module _ (has : ℕ → Bool) (test : List ℕ → Bool) (only : (name : List ℕ) → (has (bucket_of name) ≡ true) ⊎ (test name ≡ false)) where
  none-after : (used : UsedNames) (names : List (List ℕ)) → ((bucket : ℕ) → has bucket ≡ true → may_have (with_names used names) bucket ≡ false) → list_any test names ≡ false
  none-after used [] apart = refl
  none-after used (n ∷ ns) apart = at (only n) (none-after (with_name used n) ns apart)
    where
      at : (has (bucket_of n) ≡ true) ⊎ (test n ≡ false) → list_any test ns ≡ false → list_any test (n ∷ ns) ≡ false
      at (inl is) none =
          absurd (true≢false (sym (names-kept (with_name used n) ns (bucket_of n) (bucket-added used (bucket_of n))) ∙ apart (bucket_of n) is))
      at (inr fails) none = ap (λ b. b || list_any test ns) fails ∙ none

  pub none-passes : (names : List (List ℕ)) → ((bucket : ℕ) → has bucket ≡ true → may_have (brief_of_names names) bucket ≡ false) → list_any test names ≡ false
  none-passes names apart = none-after no_names names apart
