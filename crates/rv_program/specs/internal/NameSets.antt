-- Sets of names by their buckets: a set that has a name has all names of its bucket.
use Rattle.std.specs.Prelude.{◌≡◌, ℕ, ℤ, ◌+◌, ◌*◌, ◌%◌, ◌==◌, Bool, true, false, ◌||◌, List, length, get_or, Option, Some, None}
use Rattle.std.specs.List.{fold}
use Rattle.rv_program.specs.declared.mask.Mask.{Mask}
use Rattle.rv_program.specs.declared.used_names.UsedNames.{UsedNames}
use Rattle.rv_program.specs.declared.used_names.UsedNames.TheVariants.{Few, Many}
use Rattle.rv_program.specs.declared.name_set.Mark.{Mark}
use Rattle.rv_program.specs.declared.name_set.Mark.TheVariants.{Unknown, Same, Moved, Changed}
use Rattle.rv_program.specs.internal.Groups.{bits_of, no_groups, with_group, has_group}
use Rattle.rv_program.specs.internal.Masks.{no_mask, both_masks, mask_of_bucket, mask_of_remainders, has_name}

-- the bucket of a name, by its bytes from the first to the last
abbrev pub next_bucket : (bucket byte : ℕ) → ℕ
next_bucket bucket byte = (bucket * 439 + byte) % 16384

abbrev pub bucket_of : (name : List ℕ) → ℕ
bucket_of name = fold next_bucket 0 name

-- What an edit does to the names of a bucket

-- one of them may differ
abbrev pub differs : Mark → Bool
differs Unknown = false
differs Same = false
differs Moved = true
differs Changed = true

-- what is true by the first mark is true by the second, which may say less
abbrev pub IsBelow : Mark → Mark → Type 0
IsBelow Unknown mark = Unit {0}
IsBelow Same Same = Unit {0}
IsBelow Moved Moved = Unit {0}
IsBelow Same Changed = Unit {0}
IsBelow Moved Changed = Unit {0}
IsBelow Changed Changed = Unit {0}
IsBelow mark other = ⊥

-- they moved as far as the lines behind the edit, if they give addresses
abbrev pub HasMoved : Mark → Type 0
HasMoved Unknown = Unit {0}
HasMoved Moved = Unit {0}
HasMoved mark = ⊥

-- Sets of any number of names: a mark for each bucket, and how far the lines behind the edit moved

pub record Marks : Type 0 where
  pub shift : ℤ
  pub marks : List Mark

abbrev pub IsSized : List Mark → Type 0
IsSized marks = length marks ≡ 16384

abbrev pub mark_among : List Mark → (bucket : ℕ) → Mark
mark_among marks bucket = get_or marks bucket Unknown

abbrev pub mark_of : Marks → (bucket : ℕ) → Mark
mark_of set bucket = mark_among set.marks bucket

-- the mask has each bucket of which a name may differ
abbrev pub AreMasked : List Mark → Mask → Type 0
AreMasked marks mask = (bucket : ℕ) → differs (mark_among marks bucket) ≡ true → has_name mask bucket ≡ true

abbrev pub has_bucket : Marks → (bucket : ℕ) → Bool
has_bucket marks bucket = differs (mark_of marks bucket)

-- the set has the name
abbrev pub Has : Marks → (name : List ℕ) → Type 0
Has marks name = has_bucket marks (bucket_of name) ≡ true

-- The names that a line uses: the buckets of one or two, or the groups of the buckets of more

abbrev pub no_names : UsedNames
no_names = Few None None

abbrev pub with_bucket : UsedNames → (bucket : ℕ) → UsedNames
with_bucket (Few None second) bucket = Few (Some bucket) second
with_bucket (Few (Some first) None) bucket = Few (Some first) (Some bucket)
with_bucket (Few (Some first) (Some second)) bucket = Many (with_group (with_group (with_group no_groups first) second) bucket)
with_bucket (Many groups) bucket = Many (with_group groups bucket)

abbrev pub with_name : UsedNames → (name : List ℕ) → UsedNames
with_name used name = with_bucket used (bucket_of name)

abbrev pub with_names : UsedNames → (names : List (List ℕ)) → UsedNames
with_names used names = fold with_name used names

abbrev pub brief_of_names : (names : List (List ℕ)) → UsedNames
brief_of_names names = with_names no_names names

abbrev pub is_bucket : Option ℕ → (bucket : ℕ) → Bool
is_bucket None bucket = false
is_bucket (Some other) bucket = other == bucket

-- one of them may be of a bucket
abbrev pub may_have : UsedNames → (bucket : ℕ) → Bool
may_have (Few first second) bucket = is_bucket first bucket || is_bucket second bucket
may_have (Many groups) bucket = has_group groups bucket

-- the mask of their buckets
abbrev pub mask_of_one : Option ℕ → Mask
mask_of_one None = no_mask
mask_of_one (Some bucket) = mask_of_bucket bucket

abbrev pub mask_of_used : UsedNames → Mask
mask_of_used (Few first second) = both_masks (mask_of_one first) (mask_of_one second)
mask_of_used (Many groups) = mask_of_remainders (bits_of groups)

-- none of them is in a set
abbrev pub IsOutside : UsedNames → Marks → Type 0
IsOutside used set = (bucket : ℕ) → has_bucket set bucket ≡ true → may_have used bucket ≡ false

-- it is one name, which moved as far as the lines behind the edit, if it gives an address
abbrev pub IsMoved : UsedNames → Marks → Type 0
IsMoved used set = (bucket : ℕ) × (used ≡ Few (Some bucket) None) × HasMoved (mark_of set bucket)
