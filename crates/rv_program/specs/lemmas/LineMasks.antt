-- The mask of a line has each name that the line uses or defines, and each kind that it is of.
use Rattle.std.proofs.Common.{◌≡◌, ℕ, ◌==◌, ◌⊎◌, inl, inr, Bool, true, false, List, [], ◌∷◌, true≢false, ap, sym, subst, ◌∙◌, refl}
use Rattle.std.specs.Prelude.{bytes_eq, if◌then◌else◌}
use Rattle.std.proofs.lemmas.Bool.{eqb-true, eq-eqb, false_from_ne_true}
use Rattle.rv_ops.specs.NameLaws.{bytes_eq-true}
use Rattle.rv_list.specs.declared.view.DefinitionPlace.TheVariants.{Nowhere, Label as ByLabel, Equ as ByEqu}
use Rattle.rv_stmt.specs.declared.statement.Body.{Body}
use Rattle.rv_stmt.specs.declared.statement.Body.TheVariants.{Equ as EquBody}
use Rattle.rv_stmt.specs.declared.statement.Stmt.{Stmt}
use Rattle.rv_stmt.specs.LabelNames.{Label, LabelName}
use Rattle.rv_stmt.specs.LabelNames as label
use Rattle.rv_stmt.specs.Statement.{statement_of}
use Rattle.rv_program.specs.declared.brief.Brief.{Brief}
use Rattle.rv_program.specs.declared.defined_names.DefinedNames.{DefinedNames}
use Rattle.rv_program.specs.declared.defined_names.DefinedNames.TheVariants.{Nothing, One, Many}
use Rattle.rv_program.specs.declared.mask.Kind.{Kind}
use Rattle.rv_program.specs.declared.mask.Kind.TheVariants.{Equ, PcrelHigh, Shaped, Addressed, Uncompared}
use Rattle.rv_program.specs.declared.mask.Mask.{Mask}
use Rattle.rv_program.specs.Definitions.{defines_symbol, place_among_labels, place_in_body, place_in_statement, or_place, is_defined}
use Rattle.rv_program.specs.internal.Briefs.{brief_of, is_brief_of, names_mask, mask_on}
use Rattle.rv_program.specs.internal.DefinedNames.{defined_by_label, defined_by, may_define, mask_of_defined}
use Rattle.rv_program.specs.internal.LineSearch.{LineLacks}
use Rattle.rv_program.specs.internal.LinesWithout.{is_of_kind}
use Rattle.rv_program.specs.internal.Masks.{mask_of_bucket, shared, has_name, with_kind, has_kind}
use Rattle.rv_program.specs.internal.NameSets.{bucket_of, may_have, mask_of_used}
use Rattle.rv_program.specs.lemmas.MaskLaws.{name-in_first, name-in_second, name-of_bucket, name-of_all, name-kept, kind-added, kind-kept, no-common_name, no-common_kind}
use Rattle.rv_program.specs.lemmas.NameSetLaws.{used-masked}

-- The names that a line defines

bool_cases : (b : Bool) → (b ≡ true) ⊎ (b ≡ false)
bool_cases true = inl refl
bool_cases false = inr refl

-- the bucket of a symbol that is a name is that of the name
same-bucket : (symbol name : List ℕ) → bytes_eq symbol name ≡ true → (bucket_of symbol == bucket_of name) ≡ true
same-bucket symbol name same = eq-eqb (bucket_of symbol) (bucket_of name) (ap bucket_of (bytes_eq-true symbol name same))

module _ (line : ℕ) (name : List ℕ) where
  by-equ : (symbol : List ℕ) → (bytes_eq symbol name ≡ true) ⊎ (bytes_eq symbol name ≡ false) → is_defined (if bytes_eq symbol name then ByEqu line else Nowhere) ≡ true → (bucket_of symbol == bucket_of name) ≡ true
  by-equ symbol (inl same) is = same-bucket symbol name same
  by-equ symbol (inr other) is = let none : false ≡ true = rw other at is in absurd (true≢false (sym none))

  by-symbol : (symbol : List ℕ) → (bytes_eq symbol name ≡ true) ⊎ (bytes_eq symbol name ≡ false) → is_defined (if bytes_eq symbol name then ByLabel line 0 else Nowhere) ≡ true → (bucket_of symbol == bucket_of name) ≡ true
  by-symbol symbol (inl same) is = same-bucket symbol name same
  by-symbol symbol (inr other) is = let none : false ≡ true = rw other at is in absurd (true≢false (sym none))

  by-label : (n : LabelName) → is_defined (if defines_symbol n name then ByLabel line 0 else Nowhere) ≡ true → may_define (defined_by_label n) (bucket_of name) ≡ true
  by-label (label.Symbol symbol) is = by-symbol symbol (bool_cases (bytes_eq symbol name)) is
  by-label (label.Local number) is = absurd (true≢false (sym is))

  defined-by : (labels : List Label) (body : Body) → is_defined (or_place (place_among_labels line 0 labels name) (place_in_body line body name)) ≡ true → may_define (defined_by labels body) (bucket_of name) ≡ true
  defined-by [] (EquBody d) is = by-equ d.symbol (bool_cases (bytes_eq d.symbol name)) is
  defined-by [] _ is = absurd (true≢false (sym is))
  defined-by (l ∷ ls) (EquBody d) is = refl
  defined-by (l ∷ []) _ is = by-label l.name (alone (defines_symbol l.name name) is)
    where
      alone : (b : Bool) → is_defined (or_place (if b then ByLabel line 0 else Nowhere) Nowhere) ≡ true → is_defined (if b then ByLabel line 0 else Nowhere) ≡ true
      alone true is = refl
      alone false is = is
  defined-by (l ∷ (m ∷ ls)) _ is = refl

-- the mask has them
defined-masked : (d : DefinedNames) (bucket : ℕ) → may_define d bucket ≡ true → has_name (mask_of_defined d) bucket ≡ true
defined-masked Nothing bucket has = absurd (true≢false (sym has))
defined-masked (One other) bucket has = subst (λ b. has_name (mask_of_bucket b) bucket ≡ true) (sym (eqb-true other bucket has)) (name-of_bucket bucket)
defined-masked Many bucket has = name-of_all bucket

module _ (line : List ℕ) where
  abbrev s : Stmt
  s = statement_of line

  abbrev b : Brief
  b = brief_of s

  abbrev names : Mask
  names = names_mask b

  abbrev with_equ : Mask
  with_equ = with_kind names Equ b.equ

  abbrev with_high : Mask
  with_high = with_kind with_equ PcrelHigh b.pcrel_high

  abbrev with_shaped : Mask
  with_shaped = with_kind with_high Shaped (is_brief_of Shaped b)

  abbrev with_address : Mask
  with_address = with_kind with_shaped Addressed b.address

  -- Never too few

  name-on : (bucket : ℕ) → has_name names bucket ≡ true → has_name (mask_on line) bucket ≡ true
  name-on bucket has =
      name-kept with_address Uncompared (is_brief_of Uncompared b) bucket
      (name-kept with_shaped Addressed b.address bucket
      (name-kept with_high Shaped (is_brief_of Shaped b) bucket (name-kept with_equ PcrelHigh b.pcrel_high bucket (name-kept names Equ b.equ bucket has))))

  -- a name that the line may use
  used-on : (bucket : ℕ) → may_have b.names bucket ≡ true → has_name (mask_on line) bucket ≡ true
  used-on bucket has = name-on bucket (name-in_first (mask_of_used b.names) (mask_of_defined b.defined) bucket (used-masked b.names bucket has))

  -- a name that it may define
  defined-on : (bucket : ℕ) → may_define b.defined bucket ≡ true → has_name (mask_on line) bucket ≡ true
  defined-on bucket has = name-on bucket (name-in_second (mask_of_used b.names) (mask_of_defined b.defined) bucket (defined-masked b.defined bucket has))

  -- a kind that it is of
  kind-on : (kind : Kind) → is_brief_of kind b ≡ true → has_kind (mask_on line) kind ≡ true
  kind-on Equ is =
      kind-kept with_address Uncompared (is_brief_of Uncompared b) Equ
      (kind-kept with_shaped Addressed b.address Equ (kind-kept with_high Shaped (is_brief_of Shaped b) Equ (kind-kept with_equ PcrelHigh b.pcrel_high Equ (kind-added names Equ b.equ is))))
  kind-on PcrelHigh is =
      kind-kept with_address Uncompared (is_brief_of Uncompared b) PcrelHigh
      (kind-kept with_shaped Addressed b.address PcrelHigh (kind-kept with_high Shaped (is_brief_of Shaped b) PcrelHigh (kind-added with_equ PcrelHigh b.pcrel_high is)))
  kind-on Shaped is =
      kind-kept with_address Uncompared (is_brief_of Uncompared b) Shaped (kind-kept with_shaped Addressed b.address Shaped (kind-added with_high Shaped (is_brief_of Shaped b) is))
  kind-on Addressed is = kind-kept with_address Uncompared (is_brief_of Uncompared b) Addressed (kind-added with_shaped Addressed b.address is)
  kind-on Uncompared is = kind-added with_address Uncompared (is_brief_of Uncompared b) is

  -- where its mask shares nothing with a wanted one, it has nothing of that
  pub line-lacks : (wanted : Mask) → (shared wanted (mask_on line) == 0) ≡ true → LineLacks wanted line
  line-lacks wanted none =
      let nothing = eqb-true (shared wanted (mask_on line)) 0 none in
      record {
        unused = λ bucket has. false_from_ne_true (may_have b.names bucket) (λ e. true≢false (sym (used-on bucket e) ∙ no-common_name wanted (mask_on line) bucket nothing has));
        undefined = λ bucket has.
            false_from_ne_true (may_define b.defined bucket) (λ e. true≢false (sym (defined-on bucket e) ∙ no-common_name wanted (mask_on line) bucket nothing has));
        kinds = λ kind has. false_from_ne_true (is_brief_of kind b) (λ e. true≢false (sym (kind-on kind e) ∙ no-common_kind wanted (mask_on line) kind nothing has));
      }

  -- A line that has nothing of a wanted mask

  pub kind-is : (kind : Kind) → is_of_kind kind s.body ≡ is_brief_of kind b
  kind-is Equ = refl
  kind-is PcrelHigh = refl
  kind-is Shaped = refl
  kind-is Addressed = refl
  kind-is Uncompared = refl

  module _ (wanted : Mask) (lacks : LineLacks wanted line) where
    -- uses none of its names
    pub unwanted-unused : (bucket : ℕ) → has_name wanted bucket ≡ true → may_have b.names bucket ≡ false
    unwanted-unused bucket has = lacks.unused bucket has

    -- defines none, by whatever number
    pub unwanted-undefined : (number : ℕ) (name : List ℕ) → has_name wanted (bucket_of name) ≡ true → is_defined (place_in_statement number s name) ≡ false
    unwanted-undefined number name has =
        false_from_ne_true (is_defined (place_in_statement number s name)) (λ e. true≢false (sym (defined-by number name s.labels s.body e) ∙ lacks.undefined (bucket_of name) has))

    -- and is of none of its kinds
    pub unwanted-kind : (kind : Kind) → has_kind wanted kind ≡ true → is_of_kind kind s.body ≡ false
    unwanted-kind kind has = kind-is kind ∙ lacks.kinds kind has
