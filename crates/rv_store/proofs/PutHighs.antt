-- The row of high halves gets that of a line at the end of the text, and loses it again.
use Rattle.std.proofs.Common.{◌≡◌, ◌==◌, ℕ, zero, suc, ◌+◌, ◌-◌, ◌<◌, ◌≤◌, ◌⊎◌, inl, inr, Bool, true, false, ◌&&◌, nat_le, nat_lt, List, [], ◌∷◌, length, take, replicate, set, ◌++◌, get_or, Option, Some, None, Err, if◌then◌else◌, arith, ap, sym, subst, ◌∙◌, refl}
use Rattle.std.specs.Option.{option_map}
use Rattle.std.proofs.lemmas.Bool.{cases_lt, le-leb, lt-ltb}
use Rattle.std.proofs.lemmas.List.{ext_get_or, get_or-take, get_or-set_same, get_or-set_other, length-take, length-set, length-append, length-replicate, take_all}
use Rattle.rv_expr.specs.declared.faults.ValueFault.TheVariants.{NoPartner}
use Rattle.rv_stmt.specs.Statement.{statement_of}
use Rattle.rv_layout.specs.Places.{AreLimited}
use Rattle.rv_layout.specs.Sections.{section_number}
use Rattle.rv_fix.specs.Values.{Entry}
use Rattle.rv_list.specs.declared.view.LinePlace.{LinePlace}
use Rattle.rv_program.specs.declared.item.Item.{Item}
use Rattle.rv_program.specs.Edits.{place_of_edit}
use Rattle.rv_program.specs.Pairs.{high_at}
use Rattle.rv_program.specs.Program.{Program, program_of}
use Rattle.rv_program.specs.Text.{Edit}
use Rattle.rv_program.specs.internal.Lines.{lines_of}
use Rattle.rv_program.specs.internal.Rows.{AreDefinitions, AreConstants, AreEquValues, AreShapes, ArePlaces, AreLocals, AreHighs}
use Rattle.rv_program.specs.internal.Locals.{lines_with}
use Rattle.rv_program.specs.internal.Still.{set_or_push}
use Rattle.rv_program.specs.internal.Work.{high_operands}
use Rattle.rv_program.specs.internal.TextRows.{no_place}
use Rattle.rv_program.specs.lemmas.Lists.{get_or-same}
use Rattle.rv_program.specs.lemmas.Programs.{length-program}
use Rattle.rv_store.specs.declared.still.Still.{Still}
use Rattle.rv_store.specs.declared.survey.Survey.{Survey}
use Rattle.rv_store.specs.internal.Appended.{AreSameLines, AreSameSymbols}
use Rattle.rv_store.specs.internal.Ends.{ends_of}
use Rattle.rv_store.specs.internal.HighRows.{AreRows, StayButHighs, GetHigh, added_highs}
use Rattle.rv_store.specs.internal.Renewed.{ArePut}
use Rattle.rv_store.specs.internal.StillLines.{high_section, IsStillLine}
use Rattle.rv_store.specs.internal.Surveys.{IsSurvey}
use Rattle.rv_store.specs.internal.Waiting.{waits_there, HaveHigh}
use Rattle.rv_store.proofs.StillLaws.{behind-is, highs-still, highs-put, nothing-there}

-- with that row the survey is whole
pub survey-with : (base : ℕ) (program : Program) (names : List (List ℕ)) (old new : Survey) → AreRows base program names old → StayButHighs old new → AreHighs base program new.highs.items → IsSurvey base program names new
survey-with base program names old new are stay highs = record {
  definitions = subst (λ v. AreDefinitions program names v.items) (sym stay.definitions) are.definitions;
  constants = subst (λ v. AreConstants program (length program) names v.items) (sym stay.constants) are.constants;
  shapes = subst (λ v. AreShapes program v.items) (sym stay.shapes) are.shapes;
  limited = subst (λ v. AreLimited v.items) (sym stay.shapes) are.limited;
  ends = stay.ends ∙ are.ends ∙ ap (λ v. ends_of v.items) (sym stay.shapes);
  places = subst (λ v. ArePlaces base program v.items) (sym stay.places) are.places;
  locals = subst (AreLocals program (length program)) (sym stay.locals) are.locals;
  equ_values = subst (λ v. AreEquValues base program (length program) names v.items) (sym stay.equ_values) are.equ_values;
  highs = highs;
}

-- A row that is made as long as there are lines

filled : (row : List Entry) (k i : ℕ) → get_or (row ++ replicate k (Err NoPartner)) i (Err NoPartner) ≡ get_or row i (Err NoPartner)
filled [] k i = get_or-same k i (Err NoPartner)
filled (x ∷ xs) k zero = refl
filled (x ∷ xs) k (suc i) = filled xs k i

pub lengthened : (row row' : List Entry) (n count : ℕ) → row' ≡ take n row ++ replicate (n - count) (Err NoPartner) → count ≡ length row → length row ≤ n → (length row' ≡ n) × ((i : ℕ) → get_or row' i (Err NoPartner) ≡ get_or row i (Err NoPartner))
lengthened row row' n count made counted within =
    let whole : row' ≡ row ++ replicate (n - length row) (Err NoPartner) = made ∙ (λ j. take_all n row within j ++ replicate (n - counted j) (Err NoPartner)) in
    let many : length row' ≡ length row + (n - length row) = ap length whole ∙ length-append row (replicate (n - length row) (Err NoPartner)) ∙ ap (λ k. length row + k) (length-replicate (n - length row) (Err NoPartner)) in
    (omega (arith, many, within), λ i. ap (λ r. get_or r i (Err NoPartner)) whole ∙ filled row (n - length row) i)

-- one that got a high half, and loses it again
pub row-back : (places : List LinePlace) (t first former : ℕ) (high : Entry) (old put back : List Entry) → HaveHigh places t first high old put → ((i : ℕ) → get_or back i (Err NoPartner) ≡ (if waits_there places t first i then Err NoPartner else get_or put i (Err NoPartner)))
    → length back ≡ length put → length old ≡ former → ((i : ℕ) → waits_there places t first i ≡ true → get_or old i (Err NoPartner) ≡ Err NoPartner) → take former back ≡ old
row-back places t first former high old put back have taken many count nothing =
    ext_get_or (Err NoPartner) (take former back) old all (λ i below.
    let before : i < former = omega (arith, below, all, count) in
    get_or-take former back i (Err NoPartner) before ∙ taken i ∙ at i (waits_there places t first i) refl)
  where
    all : length (take former back) ≡ length old
    all = omega (arith, length-take former back, many, count, have.more)

    at : (i : ℕ) (b : Bool) → waits_there places t first i ≡ b → (if b then Err NoPartner else get_or put i (Err NoPartner)) ≡ get_or old i (Err NoPartner)
    at i true h = sym (nothing i h)
    at i false h = have.each i ∙ ap (λ b. if b then high else get_or old i (Err NoPartner)) h

-- One line of the row after the other

module _ (places : List LinePlace) (t first : ℕ) (high : Entry) (old : List Entry) where
  -- line i of the row is looked at
  module _ (i : ℕ) (row new : List Entry) (from : first ≤ i) (below : i < length row) (many : length row ≡ length places) (b : Bool) (there : (section_number (get_or places i no_place).section == t) ≡ b) (put : new ≡ (if b then set row i high else row)) where
    pub looked-many : length new ≡ length row
    looked-many = ap length put ∙ at b
      where
        at : (b : Bool) → length (if b then set row i high else row) ≡ length row
        at true = length-set row i high
        at false = refl

    other : (j : ℕ) → (j ≡ i → ⊥) → get_or new j (Err NoPartner) ≡ get_or row j (Err NoPartner)
    other j differs = ap (λ r. get_or r j (Err NoPartner)) put ∙ at b
      where
        at : (b : Bool) → get_or (if b then set row i high else row) j (Err NoPartner) ≡ get_or row j (Err NoPartner)
        at true = get_or-set_other row i j high (Err NoPartner) differs
        at false = refl

    pub looked-left : ((j : ℕ) → i ≤ j → get_or row j (Err NoPartner) ≡ get_or old j (Err NoPartner)) → (j : ℕ) → i + 1 ≤ j → get_or new j (Err NoPartner) ≡ get_or old j (Err NoPartner)
    looked-left left j past = other j (λ e. omega (arith, e, past)) ∙ left j (omega (arith, past))

    pub looked-done : ((j : ℕ) → i ≤ j → get_or row j (Err NoPartner) ≡ get_or old j (Err NoPartner)) → ((j : ℕ) → j < i → get_or row j (Err NoPartner) ≡ (if waits_there places t first j then high else get_or old j (Err NoPartner)))
        → (j : ℕ) → j < i + 1 → get_or new j (Err NoPartner) ≡ (if waits_there places t first j then high else get_or old j (Err NoPartner))
    looked-done left done j before = at (cases_lt j i)
      where
        here : waits_there places t first i ≡ b
        here =
            let after : nat_le first i ≡ true = le-leb first i from in
            let within : nat_lt i (length places) ≡ true = lt-ltb i (length places) (omega (arith, below, many)) in
            (λ k. after k && (within k && there k))

        of : (b : Bool) → get_or (if b then set row i high else row) i (Err NoPartner) ≡ (if b then high else get_or old i (Err NoPartner))
        of true = get_or-set_same row i high (Err NoPartner) below
        of false = left i (omega arith)

        at : (j < i) ⊎ (i ≤ j) → get_or new j (Err NoPartner) ≡ (if waits_there places t first j then high else get_or old j (Err NoPartner))
        at (inl earlier) = other j (λ e. omega (arith, e, earlier)) ∙ done j earlier
        at (inr last) =
            let same : j ≡ i = omega (arith, last, before) in
            ap (λ n. get_or new n (Err NoPartner)) same
            ∙ ap (λ r. get_or r i (Err NoPartner)) put ∙ of b
            ∙ ap (λ c. if c then high else get_or old i (Err NoPartner)) (sym here)
            ∙ ap (λ n. if waits_there places t first n then high else get_or old n (Err NoPartner)) (sym same)

-- the other rows by lines stay, and those by names
pub same-lines : (old new : Survey) → StayButHighs old new → new.highs.items ≡ old.highs.items → AreSameLines old new
same-lines old new stay highs = record {
  lines = ap (λ v. v.items) stay.lines;
  shapes = ap (λ v. v.items) stay.shapes;
  ends = stay.ends;
  places = ap (λ v. v.items) stay.places;
  locals = λ number. ap (λ v. lines_with v number) stay.locals;
  highs = highs;
}

pub same-symbols : (old new : Survey) → StayButHighs old new → AreSameSymbols old new
same-symbols old new stay = record { definitions = stay.definitions; constants = stay.constants; equ_values = stay.equ_values }

-- what is counted for it: no more than the line has
pub high-counted : {base : ℕ} {lines : List (List ℕ)} {k : ℕ} {line : List ℕ} {given : Still} {due : List ℕ} → IsStillLine base lines k line given due → (added_highs given.waiting ≤ 1) × (added_highs given.waiting ≤ high_operands (statement_of line).body)
high-counted {base} {lines} {k} {line} {given} {due} is = at given.waiting refl
  where
    at : (waiting : Option ℕ) → given.waiting ≡ waiting → (added_highs waiting ≤ 1) × (added_highs waiting ≤ high_operands (statement_of line).body)
    at None e = (omega arith, omega arith)
    at (Some first) e = let one = (is.waiting first e).1 in (omega arith, omega (arith, one))

module _ {base : ℕ} {text : List (List ℕ)} {items : List Item} {edit : Edit} {due : List ℕ} (put : ArePut base text items edit due) (given : Still) (same : put.given ≡ given) where
  abbrev k : ℕ
  k = place_of_edit edit

  abbrev p : Program
  p = program_of (lines_of items)

  abbrev t : ℕ
  t = section_number given.place.section

  -- the lines of the text
  whole : text ≡ set_or_push (lines_of items) (k - 1) put.line
  whole = put.whole ∙ put.edited.edited

  still : IsStillLine base (lines_of items) k put.line given due
  still = subst (λ g. IsStillLine base (lines_of items) k put.line g due) same put.still

  program-is : program_of text ≡ program_of (set_or_push (lines_of items) (k - 1) put.line)
  program-is = ap program_of whole

  pub some : 1 ≤ length text
  some =
      let first = still.still.first in
      let last = still.still.last in
      omega (arith, first, last, length-program text, ap length program-is)

  pub highs-within : (row : List Entry) → AreHighs base p row → length row ≤ length text
  highs-within row are = let longer = still.still.longer in omega (arith, are.within, longer, length-program text, ap length program-is)

  high-last : (section : ℕ) → high_section given ≡ Some section → high_at base (program_of text) (length text) ≡ high_at base (program_of (set_or_push (lines_of items) (k - 1) put.line)) k
  high-last section adds =
      let number : length text ≡ k = sym (length-program text) ∙ ap length program-is ∙ (behind-is still.still (still.highs.there section adds).0).0 in
      λ j. high_at base (program-is j) (number j)

  -- the row with it
  pub high-row : (places : List LinePlace) (row row' : List Entry) → ArePlaces base (program_of text) places → GetHigh given.waiting places t (high_at base (program_of text) (length text)) row row' → AreHighs base p row → AreHighs base (program_of text) row'
  high-row places row row' placed get are =
      subst (λ q. AreHighs base q row') (sym program-is) (at given.waiting refl get)
    where
      at : (waiting : Option ℕ) → given.waiting ≡ waiting → GetHigh waiting places t (high_at base (program_of text) (length text)) row row' → AreHighs base (program_of (set_or_push (lines_of items) (k - 1) put.line)) row'
      at None e get = subst (AreHighs base (program_of (set_or_push (lines_of items) (k - 1) put.line))) (sym get) (highs-still still.still still.highs (ap (option_map (λ first. t)) e) row are)
      at (Some first) e get =
          let adds = ap (option_map (λ first. t)) e in
          highs-put still.still still.highs t first adds (still.waiting first e).0 places (subst (λ q. ArePlaces base q places) program-is placed) row row'
          (subst (λ high. GetHigh (Some first) places t high row row') (high-last t adds) get) are

  -- it held nothing for the lines that get it
  pub row-nothing : (places : List LinePlace) (row : List Entry) → ArePlaces base (program_of text) places → AreHighs base p row → (first i : ℕ) → given.waiting ≡ Some first → waits_there places t first i ≡ true → get_or row i (Err NoPartner) ≡ Err NoPartner
  row-nothing places row placed are first i e =
      nothing-there still.still still.highs t first (ap (option_map (λ n. t)) e) (still.waiting first e).0 places (subst (λ q. ArePlaces base q places) program-is placed) row are i
