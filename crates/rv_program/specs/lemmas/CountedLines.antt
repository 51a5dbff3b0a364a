-- What one line of a text after an edit adds to the counts.
use Rattle.std.proofs.Common.{◌≡◌, ℕ, suc, ◌+◌, ◌*◌, ◌≤◌, Bool, true, false, List, [], ◌∷◌, length, if◌then◌else◌, arith, ap, subst, sym, ◌∙◌, refl}
use Rattle.std.proofs.lemmas.List.{length-append}
use Rattle.rv_text.specs.Counting.{Counts}
use Rattle.rv_stmt.specs.declared.statement.Body.{Body}
use Rattle.rv_stmt.specs.declared.statement.Body.TheVariants.{Equ}
use Rattle.rv_stmt.specs.Statement.{operands_of}
use Rattle.rv_program.specs.internal.Compared.{compared_through}
use Rattle.rv_program.specs.Jumps.{target_of}
use Rattle.rv_program.specs.Program.{program_of, body_at, lines_that}
use Rattle.rv_program.specs.internal.Renewals.{values_through, codes_through, AreCounted}
use Rattle.rv_program.specs.internal.Revisions.{EditedText, revised_lines, invalidates, reencodes}
use Rattle.rv_program.specs.internal.Work.{value_operands, compared_operands}
use Rattle.rv_program.specs.lemmas.Programs.{kept-up, rises_to}
use Rattle.rv_program.specs.lemmas.WorkLaws.{work-next}
use Rattle.rv_program.specs.lemmas.WorkSums.{one_label, compared-few}

-- no line takes more values than it has operands
value_operands-few : (b : Body) → value_operands b ≤ length (operands_of b)
value_operands-few (Equ d) = omega arith
value_operands-few b = omega arith

-- one line more in a count
next_in_count : (test : ℕ → Bool) (n : ℕ) → length (lines_that test (suc n)) ≡ length (lines_that test n) + (if test (suc n) then 1 else 0)
next_in_count test n =
    length-append (lines_that test n) (if test (suc n) then suc n ∷ [] else []) ∙ ap (λ m. length (lines_that test n) + m) (one (test (suc n)))
  where
    one : (b : Bool) → length (if b then suc n ∷ [] else []) ≡ (if b then 1 else 0)
    one true = refl
    one false = refl

module _ (r : EditedText) where
  values-next : (k n : ℕ) → n ≡ suc k → values_through r n ≡ values_through r k + (if invalidates r n then value_operands (body_at (program_of (revised_lines r)) n) else 0)
  values-next k n next =
      subst (λ m. values_through r m ≡ values_through r k + (if invalidates r m then value_operands (body_at (program_of (revised_lines r)) m) else 0)) (sym next)
      (work-next value_operands r.base r.lines r.edit k)

  compared-next : (k n : ℕ) → n ≡ suc k → compared_through r n ≡ compared_through r k + (if invalidates r n then compared_operands (body_at (program_of (revised_lines r)) n) else 0)
  compared-next k n next =
      subst (λ m. compared_through r m ≡ compared_through r k + (if invalidates r m then compared_operands (body_at (program_of (revised_lines r)) m) else 0)) (sym next)
      (work-next compared_operands r.base r.lines r.edit k)

  codes-next : (k n : ℕ) → n ≡ suc k → codes_through r n ≡ codes_through r k + (if reencodes r n then 1 else 0)
  codes-next k n next =
      subst (λ m. codes_through r m ≡ codes_through r k + (if reencodes r m then 1 else 0)) (sym next)
      (next_in_count (reencodes r) k)

  values-rise : (k n : ℕ) → k ≤ n → values_through r k ≤ values_through r n
  values-rise = rises_to (values_through r) (λ n. let next = values-next n (suc n) refl in omega (arith, next))

  codes-rise : (k n : ℕ) → k ≤ n → codes_through r k ≤ codes_through r n
  codes-rise = rises_to (codes_through r) (λ n. let next = codes-next n (suc n) refl in omega (arith, next))

  -- a line is compared at most once
  compared-rise_to : (k n : ℕ) → k ≤ n → compared_through r n + k ≤ compared_through r k + n
  compared-rise_to k n few = kept-up (λ m. compared_through r m + k ≤ compared_through r k + m) k n few
      (λ m first last so_far.
      let next = compared-next m (suc m) refl in
      let one = at (invalidates r (suc m)) (body_at (program_of (revised_lines r)) (suc m)) in
      omega (arith, so_far, next, one)) (omega arith)
    where
      at : (b : Bool) (body : Body) → (if b then compared_operands body else 0) ≤ 1
      at true body = one_label (target_of body)
      at false body = omega arith

  -- where nothing is counted
  pub nothing_counted : (k n : ℕ) (c : Counts) → k ≤ n → AreCounted r k n c c
  nothing_counted k n c few =
      let values = values-rise k n few in
      let codes = codes-rise k n few in
      let compared = compared-rise_to k n few in
      record {
        parsed = refl;
        valued_least = omega arith;
        valued_most = omega (arith, values);
        valued_few = omega (arith, few);
        valued_both = omega (arith, compared, few);
        encoded_least = omega arith;
        encoded_most = omega (arith, codes);
        encoded_few = omega (arith, few);
      }

  -- these lines and then those
  pub both_counted : (k m n : ℕ) (c d e : Counts) → AreCounted r k m c d → AreCounted r m n d e → AreCounted r k n c e
  both_counted k m n c d e p q = record {
    parsed = q.parsed ∙ p.parsed;
    valued_least = omega (arith, p.valued_least, q.valued_least);
    valued_most = omega (arith, p.valued_most, q.valued_most);
    valued_few = omega (arith, p.valued_few, q.valued_few);
    valued_both = omega (arith, p.valued_both, q.valued_both);
    encoded_least = omega (arith, p.encoded_least, q.encoded_least);
    encoded_most = omega (arith, p.encoded_most, q.encoded_most);
    encoded_few = omega (arith, p.encoded_few, q.encoded_few);
  }

  -- line n is invalidated, and its values were computed: the counts were c before and are d after that
  module _ (lines : List (List ℕ)) (same : lines ≡ revised_lines r) (k n : ℕ) (next : n ≡ suc k) (few : length (operands_of (body_at (program_of lines) n)) ≤ 1000)
      (invalidated : invalidates r n ≡ true) (c d : Counts) (parsed : d.parsed ≡ c.parsed)
      (least : c.valued ≤ d.valued) (most : d.valued ≤ c.valued + value_operands (body_at (program_of lines) n)) (encoded : d.encoded ≡ c.encoded) where
    values_here : values_through r n ≡ values_through r k + value_operands (body_at (program_of lines) n)
    values_here =
        values-next k n next ∙ ap (λ b. values_through r k + (if b then value_operands (body_at (program_of (revised_lines r)) n) else 0)) invalidated
        ∙ ap (λ ls. values_through r k + value_operands (body_at (program_of ls) n)) (sym same)

    compared_here : compared_through r n ≡ compared_through r k + compared_operands (body_at (program_of lines) n)
    compared_here =
        compared-next k n next ∙ ap (λ b. compared_through r k + (if b then compared_operands (body_at (program_of (revised_lines r)) n) else 0)) invalidated
        ∙ ap (λ ls. compared_through r k + compared_operands (body_at (program_of ls) n)) (sym same)

    both_here : d.valued + 1000 * k + compared_through r n ≤ c.valued + 1000 * n + compared_through r k
    both_here =
        let compared = compared_here in
        let both = compared-few (body_at (program_of lines) n) few in
        omega (arith, most, compared, both, next)

    -- it is not encoded
    pub valued_line : AreCounted r k n c d
    valued_line =
        let codes = codes-rise k n (omega (arith, next)) in
        let values = values_here in
        let operands = value_operands-few (body_at (program_of lines) n) in
        record {
          parsed = parsed;
          valued_least = least;
          valued_most = omega (arith, most, values);
          valued_few = omega (arith, most, few, operands, next);
          valued_both = both_here;
          encoded_least = omega (arith, encoded);
          encoded_most = omega (arith, encoded, codes);
          encoded_few = omega (arith, encoded, next);
        }

    -- it is encoded too
    pub encoded_line : reencodes r n ≡ true → (e : Counts) → e.parsed ≡ d.parsed → e.valued ≡ d.valued → d.encoded ≤ e.encoded → e.encoded ≤ d.encoded + 1 → AreCounted r k n c e
    encoded_line reencoded e parsed' valued' least' most' =
        let codes = codes-next k n next ∙ ap (λ b. codes_through r k + (if b then 1 else 0)) reencoded in
        let values = values_here in
        let operands = value_operands-few (body_at (program_of lines) n) in
        record {
          parsed = parsed' ∙ parsed;
          valued_least = omega (arith, least, valued');
          valued_most = omega (arith, most, values, valued');
          valued_few = omega (arith, most, few, operands, next, valued');
          valued_both = (let both = both_here in omega (arith, both, valued'));
          encoded_least = omega (arith, encoded, least');
          encoded_most = omega (arith, encoded, most', codes);
          encoded_few = omega (arith, encoded, most', next);
        }
