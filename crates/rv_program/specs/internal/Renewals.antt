-- The items of a text after an edit, those of the lines that are due made anew, from the first to the last.
use Rattle.std.proofs.Common.{◌≡◌, ℕ, suc, ◌+◌, ◌-◌, ◌*◌, ◌^◌, ◌<◌, ◌≤◌, ◌⊎◌, inl, inr, Bool, false, List, ◌∷◌, ◌++◌, length, get_or, arith, ap, subst, sym, ◌∙◌, refl}
use Rattle.rv_text.specs.Counting.{Counts}
use Rattle.rv_tree.specs.PassLaws.{kept_by_parts}
use Rattle.rv_tree.specs.Passes.{Runs}
use Rattle.rv_tree.specs.Sums.{total, AllSums}
use Rattle.rv_program.specs.declared.item.Item.{Item}
use Rattle.rv_program.specs.declared.line_sum.LineSum.{LineSum}
use Rattle.rv_program.specs.declared.value_rows.ValueRows.{ValueRows}
use Rattle.rv_program.specs.Program.{lines_that, lines_ahead}
use Rattle.rv_program.specs.internal.Compared.{compared_through}
use Rattle.rv_program.specs.internal.Former.{IsFormer, AreFormer}
use Rattle.rv_program.specs.internal.Items.{IsItem}
use Rattle.rv_program.specs.internal.LineSums.{IsLineSum, no_line_sum, both_line_sums, line_sum_of, line_sum_laws}
use Rattle.rv_program.specs.internal.LinesAhead.{ahead-left, apart-fails}
use Rattle.rv_program.specs.internal.Revisions.{EditedText, reencodes, changes, IsRevised, TellsDue}
use Rattle.rv_program.specs.internal.ValueRows.{base_of}
use Rattle.rv_program.specs.internal.Work.{value_operands, work}

-- how many values and codes the first n lines of the text after an edit may take
abbrev pub values_through : EditedText → (n : ℕ) → ℕ
values_through r n = work value_operands r.base r.lines r.edit n

abbrev pub codes_through : EditedText → (n : ℕ) → ℕ
codes_through r n = length (lines_that (reencodes r) n)

-- while the lines after line k up to line n are gone through, no more is counted than these may take, no line is read, and of
-- each line at most 1,000 values, its comparison counted too, and one code are computed
pub record AreCounted (r : EditedText) (k n : ℕ) (old new : Counts) : Type 0 where
  pub parsed : new.parsed ≡ old.parsed
  pub valued_least : old.valued ≤ new.valued
  pub valued_most : new.valued + values_through r k ≤ old.valued + values_through r n
  pub valued_few : new.valued + 1000 * k ≤ old.valued + 1000 * n
  pub valued_both : new.valued + 1000 * k + compared_through r n ≤ old.valued + 1000 * n + compared_through r k
  pub encoded_least : old.encoded ≤ new.encoded
  pub encoded_most : new.encoded + codes_through r k ≤ old.encoded + codes_through r n
  pub encoded_few : new.encoded + k ≤ old.encoded + n

-- while the first n lines are looked at and those that are due are made anew, no more is counted than these may take, no line is read,
-- and of each line at most 1,000 values, its comparison counted too, and one code are computed
pub record AreCountedRenewed (r : EditedText) (n : ℕ) (old new : Counts) : Type 0 where
  pub parsed : new.parsed ≡ old.parsed
  pub valued_least : old.valued ≤ new.valued
  pub valued_most : new.valued ≤ old.valued + compared_through r n + values_through r n
  pub valued_few : new.valued ≤ old.valued + 1000 * n
  pub encoded_least : old.encoded ≤ new.encoded
  pub encoded_most : new.encoded ≤ old.encoded + codes_through r n
  pub encoded_few : new.encoded ≤ old.encoded + n

-- of the first n lines those that have another code
abbrev pub changed_through : EditedText → (n : ℕ) → List ℕ
changed_through r n = lines_that (changes r) n

-- to a list were added those of the lines after line k up to line n
pub record AreListed (r : EditedText) (k n : ℕ) (old new : List ℕ) : Type 0 where
  pub more : List ℕ
  pub those : changed_through r n ≡ changed_through r k ++ more
  pub added : new ≡ old ++ more

-- One pass over the items of the first lines

-- behind lines of this sum these items are left, one for each of the next lines; `row` are those of these lines that are due,
-- and the counts have room for them
pub record AreLeft (r : EditedText) (rows : ValueRows) (row : List ℕ) (sum : LineSum) (items : List Item) (counts : Counts) : Type 0 where
  pub revised : IsRevised r rows
  pub lines : sum.count + length items ≤ length rows.symbols.text.lines.now
  pub test : ℕ → Bool
  pub tells : TellsDue r (sum.count + length items) test
  pub ahead : row ≡ lines_ahead test sum.count (length items)
  pub former : AreFormer r.base r.lines r.edit sum.count items
  pub valued : counts.valued + 1000 * length items < 2 ^ 64
  pub encoded : counts.encoded + length items < 2 ^ 64

-- the item of the next line
abbrev pub IsRenewed : ValueRows → (sum : LineSum) → Item → Type 0
IsRenewed rows sum item = IsItem (base_of rows) rows.symbols.text.lines.now (sum.count + 1) item

-- if the one row holds the lines ahead of line k, the other one holds those ahead of line k + 1
abbrev pub IsAheadNext : (test : ℕ → Bool) → (k : ℕ) → (row row' : List ℕ) → Type 0
IsAheadNext test k row row' = (m : ℕ) → row ≡ lines_ahead test k (suc m) → row' ≡ lines_ahead test (suc k) m

-- what a visit may do with the first item of those that are left, on which there are so many counts and changed lines before it
-- and after it, and these lines ahead

-- it leaves the item of the next line
pub record IsVisited (r : EditedText) (rows : ValueRows) (sum : LineSum) (y : Item) (counts counts' : Counts) (changed changed' : List ℕ) : Type 0 where
  pub item : IsRenewed rows sum y
  pub counted : AreCounted r sum.count (sum.count + 1) counts counts'
  pub listed : AreListed r sum.count (sum.count + 1) changed changed'

-- the next line is not due, so all stays as it is
pub record IsLeft (test : ℕ → Bool) (sum : LineSum) (x y : Item) (counts counts' : Counts) (changed changed' row row' : List ℕ) : Type 0 where
  pub not_due : test (suc sum.count) ≡ false
  pub item : y ≡ x
  pub counts_stay : counts' ≡ counts
  pub changed_stay : changed' ≡ changed
  pub row_stays : row' ≡ row

abbrev pub IsDone : (r : EditedText) → (rows : ValueRows) → (sum : LineSum) → (x y : Item) → (counts counts' : Counts) → (changed changed' row row' : List ℕ) → Type 0
IsDone r rows sum x y counts counts' changed changed' row row' =
    (items : List Item) → (left : AreLeft r rows row sum (x ∷ items) counts)
    → (IsVisited r rows sum y counts counts' changed changed' × IsAheadNext left.test sum.count row row') ⊎ IsLeft left.test sum x y counts counts' changed changed' row row'

-- one line further
left-next : (r r' : EditedText) (rows rows' : ValueRows) (row row' : List ℕ) (sum : LineSum) (x y : Item) (items : List Item) (counts counts' : Counts) → (left : AreLeft r rows row sum (x ∷ items) counts) → r' ≡ r → rows' ≡ rows → counts'.valued + 1000 * sum.count ≤ counts.valued + 1000 * (sum.count + 1) → counts'.encoded + sum.count ≤ counts.encoded + (sum.count + 1) → IsAheadNext left.test sum.count row row' → AreLeft r' rows' row' (both_line_sums sum (line_sum_of y)) items counts'
left-next r r' rows rows' row row' sum x y items counts counts' left same same_rows valued encoded next =
    let few = left.revised.few in
    let count : suc sum.count ≡ (both_line_sums sum (line_sum_of y)).count = omega (arith, few, left.lines) in
    let all : sum.count + suc (length items) ≡ (both_line_sums sum (line_sum_of y)).count + length items = omega (arith, few, left.lines) in
    subst (λ r. AreLeft r rows' row' (both_line_sums sum (line_sum_of y)) items counts') (sym same)
    (subst (λ rows. AreLeft r rows row' (both_line_sums sum (line_sum_of y)) items counts') (sym same_rows) (record {
      revised = left.revised;
      lines = omega (arith, left.lines, all);
      test = left.test;
      tells = subst (λ n. TellsDue r n left.test) all left.tells;
      ahead = next (length items) left.ahead ∙ ap (λ k. lines_ahead left.test k (length items)) count;
      former = λ i item there. subst (λ k. IsFormer r.base r.lines r.edit k item) (omega (arith, few, left.lines)) (left.former (suc i) item there);
      valued = omega (arith, left.valued, valued);
      encoded = omega (arith, left.encoded, encoded);
    }))

-- behind a line that is not due the same lines are ahead
ahead-stays : (test : ℕ → Bool) (k : ℕ) (row row' : List ℕ) → row' ≡ row → test (suc k) ≡ false → IsAheadNext test k row row'
ahead-stays test k row row' same not_due m are = same ∙ ahead-left test k m row not_due are

pub done-next : (r r' : EditedText) (rows rows' : ValueRows) (row row' : List ℕ) (sum : LineSum) (x y : Item) (items : List Item) (counts counts' : Counts) (changed changed' : List ℕ) → AreLeft r rows row sum (x ∷ items) counts → IsDone r rows sum x y counts counts' changed changed' row row' → r' ≡ r → rows' ≡ rows → AreLeft r' rows' row' (both_line_sums sum (line_sum_of y)) items counts'
done-next r r' rows rows' row row' sum x y items counts counts' changed changed' left done same same_rows = at (done items left)
  where
    at : (IsVisited r rows sum y counts counts' changed changed' × IsAheadNext left.test sum.count row row') ⊎ IsLeft left.test sum x y counts counts' changed changed' row row' → AreLeft r' rows' row' (both_line_sums sum (line_sum_of y)) items counts'
    at (inl (visited, ahead)) =
        left-next r r' rows rows' row row' sum x y items counts counts' left same same_rows visited.counted.valued_few visited.counted.encoded_few ahead
    at (inr stays) =
        let counts_stay = stays.counts_stay in
        left-next r r' rows rows' row row' sum x y items counts counts' left same same_rows
        (let v = ap (λ c. c.valued) counts_stay in omega (arith, v))
        (let e = ap (λ c. c.encoded) counts_stay in omega (arith, e))
        (ahead-stays left.test sum.count row row' stays.row_stays stays.not_due)

-- Passing over lines of which none is due

-- the first of the lines ahead is behind lines of the second sum, which are behind those of the first, and the counts are exact
abbrev pub AreApart : (row : List ℕ) → LineSum → LineSum → Type 0
AreApart row b s = (b.count + s.count < 2 ^ 32 - 1) × (b.count + s.count < get_or row 0 (2 ^ 32 - 1))

apart-first : (row : List ℕ) (b x y : LineSum) → AreApart row b (both_line_sums x y) → AreApart row b x
apart-first row b x y k = (omega (arith, k.0), omega (arith, k.0, k.1))

apart-rest : (row : List ℕ) (b x y : LineSum) → AreApart row b (both_line_sums x y) → AreApart row (both_line_sums b x) y
apart-rest row b x y k = (omega (arith, k.0), omega (arith, k.0, k.1))

apart-done : (r : EditedText) (rows : ValueRows) (row : List ℕ) (sum : LineSum) (x : Item) (counts : Counts) (changed : List ℕ) → AreApart row sum (line_sum_of x) → IsDone r rows sum x x counts counts changed changed row row
apart-done r rows row sum x counts changed apart = λ items left.
    inr (record {
      not_due = apart-fails left.test sum.count (length items) (2 ^ 32 - 1) row left.ahead (omega (arith, apart.1));
      item = refl;
      counts_stay = refl;
      changed_stay = refl;
      row_stays = refl;
    })

-- the law of skipping: the items of such lines are left as they are
pub apart_left : {P : Type 0} (gives : P → LineSum → Item → Item → P → Type 0) (p : P) (r : EditedText) (rows : ValueRows) (row : List ℕ) (counts : Counts) (changed : List ℕ) → ((b : LineSum) (x : Item) → IsDone r rows b x x counts counts changed changed row row → gives p b x x p) → (b : LineSum) (xs : List Item) → IsLineSum b → AllSums IsLineSum line_sum_of xs → AreApart row b (total no_line_sum both_line_sums line_sum_of xs) → Runs gives both_line_sums line_sum_of p b xs xs p
apart_left gives p r rows row counts changed one b xs v a k =
    kept_by_parts gives line_sum_laws line_sum_of p (AreApart row) (λ c x y _ _ _ h. apart-first row c x y h) (λ c x y _ _ _ h. apart-rest row c x y h)
    (λ c x _ h. one c x (apart-done r rows row c x counts changed h)) b xs v a k
