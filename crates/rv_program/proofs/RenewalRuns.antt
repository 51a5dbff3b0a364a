-- A whole pass over the items of the first lines of a text after an edit, and one that stops.
use Rattle.std.proofs.Common.{◌≡◌, ℕ, suc, ◌+◌, ◌-◌, ◌*◌, ◌^◌, ◌<◌, ◌≤◌, ◌⊎◌, true, false, inl, inr, List, [], ◌∷◌, ◌++◌, length, append_assoc, arith, ap, sym, ◌∙◌, refl, subst}
use Rattle.std.specs.Prelude.{Result, Ok, Err, IfOk, OnErr}
use Rattle.std.proofs.lemmas.List.{append-nil}
use Rattle.rv_text.specs.Counting.{Counts}
use Rattle.rv_tree.specs.Passes.{Runs, Stops, none, one_more, here, refused, later}
use Rattle.rv_program.specs.declared.item.Item.{Item}
use Rattle.rv_program.specs.declared.limits.TheConstants.{MAX_LINES}
use Rattle.rv_program.specs.declared.line_sum.LineSum.{LineSum}
use Rattle.rv_program.specs.declared.value_rows.ValueRows.{ValueRows}
use Rattle.rv_program.specs.Program.{lines_ahead}
use Rattle.rv_program.specs.Text.{Edit}
use Rattle.rv_program.specs.internal.Former.{IsFormer, AreFormer}
use Rattle.rv_program.specs.internal.Items.{AreFirstItems}
use Rattle.rv_program.specs.internal.LineSums.{no_line_sum, both_line_sums, line_sum_of}
use Rattle.rv_program.specs.internal.LinesAhead.{BeginsOther, all_ahead, next_ahead, other-fails}
use Rattle.rv_program.specs.internal.Renewals.{changed_through, AreCounted, AreListed, AreLeft, IsRenewed, IsVisited, IsLeft, IsAheadNext, IsDone}
use Rattle.rv_program.specs.internal.Revisions.{EditedText, invalidates, reencodes, IsRevised, TellsDue, AreDue}
use Rattle.rv_program.specs.internal.ValueRows.{base_of}
use Rattle.rv_program.specs.lemmas.CountedLines.{nothing_counted, both_counted}
use Rattle.rv_program.specs.lemmas.ItemLaws.{one_item_more}
use Rattle.rv_program.proofs.ChangeLaws.{not_changed}
use Rattle.rv_program.proofs.ListedLines.{nothing_listed, none_listed, both_listed, all_listed}
use Rattle.rv_program.proofs.StayingItems.{stays_in}

-- the first of the items that are left is a former one
pub first_former : (base : ℕ) (lines : List (List ℕ)) (edit : Edit) (k : ℕ) (item : Item) (items : List Item) → AreFormer base lines edit k (item ∷ items) → IsFormer base lines edit (k + 1) item
first_former base lines edit k item items are =
    let next : k + 0 + 1 ≡ k + 1 = omega arith in
    subst (λ n. IsFormer base lines edit n item) next (are 0 item refl)

-- all items are left before the first one
pub all_left : (r : EditedText) (rows : ValueRows) (items : List Item) (due : List ℕ) (counts : Counts) → IsRevised r rows → length items ≤ length rows.symbols.text.lines.now → AreDue r (length items) due → AreFormer r.base r.lines r.edit 0 items → counts.valued + 1000 * length rows.symbols.text.lines.now < 2 ^ 64 → counts.encoded + length rows.symbols.text.lines.now < 2 ^ 64 → AreLeft r rows due no_line_sum items counts
all_left r rows items due counts revised few are former valued encoded =
    let all : length items ≡ 0 + length items = omega arith in
    record {
      revised = revised;
      lines = omega (arith, few);
      test = are.test;
      tells = subst (λ n. TellsDue r n are.test) all are.tells;
      ahead = are.those ∙ all_ahead are.test (length items);
      former = former;
      valued = omega (arith, valued, few);
      encoded = omega (arith, encoded, few);
    }

-- the next line is made anew where it is the first of the lines ahead
pub next_due : (r : EditedText) (rows : ValueRows) (row behind : List ℕ) (sum : LineSum) (x : Item) (items : List Item) (counts : Counts) (left : AreLeft r rows row sum (x ∷ items) counts) → row ≡ (sum.count + 1) ∷ behind → (invalidates r (sum.count + 1) ≡ true) × IsAheadNext left.test sum.count row behind
next_due r rows row behind sum x items counts left is =
    let k = sum.count in
    let test = left.test in
    let passes = (next_ahead test k (suc (length items)) (k + 1) behind (sym left.ahead ∙ is)).passes in (
      left.tells.invalidated (k + 1) (omega arith) (omega arith) passes,
      λ m are.
          let next : k + 1 ≡ suc k = omega arith in
          let rest : k + suc m - (k + 1) ≡ m = omega arith in
          (next_ahead test k (suc m) (k + 1) behind (sym are ∙ is)).behind ∙ (λ i. lines_ahead test (next i) (rest i)),
    )

pub next_not_due : (r : EditedText) (rows : ValueRows) (row : List ℕ) (sum : LineSum) (x : Item) (items : List Item) (counts : Counts) (left : AreLeft r rows row sum (x ∷ items) counts) → BeginsOther row (sum.count + 1) → left.test (suc sum.count) ≡ false
next_not_due r rows row sum x items counts left other =
    let next : suc sum.count ≡ sum.count + 1 = omega arith in
    other-fails left.test sum.count (length items) row left.ahead (λ rest is. other rest (is ∙ ap (λ k. k ∷ rest) next))

-- what one visit does, also where the line is not due
pub visited : (r : EditedText) (rows : ValueRows) (sum : LineSum) (x y : Item) (items : List Item) (counts counts' : Counts) (changed changed' row row' : List ℕ) → AreLeft r rows row sum (x ∷ items) counts → IsDone r rows sum x y counts counts' changed changed' row row' → IsVisited r rows sum y counts counts' changed changed'
visited r rows sum x y items counts counts' changed changed' row row' left done = at (done items left)
  where
    k : ℕ
    k = sum.count

    at : (IsVisited r rows sum y counts counts' changed changed' × IsAheadNext left.test k row row') ⊎ IsLeft left.test sum x y counts counts' changed changed' row row' → IsVisited r rows sum y counts counts' changed changed'
    at (inl (done, ahead)) = done
    at (inr stays) =
        let revised = left.revised in
        let last : k + 1 ≤ length rows.symbols.text.lines.now = omega (arith, left.lines) in
        let within = subst (λ ls. k + 1 ≤ length ls) revised.lines last in
        let next : suc k ≡ k + 1 = omega arith in
        let same : reencodes r (k + 1) ≡ false = left.tells.others (k + 1) (omega arith) (omega arith) (sym (ap left.test next) ∙ stays.not_due) in
        let former = first_former r.base r.lines r.edit k x items left.former in
        record {
          item = subst (IsRenewed rows sum) (sym stays.item)
              (stays_in r.base r.lines r.edit (k + 1) x former (base_of rows) rows.symbols.text.lines.now revised.base revised.lines revised.allowed (omega arith) last same);
          counted = subst (AreCounted r k (k + 1) counts) (sym stays.counts_stay) (nothing_counted r k (k + 1) counts (omega arith));
          listed = subst (AreListed r k (k + 1) changed) (sym stays.changed_stay)
              (none_listed r k (k + 1) changed (omega arith) (not_changed r.base r.lines r.edit (k + 1) revised.allowed (omega arith) within same));
        }

-- `step` says what one visit does; the names are those of the list and of the counter
module _ {P N M : Type 0} (gives : P → LineSum → Item → Item → P → Type 0) (accepts : P → LineSum → List Item → Type 0)
    (edited : P → EditedText) (rows : P → ValueRows) (counts : P → Counts) (listed : P → List ℕ) (list : P → N) (counter : P → M)
    (rest : (p q : P) (b : LineSum) (x y : Item) (xs : List Item) → accepts p b (x ∷ xs) → gives p b x y q → accepts q (both_line_sums b (line_sum_of y)) xs)
    (step : (p q : P) (b : LineSum) (x y : Item) (xs : List Item) → accepts p b (x ∷ xs) → gives p b x y q → IsVisited (edited p) (rows p) b y (counts p) (counts q) (listed p) (listed q) × (edited q ≡ edited p) × (rows q ≡ rows p) × (list q ≡ list p) × (counter q ≡ counter p)) where
  next-count : (b : LineSum) (y : Item) (m n : ℕ) → n ≤ MAX_LINES → b.count + suc m ≡ n → (both_line_sums b (line_sum_of y)).count ≡ b.count + 1
  next-count b y m n few left = omega (arith, few, left)

  -- behind the items of the lines before them a whole run leaves those of these lines
  pub run_items : {p q : P} {b : LineSum} {xs ys : List Item} (r : ValueRows) (n : ℕ) (done : List Item) → rows p ≡ r → accepts p b xs → Runs gives both_line_sums line_sum_of p b xs ys q → length r.symbols.text.lines.now ≤ MAX_LINES → n ≤ length r.symbols.text.lines.now → b.count + length xs ≡ n → AreFirstItems (base_of r) r.symbols.text.lines.now b.count done → AreFirstItems (base_of r) r.symbols.text.lines.now n (done ++ ys)
  run_items {b = b} r n done same can none few within left are =
      let all : b.count ≡ n = omega (arith, left) in
      subst (AreFirstItems (base_of r) r.symbols.text.lines.now n) (sym (append-nil done)) (subst (λ m. AreFirstItems (base_of r) r.symbols.text.lines.now m done) all are)
  run_items {p} {q} {b} r n done same can (one_more {m = m} {x = x} {y = y} {xs = xs} {ys = ys} g run) few within left are =
      let s = step p m b x y xs can g in
      let next = next-count b y (length xs) n (omega (arith, few, within)) left in
      let more = one_item_more (base_of r) r.symbols.text.lines.now b.count done y (omega (arith, left, within)) are (subst (λ r. IsRenewed r b y) same s.0.item) in
      subst (AreFirstItems (base_of r) r.symbols.text.lines.now n) (append_assoc done (y ∷ []) ys)
      (run_items r n (done ++ y ∷ []) (s.2 ∙ same) (rest p m b x y xs can g) run few within (omega (arith, next, left)) (subst (λ k. AreFirstItems (base_of r) r.symbols.text.lines.now k (done ++ y ∷ [])) (sym next) more))

  -- it counts and lists what their lines add
  pub run_counted : {p q : P} {b : LineSum} {xs ys : List Item} (f : EditedText) (n : ℕ) → edited p ≡ f → accepts p b xs → Runs gives both_line_sums line_sum_of p b xs ys q → n ≤ MAX_LINES → b.count + length xs ≡ n → AreCounted f b.count n (counts p) (counts q) × AreListed f b.count n (listed p) (listed q) × (list q ≡ list p) × (counter q ≡ counter p)
  run_counted {p} {b = b} f n same can none few left =
      let all : b.count ≡ n = omega (arith, left) in (
        nothing_counted f b.count n (counts p) (omega (arith, left)),
        subst (λ k. AreListed f b.count k (listed p) (listed p)) all (nothing_listed f b.count (listed p)),
        refl,
        refl,
      )
  run_counted {p} {q} {b} f n same can (one_more {m = m} {x = x} {y = y} {xs = xs} g run) few left =
      let s = step p m b x y xs can g in
      let next = next-count b y (length xs) n few left in
      let more = run_counted f n (s.1 ∙ same) (rest p m b x y xs can g) run few (omega (arith, next, left)) in
      let here = subst (λ f. AreCounted f b.count (b.count + 1) (counts p) (counts m)) same s.0.counted in
      let line = subst (λ f. AreListed f b.count (b.count + 1) (listed p) (listed m)) same s.0.listed in (
        both_counted f b.count (b.count + 1) n (counts p) (counts m) (counts q) here (subst (λ k. AreCounted f k n (counts m) (counts q)) next more.0),
        both_listed f b.count (b.count + 1) n (listed p) (listed m) (listed q) line (subst (λ k. AreListed f k n (listed m) (listed q)) next more.1),
        more.2 ∙ s.3,
        more.3 ∙ s.4,
      )

  -- so from the first line on, and with an empty list, it lists the lines that have another code
  pub run_listed : {p q : P} {b : LineSum} {xs ys : List Item} (f : EditedText) (n : ℕ) → edited p ≡ f → accepts p b xs → Runs gives both_line_sums line_sum_of p b xs ys q → n ≤ MAX_LINES → b.count + length xs ≡ n → b.count ≡ 0 → listed p ≡ [] → (new : List ℕ) → (list p ≡ list q → new ≡ listed q) → new ≡ changed_through f n
  run_listed {p} {q} {b} f n same can run few left first empty new is =
      let all = run_counted f n same can run few left in
      is (sym all.2) ∙ all_listed f n (listed p) (listed q) empty (subst (λ k. AreListed f k n (listed p) (listed q)) first all.1)

  -- and one that stops counts no more
  module _ (refuses : P → LineSum → Item → P → Type 0)
      (stop : (p q : P) (b : LineSum) (x : Item) → refuses p b x q → (edited q ≡ edited p) × AreCounted (edited p) b.count (b.count + 1) (counts p) (counts q) × (list q ≡ list p) × (counter q ≡ counter p)) where
    pub stop_counted : {p q : P} {b : LineSum} {xs : List Item} (f : EditedText) (n : ℕ) → edited p ≡ f → accepts p b xs → Stops gives refuses both_line_sums line_sum_of p b xs q → n ≤ MAX_LINES → b.count + length xs ≡ n → AreCounted f b.count n (counts p) (counts q) × (counter q ≡ counter p)
    stop_counted {p} {b = b} f n same can here few left = (nothing_counted f b.count n (counts p) (omega (arith, left)), refl)
    stop_counted {p} {q} {b} f n same can (refused {x = x} {xs = xs} r) few left =
        let s = stop p q b x r in
        let line = subst (λ f. AreCounted f b.count (b.count + 1) (counts p) (counts q)) same s.1 in
        (both_counted f b.count (b.count + 1) n (counts p) (counts q) (counts q) line (nothing_counted f (b.count + 1) n (counts q) (omega (arith, left))), s.3)
    stop_counted {p} {q} {b} f n same can (later {m = m} {x = x} {y = y} {xs = xs} g run) few left =
        let s = step p m b x y xs can g in
        let next = next-count b y (length xs) n few left in
        let more = stop_counted f n (s.1 ∙ same) (rest p m b x y xs can g) run few (omega (arith, next, left)) in
        let line = subst (λ f. AreCounted f b.count (b.count + 1) (counts p) (counts m)) same s.0.counted in
        (both_counted f b.count (b.count + 1) n (counts p) (counts m) (counts q) line (subst (λ k. AreCounted f k n (counts m) (counts q)) next more.0), more.1 ∙ s.4)

    -- so it counts no more whatever comes of it; `items` are those that it leaves
    pub outcome_counted : {A E : Type 0} {p q : P} {b : LineSum} {xs : List Item} (f : EditedText) (n : ℕ) → edited p ≡ f → accepts p b xs → n ≤ MAX_LINES → b.count + length xs ≡ n → (r : Result A E) (items : A → List Item) → IfOk r (λ t. Runs gives both_line_sums line_sum_of p b xs (items t) q) → OnErr r (Stops gives refuses both_line_sums line_sum_of p b xs q) → AreCounted f b.count n (counts p) (counts q) × (counter q ≡ counter p)
    outcome_counted f n same can few left (Ok t) items ok err = let all = run_counted f n same can ok few left in (all.0, all.3)
    outcome_counted f n same can few left (Err e) items ok err = stop_counted f n same can err few left
