-- The row of high halves, which holds those of the first lines, and nothing for the lines after them.
use Rattle.std.proofs.Common.{◌≡◌, ℕ, suc, ◌+◌, ◌<◌, ◌≤◌, ◌⊎◌, inl, inr, List, length, get_or, set, replicate, is_some, Err, arith, ap, sym, ◌∙◌, get_or-set_same, get_or-set_other}
use Rattle.std.proofs.lemmas.Bool.{cases_lt}
use Rattle.rv_expr.specs.declared.faults.ValueFault.TheVariants.{NoPartner}
use Rattle.rv_fix.specs.Values.{Entry}
use Rattle.rv_program.specs.internal.LinesWithout.{AreWithout}
use Rattle.rv_program.specs.Pairs.{pcrel_high_of}
use Rattle.rv_program.specs.Program.{Program}
use Rattle.rv_program.specs.internal.Rows.{own_high_of, AreOwnHighs}
use Rattle.rv_program.proofs.HighLaws.{no-own}
use Rattle.rv_program.specs.lemmas.Lists.{get_or-same}

module _ (base : ℕ) (program : Program) where
  pub record AreHighsThrough (i : ℕ) (row : List Entry) : Type 0 where
    pub done : (k : ℕ) → k < i → get_or row k (Err NoPartner) ≡ own_high_of base program (suc k)
    pub left : (k : ℕ) → i ≤ k → get_or row k (Err NoPartner) ≡ Err NoPartner

  pub highs-none : (n : ℕ) → AreHighsThrough 0 (replicate n (Err NoPartner))
  highs-none n = record {
    done = λ k below. absurd (let no : k < 0 = below in omega (arith, no));
    left = λ k from. get_or-same n k (Err NoPartner);
  }

  -- a line without a high half has none in the row
  pub highs-past : (i j : ℕ) (row : List Entry) → i ≤ j → AreWithout (λ b. is_some (pcrel_high_of b)) program i j → AreHighsThrough i row → AreHighsThrough j row
  highs-past i j row up passed are = record {
    done = λ k below. at k below (cases_lt k i);
    left = λ k from. are.left k (omega (arith, up, from));
  }
    where
      at : (k : ℕ) → k < j → (k < i) ⊎ (i ≤ k) → get_or row k (Err NoPartner) ≡ own_high_of base program (suc k)
      at k below (inl before) = are.done k before
      at k below (inr from) =
          are.left k from
          ∙ sym (no-own base program (suc k) (passed.each k from below))

  -- one line more, with its high half
  pub highs-set : (i : ℕ) (row : List Entry) (high : Entry) → i < length row → high ≡ own_high_of base program (suc i) → AreHighsThrough i row → AreHighsThrough (i + 1) (set row i high)
  highs-set i row high within is are = record {
    done = λ k below. at k below (cases_lt k i);
    left = λ k from. get_or-set_other row i k high (Err NoPartner) (λ e. omega (arith, e, from)) ∙ are.left k (omega (arith, from));
  }
    where
      at : (k : ℕ) → k < i + 1 → (k < i) ⊎ (i ≤ k) → get_or (set row i high) k (Err NoPartner) ≡ own_high_of base program (suc k)
      at k below (inl before) = get_or-set_other row i k high (Err NoPartner) (λ e. omega (arith, e, before)) ∙ are.done k before
      at k below (inr from) =
          let same : k ≡ i = omega (arith, below, from) in
          ap (λ n. get_or (set row i high) n (Err NoPartner)) same ∙ get_or-set_same row i high (Err NoPartner) within ∙ is
          ∙ ap (λ n. own_high_of base program (suc n)) (sym same)

  -- through the last line
  pub highs-all : (row : List Entry) → length row ≤ length program → AreHighsThrough (length program) row → AreOwnHighs base program row
  highs-all row many are = record { each = are.done; within = many }
