-- The padded decimals begin with the decimals: computed from the text of all.
use Rattle.std.proofs.Common.{◌≡◌, ℕ, ◌+◌, ◌<◌, ◌≤◌, true, length, take, map, get_or, nat_lt, if◌then◌else◌, IsAscii, refl, arith, ltb, ltb-true}
use Rattle.std.specs.Prelude.{decimal}
use Rattle.std.specs.Fmt.{digits}
use Rattle.std.specs.List.{range_with_len}
use Rattle.rv_dis.specs.declared.decimals.TheConstants.{DECIMALS}
use Rattle.rv_dis.proofs.PairTexts.{ascii_text, pair_of, same_below}

-- how many bytes of a pair are not padding
abbrev pub width_of : ℕ → ℕ
width_of n = if nat_lt n 10 then 1 else 2

pub decimals_ascii : IsAscii DECIMALS.now
decimals_ascii = ascii_text DECIMALS.now refl

begins_test : map (λ n. take (width_of n) (pair_of DECIMALS.now n)) (range_with_len 0 100) ≡ map decimal (range_with_len 0 100)
unfolding digits
begins_test = refl

pub decimal_begins : (n : ℕ) → n < 100 → take (width_of n) (pair_of DECIMALS.now n) ≡ decimal n
decimal_begins n h = same_below (λ n. take (width_of n) (pair_of DECIMALS.now n)) decimal 100 n begins_test h

within_test : map (λ n. ltb (width_of n) (1 + length (pair_of DECIMALS.now n))) (range_with_len 0 100) ≡ map (λ _. true) (range_with_len 0 100)
within_test = refl

pub decimal_within : (n : ℕ) → n < 100 → width_of n ≤ length (pair_of DECIMALS.now n)
decimal_within n h =
    let test = same_below (λ n. ltb (width_of n) (1 + length (pair_of DECIMALS.now n))) (λ _. true) 100 n within_test h in
    omega (arith, ltb-true (width_of n) (1 + length (pair_of DECIMALS.now n)) test)

end_test : map (λ n. ltb (get_or (pair_of DECIMALS.now n) (width_of n) 0) 128) (range_with_len 0 100) ≡ map (λ _. true) (range_with_len 0 100)
end_test = refl

pub decimal_end : (n : ℕ) → n < 100 → get_or (pair_of DECIMALS.now n) (width_of n) 0 < 128
decimal_end n h = ltb-true _ 128 (same_below (λ n. ltb (get_or (pair_of DECIMALS.now n) (width_of n) 0) 128) (λ _. true) 100 n end_test h)
