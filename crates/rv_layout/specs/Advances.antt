-- Advances of an offset by lines of its section. (docs/LANGUAGE.md, Layout)
use Rattle.std.specs.Prelude.{◌≡◌, ℕ, ◌+◌, ◌%◌, ◌^◌, ◌<◌, ◌≤◌, leb, if◌then◌else◌}
use Rattle.rv_layout.specs.Rounding.{round_up}
use Rattle.rv_layout.specs.declared.advance.Advance.{Advance}

abbrev pub advance_of : (before exponent after : ℕ) → Advance
advance_of before exponent after = record { before = before; exponent = exponent; after = after }

-- modulo 2 ^ 32
abbrev pub wrap : ℕ → ℕ
wrap n = n % 2 ^ 32

-- the least multiple of 2 ^ e that is not below x
abbrev pub up : (x e : ℕ) → ℕ
up x e = round_up x (2 ^ e)

-- the offset after an advance, modulo 2 ^ 32
abbrev pub advanced : Advance → ℕ → ℕ
advanced a x = wrap (up (x + a.before) a.exponent + a.after)

-- p, then q: the coarser of the two roundings is left
abbrev pub then_exact : (p q : Advance) → Advance
then_exact p q =
    if leb q.exponent p.exponent
    then advance_of p.before p.exponent (up (p.after + q.before) q.exponent + q.after)
    else advance_of (p.before + up (p.after + q.before) p.exponent) q.exponent q.after

-- the same advance with its numbers modulo 2 ^ 32
abbrev pub reduced : Advance → Advance
reduced a = advance_of (wrap a.before) a.exponent (wrap a.after)

-- p, then q, modulo 2 ^ 32
abbrev pub then_advance : (p q : Advance) → Advance
then_advance p q = reduced (then_exact p q)

abbrev pub no_advance : Advance
no_advance = advance_of 0 0 0

-- an advance as the code holds it: a rounding to at most 4096, and numbers of 32 bits; one that does not round adds nothing
-- before
pub record IsAdvance (a : Advance) : Type 0 where
  pub small : a.exponent ≤ 12
  pub before_fits : a.before < 2 ^ 32
  pub after_fits : a.after < 2 ^ 32
  pub plain : a.exponent ≡ 0 → a.before ≡ 0
