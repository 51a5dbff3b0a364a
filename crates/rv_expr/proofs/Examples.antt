-- Examples of the definitions, computed.
use Rattle.std.specs.Prelude.{◌≡◌, ℕ, ℤ, pos, negsuc, List, [], ◌∷◌, Option, Some, None, Result, Ok, Err, codes, refl, option_map}
use Rattle.rv_text.specs.Lexing.{lexed_line, spelled_tokens}
use Rattle.rv_text.specs.declared.lexeme.TokenKind.TheVariants as kinds
use Rattle.rv_expr.specs.declared.faults.ValueFault.{ValueFault}
use Rattle.rv_expr.specs.declared.faults.ValueFault.TheVariants.{Undefined, Arithmetic, NoPartner}
use Rattle.rv_expr.specs.declared.tree.Direction.TheVariants.{Back, Forward}
use Rattle.rv_expr.specs.Depth.{depth_of}
use Rattle.rv_expr.specs.Reading.{expression_of, run_of}
use Rattle.rv_expr.specs.Tree.{Tree, Number, Symbol, Local, Here}
use Rattle.rv_expr.specs.Value.{Environment, value_of}

-- no name is defined, and the line's address is 100
abbrev nothing : Environment
nothing = record {
  symbol = λ name. Err Undefined;
  local = λ number direction. Err Undefined;
  here = Ok (pos 100);
  paired_high = λ label. Err NoPartner;
}

abbrev read_as : List ℕ → Option Tree
read_as text = expression_of (spelled_tokens (lexed_line text))

abbrev value_at : List ℕ → Option (Result ℤ ValueFault)
value_at text = option_map (value_of nothing) (read_as text)

-- levels
tight_product : value_at (codes "1 + 2 * 3") ≡ Some (Ok (pos 7))
tight_product = refl

or_before_sum : value_at (codes "6 + 1 | 2") ≡ Some (Ok (pos 9))
or_before_sum = refl

shift_before_sum : value_at (codes "1 + 1 << 3") ≡ Some (Ok (pos 9))
shift_before_sum = refl

from_left : value_at (codes "8 - 2 - 1") ≡ Some (Ok (pos 5))
from_left = refl

shifts_from_left : value_at (codes "1 << 2 << 1") ≡ Some (Ok (pos 8))
shifts_from_left = refl

parentheses : value_at (codes "-(1 + 'A') * ~. ") ≡ Some (Ok (pos 6666))
parentheses = refl

-- division and shifts
quotient_toward_zero : value_at (codes "-7 / 2") ≡ Some (Ok (negsuc 2))
quotient_toward_zero = refl

remainder_of_dividend : value_at (codes "-7 % 2") ≡ Some (Ok (negsuc 0))
remainder_of_dividend = refl

arithmetic_shift : value_at (codes "-1 >> 1") ≡ Some (Ok (negsuc 0))
arithmetic_shift = refl

large_count : value_at (codes "1 << 64") ≡ Some (Err Arithmetic)
large_count = refl

large_count_of_zero : value_at (codes "0 << 64") ≡ Some (Err Arithmetic)
large_count_of_zero = refl

negative_count : value_at (codes "0 >> -1") ≡ Some (Err Arithmetic)
negative_count = refl

largest_count_of_zero : value_at (codes "0 << 63") ≡ Some (Ok (pos 0))
largest_count_of_zero = refl

largest_count : value_at (codes "-1 << 63") ≡ Some (Ok (negsuc 9223372036854775807))
largest_count = refl

largest_count_overflows : value_at (codes "1 << 63") ≡ Some (Err Arithmetic)
largest_count_overflows = refl

-- range
zero_divisor : value_at (codes "1 / 0") ≡ Some (Err Arithmetic)
zero_divisor = refl

zero_divisor_of_remainder : value_at (codes "1 % 0") ≡ Some (Err Arithmetic)
zero_divisor_of_remainder = refl

too_large : value_at (codes "9223372036854775807 + 1") ≡ Some (Err Arithmetic)
too_large = refl

least : value_at (codes "-9223372036854775807 - 1") ≡ Some (Ok (negsuc 9223372036854775807))
least = refl

negated_least : value_at (codes "-(-9223372036854775807 - 1)") ≡ Some (Err Arithmetic)
negated_least = refl

complement_of_least : value_at (codes "~(-9223372036854775807 - 1)") ≡ Some (Ok (pos 9223372036854775807))
complement_of_least = refl

quotient_of_least : value_at (codes "(-9223372036854775807 - 1) / -1") ≡ Some (Err Arithmetic)
quotient_of_least = refl

remainder_of_least : value_at (codes "(-9223372036854775807 - 1) % -1") ≡ Some (Ok (pos 0))
remainder_of_least = refl

bits_of_negative : value_at (codes "-4 & 6 | -8 ^ 1") ≡ Some (Ok (negsuc 2))
bits_of_negative = refl

-- the first fault
left_fault_first : value_at (codes "zz + 1/0") ≡ Some (Err Undefined)
left_fault_first = refl

left_arithmetic_first : value_at (codes "1/0 + zz") ≡ Some (Err Arithmetic)
left_arithmetic_first = refl

-- operands
register_is_symbol : read_as (codes "a0") ≡ Some (Symbol (codes "a0"))
register_is_symbol = refl

place : read_as (codes ".") ≡ Some Here
place = refl

two_dots : read_as (codes "..") ≡ Some (Symbol (codes ".."))
two_dots = refl

back : read_as (codes "12b") ≡ Some (Local 12 Back)
back = refl

forward : read_as (codes "0f") ≡ Some (Local 0 Forward)
forward = refl

escaped : read_as (codes "'\\n'") ≡ Some (Number (pos 10))
escaped = refl

based : read_as (codes "0xFf") ≡ Some (Number (pos 255))
based = refl

comment : value_at (codes "8//2") ≡ Some (Ok (pos 8))
comment = refl

-- no expressions
empty_run : read_as [] ≡ None
empty_run = refl

no_right_operand : read_as (codes "1 +") ≡ None
no_right_operand = refl

no_left_operand : read_as (codes "* 1") ≡ None
no_left_operand = refl

nothing_inside : read_as (codes "()") ≡ None
nothing_inside = refl

two_operands : read_as (codes "1 2") ≡ None
two_operands = refl

two_quotients : read_as (codes "8/ /2") ≡ None
two_quotients = refl

not_closed : read_as (codes "(1 + 2") ≡ None
not_closed = refl

not_opened : read_as (codes "1 + 2)") ≡ None
not_opened = refl

operand_after_parenthesis : read_as (codes "(1)2") ≡ None
operand_after_parenthesis = refl

text : read_as (codes "\"1\"") ≡ None
text = refl

comma : read_as (codes "1, 2") ≡ None
comma = refl

-- a run of a line's tokens
last_operand : run_of (lexed_line (codes "li a0, -1")) 3 5 ≡ spelled_tokens (record { line = codes "li a0, -1"; tokens = record { kind = kinds.Punctuation; span = record { from = 7; to = 8 } } ∷ record { kind = kinds.Number; span = record { from = 8; to = 9 } } ∷ []; fault = None })
last_operand = refl

-- parentheses that are open at one place
depth_of_pairs : depth_of (spelled_tokens (lexed_line (codes "(1)(2)"))) ≡ 1
depth_of_pairs = refl

depth_inside : depth_of (spelled_tokens (lexed_line (codes "((1) + ((2)))"))) ≡ 3
depth_inside = refl

depth_of_unopened : depth_of (spelled_tokens (lexed_line (codes ") + (("))) ≡ 2
depth_of_unopened = refl

depth_of_signs : depth_of (spelled_tokens (lexed_line (codes "- - ~1"))) ≡ 0
depth_of_signs = refl
