-- Operands in memory: `offset(register)`. (docs/LANGUAGE.md, Instructions)
use Rattle.std.specs.Prelude.{ℕ, suc, ◌+◌, ◌-◌, ◌&&◌, ◌==◌, nat_le, Bool, true, false, List, [], ◌∷◌, length, take, drop, Option, Some, None, is_some, option_and_then, option_map, Ok, Err, codes, if◌then◌else◌}
use Rattle.rv_text.specs.declared.faults.FaultNumber.TheVariants.{BadRegister, BadOperand}
use Rattle.rv_text.specs.declared.lexeme.TokenKind.{TokenKind}
use Rattle.rv_text.specs.declared.lexeme.TokenKind.TheVariants.{Number}
use Rattle.rv_text.specs.Lexing.{SpelledToken}
use Rattle.rv_text.specs.Numbers.{number_of}
use Rattle.rv_ops.specs.Registers.{register_named}
use Rattle.rv_ops.specs.declared.op.Shape.{Shape}
use Rattle.rv_expr.specs.Depth.{depth_after}
use Rattle.rv_expr.specs.TokenRoles.{token_role}
use Rattle.rv_stmt.specs.declared.memory.Located.{Located}
use Rattle.rv_stmt.specs.declared.operand.OperandValue.{OperandValue}
use Rattle.rv_stmt.specs.declared.registers.Accepted.{Accepted}
use Rattle.rv_stmt.specs.Readings.{Reading, and_then, or_fault}
use Rattle.rv_stmt.specs.Registers.{accepted_register}
use Rattle.rv_stmt.specs.Tokens.{punctuation_at, identifier_at}
use Rattle.rv_stmt.specs.Values.{plain, modified_value}

-- `(`, a register and `)` from a place on
abbrev pub base_at : List SpelledToken → ℕ → Option ℕ
base_at run k =
    if punctuation_at (codes "(") run k && punctuation_at (codes ")") run (k + 2)
    then option_and_then register_named (identifier_at run (k + 1))
    else None

-- the base at the end of a run
abbrev pub base_of : List SpelledToken → Option ℕ
base_of run = if nat_le 3 (length run) then base_at run (length run - 3) else None

-- the offset before a base; none where nothing stands there
abbrev pub offset : List SpelledToken → Reading (Option OperandValue)
offset [] = Ok None
offset (p ∷ ps) = and_then (plain (p ∷ ps)) (λ v. Ok (Some v))

-- the place of a base that the operand accepts, and of an offset; the base's fault comes first
abbrev pub place_in_memory : Accepted → Option ℕ → Reading (Option OperandValue) → Reading Located
place_in_memory a base reading =
    and_then
    (and_then (or_fault BadRegister base) (accepted_register a))
    (λ n. and_then reading (λ v. Ok (record { base = n; offset = v })))

-- how many tokens there are up to the parenthesis that closes the first; `depth` are open
abbrev pub closed_within : ℕ → List SpelledToken → Option ℕ
closed_within depth [] = None
closed_within depth (p ∷ ps) =
    if depth_after depth (token_role p) == 0 then Some 1 else option_map suc (closed_within (depth_after depth (token_role p)) ps)

-- how many tokens a modifier has with its parentheses: `%`, a name if there is one, and up to the parenthesis that
-- closes the first
abbrev pub group_from : List SpelledToken → ℕ → Option ℕ
group_from run k =
    if punctuation_at (codes "(") run k then option_map (λ n. k + n) (closed_within 0 (drop k run)) else None

-- that of a modifier at the start of a run
abbrev pub group_of : List SpelledToken → Option ℕ
group_of run = group_from run (if is_some (identifier_at run 1) then 2 else 1)

-- the base after a modifier, which nothing else follows
abbrev pub base_after : List SpelledToken → ℕ → Option ℕ
base_after run n = if length run == n + 3 then base_at run n else None

-- an offset with a modifier, and after it the base and nothing else
abbrev pub modified_memory : Shape → Accepted → List SpelledToken → Reading Located
modified_memory s a run =
    and_then
    (or_fault BadRegister (group_of run))
    (λ n. place_in_memory a (base_after run n) (and_then (modified_value s (take n run)) (λ v. Ok (Some v))))

-- an offset without a modifier before the base
abbrev pub plain_memory : Accepted → List SpelledToken → Reading Located
plain_memory a run = place_in_memory a (base_of run) (offset (take (length run - 3) run))

-- an offset with a modifier, or a plain one
abbrev pub memory : Shape → Accepted → List SpelledToken → Reading Located
memory s a run = if punctuation_at (codes "%") run 0 then modified_memory s a run else plain_memory a run

-- Addresses without an offset

abbrev pub is_zero_value : Option ℕ → Bool
is_zero_value None = false
is_zero_value (Some n) = n == 0

abbrev pub is_zero_of_kind : TokenKind → List ℕ → Bool
is_zero_of_kind Number text = is_zero_value (number_of text)
is_zero_of_kind kind text = false

-- nothing stands before the base, or a number alone whose value is 0
abbrev pub is_no_offset : List SpelledToken → Bool
is_no_offset [] = true
is_no_offset (p ∷ []) = is_zero_of_kind p.kind p.text
is_no_offset (p ∷ q ∷ ps) = false

-- the base after an offset with a modifier, or a plain one
abbrev pub base_behind : List SpelledToken → Option ℕ
base_behind run =
    if punctuation_at (codes "%") run 0 then option_and_then (base_after run) (group_of run) else base_of run

-- a register that holds an address: `(register)` or `0(register)`; the base's fault comes first
abbrev pub bare_base : Accepted → List SpelledToken → Reading ℕ
bare_base a run =
    and_then
    (and_then (or_fault BadRegister (base_behind run)) (accepted_register a))
    (λ n. if is_no_offset (take (length run - 3) run) then Ok n else Err BadOperand)
