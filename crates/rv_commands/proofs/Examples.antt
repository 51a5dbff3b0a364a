-- Commands and inputs, as they have to be read.
use Rattle.std.proofs.Common.{◌≡◌, [], ◌∷◌, refl}
use Rattle.std.specs.Prelude.{codes, Some, None}
use Rattle.rv_program.specs.Text.{Insert, Delete, Replace}
use Rattle.rv_commands.specs.declared.pages.Page.TheVariants.{Image, Listing, Symbols, Faults, Lines}
use Rattle.rv_commands.specs.Commands.{Append, Change, Show, Disassemble, request_of}
use Rattle.rv_commands.specs.Transcript.{complete_commands, commands_of, last_piece}

-- pages
image_alone : request_of (codes "image") ≡ Some (Show Image)
image_alone = refl

list_alone : request_of (codes "list") ≡ Some (Show Listing)
list_alone = refl

syms_alone : request_of (codes "syms") ≡ Some (Show Symbols)
syms_alone = refl

faults_alone : request_of (codes "faults") ≡ Some (Show Faults)
faults_alone = refl

text_alone : request_of (codes "text") ≡ Some (Show Lines)
text_alone = refl

image_blank : request_of (codes "image ") ≡ None
image_blank = refl

image_capital : request_of (codes "IMAGE") ≡ None
image_capital = refl

list_return : request_of (codes "list\r") ≡ None
list_return = refl

text_and_more : request_of (codes "text 1") ≡ None
text_and_more = refl

symbols_in_full : request_of (codes "symbols") ≡ None
symbols_in_full = refl

-- disassembly
dis_alone : request_of (codes "dis") ≡ Some Disassemble
dis_alone = refl

dis_blank : request_of (codes "dis ") ≡ None
dis_blank = refl

dis_capital : request_of (codes "Dis") ≡ None
dis_capital = refl

dis_and_more : request_of (codes "dis 1") ≡ None
dis_and_more = refl

dis_in_full : request_of (codes "disassemble") ≡ None
dis_in_full = refl

-- append
append_empty : request_of (codes "a") ≡ Some (Append [])
append_empty = refl

append_blank : request_of (codes "a ") ≡ Some (Append [])
append_blank = refl

append_line : request_of (codes "a x") ≡ Some (Append (codes "x"))
append_line = refl

append_blanks : request_of (codes "a  x ") ≡ Some (Append (codes " x "))
append_blanks = refl

append_joined : request_of (codes "ax") ≡ None
append_joined = refl

-- insert
insert_line : request_of (codes "i 3 nop") ≡ Some (Change (Insert 3 (codes "nop")))
insert_line = refl

insert_empty : request_of (codes "i 3") ≡ Some (Change (Insert 3 []))
insert_empty = refl

insert_blank : request_of (codes "i 3 ") ≡ Some (Change (Insert 3 []))
insert_blank = refl

insert_blanks : request_of (codes "i 1  nop ") ≡ Some (Change (Insert 1 (codes " nop ")))
insert_blanks = refl

insert_first : request_of (codes "i 0 nop") ≡ Some (Change (Insert 0 (codes "nop")))
insert_first = refl

insert_alone : request_of (codes "i") ≡ None
insert_alone = refl

insert_nowhere : request_of (codes "i ") ≡ None
insert_nowhere = refl

insert_two_blanks : request_of (codes "i  1 x") ≡ None
insert_two_blanks = refl

insert_joined : request_of (codes "i 1x") ≡ None
insert_joined = refl

insert_tab : request_of (codes "i 1\tnop") ≡ None
insert_tab = refl

insert_signed : request_of (codes "i -1 x") ≡ None
insert_signed = refl

insert_word : request_of (codes "i x 1") ≡ None
insert_word = refl

-- replace
replace_line : request_of (codes "r 12 addi a0, a0, 1") ≡ Some (Change (Replace 12 (codes "addi a0, a0, 1")))
replace_line = refl

replace_empty : request_of (codes "r 1") ≡ Some (Change (Replace 1 []))
replace_empty = refl

replace_nine_digits : request_of (codes "r 000000001 x") ≡ Some (Change (Replace 1 (codes "x")))
replace_nine_digits = refl

replace_ten_digits : request_of (codes "r 1234567890 x") ≡ None
replace_ten_digits = refl

replace_alone : request_of (codes "r") ≡ None
replace_alone = refl

-- delete
delete_first : request_of (codes "d 1") ≡ Some (Change (Delete 1))
delete_first = refl

delete_none : request_of (codes "d 0") ≡ Some (Change (Delete 0))
delete_none = refl

delete_zeros : request_of (codes "d 000000001") ≡ Some (Change (Delete 1))
delete_zeros = refl

delete_nine_digits : request_of (codes "d 123456789") ≡ Some (Change (Delete 123456789))
delete_nine_digits = refl

delete_ten_digits : request_of (codes "d 1234567890") ≡ None
delete_ten_digits = refl

delete_blank_after : request_of (codes "d 1 ") ≡ None
delete_blank_after = refl

delete_line : request_of (codes "d 1 x") ≡ None
delete_line = refl

delete_joined : request_of (codes "d1") ≡ None
delete_joined = refl

delete_signed : request_of (codes "d -1") ≡ None
delete_signed = refl

delete_alone : request_of (codes "d") ≡ None
delete_alone = refl

delete_blank : request_of (codes "d ") ≡ None
delete_blank = refl

-- nothing that is asked for
no_command : request_of [] ≡ None
no_command = refl

blank_before : request_of (codes " a x") ≡ None
blank_before = refl

-- the commands of an input
no_input : commands_of [] ≡ []
no_input = refl

lone_break : commands_of (codes "\n") ≡ [] ∷ []
lone_break = refl

ended_commands : commands_of (codes "a\nd 1\n") ≡ codes "a" ∷ codes "d 1" ∷ []
ended_commands = refl

last_not_ended : commands_of (codes "a\nd 1") ≡ codes "a" ∷ codes "d 1" ∷ []
last_not_ended = refl

only_not_ended : commands_of (codes "d 1") ≡ codes "d 1" ∷ []
only_not_ended = refl

empty_between : commands_of (codes "a\n\n\nx") ≡ codes "a" ∷ [] ∷ [] ∷ codes "x" ∷ []
empty_between = refl

complete_without_last : complete_commands (codes "a\nd 1") ≡ codes "a" ∷ []
complete_without_last = refl

complete_with_last : complete_commands (codes "a\nd 1\n") ≡ codes "a" ∷ codes "d 1" ∷ []
complete_with_last = refl

none_complete : complete_commands (codes "d 1") ≡ []
none_complete = refl

after_the_last_break : last_piece (codes "a\nd 1") ≡ codes "d 1"
after_the_last_break = refl
