-- What refuses a text: each cause alone, and beside the one that comes after it.
use Rattle.std.proofs.Common.{◌≡◌, [], ◌∷◌, ◌++◌, None, Ok, Err, refl}
use Rattle.std.specs.Prelude.{codes}
use Rattle.syn_base.specs.declared.limits.LimitKind.TheVariants.{Words}
use Rattle.macro_code.proofs.Rows.{code, buffer}
use Rattle.text_lines.specs.Refusals.{Limit, refused}
use Rattle.macro_code.specs.declared.fault.CodeCause.TheVariants.{BadLine, UnknownMacro, BadArgument, UnknownName}
use Rattle.macro_code.specs.Forms.{macro_of}
use Rattle.macro_code.proofs.Texts.{plain, three}

-- A byte is not allowed, or the line has none of the forms.
foreign : plain ((codes "processor_(P)" ++ 200 ∷ []) ∷ []) ≡ refused 1 BadLine
unfolding macro_of
foreign = refl

form_second_word : plain (codes "processor_(P) x" ∷ []) ≡ refused 1 BadLine
unfolding macro_of
form_second_word = refl

form_unclosed : plain (codes "processor_(P" ∷ []) ≡ refused 1 BadLine
unfolding macro_of
form_unclosed = refl

form_unopened : plain (codes "processor_P)" ∷ []) ≡ refused 1 BadLine
unfolding macro_of
form_unopened = refl

form_no_name : plain (codes "(P)" ∷ []) ≡ refused 1 BadLine
unfolding macro_of
form_no_name = refl

form_number : plain (codes "1x" ∷ []) ≡ refused 1 BadLine
unfolding macro_of
form_number = refl

form_lone_op : plain (codes "op" ∷ []) ≡ refused 1 BadLine
unfolding macro_of
form_lone_op = refl

form_op_list : plain (codes "op(;)" ∷ []) ≡ refused 1 BadLine
unfolding macro_of
form_op_list = refl

form_nested : plain (codes "processor_((P))" ∷ []) ≡ refused 1 BadLine
unfolding macro_of
form_nested = refl

form_semicolon : plain (codes "processor_(P;P)" ∷ []) ≡ refused 1 BadLine
unfolding macro_of
form_semicolon = refl

form_closed_early : plain (codes "processor_(P)x" ∷ []) ≡ refused 1 BadLine
unfolding macro_of
form_closed_early = refl

form_no_semicolon : plain (codes "op s(b0)" ∷ []) ≡ refused 1 BadLine
unfolding macro_of
form_no_semicolon = refl

form_no_operation : plain (codes "op (;)" ∷ []) ≡ refused 1 BadLine
unfolding macro_of
form_no_operation = refl

form_two_semicolons : plain (codes "op s(;;)" ∷ []) ≡ refused 1 BadLine
unfolding macro_of
form_two_semicolons = refl

form_split_operation : plain (codes "op s (;)" ∷ []) ≡ refused 1 BadLine
unfolding macro_of
form_split_operation = refl

form_marked_operation : plain (codes "op s;a(;)" ∷ []) ≡ refused 1 BadLine
unfolding macro_of
form_marked_operation = refl

form_unclosed_call : plain (codes "op s(;" ∷ []) ≡ refused 1 BadLine
unfolding macro_of
form_unclosed_call = refl

form_call_without_op : plain (codes "po s(;)" ∷ []) ≡ refused 1 BadLine
unfolding macro_of
form_call_without_op = refl

form_unknown_unclosed : plain (codes "mian_(" ∷ []) ≡ refused 1 BadLine
unfolding macro_of
form_unknown_unclosed = refl

-- A line may not stand there: this comes before what its arguments are.
main_first : plain (codes "main_" ∷ []) ≡ refused 1 BadLine
unfolding macro_of
main_first = refl

bad_main_first : plain (codes "main_(x)" ∷ []) ≡ refused 1 BadLine
unfolding macro_of
bad_main_first = refl

no_pairs : plain (codes "processor_(P)" ∷ codes "alloc_(b0,1)" ∷ []) ≡ refused 2 BadLine
unfolding macro_of
no_pairs = refl

pairs_again : plain (codes "processor_(P)" ∷ codes "semaphores_()" ∷ codes "semaphores_()" ∷ []) ≡ refused 3 BadLine
unfolding macro_of
pairs_again = refl

early_call : plain (codes "processor_(P)" ∷ codes "semaphores_()" ∷ codes "alloc_(b0,1)" ∷ codes "op z(;)" ∷ []) ≡ refused 4 BadLine
unfolding macro_of
early_call = refl

early_loop : plain (codes "processor_(P)" ∷ codes "semaphores_()" ∷ codes "alloc_(b0,1)" ∷ codes "loop_" ∷ []) ≡ refused 4 BadLine
unfolding macro_of
early_loop = refl

no_loop : plain (codes "processor_(P)" ∷ codes "semaphores_()" ∷ codes "alloc_(b0,1)" ∷ codes "main_" ∷ codes "endloop_" ∷ []) ≡ refused 5 BadLine
unfolding macro_of
no_loop = refl

loop_twice : plain (codes "processor_(P)" ∷ codes "semaphores_()" ∷ codes "alloc_(b0,1)" ∷ codes "main_" ∷ codes "loop_" ∷ codes "loop_" ∷ []) ≡ refused 6 BadLine
unfolding macro_of
loop_twice = refl

call_after_loop : plain (codes "processor_(P)" ∷ codes "semaphores_()" ∷ codes "alloc_(b0,1)" ∷ codes "main_" ∷ codes "loop_" ∷ codes "endloop_" ∷ codes "op s(;b0)" ∷ []) ≡ refused 7 BadLine
unfolding macro_of
call_after_loop = refl

main_in_loop : plain (codes "processor_(P)" ∷ codes "semaphores_()" ∷ codes "alloc_(b0,1)" ∷ codes "main_" ∷ codes "loop_" ∷ codes "endmain_" ∷ []) ≡ refused 6 BadLine
unfolding macro_of
main_in_loop = refl

thread_ends_in_main : plain (codes "processor_(P)" ∷ codes "semaphores_()" ∷ codes "alloc_(b0,1)" ∷ codes "main_" ∷ codes "loop_" ∷ codes "endloop_" ∷ codes "endthread_" ∷ []) ≡ refused 7 BadLine
unfolding macro_of
thread_ends_in_main = refl

late_buffer : plain (codes "processor_(P)" ∷ codes "semaphores_()" ∷ codes "alloc_(b0,1)" ∷ codes "main_" ∷ codes "alloc_(b1,1)" ∷ []) ≡ refused 5 BadLine
unfolding macro_of
late_buffer = refl

processor_in_main : plain (codes "processor_(P)" ∷ codes "semaphores_()" ∷ codes "alloc_(b0,1)" ∷ codes "main_" ∷ codes "loop_" ∷ codes "processor_(P)" ∷ []) ≡ refused 6 BadLine
unfolding macro_of
processor_in_main = refl

wait_without_thread : plain (codes "processor_(P)" ∷ codes "semaphores_()" ∷ codes "alloc_(b0,1)" ∷ codes "main_" ∷ codes "loop_"
    ∷ codes "endloop_" ∷ codes "wait_endthread_(x)" ∷ []) ≡ refused 7 BadLine
unfolding macro_of
wait_without_thread = refl

spawn_without_thread : plain (codes "processor_(P)" ∷ codes "semaphores_()" ∷ codes "alloc_(b0,1)" ∷ codes "main_" ∷ codes "spawn_thread_(x)" ∷ []) ≡ refused 5 BadLine
unfolding macro_of
spawn_without_thread = refl

main_after_main : plain (codes "processor_(P)" ∷ codes "semaphores_()" ∷ codes "alloc_(b0,1)" ∷ codes "main_" ∷ codes "loop_"
    ∷ codes "endloop_" ∷ codes "endmain_" ∷ codes "main_" ∷ []) ≡ refused 8 BadLine
unfolding macro_of
main_after_main = refl

-- A main part starts each thread of its processor, and waits for the end of each.
buffer_after_thread : three (codes "processor_(A)" ∷ codes "semaphores_()" ∷ codes "thread_(x)" ∷ codes "loop_" ∷ codes "endloop_" ∷ codes "endthread_" ∷ codes "alloc_(b0,1)" ∷ []) ≡ refused 7 BadLine
unfolding macro_of
buffer_after_thread = refl

loop_for_spawn : three (codes "processor_(A)" ∷ codes "semaphores_()" ∷ codes "thread_(x)" ∷ codes "loop_" ∷ codes "endloop_"
    ∷ codes "endthread_" ∷ codes "main_" ∷ codes "loop_" ∷ []) ≡ refused 8 BadLine
unfolding macro_of
loop_for_spawn = refl

call_for_spawn : three (codes "processor_(A)" ∷ codes "semaphores_()" ∷ codes "thread_(x)" ∷ codes "loop_" ∷ codes "endloop_"
    ∷ codes "endthread_" ∷ codes "main_" ∷ codes "op d:get(;)" ∷ []) ≡ refused 8 BadLine
unfolding macro_of
call_for_spawn = refl

unknown_for_spawn : three (codes "processor_(A)" ∷ codes "semaphores_()" ∷ codes "thread_(x)" ∷ codes "loop_" ∷ codes "endloop_"
    ∷ codes "endthread_" ∷ codes "main_" ∷ codes "mian_" ∷ []) ≡ refused 8 (UnknownMacro (codes "mian_"))
unfolding macro_of
unknown_for_spawn = refl

spawn_more : three (codes "processor_(A)" ∷ codes "semaphores_()" ∷ codes "thread_(x)" ∷ codes "loop_" ∷ codes "endloop_"
    ∷ codes "endthread_" ∷ codes "main_" ∷ codes "spawn_thread_(x)" ∷ codes "spawn_thread_(y)" ∷ []) ≡ refused 9 BadLine
unfolding macro_of
spawn_more = refl

wait_more : three (codes "processor_(A)" ∷ codes "semaphores_()" ∷ codes "thread_(x)" ∷ codes "loop_" ∷ codes "endloop_"
    ∷ codes "endthread_" ∷ codes "main_" ∷ codes "spawn_thread_(x)" ∷ codes "loop_" ∷ codes "endloop_" ∷ codes "wait_endthread_(x)"
    ∷ codes "wait_endthread_(x)" ∷ []) ≡ refused 12 BadLine
unfolding macro_of
wait_more = refl

end_for_wait : three (codes "processor_(A)" ∷ codes "semaphores_()" ∷ codes "thread_(x)" ∷ codes "loop_" ∷ codes "endloop_"
    ∷ codes "endthread_" ∷ codes "main_" ∷ codes "spawn_thread_(x)" ∷ codes "loop_" ∷ codes "endloop_" ∷ codes "endmain_" ∷ []) ≡ refused 11 BadLine
unfolding macro_of
end_for_wait = refl

main_in_thread : three (codes "processor_(A)" ∷ codes "semaphores_()" ∷ codes "thread_(x)" ∷ codes "loop_" ∷ codes "endloop_" ∷ codes "endmain_" ∷ []) ≡ refused 6 BadLine
unfolding macro_of
main_in_thread = refl

spawn_in_thread : three (codes "processor_(A)" ∷ codes "semaphores_()" ∷ codes "thread_(x)" ∷ codes "spawn_thread_(x)" ∷ []) ≡ refused 4 BadLine
unfolding macro_of
spawn_in_thread = refl

-- A text ends early after each line but the last.
ends_after_1 : plain (codes "processor_(P)" ∷ []) ≡ refused 2 BadLine
unfolding macro_of
ends_after_1 = refl

ends_after_2 : plain (codes "processor_(P)" ∷ codes "semaphores_()" ∷ []) ≡ refused 3 BadLine
unfolding macro_of
ends_after_2 = refl

ends_after_3 : plain (codes "processor_(P)" ∷ codes "semaphores_()" ∷ codes "alloc_(b0,1)" ∷ []) ≡ refused 4 BadLine
unfolding macro_of
ends_after_3 = refl

ends_after_4 : plain (codes "processor_(P)" ∷ codes "semaphores_()" ∷ codes "alloc_(b0,1)" ∷ codes "main_" ∷ []) ≡ refused 5 BadLine
unfolding macro_of
ends_after_4 = refl

ends_after_5 : plain (codes "processor_(P)" ∷ codes "semaphores_()" ∷ codes "alloc_(b0,1)" ∷ codes "main_" ∷ codes "loop_" ∷ []) ≡ refused 6 BadLine
unfolding macro_of
ends_after_5 = refl

ends_after_6 : plain (codes "processor_(P)" ∷ codes "semaphores_()" ∷ codes "alloc_(b0,1)" ∷ codes "main_" ∷ codes "loop_" ∷ codes "op s(;b0)" ∷ []) ≡ refused 7 BadLine
unfolding macro_of
ends_after_6 = refl

ends_after_7 : plain (codes "processor_(P)" ∷ codes "semaphores_()" ∷ codes "alloc_(b0,1)" ∷ codes "main_" ∷ codes "loop_" ∷ codes "op s(;b0)" ∷ codes "op a(b0;)" ∷ []) ≡ refused 8 BadLine
unfolding macro_of
ends_after_7 = refl

ends_after_8 : plain (codes "processor_(P)" ∷ codes "semaphores_()" ∷ codes "alloc_(b0,1)" ∷ codes "main_" ∷ codes "loop_"
    ∷ codes "op s(;b0)" ∷ codes "op a(b0;)" ∷ codes "endloop_" ∷ []) ≡ refused 9 BadLine
unfolding macro_of
ends_after_8 = refl

ends_after_blank : plain (codes "processor_(P)" ∷ codes "semaphores_()" ∷ codes "alloc_(b0,1)" ∷ [] ∷ codes "# none" ∷ []) ≡ refused 6 BadLine
unfolding macro_of
ends_after_blank = refl

ends_in_thread : three (codes "processor_(A)" ∷ codes "semaphores_()" ∷ codes "thread_(x)" ∷ []) ≡ refused 4 BadLine
unfolding macro_of
ends_in_thread = refl

ends_after_thread : three (codes "processor_(A)" ∷ codes "semaphores_()" ∷ codes "thread_(x)" ∷ codes "loop_" ∷ codes "endloop_" ∷ codes "endthread_" ∷ []) ≡ refused 7 BadLine
unfolding macro_of
ends_after_thread = refl

ends_at_wait : three (codes "processor_(A)" ∷ codes "semaphores_()" ∷ codes "thread_(x)" ∷ codes "loop_" ∷ codes "endloop_"
    ∷ codes "endthread_" ∷ codes "main_" ∷ codes "spawn_thread_(x)" ∷ codes "loop_" ∷ codes "endloop_" ∷ []) ≡ refused 11 BadLine
unfolding macro_of
ends_at_wait = refl

-- An unknown macro is told wherever it stands.
unknown_first : plain (codes "mian_" ∷ []) ≡ refused 1 (UnknownMacro (codes "mian_"))
unfolding macro_of
unknown_first = refl

unknown_list : plain (codes "Processor_(P)" ∷ []) ≡ refused 1 (UnknownMacro (codes "Processor_"))
unfolding macro_of
unknown_list = refl

unknown_in_loop : plain (codes "processor_(P)" ∷ codes "semaphores_()" ∷ codes "alloc_(b0,1)" ∷ codes "main_" ∷ codes "loop_" ∷ codes "suc0_(0)" ∷ []) ≡ refused 6 (UnknownMacro (codes "suc0_"))
unfolding macro_of
unknown_in_loop = refl

unknown_after_all : plain (codes "processor_(P)" ∷ codes "semaphores_()" ∷ codes "alloc_(b0,1)" ∷ codes "main_" ∷ codes "loop_"
    ∷ codes "op s(;b0)" ∷ codes "op a(b0;)" ∷ codes "endloop_" ∷ codes "endmain_" ∷ codes "x(y,)" ∷ []) ≡ refused 10 (UnknownMacro (codes "x"))
unfolding macro_of
unknown_after_all = refl

-- Arguments of a wrong form, or of a wrong number.
processor_no_list : plain (codes "processor_" ∷ []) ≡ refused 1 BadArgument
unfolding macro_of
processor_no_list = refl

processor_empty : plain (codes "processor_()" ∷ []) ≡ refused 1 BadArgument
unfolding macro_of
processor_empty = refl

processor_two : plain (codes "processor_(P,P)" ∷ []) ≡ refused 1 BadArgument
unfolding macro_of
processor_two = refl

processor_digit : plain (codes "processor_(1)" ∷ []) ≡ refused 1 BadArgument
unfolding macro_of
processor_digit = refl

processor_comma : plain (codes "processor_(P,)" ∷ []) ≡ refused 1 BadArgument
unfolding macro_of
processor_comma = refl

pairs_no_list : plain (codes "processor_(P)" ∷ codes "semaphores_" ∷ []) ≡ refused 2 BadArgument
unfolding macro_of
pairs_no_list = refl

pairs_word : plain (codes "processor_(P)" ∷ codes "semaphores_(x)" ∷ []) ≡ refused 2 BadArgument
unfolding macro_of
pairs_word = refl

pairs_negative : plain (codes "processor_(P)" ∷ codes "semaphores_(-1)" ∷ []) ≡ refused 2 BadArgument
unfolding macro_of
pairs_negative = refl

pairs_wide : plain (codes "processor_(P)" ∷ codes "semaphores_(9223372036854775808)" ∷ []) ≡ refused 2 BadArgument
unfolding macro_of
pairs_wide = refl

pairs_twice : plain (codes "processor_(P)" ∷ codes "semaphores_(1,1)" ∷ []) ≡ refused 2 BadArgument
unfolding macro_of
pairs_twice = refl

pairs_falls : plain (codes "processor_(P)" ∷ codes "semaphores_(1,0)" ∷ []) ≡ refused 2 BadArgument
unfolding macro_of
pairs_falls = refl

pairs_comma : plain (codes "processor_(P)" ∷ codes "semaphores_(0,)" ∷ []) ≡ refused 2 BadArgument
unfolding macro_of
pairs_comma = refl

pairs_two_commas : plain (codes "processor_(P)" ∷ codes "semaphores_(0,,1)" ∷ []) ≡ refused 2 BadArgument
unfolding macro_of
pairs_two_commas = refl

pairs_plus : plain (codes "processor_(P)" ∷ codes "semaphores_(+1)" ∷ []) ≡ refused 2 BadArgument
unfolding macro_of
pairs_plus = refl

buffer_no_list : plain (codes "processor_(P)" ∷ codes "semaphores_()" ∷ codes "alloc_" ∷ []) ≡ refused 3 BadArgument
unfolding macro_of
buffer_no_list = refl

buffer_one : plain (codes "processor_(P)" ∷ codes "semaphores_()" ∷ codes "alloc_(b0)" ∷ []) ≡ refused 3 BadArgument
unfolding macro_of
buffer_one = refl

buffer_no_length : plain (codes "processor_(P)" ∷ codes "semaphores_()" ∷ codes "alloc_(b0,0)" ∷ []) ≡ refused 3 BadArgument
unfolding macro_of
buffer_no_length = refl

buffer_negative : plain (codes "processor_(P)" ∷ codes "semaphores_()" ∷ codes "alloc_(b0,-1)" ∷ []) ≡ refused 3 BadArgument
unfolding macro_of
buffer_negative = refl

buffer_wide : plain (codes "processor_(P)" ∷ codes "semaphores_()" ∷ codes "alloc_(b0,9223372036854775808)" ∷ []) ≡ refused 3 BadArgument
unfolding macro_of
buffer_wide = refl

buffer_no_b : plain (codes "processor_(P)" ∷ codes "semaphores_()" ∷ codes "alloc_(0,1)" ∷ []) ≡ refused 3 BadArgument
unfolding macro_of
buffer_no_b = refl

buffer_no_number : plain (codes "processor_(P)" ∷ codes "semaphores_()" ∷ codes "alloc_(b,1)" ∷ []) ≡ refused 3 BadArgument
unfolding macro_of
buffer_no_number = refl

buffer_negative_number : plain (codes "processor_(P)" ∷ codes "semaphores_()" ∷ codes "alloc_(b-1,1)" ∷ []) ≡ refused 3 BadArgument
unfolding macro_of
buffer_negative_number = refl

buffer_capital : plain (codes "processor_(P)" ∷ codes "semaphores_()" ∷ codes "alloc_(B0,1)" ∷ []) ≡ refused 3 BadArgument
unfolding macro_of
buffer_capital = refl

buffer_one_place : plain (codes "processor_(P)" ∷ codes "semaphores_()" ∷ codes "alloc_(b0,1,1)" ∷ []) ≡ refused 3 BadArgument
unfolding macro_of
buffer_one_place = refl

buffer_five_places : plain (codes "processor_(P)" ∷ codes "semaphores_()" ∷ codes "alloc_(b0,1,5)" ∷ []) ≡ refused 3 BadArgument
unfolding macro_of
buffer_five_places = refl

buffer_no_places : plain (codes "processor_(P)" ∷ codes "semaphores_()" ∷ codes "alloc_(b0,1,)" ∷ []) ≡ refused 3 BadArgument
unfolding macro_of
buffer_no_places = refl

buffer_four : plain (codes "processor_(P)" ∷ codes "semaphores_()" ∷ codes "alloc_(b0,1,2,2)" ∷ []) ≡ refused 3 BadArgument
unfolding macro_of
buffer_four = refl

buffer_twice : plain (codes "processor_(P)" ∷ codes "semaphores_()" ∷ codes "alloc_(b0,1)" ∷ codes "alloc_(b0,1)" ∷ []) ≡ refused 4 BadArgument
unfolding macro_of
buffer_twice = refl

buffer_falls : plain (codes "processor_(P)" ∷ codes "semaphores_()" ∷ codes "alloc_(b1,1)" ∷ codes "alloc_(b0,1)" ∷ []) ≡ refused 4 BadArgument
unfolding macro_of
buffer_falls = refl

main_list : plain (codes "processor_(P)" ∷ codes "semaphores_()" ∷ codes "alloc_(b0,1)" ∷ codes "main_()" ∷ []) ≡ refused 4 BadArgument
unfolding macro_of
main_list = refl

loop_list : plain (codes "processor_(P)" ∷ codes "semaphores_()" ∷ codes "alloc_(b0,1)" ∷ codes "main_" ∷ codes "loop_(x)" ∷ []) ≡ refused 5 BadArgument
unfolding macro_of
loop_list = refl

end_list : plain (codes "processor_(P)" ∷ codes "semaphores_()" ∷ codes "alloc_(b0,1)" ∷ codes "main_" ∷ codes "loop_" ∷ codes "endloop_()" ∷ []) ≡ refused 6 BadArgument
unfolding macro_of
end_list = refl

end_main_list : plain (codes "processor_(P)" ∷ codes "semaphores_()" ∷ codes "alloc_(b0,1)" ∷ codes "main_" ∷ codes "loop_" ∷ codes "endloop_" ∷ codes "endmain_()" ∷ []) ≡ refused 7 BadArgument
unfolding macro_of
end_main_list = refl

end_thread_list : three (codes "processor_(A)" ∷ codes "semaphores_()" ∷ codes "thread_(x)" ∷ codes "loop_" ∷ codes "endloop_" ∷ codes "endthread_()" ∷ []) ≡ refused 6 BadArgument
unfolding macro_of
end_thread_list = refl

signal_no_list : plain (codes "processor_(P)" ∷ codes "semaphores_()" ∷ codes "alloc_(b0,1)" ∷ codes "main_" ∷ codes "loop_" ∷ codes "Suc0_" ∷ []) ≡ refused 6 BadArgument
unfolding macro_of
signal_no_list = refl

signal_empty : plain (codes "processor_(P)" ∷ codes "semaphores_()" ∷ codes "alloc_(b0,1)" ∷ codes "main_" ∷ codes "loop_" ∷ codes "Suc1_()" ∷ []) ≡ refused 6 BadArgument
unfolding macro_of
signal_empty = refl

signal_two : plain (codes "processor_(P)" ∷ codes "semaphores_()" ∷ codes "alloc_(b0,1)" ∷ codes "main_" ∷ codes "loop_" ∷ codes "Pre0_(0,0)" ∷ []) ≡ refused 6 BadArgument
unfolding macro_of
signal_two = refl

signal_word : plain (codes "processor_(P)" ∷ codes "semaphores_()" ∷ codes "alloc_(b0,1)" ∷ codes "main_" ∷ codes "loop_" ∷ codes "Pre1_(b0)" ∷ []) ≡ refused 6 BadArgument
unfolding macro_of
signal_word = refl

signal_negative : plain (codes "processor_(P)" ∷ codes "semaphores_()" ∷ codes "alloc_(b0,1)" ∷ codes "main_" ∷ codes "loop_" ∷ codes "Pre1_(-1)" ∷ []) ≡ refused 6 BadArgument
unfolding macro_of
signal_negative = refl

-- A wrong form is told before an unknown name.
call_number : plain (codes "processor_(P)" ∷ codes "semaphores_()" ∷ codes "alloc_(b0,1)" ∷ codes "main_" ∷ codes "loop_" ∷ codes "op z(0;)" ∷ []) ≡ refused 6 BadArgument
unfolding macro_of
call_number = refl

call_out : plain (codes "processor_(P)" ∷ codes "semaphores_()" ∷ codes "alloc_(b0,1)" ∷ codes "main_" ∷ codes "loop_" ∷ codes "op z(b9;9)" ∷ []) ≡ refused 6 BadArgument
unfolding macro_of
call_out = refl

call_comma : plain (codes "processor_(P)" ∷ codes "semaphores_()" ∷ codes "alloc_(b0,1)" ∷ codes "main_" ∷ codes "loop_" ∷ codes "op s(b0,;)" ∷ []) ≡ refused 6 BadArgument
unfolding macro_of
call_comma = refl

send_operator : plain (codes "processor_(P)" ∷ codes "semaphores_()" ∷ codes "alloc_(b0,1)" ∷ codes "main_" ∷ codes "loop_" ∷ codes "send_(b9,9)" ∷ []) ≡ refused 6 BadArgument
unfolding macro_of
send_operator = refl

send_buffer : plain (codes "processor_(P)" ∷ codes "semaphores_()" ∷ codes "alloc_(b0,1)" ∷ codes "main_" ∷ codes "loop_" ∷ codes "send_(x,Z)" ∷ []) ≡ refused 6 BadArgument
unfolding macro_of
send_buffer = refl

send_one : plain (codes "processor_(P)" ∷ codes "semaphores_()" ∷ codes "alloc_(b0,1)" ∷ codes "main_" ∷ codes "loop_" ∷ codes "send_(b9)" ∷ []) ≡ refused 6 BadArgument
unfolding macro_of
send_one = refl

receive_three : plain (codes "processor_(P)" ∷ codes "semaphores_()" ∷ codes "alloc_(b0,1)" ∷ codes "main_" ∷ codes "loop_" ∷ codes "recv_(b9,Z,Z)" ∷ []) ≡ refused 6 BadArgument
unfolding macro_of
receive_three = refl

sync_one : plain (codes "processor_(P)" ∷ codes "semaphores_()" ∷ codes "alloc_(b0,1)" ∷ codes "main_" ∷ codes "loop_" ∷ codes "sync_(Z)" ∷ []) ≡ refused 6 BadArgument
unfolding macro_of
sync_one = refl

sync_second : plain (codes "processor_(P)" ∷ codes "semaphores_()" ∷ codes "alloc_(b0,1)" ∷ codes "main_" ∷ codes "loop_" ∷ codes "sync_(Z,1)" ∷ []) ≡ refused 6 BadArgument
unfolding macro_of
sync_second = refl

sync_bare : plain (codes "processor_(P)" ∷ codes "semaphores_()" ∷ codes "alloc_(b0,1)" ∷ codes "main_" ∷ codes "loop_" ∷ codes "sync_" ∷ []) ≡ refused 6 BadArgument
unfolding macro_of
sync_bare = refl

thread_digit : three (codes "processor_(A)" ∷ codes "semaphores_()" ∷ codes "thread_(0)" ∷ []) ≡ refused 3 BadArgument
unfolding macro_of
thread_digit = refl

-- Operators and media ascend by their numbers in the architecture.
operators_fall : three (codes "processor_(B)" ∷ codes "semaphores_()" ∷ codes "main_" ∷ codes "loop_" ∷ codes "endloop_" ∷ codes "endmain_" ∷ codes "processor_(A)" ∷ []) ≡ refused 7 BadArgument
unfolding macro_of
operators_fall = refl

operator_twice : three (codes "processor_(B)" ∷ codes "semaphores_()" ∷ codes "main_" ∷ codes "loop_" ∷ codes "endloop_" ∷ codes "endmain_" ∷ codes "processor_(B)" ∷ []) ≡ refused 7 BadArgument
unfolding macro_of
operator_twice = refl

threads_fall : three (codes "processor_(A)" ∷ codes "semaphores_()" ∷ codes "thread_(y)" ∷ codes "loop_" ∷ codes "endloop_" ∷ codes "endthread_" ∷ codes "thread_(x)" ∷ []) ≡ refused 7 BadArgument
unfolding macro_of
threads_fall = refl

thread_twice : three (codes "processor_(A)" ∷ codes "semaphores_()" ∷ codes "thread_(y)" ∷ codes "loop_" ∷ codes "endloop_" ∷ codes "endthread_" ∷ codes "thread_(y)" ∷ []) ≡ refused 7 BadArgument
unfolding macro_of
thread_twice = refl

spawns_fall : three (codes "processor_(A)" ∷ codes "semaphores_()" ∷ codes "thread_(x)" ∷ codes "loop_" ∷ codes "endloop_"
    ∷ codes "endthread_" ∷ codes "thread_(y)" ∷ codes "loop_" ∷ codes "endloop_" ∷ codes "endthread_" ∷ codes "main_"
    ∷ codes "spawn_thread_(y)" ∷ codes "spawn_thread_(x)" ∷ []) ≡ refused 13 BadArgument
unfolding macro_of
spawns_fall = refl

spawns_fall_unknown : three (codes "processor_(A)" ∷ codes "semaphores_()" ∷ codes "thread_(y)" ∷ codes "loop_" ∷ codes "endloop_"
    ∷ codes "endthread_" ∷ codes "thread_(z)" ∷ codes "loop_" ∷ codes "endloop_" ∷ codes "endthread_" ∷ codes "main_"
    ∷ codes "spawn_thread_(z)" ∷ codes "spawn_thread_(x)" ∷ []) ≡ refused 13 BadArgument
unfolding macro_of
spawns_fall_unknown = refl

waits_fall : three (codes "processor_(A)" ∷ codes "semaphores_()" ∷ codes "thread_(x)" ∷ codes "loop_" ∷ codes "endloop_"
    ∷ codes "endthread_" ∷ codes "thread_(y)" ∷ codes "loop_" ∷ codes "endloop_" ∷ codes "endthread_" ∷ codes "main_"
    ∷ codes "spawn_thread_(x)" ∷ codes "spawn_thread_(y)" ∷ codes "loop_" ∷ codes "endloop_" ∷ codes "wait_endthread_(y)"
    ∷ codes "wait_endthread_(x)" ∷ []) ≡ refused 17 BadArgument
unfolding macro_of
waits_fall = refl

media_begin_anew : three (codes "processor_(A)" ∷ codes "semaphores_()" ∷ codes "thread_(y)" ∷ codes "loop_" ∷ codes "endloop_"
    ∷ codes "endthread_" ∷ codes "main_" ∷ codes "spawn_thread_(y)" ∷ codes "loop_" ∷ codes "endloop_" ∷ codes "wait_endthread_(y)"
    ∷ codes "endmain_" ∷ codes "processor_(B)" ∷ codes "semaphores_()" ∷ codes "thread_(x)" ∷ codes "loop_" ∷ codes "endloop_"
    ∷ codes "endthread_" ∷ []) ≡ refused 19 BadLine
unfolding macro_of
media_begin_anew = refl

-- What is not declared on the processor is told as it is written, the first of a line.
no_operator : plain (codes "processor_(Z)" ∷ []) ≡ refused 1 (UnknownName (codes "Z"))
unfolding macro_of
no_operator = refl

no_medium : three (codes "processor_(A)" ∷ codes "semaphores_()" ∷ codes "thread_(w)" ∷ []) ≡ refused 3 (UnknownName (codes "w"))
unfolding macro_of
no_medium = refl

no_thread : three (codes "processor_(A)" ∷ codes "semaphores_()" ∷ codes "thread_(x)" ∷ codes "loop_" ∷ codes "endloop_"
    ∷ codes "endthread_" ∷ codes "main_" ∷ codes "spawn_thread_(y)" ∷ []) ≡ refused 8 (UnknownName (codes "y"))
unfolding macro_of
no_thread = refl

no_thread_there : three (codes "processor_(A)" ∷ codes "semaphores_()" ∷ codes "thread_(x)" ∷ codes "loop_" ∷ codes "endloop_"
    ∷ codes "endthread_" ∷ codes "main_" ∷ codes "spawn_thread_(w)" ∷ []) ≡ refused 8 (UnknownName (codes "w"))
unfolding macro_of
no_thread_there = refl

no_wait : three (codes "processor_(A)" ∷ codes "semaphores_()" ∷ codes "thread_(x)" ∷ codes "loop_" ∷ codes "endloop_" ∷ codes "endthread_"
    ∷ codes "main_" ∷ codes "spawn_thread_(x)" ∷ codes "loop_" ∷ codes "endloop_" ∷ codes "wait_endthread_(z)" ∷ []) ≡ refused 11 (UnknownName (codes "z"))
unfolding macro_of
no_wait = refl

no_pair : plain (codes "processor_(P)" ∷ codes "semaphores_()" ∷ codes "alloc_(b0,1)" ∷ codes "main_" ∷ codes "loop_" ∷ codes "Suc0_(007)" ∷ []) ≡ refused 6 (UnknownName (codes "007"))
unfolding macro_of
no_pair = refl

no_operation : plain (codes "processor_(P)" ∷ codes "semaphores_()" ∷ codes "alloc_(b0,1)" ∷ codes "main_" ∷ codes "loop_" ∷ codes "op z(b9;b8)" ∷ []) ≡ refused 6 (UnknownName (codes "z"))
unfolding macro_of
no_operation = refl

no_input : plain (codes "processor_(P)" ∷ codes "semaphores_()" ∷ codes "alloc_(b0,1)" ∷ codes "main_" ∷ codes "loop_" ∷ codes "op s(b0,b9;b8)" ∷ []) ≡ refused 6 (UnknownName (codes "b9"))
unfolding macro_of
no_input = refl

no_output : plain (codes "processor_(P)" ∷ codes "semaphores_()" ∷ codes "alloc_(b0,1)" ∷ codes "main_" ∷ codes "loop_" ∷ codes "op s(b0;b0,b08)" ∷ []) ≡ refused 6 (UnknownName (codes "b08"))
unfolding macro_of
no_output = refl

no_sent : plain (codes "processor_(P)" ∷ codes "semaphores_()" ∷ codes "alloc_(b0,1)" ∷ codes "main_" ∷ codes "loop_" ∷ codes "send_(b1,Z)" ∷ []) ≡ refused 6 (UnknownName (codes "b1"))
unfolding macro_of
no_sent = refl

no_target : plain (codes "processor_(P)" ∷ codes "semaphores_()" ∷ codes "alloc_(b0,1)" ∷ codes "main_" ∷ codes "loop_" ∷ codes "send_(b0,Z)" ∷ []) ≡ refused 6 (UnknownName (codes "Z"))
unfolding macro_of
no_target = refl

no_sender : plain (codes "processor_(P)" ∷ codes "semaphores_()" ∷ codes "alloc_(b0,1)" ∷ codes "main_" ∷ codes "loop_" ∷ codes "recv_(b0,Y)" ∷ []) ≡ refused 6 (UnknownName (codes "Y"))
unfolding macro_of
no_sender = refl

no_first : plain (codes "processor_(P)" ∷ codes "semaphores_()" ∷ codes "alloc_(b0,1)" ∷ codes "main_" ∷ codes "loop_" ∷ codes "sync_(Z,Y)" ∷ []) ≡ refused 6 (UnknownName (codes "Z"))
unfolding macro_of
no_first = refl

no_second : plain (codes "processor_(P)" ∷ codes "semaphores_()" ∷ codes "alloc_(b0,1)" ∷ codes "main_" ∷ codes "loop_" ∷ codes "sync_(P,Y)" ∷ []) ≡ refused 6 (UnknownName (codes "Y"))
unfolding macro_of
no_second = refl

elsewhere : three (codes "processor_(A)" ∷ codes "semaphores_(0)" ∷ codes "alloc_(b0,1)" ∷ codes "main_" ∷ codes "loop_" ∷ codes "endloop_"
    ∷ codes "endmain_" ∷ codes "processor_(B)" ∷ codes "semaphores_(1)" ∷ codes "alloc_(b1,1)" ∷ codes "main_" ∷ codes "op d:get(b0;)"
    ∷ []) ≡ refused 12 (UnknownName (codes "b0"))
unfolding macro_of
elsewhere = refl

pair_elsewhere : three (codes "processor_(A)" ∷ codes "semaphores_(0)" ∷ codes "alloc_(b0,1)" ∷ codes "main_" ∷ codes "loop_"
    ∷ codes "endloop_" ∷ codes "endmain_" ∷ codes "processor_(B)" ∷ codes "semaphores_(1)" ∷ codes "alloc_(b1,1)" ∷ codes "main_"
    ∷ codes "Pre0_(0)" ∷ []) ≡ refused 12 (UnknownName (codes "0"))
unfolding macro_of
pair_elsewhere = refl

-- Buffers and pairs use the numbers from 0 on, each once; the first line that does not is told, after all lines.
number_missing : plain (codes "processor_(P)" ∷ codes "semaphores_()" ∷ codes "alloc_(b1,1)" ∷ codes "main_" ∷ codes "loop_" ∷ codes "endloop_" ∷ codes "endmain_" ∷ []) ≡ refused 3 BadArgument
unfolding macro_of
number_missing = refl

number_missing_between : plain (codes "processor_(P)" ∷ codes "semaphores_()" ∷ codes "alloc_(b0,1)" ∷ codes "alloc_(b2,1)" ∷ codes "main_"
    ∷ codes "loop_" ∷ codes "endloop_" ∷ codes "endmain_" ∷ []) ≡ refused 4 BadArgument
unfolding macro_of
number_missing_between = refl

pair_missing : plain (codes "processor_(P)" ∷ codes "semaphores_(0,2)" ∷ codes "main_" ∷ codes "loop_" ∷ codes "endloop_" ∷ codes "endmain_" ∷ []) ≡ refused 2 BadArgument
unfolding macro_of
pair_missing = refl

pair_before_buffer : plain (codes "processor_(P)" ∷ codes "semaphores_(1)" ∷ codes "alloc_(b1,1)" ∷ codes "main_" ∷ codes "loop_" ∷ codes "endloop_" ∷ codes "endmain_" ∷ []) ≡ refused 2 BadArgument
unfolding macro_of
pair_before_buffer = refl

bad_line_before_number : plain (codes "processor_(P)" ∷ codes "semaphores_(1)" ∷ codes "alloc_(b1,1)" ∷ codes "main_" ∷ codes "loop_"
    ∷ codes "endloop_" ∷ codes "endmain_" ∷ codes "main_" ∷ []) ≡ refused 8 BadLine
unfolding macro_of
bad_line_before_number = refl

number_twice : three (codes "processor_(A)" ∷ codes "semaphores_()" ∷ codes "alloc_(b0,1)" ∷ codes "main_" ∷ codes "loop_"
    ∷ codes "endloop_" ∷ codes "endmain_" ∷ codes "processor_(B)" ∷ codes "semaphores_()" ∷ codes "alloc_(b0,1)" ∷ codes "main_"
    ∷ codes "loop_" ∷ codes "endloop_" ∷ codes "endmain_" ∷ []) ≡ refused 10 BadArgument
unfolding macro_of
number_twice = refl

pair_twice : three (codes "processor_(A)" ∷ codes "semaphores_(0)" ∷ codes "main_" ∷ codes "loop_" ∷ codes "endloop_" ∷ codes "endmain_"
    ∷ codes "processor_(B)" ∷ codes "semaphores_(0)" ∷ codes "main_" ∷ codes "loop_" ∷ codes "endloop_" ∷ codes "endmain_" ∷ []) ≡ refused 8 BadArgument
unfolding macro_of
pair_twice = refl

buffer_before_pair : three (codes "processor_(A)" ∷ codes "semaphores_(1)" ∷ codes "alloc_(b2,1)" ∷ codes "main_" ∷ codes "loop_"
    ∷ codes "endloop_" ∷ codes "endmain_" ∷ codes "processor_(B)" ∷ codes "semaphores_(2)" ∷ codes "alloc_(b0,1)" ∷ codes "main_"
    ∷ codes "loop_" ∷ codes "endloop_" ∷ codes "endmain_" ∷ []) ≡ refused 3 BadArgument
unfolding macro_of
buffer_before_pair = refl

first_of_two : three (codes "processor_(A)" ∷ codes "semaphores_()" ∷ codes "alloc_(b1,1)" ∷ codes "alloc_(b3,1)" ∷ codes "main_"
    ∷ codes "loop_" ∷ codes "endloop_" ∷ codes "endmain_" ∷ codes "processor_(B)" ∷ codes "semaphores_()" ∷ codes "alloc_(b1,1)"
    ∷ codes "alloc_(b2,1)" ∷ codes "main_" ∷ codes "loop_" ∷ codes "endloop_" ∷ codes "endmain_" ∷ []) ≡ refused 11 BadArgument
unfolding macro_of
first_of_two = refl

-- Then the limits are told, with what they count.
many_words : plain (codes "processor_(P)" ∷ codes "semaphores_()" ∷ codes "alloc_(b0,65537)" ∷ codes "main_" ∷ codes "loop_"
    ∷ codes "endloop_" ∷ codes "endmain_" ∷ []) ≡ Err (Limit (record { which = Words; count = 65537; bound = 65536 }))
unfolding macro_of
many_words = refl

many_places : plain (codes "processor_(P)" ∷ codes "semaphores_()" ∷ codes "alloc_(b0,1)" ∷ codes "alloc_(b1,32768,2)" ∷ codes "main_"
    ∷ codes "loop_" ∷ codes "endloop_" ∷ codes "endmain_" ∷ []) ≡ Err (Limit (record { which = Words; count = 65537; bound = 65536 }))
unfolding macro_of
many_places = refl

wide_length : plain (codes "processor_(P)" ∷ codes "semaphores_()" ∷ codes "alloc_(b0,9223372036854775807,4)" ∷ codes "main_"
    ∷ codes "loop_" ∷ codes "endloop_" ∷ codes "endmain_" ∷ []) ≡ Err (Limit (record { which = Words; count = 36893488147419103228; bound = 65536 }))
unfolding macro_of
wide_length = refl

number_before_words : plain (codes "processor_(P)" ∷ codes "semaphores_()" ∷ codes "alloc_(b1,65537)" ∷ codes "main_" ∷ codes "loop_"
    ∷ codes "endloop_" ∷ codes "endmain_" ∷ []) ≡ refused 3 BadArgument
unfolding macro_of
number_before_words = refl

bad_line_before_words : plain (codes "processor_(P)" ∷ codes "semaphores_()" ∷ codes "alloc_(b0,65537)" ∷ codes "main_" ∷ codes "loop_"
    ∷ codes "endloop_" ∷ codes "endmain_" ∷ codes "loop_" ∷ []) ≡ refused 8 BadLine
unfolding macro_of
bad_line_before_words = refl

pairs_are_words : plain (codes "processor_(P)" ∷ codes "semaphores_(0,1)" ∷ codes "alloc_(b0,65533)" ∷ codes "main_" ∷ codes "loop_"
    ∷ codes "endloop_" ∷ codes "endmain_" ∷ []) ≡ Err (Limit (record { which = Words; count = 65537; bound = 65536 }))
unfolding macro_of
pairs_are_words = refl

media_are_words : three (codes "processor_(A)" ∷ codes "semaphores_()" ∷ codes "alloc_(b0,65534)" ∷ codes "main_" ∷ codes "loop_"
    ∷ codes "endloop_" ∷ codes "endmain_" ∷ []) ≡ Err (Limit (record { which = Words; count = 65537; bound = 65536 }))
unfolding macro_of
media_are_words = refl

wires_are_words : three (codes "processor_(A)" ∷ codes "semaphores_()" ∷ codes "alloc_(b0,30000)" ∷ codes "alloc_(b1,6000)"
    ∷ codes "thread_(x)" ∷ codes "send_(b0,B)" ∷ codes "loop_" ∷ codes "send_(b1,B)" ∷ codes "endloop_" ∷ codes "endthread_"
    ∷ codes "main_" ∷ codes "spawn_thread_(x)" ∷ codes "send_(b1,C)" ∷ codes "loop_" ∷ codes "endloop_" ∷ codes "wait_endthread_(x)"
    ∷ codes "endmain_" ∷ []) ≡ Err (Limit (record { which = Words; count = 66003; bound = 65536 }))
unfolding macro_of
wires_are_words = refl

all_words : plain (codes "processor_(P)" ∷ codes "semaphores_()" ∷ codes "alloc_(b0,65536)" ∷ codes "main_" ∷ codes "loop_"
    ∷ codes "endloop_" ∷ codes "endmain_" ∷ []) ≡ Ok (record { buffers = buffer 0 65536 1 ∷ []; pairs = []; seqs = code 0 None [] [] ∷ [] })
unfolding macro_of
all_words = refl

words_before_steps : plain (codes "processor_(P)" ∷ codes "semaphores_()" ∷ codes "alloc_(b0,65537)" ∷ codes "main_" ∷ codes "loop_"
    ∷ codes "op s(b0,b0,b0;b0)" ∷ codes "endloop_" ∷ codes "endmain_" ∷ []) ≡ Err (Limit (record { which = Words; count = 65537; bound = 65536 }))
unfolding macro_of
words_before_steps = refl
