-- What worked texts say.
use Rattle.std.proofs.Common.{◌≡◌, ℕ, ◌+◌, ◌/◌, ◌%◌, refl, List, [], ◌∷◌, ◌++◌, pos, negsuc, Some, Result, Ok, Err, codes, None}
use Rattle.std.specs.List.{range_with_len}
use Rattle.syn_base.specs.declared.arithmetic.Op.TheVariants.{Add}
use Rattle.syn_base.specs.declared.limits.LimitKind.TheVariants.{PortLength, Copies}
use Rattle.syn_base.specs.declared.limits.LimitKind.TheVariants as limits
use Rattle.body_lang.specs.Expr.{literal, element, apply}
use Rattle.body_text.specs.Words.{form_of}
use Rattle.algo_text.specs.declared.definition.Def.{Def}
use Rattle.algo_text.specs.declared.definition.Reference.{Reference}
use Rattle.algo_text.specs.declared.definition.Defs.{Defs}
use Rattle.algo_text.specs.declared.definition.Body.TheVariants.{Sensor, Actuator, Constant, Delay, Function, Graph, Switch, Repeat}
use Rattle.algo_text.specs.declared.definition.Frontier.TheVariants.{Fork, Diffuse, Iterate, Join}
use Rattle.algo_text.specs.declared.fault.AlgoCause.TheVariants.{NotText, BadLine, BadName, BadNumber, BadExpression, DuplicateName, UnknownName, BadDelay}
use Rattle.syn_base.specs.Bytes.{Bytes}
use Rattle.text_lines.specs.Refusals.{Limit, refused}
use Rattle.algo_text.specs.Refusals.{AlgoRefusal}
use Rattle.algo_text.specs.Text.{definitions_of}

abbrev text : List Bytes → Bytes
text [] = []
text (l ∷ ls) = l ++ 10 ∷ text ls

abbrev read : List Bytes → Result Defs AlgoRefusal
read ls = definitions_of (text ls)

-- the definitions of a text of version 1, and of one of version 2
abbrev in_first : List Def → Result Defs AlgoRefusal
in_first defs = Ok (record { version = 1; defs = defs })

abbrev in_second : List Def → Result Defs AlgoRefusal
in_second defs = Ok (record { version = 2; defs = defs })

-- a sensor into an actuator
abbrev echo : Bytes → Bytes → List Bytes
echo second edge = codes "algorithm 1" ∷ second ∷ codes "actuator Act 1" ∷ codes "graph main" ∷ codes "ref s Sense" ∷ codes "ref a Act" ∷ edge ∷ codes "end" ∷ []

plainest : read (echo (codes "sensor Sense 1") (codes "edge s.o a.i")) ≡ in_first (
    record { name = codes "Sense"; line = 2; body = Sensor 1 }
    ∷ record { name = codes "Act"; line = 3; body = Actuator 1 }
    ∷ record {
      name = codes "main";
      line = 4;
      body = Graph [] []
          (record { name = codes "s"; def = codes "Sense"; every = None; line = 5 } ∷ record { name = codes "a"; def = codes "Act"; every = None; line = 6 } ∷ [])
          (record { from = record { owner = Some (codes "s"); port = codes "o" }; to = record { owner = Some (codes "a"); port = codes "i" }; line = 7 } ∷ []);
    } ∷ [])
plainest = refl

length_below_one : read (echo (codes "sensor Sense 0") (codes "edge s.o a.i")) ≡ refused 2 (BadNumber (codes "0"))
length_below_one = refl

minus_zero : read (echo (codes "sensor Sense -0") (codes "edge s.o a.i")) ≡ refused 2 (BadNumber (codes "-0"))
minus_zero = refl

too_long : read (echo (codes "sensor Sense 65") (codes "edge s.o a.i")) ≡ Err (Limit (record { which = PortLength; count = 65; bound = 64 }))
too_long = refl

-- a name is told before a number, and the whole end of an edge
name_first : read (echo (codes "sensor 1x 0") (codes "edge s.o a.i")) ≡ refused 2 (BadName (codes "1x"))
name_first = refl

bad_end : read (echo (codes "sensor Sense 1") (codes "edge s.o a.b.c")) ≡ refused 7 (BadName (codes "a.b.c"))
bad_end = refl

twice : read (echo (codes "sensor Act 1") (codes "edge s.o a.i")) ≡ refused 3 (DuplicateName (codes "Act"))
twice = refl

-- comments and blanks say nothing, but their lines count
commented : read (codes "# a text" ∷ codes "" ∷ codes " algorithm  1 # now" ∷ codes "sensor S 1" ∷ []) ≡ in_first (record { name = codes "S"; line = 4; body = Sensor 1 } ∷ [])
commented = refl

-- the end comes too early, at the number of lines plus one
no_end : read (codes "algorithm 1" ∷ codes "graph main" ∷ []) ≡ refused 3 BadLine
no_end = refl

no_text : definitions_of [] ≡ refused 1 BadLine
no_text = refl

not_one : read (codes "algorithm 01" ∷ []) ≡ refused 1 BadLine
not_one = refl

foreign : read (codes "algorithm 1" ∷ (codes "sensor " ++ 200 ∷ []) ∷ []) ≡ refused 2 (NotText 7)
foreign = refl

-- a function, and what may be wrong with its expression
abbrev adding : Bytes → List Bytes
adding out = codes "algorithm 1" ∷ codes "function F" ∷ codes "in x 1" ∷ out ∷ codes "end" ∷ []

function : read (adding (codes "out y 1 = add(x[0],1)")) ≡ in_first (record {
  name = codes "F";
  line = 2;
  body =
      Function (record { name = codes "x"; len = 1 } ∷ []) (record { port = record { name = codes "y"; len = 1 }; formula = apply Add (element 0 (literal (pos 0))) (literal (pos 1)) } ∷ []);
} ∷ [])
unfolding form_of
function = refl

too_large : read (adding (codes "out y 1 = 9223372036854775808")) ≡ refused 4 (BadExpression 1)
too_large = refl

nothing_behind : read (adding (codes "out y 1=")) ≡ refused 4 (BadExpression 0)
nothing_behind = refl

no_port : read (adding (codes "out y 1 = add(x[0],q[0])")) ≡ refused 4 (UnknownName (codes "q"))
unfolding form_of
no_port = refl

same_port : read (adding (codes "out x 1 = 1")) ≡ refused 4 (DuplicateName (codes "x"))
same_port = refl

no_output : read (codes "algorithm 1" ∷ codes "function F" ∷ codes "end" ∷ []) ≡ refused 3 BadLine
no_output = refl

values : read (codes "algorithm 1" ∷ codes "delay M = 7 -07" ∷ codes "constant C = 2" ∷ [])
    ≡ in_first (record { name = codes "M"; line = 2; body = Delay 1 (pos 7 ∷ negsuc 6 ∷ []) }
    ∷ record { name = codes "C"; line = 3; body = Constant (pos 2 ∷ []) } ∷ [])
values = refl

no_value : read (codes "algorithm 1" ∷ codes "delay M =" ∷ []) ≡ refused 2 BadLine
no_value = refl

-- a conditioned definition
abbrev switch : List Bytes → List Bytes
switch ls = codes "algorithm 1" ∷ codes "switch Sw" ∷ ls

cases : read (switch (codes "on c" ∷ codes "in x 1" ∷ codes "out y 1" ∷ codes "case 0 Same" ∷ codes "otherwise Neg" ∷ codes "end" ∷ [])) ≡ in_first (record {
  name = codes "Sw";
  line = 2;
  body =
      Switch (codes "c") (record { name = codes "x"; len = 1 } ∷ []) (record { name = codes "y"; len = 1 } ∷ []) (record { value = pos 0; def = codes "Same"; line = 6 } ∷ []) (codes "Neg") 7;
} ∷ [])
cases = refl

no_on : read (switch (codes "in x 1" ∷ [])) ≡ refused 3 BadLine
no_on = refl

no_otherwise : read (switch (codes "on c" ∷ codes "case 0 Same" ∷ codes "end" ∷ [])) ≡ refused 5 BadLine
no_otherwise = refl

in_after_out : read (switch (codes "on c" ∷ codes "out y 1" ∷ codes "in x 1" ∷ [])) ≡ refused 5 BadLine
in_after_out = refl

on_again : read (switch (codes "on c" ∷ codes "in c 1" ∷ [])) ≡ refused 4 (DuplicateName (codes "c"))
on_again = refl

-- a repetition
abbrev chain : Bytes → Bytes → List Bytes
chain first iterate = codes "algorithm 1" ∷ first ∷ codes "fork v v" ∷ codes "diffuse w w" ∷ iterate ∷ codes "join r p" ∷ codes "end" ∷ []

copies : read (chain (codes "repeat Chain 4 Cell") (codes "iterate z acc r t")) ≡ in_first (record {
  name = codes "Chain";
  line = 2;
  body =
      Repeat 4 (codes "Cell") (record { frontier = Fork (codes "v") (codes "v"); line = 3 } ∷ record { frontier = Diffuse (codes "w") (codes "w"); line = 4 }
      ∷ record { frontier = Iterate (codes "z") (codes "acc") (codes "r") (codes "t"); line = 5 } ∷ record { frontier = Join (codes "r") (codes "p"); line = 6 } ∷ []);
} ∷ [])
copies = refl

many_copies : read (chain (codes "repeat Chain 65 Cell") (codes "iterate z acc r t")) ≡ Err (Limit (record { which = Copies; count = 65; bound = 64 }))
many_copies = refl

outer_twice : read (chain (codes "repeat Chain 4 Cell") (codes "iterate z acc r z")) ≡ refused 5 (DuplicateName (codes "z"))
outer_twice = refl

outer_again : read (chain (codes "repeat Chain 4 Cell") (codes "iterate v acc r t")) ≡ refused 5 (DuplicateName (codes "v"))
outer_again = refl

-- lines stand in the order of the parts of a block
abbrev block : Bytes → List Bytes → Result Defs AlgoRefusal
block first ls = read (codes "algorithm 1" ∷ first ∷ ls)

in_after_result : block (codes "function F") (codes "out y 1 = 1" ∷ codes "in x 1" ∷ []) ≡ refused 4 BadLine
in_after_result = refl

out_after_reference : block (codes "graph G") (codes "ref f F" ∷ codes "out y 1" ∷ []) ≡ refused 4 BadLine
out_after_reference = refl

reference_after_edge : block (codes "graph G") (codes "edge x y" ∷ codes "ref f F" ∷ []) ≡ refused 4 BadLine
reference_after_edge = refl

-- edges may stand without ports and references before them
edges_alone : block (codes "graph G") (codes "edge x y" ∷ codes "edge f.x z" ∷ codes "end" ∷ []) ≡ in_first (record {
  name = codes "G";
  line = 2;
  body =
      Graph [] [] [] (record { from = record { owner = None; port = codes "x" }; to = record { owner = None; port = codes "y" }; line = 3 }
      ∷ record { from = record { owner = Some (codes "f"); port = codes "x" }; to = record { owner = None; port = codes "z" }; line = 4 } ∷ []);
} ∷ [])
edges_alone = refl

case_before_on : block (codes "switch S") (codes "case 0 F" ∷ []) ≡ refused 3 BadLine
case_before_on = refl

on_twice : block (codes "switch S") (codes "on c" ∷ codes "on d" ∷ []) ≡ refused 4 BadLine
on_twice = refl

out_after_case : block (codes "switch S") (codes "on c" ∷ codes "case 0 F" ∷ codes "out y 1" ∷ []) ≡ refused 5 BadLine
out_after_case = refl

case_after_otherwise : block (codes "switch S") (codes "on c" ∷ codes "otherwise F" ∷ codes "case 0 F" ∷ []) ≡ refused 5 BadLine
case_after_otherwise = refl

otherwise_twice : block (codes "switch S") (codes "on c" ∷ codes "otherwise F" ∷ codes "otherwise G" ∷ []) ≡ refused 5 BadLine
otherwise_twice = refl

-- version 2: a delay has a depth, and its values are as many groups
abbrev deep : Bytes → Result Defs AlgoRefusal
deep line = read (codes "algorithm 2" ∷ codes "sensor D 1" ∷ codes "" ∷ line ∷ [])

groups_of_two : read (codes "algorithm 2" ∷ codes "delay D 2 = 1 2 3 4" ∷ codes "constant C = 2" ∷ []) ≡ in_second (
    record { name = codes "D"; line = 2; body = Delay 2 (pos 1 ∷ pos 2 ∷ pos 3 ∷ pos 4 ∷ []) } ∷ record { name = codes "C"; line = 3; body = Constant (pos 2 ∷ []) } ∷ [])
groups_of_two = refl

deepest : read (codes "algorithm 2" ∷ codes "delay D 16 = 1 2 3 4 5 6 7 8 9 10 11 12 13 14 15 16" ∷ []) ≡ in_second (record {
  name = codes "D";
  line = 2;
  body = Delay 16 (pos 1 ∷ pos 2 ∷ pos 3 ∷ pos 4 ∷ pos 5 ∷ pos 6 ∷ pos 7 ∷ pos 8 ∷ pos 9 ∷ pos 10 ∷ pos 11 ∷ pos 12 ∷ pos 13 ∷ pos 14 ∷ pos 15 ∷ pos 16 ∷ []);
} ∷ [])
deepest = refl

depth_in_first : read (codes "algorithm 1" ∷ codes "delay D 2 = 1 2" ∷ []) ≡ refused 2 BadLine
depth_in_first = refl

no_depth : deep (codes "delay E = 1 2") ≡ refused 4 BadLine
no_depth = refl

no_groups : deep (codes "delay E 2 =") ≡ refused 4 BadLine
no_groups = refl

no_fourth_version : read (codes "algorithm 4" ∷ []) ≡ refused 1 BadLine
no_fourth_version = refl

-- the causes in their order, each before the next
form_first : deep (codes "delay 1x 0 1 y") ≡ refused 4 BadLine
form_first = refl

name_before_depth : deep (codes "delay 1x 0 = y") ≡ refused 4 (BadName (codes "1x"))
name_before_depth = refl

equals_is_no_depth : deep (codes "delay D = = 7") ≡ refused 4 (BadNumber (codes "="))
equals_is_no_depth = refl

depth_before_values : deep (codes "delay D 0 = y") ≡ refused 4 (BadNumber (codes "0"))
depth_before_values = refl

values_before_limit : deep (codes "delay D 17 = 1 y") ≡ refused 4 (BadNumber (codes "y"))
values_before_limit = refl

too_deep : deep (codes "delay E 17 = 1") ≡ Err (Limit (record { which = limits.Delay; count = 17; bound = 16 }))
too_deep = refl

limit_before_groups : deep (codes "delay D 17 = 1 2") ≡ Err (Limit (record { which = limits.Delay; count = 17; bound = 16 }))
limit_before_groups = refl

no_multiple : deep (codes "delay D 2 = 1 2 3") ≡ refused 4 BadDelay
no_multiple = refl

fewer_than_groups : deep (codes "delay D 2 = 1") ≡ refused 4 BadDelay
fewer_than_groups = refl

-- 65 zeros, in one word each
abbrev zeros : List ℕ → Bytes
zeros [] = []
zeros (n ∷ ns) = 32 ∷ 48 ∷ zeros ns

abbrev delay_of_zeros : Bytes → ℕ → Bytes
delay_of_zeros head n = head ++ zeros (range_with_len 0 n)

-- a number of values that is no multiple is told before their length, and this before the name
groups_before_length : deep (delay_of_zeros (codes "delay D 2 =") 131) ≡ refused 4 BadDelay
groups_before_length = refl

length_before_name : deep (delay_of_zeros (codes "delay D 2 =") 130) ≡ Err (Limit (record { which = PortLength; count = 65; bound = 64 }))
length_before_name = refl

name_last : deep (delay_of_zeros (codes "delay D 2 =") 128) ≡ refused 4 (DuplicateName (codes "D"))
name_last = refl

-- version 3: a reference may have a mark, and all else is as in version 2
abbrev in_third : List Def → Result Defs AlgoRefusal
in_third defs = Ok (record { version = 3; defs = defs })

-- a graph without ports and edges, in line 2
abbrev graph_of : List Reference → Def
graph_of references = record { name = codes "G"; line = 2; body = Graph [] [] references [] }

abbrev graph_in : Bytes → List Bytes → Result Defs AlgoRefusal
graph_in version ls = read (version ∷ codes "graph G" ∷ ls)

abbrev third : List Bytes → Result Defs AlgoRefusal
third = graph_in (codes "algorithm 3")

marked : third (codes "ref f F every 2" ∷ codes "ref g G" ∷ codes "ref h F every 16" ∷ codes "ref k F every 1" ∷ codes "end" ∷ []) ≡ in_third (graph_of (
    record { name = codes "f"; def = codes "F"; every = Some 2; line = 3 }
    ∷ record { name = codes "g"; def = codes "G"; every = None; line = 4 }
    ∷ record { name = codes "h"; def = codes "F"; every = Some 16; line = 5 }
    ∷ record { name = codes "k"; def = codes "F"; every = Some 1; line = 6 } ∷ []) ∷ [])
marked = refl

-- a mark is a number by value, and no name is kept for it
every_everywhere : third (codes "ref every every every 002" ∷ codes "end" ∷ []) ≡ in_third (graph_of (record { name = codes "every"; def = codes "every"; every = Some 2; line = 3 } ∷ []) ∷ [])
every_everywhere = refl

deep_in_third : read (codes "algorithm 3" ∷ codes "delay D 2 = 1 2" ∷ []) ≡ in_third (record { name = codes "D"; line = 2; body = Delay 2 (pos 1 ∷ pos 2 ∷ []) } ∷ [])
deep_in_third = refl

no_depth_in_third : read (codes "algorithm 3" ∷ codes "delay D = 1 2" ∷ []) ≡ refused 2 BadLine
no_depth_in_third = refl

mark_in_first : graph_in (codes "algorithm 1") (codes "ref f F every 2" ∷ []) ≡ refused 3 BadLine
mark_in_first = refl

mark_in_second : graph_in (codes "algorithm 2") (codes "ref f F every 2" ∷ []) ≡ refused 3 BadLine
mark_in_second = refl

other_word : third (codes "ref f F each 2" ∷ []) ≡ refused 3 BadLine
other_word = refl

no_period : third (codes "ref f F every" ∷ []) ≡ refused 3 BadLine
no_period = refl

two_periods : third (codes "ref f F every 2 3" ∷ []) ≡ refused 3 BadLine
two_periods = refl

mark_after_edge : third (codes "edge x y" ∷ codes "ref f F every 2" ∷ []) ≡ refused 4 BadLine
mark_after_edge = refl

too_seldom : third (codes "ref f F every 17" ∷ []) ≡ refused 3 (BadNumber (codes "17"))
too_seldom = refl

never_run : third (codes "ref f F every 0" ∷ []) ≡ refused 3 (BadNumber (codes "0"))
never_run = refl

below_none : third (codes "ref f F every -2" ∷ []) ≡ refused 3 (BadNumber (codes "-2"))
below_none = refl

beyond_words : third (codes "ref f F every 18446744073709551618" ∷ []) ≡ refused 3 (BadNumber (codes "18446744073709551618"))
beyond_words = refl

no_number : third (codes "ref f F every x" ∷ []) ≡ refused 3 (BadNumber (codes "x"))
no_number = refl

-- the form of the line, its names, its number, and then what any reference is refused for
mark_form_first : third (codes "ref 1f 1F each 17" ∷ []) ≡ refused 3 BadLine
mark_form_first = refl

name_before_period : third (codes "ref 1f 1F every 17" ∷ []) ≡ refused 3 (BadName (codes "1f"))
name_before_period = refl

definition_before_period : third (codes "ref f 1F every x" ∷ []) ≡ refused 3 (BadName (codes "1F"))
definition_before_period = refl

period_before_name_again : third (codes "ref f F" ∷ codes "ref f F every 17" ∷ []) ≡ refused 4 (BadNumber (codes "17"))
period_before_name_again = refl

name_again : third (codes "ref f F every 2" ∷ codes "ref f F every 3" ∷ []) ≡ refused 4 (DuplicateName (codes "f"))
name_again = refl

-- references of the names r0 to r63
abbrev references_to : List ℕ → List Bytes
references_to [] = []
references_to (n ∷ ns) = (codes "ref r" ++ (48 + n / 10) ∷ (48 + n % 10) ∷ codes " F") ∷ references_to ns

abbrev after_64 : Bytes → Result Defs AlgoRefusal
after_64 line = third (references_to (range_with_len 0 64) ++ line ∷ [])

period_before_limit : after_64 (codes "ref r F every 17") ≡ refused 67 (BadNumber (codes "17"))
period_before_limit = refl

limit_before_name_again : after_64 (codes "ref r00 F every 16") ≡ Err (Limit (record { which = limits.References; count = 65; bound = 64 }))
limit_before_name_again = refl
