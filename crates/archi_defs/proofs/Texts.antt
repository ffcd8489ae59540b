-- What worked texts say.
use Rattle.std.proofs.Common.{◌≡◌, ℕ, refl, true, false, List, [], ◌∷◌, ◌++◌, Result, Ok, Err, codes}
use Rattle.archi_graph.specs.declared.medium.MediumKind.TheVariants.{PointToPoint, Multipoint}
use Rattle.syn_base.specs.declared.limits.LimitKind.TheVariants.{Operators}
use Rattle.archi_defs.specs.Refusals.{ArchiRefusal}
use Rattle.text_lines.specs.Refusals.{Limit, refused}
use Rattle.archi_defs.specs.declared.fault.ArchiCause.TheVariants.{NotText, BadLine, BadName, BadNumber, UnknownName, DuplicateName, BadMedium, NoOperator, Disconnected}
use Rattle.syn_base.specs.Bytes.{Bytes}
use Rattle.archi_defs.specs.Text.{Described, description_of}

abbrev text : List Bytes → Bytes
text [] = []
text (l ∷ ls) = l ++ 10 ∷ text ls

abbrev read : List Bytes → Result Described ArchiRefusal
read ls = description_of (text (codes "architecture 1" ∷ ls))

-- a text of version 2
abbrev read_2 : List Bytes → Result Described ArchiRefusal
read_2 ls = description_of (text (codes "architecture 2" ∷ ls))

plainest : read (codes "operator P" ∷ codes "duration Sense P 1" ∷ codes "duration Act P 2" ∷ []) ≡ Ok (record {
  version = 1;
  archi = record { operators = codes "P" ∷ []; media = []; depth = 1 };
  durations = record { def = codes "Sense"; operator = 0; ticks = 1 } ∷ record { def = codes "Act"; operator = 0; ticks = 2 } ∷ [];
})
plainest = refl

-- two operators on a bus, which the connections name in the other order
abbrev two : Bytes → List Bytes
two medium = codes "operator P" ∷ codes "operator Q" ∷ medium ∷ codes "connect bus Q" ∷ codes "connect bus P" ∷ []

bus : read (two (codes "medium bus p2p 1 2")) ≡ Ok (record {
  version = 1;
  archi = record { operators = codes "P" ∷ codes "Q" ∷ []; media = record { name = codes "bus"; kind = PointToPoint; fixed = 1; per = 2; stands = 0 ∷ 1 ∷ [] } ∷ []; depth = 1 };
  durations = [];
})
bus = refl

no_operator : read [] ≡ refused 0 NoOperator
no_operator = refl

one_stands : read (codes "operator P" ∷ codes "medium x p2p 1 1" ∷ codes "connect x P" ∷ []) ≡ refused 3 (BadMedium (codes "x"))
one_stands = refl

unknown_medium : read (codes "operator P" ∷ codes "medium x p2p 1 1" ∷ codes "connect y P" ∷ []) ≡ refused 4 (UnknownName (codes "y"))
unknown_medium = refl

not_joined : read (codes "operator P" ∷ codes "duration Sense P 1" ∷ codes "operator Q" ∷ []) ≡ refused 0 (Disconnected (codes "P") (codes "Q"))
not_joined = refl

-- a point to point medium has two operators, a multipoint one may have three
abbrev three : Bytes → List Bytes
three medium = codes "operator P" ∷ codes "operator Q" ∷ codes "operator R" ∷ medium ∷ codes "connect bus P" ∷ codes "connect bus R" ∷ codes "connect bus Q" ∷ []

three_stand : read (three (codes "medium bus p2p 0 0")) ≡ refused 5 (BadMedium (codes "bus"))
three_stand = refl

three_may_stand : read (three (codes "medium bus multi 0 0")) ≡ Ok (record {
  version = 1;
  archi = record { operators = codes "P" ∷ codes "Q" ∷ codes "R" ∷ []; media = record { name = codes "bus"; kind = Multipoint; fixed = 0; per = 0; stands = 0 ∷ 1 ∷ 2 ∷ [] } ∷ []; depth = 1 };
  durations = [];
})
three_may_stand = refl

-- operators and media share their names
shared : read (codes "operator P" ∷ codes "medium P p2p 1 1" ∷ []) ≡ refused 3 (DuplicateName (codes "P"))
shared = refl

again : read (codes "operator P" ∷ codes "medium x multi 1 1" ∷ codes "connect x P" ∷ codes "connect x P" ∷ []) ≡ refused 5 (DuplicateName (codes "P"))
again = refl

-- an unknown name is told before one given before, and a number before both
same_duration : read (codes "operator P" ∷ codes "duration F P 1" ∷ codes "duration F P 2" ∷ []) ≡ refused 4 (DuplicateName (codes "F"))
same_duration = refl

no_such_operator : read (codes "operator P" ∷ codes "duration F P 1" ∷ codes "duration F Q 2" ∷ []) ≡ refused 4 (UnknownName (codes "Q"))
no_such_operator = refl

too_long : read (codes "operator P" ∷ codes "duration F Q 1000000001" ∷ []) ≡ refused 3 (BadNumber (codes "1000000001"))
too_long = refl

too_much : read (codes "operator P" ∷ codes "medium P p2p 1000001 1" ∷ []) ≡ refused 3 (BadNumber (codes "1000001"))
too_much = refl

negative : read (codes "operator P" ∷ codes "medium x p2p 1 -1" ∷ []) ≡ refused 3 (BadNumber (codes "-1"))
negative = refl

bad_name : read (codes "operator 1" ∷ []) ≡ refused 2 (BadName (codes "1"))
bad_name = refl

other_kind : read (codes "medium x ram 1 1" ∷ []) ≡ refused 2 BadLine
other_kind = refl

no_version : description_of (text (codes "# none" ∷ codes "operator P" ∷ [])) ≡ refused 2 BadLine
no_version = refl

no_text : description_of [] ≡ refused 1 BadLine
no_text = refl

foreign : read ((codes "operator P" ++ 200 ∷ []) ∷ []) ≡ refused 2 (NotText 10)
foreign = refl

abbrev operators : List Bytes
operators = codes "A" ∷ codes "B" ∷ codes "C" ∷ codes "D" ∷ codes "E" ∷ codes "F" ∷ codes "G" ∷ codes "H" ∷ codes "I" ∷ codes "J"
    ∷ codes "K" ∷ codes "L" ∷ codes "M" ∷ codes "N" ∷ codes "O" ∷ codes "P" ∷ []

abbrev lines : List Bytes → List Bytes → List Bytes
lines [] more = more
lines (o ∷ os) more = (codes "operator " ++ o) ∷ lines os more

many : read (lines operators (codes "operator Q" ∷ [])) ≡ Err (Limit (record { which = Operators; count = 17; bound = 16 }))
many = refl

-- version 2: a depth stands once, at any place; without it there is one place
abbrev alone : ℕ → ℕ → Result Described ArchiRefusal
alone version depth = Ok (record { version = version; archi = record { operators = codes "P" ∷ []; media = []; depth = depth }; durations = record { def = codes "F"; operator = 0; ticks = 7 } ∷ [] })

no_depth : read_2 (codes "operator P" ∷ codes "duration F P 7" ∷ []) ≡ alone 2 1
no_depth = refl

depth_first : read_2 (codes "depth 2" ∷ codes "operator P" ∷ codes "duration F P 7" ∷ []) ≡ alone 2 2
depth_first = refl

depth_between : read_2 (codes "operator P" ∷ codes "depth 03 # three" ∷ codes "duration F P 7" ∷ []) ≡ alone 2 3
depth_between = refl

depth_last : read_2 (codes "operator P" ∷ codes "duration F P 7" ∷ codes "depth 4" ∷ []) ≡ alone 2 4
depth_last = refl

too_deep : read_2 (codes "depth 5" ∷ codes "operator P" ∷ []) ≡ refused 2 (BadNumber (codes "5"))
too_deep = refl

no_place : read_2 (codes "operator P" ∷ codes "depth 0" ∷ []) ≡ refused 3 (BadNumber (codes "0"))
no_place = refl

no_number : read_2 (codes "depth +1" ∷ []) ≡ refused 2 (BadNumber (codes "+1"))
no_number = refl

fewer_than_none : read_2 (codes "depth -1" ∷ []) ≡ refused 2 (BadNumber (codes "-1"))
fewer_than_none = refl

-- a second line, and one in version 1, is none, also where its number is bad
second_depth : read_2 (codes "depth 1" ∷ codes "depth 1" ∷ []) ≡ refused 3 BadLine
second_depth = refl

second_bad_depth : read_2 (codes "depth 1" ∷ codes "operator P" ∷ codes "depth 9" ∷ []) ≡ refused 4 BadLine
second_bad_depth = refl

depth_of_old : read (codes "depth 2" ∷ []) ≡ refused 2 BadLine
depth_of_old = refl

bad_depth_of_old : read (codes "operator P" ∷ codes "depth x" ∷ []) ≡ refused 3 BadLine
bad_depth_of_old = refl

two_depths : read_2 (codes "depth 1 2" ∷ []) ≡ refused 2 BadLine
two_depths = refl

-- the version is one of two words
version_3 : description_of (text (codes "architecture 3" ∷ [])) ≡ refused 1 BadLine
version_3 = refl

version_02 : description_of (text (codes "architecture 02" ∷ [])) ≡ refused 1 BadLine
version_02 = refl

second_version : read_2 (codes "architecture 2" ∷ []) ≡ refused 2 BadLine
second_version = refl
