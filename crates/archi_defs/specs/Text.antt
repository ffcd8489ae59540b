-- What the text of an architecture says: its version, operators, media, depth and durations, or its first refusal.
-- Lines are numbered from 1.
use Rattle.std.specs.Prelude.{
  ℕ,
  ◌+◌,
  Bool,
  not,
  ◌&&◌,
  ◌||◌,
  ◌==◌,
  nat_le,
  nat_lt,
  List,
  [],
  ◌∷◌,
  ◌++◌,
  length,
  map,
  position,
  slice_index_or,
  slice_set,
  Option,
  Some,
  None,
  is_some,
  Result,
  Ok,
  Err,
  if◌then◌else◌,
  codes,
  ℤ,
  pos,
  negsuc,
}
use Rattle.std.specs.List.{list_any, range_with_len}
use Rattle.std.specs.Str.{bytes_eq}
use Rattle.syn_base.specs.Bytes.{Bytes}
use Rattle.text_lines.specs.Text.{lines_of, words_of, code_of, foreign_place, word, begins}
use Rattle.text_lines.specs.Refusals.{above, and_then, if_all_pass, is_above, refused, with_some}
use Rattle.syn_base.specs.Name.{is_name}
use Rattle.syn_base.specs.Integer.{integer_of}
use Rattle.syn_base.specs.declared.integer.NumFault.{NumFault}
use Rattle.syn_base.specs.declared.limits.LimitKind.TheVariants.{Operators, Media, Connections}
use Rattle.archi_graph.specs.declared.medium.Medium.{Medium}
use Rattle.archi_graph.specs.declared.medium.MediumKind.{MediumKind}
use Rattle.archi_graph.specs.declared.medium.MediumKind.TheVariants.{PointToPoint, Multipoint}
use Rattle.archi_graph.specs.Archi.{Architecture, is_depth, may_stand, reached_within}
use Rattle.archi_defs.specs.declared.text.DurationLine.{DurationLine}
use Rattle.archi_defs.specs.declared.text.ArchiText.{ArchiText}
use Rattle.archi_defs.specs.Refusals.{ArchiRefusal}
use Rattle.archi_defs.specs.declared.fault.ArchiCause.TheVariants.{
  NotText,
  BadLine,
  BadName,
  BadNumber,
  UnknownName,
  DuplicateName,
  BadMedium,
  NoOperator,
  Disconnected,
}

-- What a text describes: its version, its architecture, and the durations that it gives.
pub record Described : Type 0 where
  pub version : ℕ
  pub archi : Architecture
  pub durations : List DurationLine

-- what a text that was read describes
abbrev pub described_by : ArchiText → Described
described_by t = record { version = t.version; archi = t.archi; durations = t.lines }

-- What was read so far: the version, the depth, the operators' names, the media with their lines, how many
-- connections, and the durations.
pub record Reading : Type 0 where
  pub version : Option ℕ
  pub depth : Option ℕ
  pub operators : List Bytes
  pub media : List Medium
  pub lines : List ℕ
  pub connections : ℕ
  pub durations : List DurationLine

-- What has been read before the first line: nothing. The first line with words has to
-- give the version.
abbrev pub start : Reading
start = record { version = None; depth = None; operators = []; media = []; lines = []; connections = 0; durations = [] }

-- What follows, or the refusal of the first of these words that is no name.
abbrev pub all_names : {A : Type 0} → ℕ → List Bytes → Result A ArchiRefusal → Result A ArchiRefusal
all_names n ws go = if_all_pass is_name (λ w. refused n (BadName w)) ws go

-- a number from 0 up to this one
abbrev pub up_to : ℕ → Result ℤ NumFault → Option ℕ
up_to most (Ok (pos n)) = if nat_le n most then Some n else None
up_to most (Ok (negsuc n)) = None
up_to most (Err e) = None

-- What follows, with the number from 0 to `most` that the word is; if it is none, the word is
-- refused at line n.
abbrev pub with_number : {A : Type 0} → ℕ → ℕ → Bytes → (ℕ → Result A ArchiRefusal) → Result A ArchiRefusal
with_number n most w go = with_some (up_to most (integer_of w)) (refused n (BadNumber w)) go

-- The place of the word among these names, counted from 0; none if it is not one of them.
abbrev pub place_of : Bytes → List Bytes → Option ℕ
place_of w names = position (bytes_eq w) names

-- The names of the media that have been read, in order.
abbrev pub medium_names : Reading → List Bytes
medium_names r = map (λ m. m.name) r.media

-- operators and media share one space of names
abbrev pub is_taken : Reading → Bytes → Bool
is_taken r w = list_any (bytes_eq w) (r.operators ++ medium_names r)

-- The version that a word is, 1 or 2; none for any other word.
abbrev pub version_of : Bytes → Option ℕ
version_of w =
    if bytes_eq w (codes "1") then Some 1 else
    if bytes_eq w (codes "2") then Some 2 else
    None

-- architecture 1 and architecture 2
abbrev pub version_line : Reading → ℕ → List Bytes → Result Reading ArchiRefusal
version_line r n ws =
    if not (length ws == 2) || not (bytes_eq (word ws 0) (codes "architecture")) then refused n BadLine else
    with_some (version_of (word ws 1)) (refused n BadLine) (λ version. Ok (record r { version = Some version }))

-- a number of places
abbrev pub depth_of : Result ℤ NumFault → Option ℕ
depth_of (Ok (pos n)) = if is_depth n then Some n else None
depth_of (Ok (negsuc n)) = None
depth_of (Err e) = None

-- depth D, once, and not in version 1
abbrev pub depth_line : Reading → ℕ → ℕ → List Bytes → Result Reading ArchiRefusal
depth_line r n version ws =
    if not (length ws == 2) || (version == 1) || is_some r.depth then refused n BadLine else
    with_some (depth_of (integer_of (word ws 1))) (refused n (BadNumber (word ws 1)))
    (λ depth. Ok (record r { depth = Some depth }))

-- What has been read after line n, which has the form `operator NAME`, or its refusal.
abbrev pub operator_line : Reading → ℕ → List Bytes → Result Reading ArchiRefusal
operator_line r n ws =
    if not (length ws == 2) then refused n BadLine else
    all_names n (word ws 1 ∷ [])
    (if is_taken r (word ws 1) then refused n (DuplicateName (word ws 1)) else
    if is_above Operators (length r.operators + 1) then above Operators (length r.operators + 1) else
    Ok (record r { operators = r.operators ++ word ws 1 ∷ [] }))

-- The word names a kind of media.
abbrev pub is_kind : Bytes → Bool
is_kind w = bytes_eq w (codes "p2p") || bytes_eq w (codes "multi")

-- The kind of media that a word names, if it names one.
abbrev pub kind_of : Bytes → MediumKind
kind_of w = if bytes_eq w (codes "multi") then Multipoint else PointToPoint

-- medium NAME p2p FIXED PER and medium NAME multi FIXED PER
abbrev pub medium_line : Reading → ℕ → List Bytes → Result Reading ArchiRefusal
medium_line r n ws =
    if not (length ws == 5) || not (is_kind (word ws 2))
    then refused n BadLine else
    all_names n (word ws 1 ∷ [])
    (with_number n 1000000 (word ws 3) (λ fixed. with_number n 1000000 (word ws 4) (λ per.
    if is_taken r (word ws 1) then refused n (DuplicateName (word ws 1)) else
    if is_above Media (length r.media + 1) then above Media (length r.media + 1) else
    Ok (record r {
      media = r.media ++ record {
        name = word ws 1;
        kind = kind_of (word ws 2);
        fixed = fixed;
        per = per;
        stands = [];
      } ∷ [];
      lines = r.lines ++ n ∷ [];
    }))))

-- These operators, which ascend, and operator o among them at its place.
abbrev pub with_stand : ℕ → List ℕ → List ℕ
with_stand o [] = o ∷ []
with_stand o (p ∷ ps) = if nat_lt o p then o ∷ p ∷ ps else p ∷ with_stand o ps

-- A medium without a name and without operators, in place of one that is not there.
abbrev pub no_medium : Medium
no_medium = record { name = []; kind = PointToPoint; fixed = 0; per = 0; stands = [] }

-- What has been read once operator o is connected to medium m. Line n is refused if they are
-- connected already, for the name w of the operator, or if there are too many connections.
abbrev pub connected : Reading → ℕ → Bytes → ℕ → ℕ → Result Reading ArchiRefusal
connected r n w m o =
    if list_any (λ p. p == o) (slice_index_or r.media m no_medium).stands then refused n (DuplicateName w) else
    if is_above Connections (r.connections + 1) then above Connections (r.connections + 1) else
    Ok (record r {
      media = slice_set r.media m (record (slice_index_or r.media m no_medium) {
        stands = with_stand o (slice_index_or r.media m no_medium).stands;
      });
      connections = r.connections + 1;
    })

-- connect MEDIUM OPERATOR
abbrev pub connect_line : Reading → ℕ → List Bytes → Result Reading ArchiRefusal
connect_line r n ws =
    if not (length ws == 3) then refused n BadLine else
    all_names n (word ws 1 ∷ word ws 2 ∷ [])
    (with_some (place_of (word ws 1) (medium_names r)) (refused n (UnknownName (word ws 1))) (λ m.
    with_some (place_of (word ws 2) r.operators) (refused n (UnknownName (word ws 2))) (λ o.
    connected r n (word ws 2) m o)))

-- duration DEF OPERATOR TICKS
abbrev pub duration_line : Reading → ℕ → List Bytes → Result Reading ArchiRefusal
duration_line r n ws =
    if not (length ws == 4) then refused n BadLine else
    all_names n (word ws 1 ∷ word ws 2 ∷ [])
    (with_number n 1000000000 (word ws 3) (λ ticks.
    with_some (place_of (word ws 2) r.operators) (refused n (UnknownName (word ws 2))) (λ o.
    if list_any (λ d. bytes_eq d.def (word ws 1) && (d.operator == o)) r.durations
    then refused n (DuplicateName (word ws 1)) else
    Ok (record r { durations = r.durations ++ record { def = word ws 1; operator = o; ticks = ticks } ∷ [] }))))

-- a line of a text of this version
abbrev pub described_line : Reading → ℕ → ℕ → List Bytes → Result Reading ArchiRefusal
described_line r n version ws =
    if begins ws (codes "operator") then operator_line r n ws else
    if begins ws (codes "medium") then medium_line r n ws else
    if begins ws (codes "connect") then connect_line r n ws else
    if begins ws (codes "duration") then duration_line r n ws else
    if begins ws (codes "depth") then depth_line r n version ws else
    refused n BadLine

-- What has been read after a line, given the place of its first foreign byte, if it has one. Such a
-- byte refuses the line before anything else, and a line without words changes nothing.
abbrev pub line_by : Reading → ℕ → Bytes → Option ℕ → Result Reading ArchiRefusal
line_by r n line (Some place) = refused n (NotText place)
line_by r n line None =
    if length (words_of (code_of line)) == 0 then Ok r else
    with_some r.version (version_line r n (words_of (code_of line)))
    (λ version. described_line r n version (words_of (code_of line)))

-- the next line; one without words says nothing
abbrev pub next_line : Reading → ℕ → Bytes → Result Reading ArchiRefusal
next_line r n line = line_by r n line (foreign_place line)

-- As many operators stand at the medium as it has to have: two or more if it is multipoint, and
-- exactly two if it is point to point.
abbrev pub has_stands : Medium → Bool
has_stands m = may_stand m.kind (length m.stands)

-- the first medium with a wrong number of operators, at its line
abbrev pub media_are_right : {A : Type 0} → List Medium → List ℕ → Result A ArchiRefusal → Result A ArchiRefusal
media_are_right [] lines go = go
media_are_right (m ∷ ms) lines go =
    if has_stands m then media_are_right ms (after lines) go else refused (first lines) (BadMedium m.name)
  where
    first : List ℕ → ℕ
    first [] = 0
    first (n ∷ ns) = n

    after : List ℕ → List ℕ
    after [] = []
    after (n ∷ ns) = ns

-- the least operator to which no route leads from operator 0
abbrev pub apart : Reading → Option ℕ
apart r = position (λ o. not (reached_within r.media (length r.operators) o)) (range_with_len 0 (length r.operators))

-- The name of operator o, empty if there is none.
abbrev pub operator_name : Reading → ℕ → Bytes
operator_name r o = slice_index_or r.operators o []

-- one place, unless the text says otherwise
abbrev pub depth_or_one : Option ℕ → ℕ
depth_or_one None = 1
depth_or_one (Some depth) = depth

-- what a text of this version gives that is not refused
abbrev pub described : Reading → ℕ → Described
described r version = record {
  version = version;
  archi = record { operators = r.operators; media = r.media; depth = depth_or_one r.depth };
  durations = r.durations;
}

-- What a text of this version gives, if routes lead from operator 0 to all others; if none leads to
-- the given one, the refusal that names both.
abbrev pub all_joined : Reading → ℕ → Option ℕ → Result Described ArchiRefusal
all_joined r version None = Ok (described r version)
all_joined r version (Some o) = refused 0 (Disconnected (operator_name r 0) (operator_name r o))

-- there is an operator, the media are right, and all operators are joined
abbrev pub whole_of : Reading → ℕ → Result Described ArchiRefusal
whole_of r version =
    if length r.operators == 0 then refused 0 NoOperator else
    media_are_right r.media r.lines (all_joined r version (apart r))

-- the whole, whose lines are numbered below n, of which one gave the version
abbrev pub whole : Reading → ℕ → Result Described ArchiRefusal
whole r n = with_some r.version (refused n BadLine) (whole_of r)

-- What the whole text gives, or its first refusal, from what has been read and the lines that are
-- left, of which the first has the number n.
abbrev pub rest_of : Reading → ℕ → List Bytes → Result Described ArchiRefusal
rest_of r n [] = whole r n
rest_of r n (line ∷ lines) = and_then (next_line r n line) (λ after. rest_of after (n + 1) lines)

-- what the bytes of a text say
abbrev pub description_of : Bytes → Result Described ArchiRefusal
description_of text = rest_of start 1 (lines_of text)
