-- The semaphore lines round the instructions of a loop, by the instructions' places.
use Rattle.std.specs.Prelude.{
  ◌≡◌,
  ℕ,
  suc,
  ◌<◌,
  ◌&&◌,
  Bool,
  false,
  nat_eq,
  List,
  [],
  ◌∷◌,
  ◌++◌,
  map,
  replicate,
  Option,
  Some,
  None,
  slice_get,
}
use Rattle.std.specs.List.{flat_map}
use Rattle.std.specs.Global.{Vec}
use Rattle.sequence_build_laws.specs.declared.Instr.{Instr}
use Rattle.sequence_build_laws.specs.declared.Instr.TheVariants.{Suc0, Suc1, Pre0, Pre1}
use Rattle.sequence_build_laws.specs.declared.SeqCode.{SeqCode}
use Rattle.sequence_build_laws.specs.Serial.{numbers_where}
use Rattle.sequence_build.specs.declared.uses.Place.{Place}
use Rattle.sequence_build.specs.declared.pairs.Pair.{Pair}
use Rattle.sequence_build.specs.declared.around.Around.{Around}
use Rattle.sequence_build.specs.declared.around.Moment.{Moment}
use Rattle.sequence_build.specs.declared.around.Moment.TheVariants.{FirstRead, LastRead, Write}
use Rattle.sequence_build.specs.declared.around.Line.{Line}
use Rattle.sequence_build.specs.declared.around.Line.TheVariants.{TakeFull, TakeEmpty, SignalEmpty, SignalFull}
use Rattle.sequence_build.specs.Plain.{elements}

abbrev pub line_of : Line → ℕ → Instr
line_of TakeFull q = Suc1 q
line_of TakeEmpty q = Suc0 q
line_of SignalEmpty q = Pre0 q
line_of SignalFull q = Pre1 q

-- where the sequence of a pair reads first or last, and where the buffer is written
abbrev pub moment_of : Moment → Pair → Option Place
moment_of FirstRead p = Some (record { sequence = p.reader; at = p.first })
moment_of LastRead p = Some (record { sequence = p.reader; at = p.last })
moment_of Write p = p.write

-- it is place a of sequence s
abbrev pub is_at : Option Place → ℕ → ℕ → Bool
is_at None s a = false
is_at (Some w) s a = nat_eq w.sequence s && nat_eq w.at a

-- the pair has its moment at place a of sequence s
abbrev pub is_then : Moment → ℕ → ℕ → Pair → Bool
is_then m s a p = is_at (moment_of m p) s a

abbrev pub list_at : List (Vec ℕ) → ℕ → List ℕ
list_at lists a = elements (slice_get lists a)

-- the numbers of the pairs that have their moment at each of the first n places of sequence s
abbrev pub Gathers : Moment → ℕ → ℕ → List Pair → List (Vec ℕ) → Type 0
Gathers m s n pairs lists = (a : ℕ) → a < n → list_at lists a ≡ numbers_where (is_then m s a) 0 pairs

-- the lines are those of the pairs, at the first n places of sequence s
pub record Surrounds (s n : ℕ) (pairs : List Pair) (x : Around) : Type 0 where
  pub firsts : Gathers FirstRead s n pairs x.firsts.items
  pub lasts : Gathers LastRead s n pairs x.lasts.items
  pub writes : Gathers Write s n pairs x.writes.items

-- the lines before instruction a, and those after it
abbrev pub lines_before : Around → ℕ → List Instr
lines_before x a = map Suc1 (list_at x.firsts.items a) ++ map Suc0 (list_at x.writes.items a)

abbrev pub lines_after : Around → ℕ → List Instr
lines_after x a = map Pre0 (list_at x.lasts.items a) ++ map Pre1 (list_at x.writes.items a)

abbrev pub between : Around → ℕ → Instr → List Instr
between x a instr = lines_before x a ++ (instr ∷ lines_after x a)

-- these instructions, of which the first has place a
abbrev pub all_between : Around → ℕ → List Instr → List Instr
all_between around a [] = []
all_between around a (x ∷ xs) = between around a x ++ all_between around (suc a) xs

-- what a sequence does first: each pair of which it is the reader is opened once for each place
abbrev pub opening_with : ℕ → ℕ → List Pair → List Instr
opening_with depth s pairs = flat_map (λ q. replicate depth (Pre0 q))
    (numbers_where (λ (p : Pair). nat_eq p.reader s) 0 pairs)

-- an instruction between the lines of the pairs that have their moments there
abbrev pub lines_with : List Pair → ℕ → ℕ → Instr → List Instr
lines_with pairs s a instr =
    (map Suc1 (numbers_where (is_then FirstRead s a) 0 pairs) ++ map Suc0 (numbers_where (is_then Write s a) 0 pairs))
    ++ (instr ∷ (map Pre0 (numbers_where (is_then LastRead s a) 0 pairs) ++
    map Pre1 (numbers_where (is_then Write s a) 0 pairs)))

abbrev pub loop_with : List Pair → ℕ → ℕ → List Instr → List Instr
loop_with pairs s a [] = []
loop_with pairs s a (x ∷ xs) = lines_with pairs s a x ++ loop_with pairs s (suc a) xs

abbrev pub code_with : ℕ → List Pair → ℕ → SeqCode → SeqCode
code_with depth pairs s q = record {
  seq = q.seq;
  prologue = opening_with depth s pairs;
  turn = loop_with pairs s 0 q.turn;
}

-- these sequences, of which the first has number s
abbrev pub codes_with : ℕ → List Pair → ℕ → List SeqCode → List SeqCode
codes_with depth pairs s [] = []
codes_with depth pairs s (q ∷ qs) = code_with depth pairs s q ∷ codes_with depth pairs (suc s) qs
