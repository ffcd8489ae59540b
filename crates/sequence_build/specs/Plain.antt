-- The instructions of acts, where a copy's buffer has the number that a function gives it.
use Rattle.std.specs.Prelude.{◌≡◌, ℕ, ◌<◌, List, [], ◌∷◌, ◌++◌, map, length, Option, Some, None, slice_get}
use Rattle.std.specs.List.{position_or_len}
use Rattle.std.specs.Global.{Vec}
use Rattle.sequence_build.specs.declared.site.Site.{Site}
use Rattle.sequence_build.specs.Numbers.{number_in}
use Rattle.sequence_build_laws.specs.declared.Guard.{Guard}
use Rattle.sequence_build_laws.specs.declared.Source.{Source}
use Rattle.sequence_build_laws.specs.declared.Vertex.{Vertex}
use Rattle.sequence_build_laws.specs.declared.Seq.{Seq}
use Rattle.sequence_build_laws.specs.declared.Transfer.{Transfer}
use Rattle.sequence_build_laws.specs.Acts.{Act, carry, run, Copy, copy, read_by, made_by}
use Rattle.sequence_build_laws.specs.declared.Instr.{Instr}
use Rattle.sequence_build_laws.specs.declared.SeqCode.{SeqCode}
use Rattle.sequence_build_laws.specs.declared.Instr.TheVariants.{Call, Send, Recv, Sync}
use Rattle.sequence_build_laws.specs.Serial.{Step, step, projection, numbers_where, same_seq, is_other}

-- the number of an operator's sequence
abbrev pub sequence_of : List Seq → ℕ → Option ℕ → ℕ
sequence_of sequences o m = position_or_len (same_seq (record { operator = o; medium = m })) sequences

-- a transfer is waited for in the other communicators of its medium, of which the first of these has number n
abbrev pub waits_from : Transfer → ℕ → List Seq → List Step
waits_from t n sequences = map (λ q. step q (Sync t.from t.to)) (numbers_where (is_other t) n sequences)

module _ (vertices : List Vertex) (sequences : List Seq) (number : Copy → ℕ) where
  abbrev pub steps_of : Act → List Step
  steps_of (carry t) =
      step (sequence_of sequences t.from (Some t.medium)) (Send (number (copy t.from t.source)) t.to)
      ∷ step (sequence_of sequences t.to (Some t.medium)) (Recv (number (copy t.to t.source)) t.from)
      ∷ waits_from t 0 sequences
  steps_of (run d) =
      step (sequence_of sequences d.operator None)
      (Call d.op (map number (read_by vertices (run d))) (map number (made_by vertices (run d)))) ∷ []

-- the elements of a list that may not be there
abbrev pub elements : {A : Type 0} → Option (Vec A) → List A
elements None = []
elements (Some v) = v.items

-- the loop of sequence s
abbrev pub loop_at : List (Vec Instr) → ℕ → List Instr
loop_at loops s = elements (slice_get loops s)

-- to each loop what these steps have of its sequence was added
abbrev pub Adds : List (Vec Instr) → List (Vec Instr) → List Step → Type 0
Adds old new steps = (s : ℕ) → s < length old → loop_at new s ≡ loop_at old s ++ projection steps s

-- the loops are what these steps have of their sequences
abbrev pub HasLoops : List (Vec Instr) → List Step → Type 0
HasLoops loops steps = (s : ℕ) → s < length loops → loop_at loops s ≡ projection steps s

-- what the acts of a site add
abbrev pub numbering : Site → Copy → ℕ
numbering s = number_in (length s.vertices.now) s.numbers.now s.copies

abbrev pub steps_at : Site → Act → List Step
steps_at s = steps_of s.vertices.now s.sequences.now (numbering s)

-- the loops with the sequences, in order
abbrev pub codes_from : List (Vec Instr) → List Seq → List SeqCode
codes_from [] qs = []
codes_from (v ∷ vs) [] = []
codes_from (v ∷ vs) (q ∷ qs) = record { seq = q; prologue = []; turn = v.items } ∷ codes_from vs qs

-- the outputs, the guards and the inputs of an operation, none where it is not there
abbrev pub outs_in : Option Vertex → List ℕ
outs_in None = []
outs_in (Some x) = x.outs

abbrev pub guards_in : Option Vertex → List Guard
guards_in None = []
guards_in (Some x) = x.guards

abbrev pub ins_in : Option Vertex → List Source
ins_in None = []
ins_in (Some x) = x.ins
