-- Where sequences and names are wrong.
use Rattle.std.specs.Prelude.{ℕ, ◌+◌, cond, List, [], ◌∷◌, Option, Some, None}
use Rattle.sequence_build_laws.specs.declared.Seq.{Seq}
use Rattle.sequence_build_laws.specs.declared.Instr.{Instr}
use Rattle.sequence_build_laws.specs.declared.SeqCode.{SeqCode}
use Rattle.sequence_build_laws.specs.declared.Program.{Program}
use Rattle.sequence_build_laws.specs.MicroSteps.{first_of}
use Rattle.order_check.specs.Sequenced.{is_of}
use Rattle.check_laws.specs.Tests.{all_there}
use Rattle.check_places.specs.declared.place.Part.{Part}
use Rattle.check_places.specs.declared.place.Part.TheVariants.{Loop, Prologue}
use Rattle.check_places.specs.declared.place.Place.{Place}
use Rattle.check_places.specs.declared.place.Rule.TheVariants.{OtherSequence, MissingName}
use Rattle.check_places.specs.declared.place.Subject.TheVariants.{Expected, Sequence}
use Rattle.check_places.specs.First.{broken, first_from, spot_at, unless}

-- the first of these codes, the first of which has number s, that is not that of its sequence
abbrev pub sequence_place : ℕ → List SeqCode → List Seq → Option Place
sequence_place s [] [] = None
sequence_place s (q ∷ qs) [] = broken OtherSequence (Expected s) None
sequence_place s [] (x ∷ xs) = broken OtherSequence (Expected s) None
sequence_place s (q ∷ qs) (x ∷ xs) =
    cond (is_of (Some q) x) (sequence_place (s + 1) qs xs) (broken OtherSequence (Expected s) None)

module _ (p : Program) (operations operators : ℕ) where
  -- an instruction that names what is not there
  abbrev pub name_place : Part → ℕ → ℕ → Instr → Option Place
  name_place part s a x =
      unless (all_there p operations operators x) (broken MissingName (Sequence s) (spot_at part s a))

  -- sequences, then loops, then prologues
  abbrev pub names_place : List Seq → Option Place
  names_place seqs =
      first_of (sequence_place 0 p.seqs seqs)
      (first_of (first_from (λ s (c : SeqCode). first_from (name_place Loop s) 0 c.turn) 0 p.seqs)
      (first_from (λ s (c : SeqCode). first_from (name_place Prologue s) 0 c.prologue) 0 p.seqs))
