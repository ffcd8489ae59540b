-- Where the calls of operations are wrong.
use Rattle.std.specs.Prelude.{ℕ, Bool, ◌&&◌, nat_eq, List, [], ◌∷◌, Option, None, is_none}
use Rattle.sequence_build_laws.specs.declared.Vertex.{Vertex}
use Rattle.sequence_build_laws.specs.declared.Program.{Program}
use Rattle.sequence_build_laws.specs.Instructions.{medium}
use Rattle.sequence_build_laws.specs.MicroSteps.{first_of}
use Rattle.program_tables.specs.declared.mark_table.Mark.{Mark}
use Rattle.program_tables.specs.declared.roles.Role.TheVariants.{Called}
use Rattle.program_tables.specs.Marks.{marks_of}
use Rattle.order_check.specs.Calls.{is_before_twin}
use Rattle.check_places.specs.declared.place.Place.{Place}
use Rattle.check_places.specs.declared.place.Rule.TheVariants.{NotCalled, CalledAgain, CalledInThread, GetNotBeforeSet}
use Rattle.check_places.specs.declared.place.Subject.TheVariants.{Operation}
use Rattle.check_places.specs.First.{broken, broken_at, first_failing, first_from, in_loop, unless}

-- Both marks are the same instruction.
abbrev pub is_same : Mark → Mark → Bool
is_same m u = nat_eq u.sequence m.sequence && nat_eq u.at m.at

module _ (p : Program) where
  -- operation v, which is x, is called at these places
  abbrev pub call_place_by : ℕ → Vertex → List Mark → Option Place
  call_place_by v x [] = broken NotCalled (Operation v) None
  call_place_by v x (m ∷ ms) =
      first_of (broken_at CalledAgain (Operation v) (first_failing (is_same m) ms))
      (first_of
      (unless (is_none (medium p m.sequence)) (broken CalledInThread (Operation v) (in_loop m.sequence m.at)))
      (unless (is_before_twin p m.sequence m.at x.kind x.twin)
      (broken GetNotBeforeSet (Operation v) (in_loop m.sequence m.at))))

  -- not called, called again, called in a thread, or a get half that is not called before its set half
  abbrev pub call_place : ℕ → Vertex → Option Place
  call_place v x = call_place_by v x (marks_of p Called v)

  -- The first place at which an operation is not called as it has to be, in the order of the
  -- operations, and None if there is none.
  abbrev pub calls_place : List Vertex → Option Place
  calls_place vertices = first_from call_place 0 vertices
