-- The first place of several.
use Rattle.std.specs.Prelude.{ℕ, ◌+◌, Bool, cond, List, [], ◌∷◌, Option, Some, None}
use Rattle.std.specs.List.{range_with_len}
use Rattle.sequence_build_laws.specs.MicroSteps.{first_of}
use Rattle.program_tables.specs.declared.mark_table.Mark.{Mark}
use Rattle.check_places.specs.declared.place.Part.{Part}
use Rattle.check_places.specs.declared.place.Part.TheVariants.{Loop}
use Rattle.check_places.specs.declared.place.Spot.{Spot}
use Rattle.check_places.specs.declared.place.Subject.{Subject}
use Rattle.check_places.specs.declared.place.Rule.{Rule}
use Rattle.check_places.specs.declared.place.Place.{Place}

-- Instruction a of this part of sequence s, or the end of the part if a is past its last
-- instruction.
abbrev pub spot_at : Part → ℕ → ℕ → Option Spot
spot_at part s a = Some (record { part = part; sequence = s; at = a })

-- instruction a of the loop of s
abbrev pub in_loop : ℕ → ℕ → Option Spot
in_loop s a = spot_at Loop s a

-- a rule is broken there
abbrev pub broken : Rule → Subject → Option Spot → Option Place
broken rule subject spot = Some (record { rule = rule; subject = subject; spot = spot })

-- This place, unless the test holds.
abbrev pub unless : Bool → Option Place → Option Place
unless holds place = cond holds None place

-- The rule is broken at this instruction of a loop, if there is one.
abbrev pub broken_at : Rule → Subject → Option Mark → Option Place
broken_at rule subject None = None
broken_at rule subject (Some m) = broken rule subject (in_loop m.sequence m.at)

-- of these places in loops the first that does not pass
abbrev pub first_failing : (Mark → Bool) → List Mark → Option Mark
first_failing test [] = None
first_failing test (m ∷ ms) = cond (test m) (first_failing test ms) (Some m)

-- the first place that one of these gives, each with its number, of which the first has number n
abbrev pub first_from : {X : Type 0} → (ℕ → X → Option Place) → ℕ → List X → Option Place
first_from place n [] = None
first_from place n (x ∷ xs) = first_of (place n x) (first_from place (n + 1) xs)

-- the first that a number below n gives
abbrev pub first_below : (ℕ → Option Place) → ℕ → Option Place
first_below place n = first_from (λ _ k. place k) 0 (range_with_len 0 n)
