-- Who reads and writes each buffer: the sequences that read it, with the places in
-- their loops of the first and the last read, and the place of the write.
use Rattle.std.specs.Prelude.{
  ℕ,
  suc,
  ◌-◌,
  Bool,
  false,
  cond,
  nat_eq,
  List,
  [],
  ◌∷◌,
  ◌++◌,
  length,
  Option,
  Some,
  None,
  slice_get,
  slice_index_or,
  slice_set,
}
use Rattle.std.specs.Global.{Vec}
use Rattle.sequence_build_laws.specs.declared.Instr.{Instr}
use Rattle.sequence_build_laws.specs.declared.SeqCode.{SeqCode}
use Rattle.sequence_build.specs.declared.uses.Use.{Use}
use Rattle.sequence_build.specs.declared.uses.Place.{Place}
use Rattle.sequence_build.specs.Plain.{elements}

abbrev pub use_of : ℕ → ℕ → ℕ → Use
use_of s first last = record { sequence = s; first = first; last = last }

abbrev pub place_of : ℕ → ℕ → Place
place_of s at = record { sequence = s; at = at }

abbrev pub is_by : ℕ → Option Use → Bool
is_by s None = false
is_by s (Some u) = nat_eq u.sequence s

-- the last of these reads up to this place
abbrev pub prolonged : ℕ → Option Use → List Use → List Use
prolonged at None us = us
prolonged at (Some u) us = slice_set us (length us - 1) (use_of u.sequence u.first at)

abbrev pub last_of : List Use → Option Use
last_of us = slice_get us (length us - 1)

-- sequence s reads at this place
abbrev pub noted : ℕ → ℕ → List Use → List Use
noted s at us = cond (is_by s (last_of us)) (prolonged at (last_of us) us) (us ++ use_of s at at ∷ [])

abbrev pub uses_at : List (Vec Use) → ℕ → List Use
uses_at uses b = elements (slice_get uses b)

abbrev pub write_at : List (Option Place) → ℕ → Option Place
write_at writes b = slice_index_or writes b None

-- Of a buffer that these instructions read, or write: after a list of sequence s, of which the first has this place.
module _ {A : Type 0} (test : A → Bool) where
  abbrev pub uses_in : ℕ → ℕ → List A → List Use → List Use
  uses_in s at [] us = us
  uses_in s at (x ∷ xs) us = uses_in s (suc at) xs (cond (test x) (noted s at us) us)

  abbrev pub write_in : ℕ → ℕ → List A → Option Place → Option Place
  write_in s at [] w = w
  write_in s at (x ∷ xs) w = write_in s (suc at) xs (cond (test x) (Some (place_of s at)) w)

-- after the loops of these sequences, of which the first has number s
module _ (test : Instr → Bool) where
  abbrev pub uses_by : ℕ → List SeqCode → List Use → List Use
  uses_by s [] us = us
  uses_by s (q ∷ qs) us = uses_by (suc s) qs (uses_in test s 0 q.turn us)

  abbrev pub write_by : ℕ → List SeqCode → Option Place → Option Place
  write_by s [] w = w
  write_by s (q ∷ qs) w = write_by (suc s) qs (write_in test s 0 q.turn w)
