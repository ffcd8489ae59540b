-- What is kept of the tables that were closed, as contracts see it.
use Rattle.std.specs.Prelude.{ℕ, ◌+◌, min, sum, List, []}
use Rattle.phase_laws.specs.Job.{JobData}
use Rattle.phase_laws.specs.Told.{told}
use Rattle.phase_laws.specs.Ended.{full_counts}
use Rattle.word_rule.specs.Words.{words_of}

-- the micro-steps made on all of them, up to the last value of the number,
-- and the counts and the words of the one that was closed last
pub record Driven : Type 0 where
  pub number : ℕ
  pub counts : List ℕ
  pub words : List ℕ

-- when no table was closed
abbrev pub new_driven : Driven
new_driven = record { number = 0; counts = []; words = [] }

-- the last value of the number, at which it stands
abbrev pub last_number : ℕ
last_number = 18446744073709551615

-- after a table of the job was closed at these counts
abbrev pub closed : JobData → List ℕ → Driven → Driven
closed j counts d = record {
  number = min (d.number + sum counts) last_number;
  counts = counts;
  words = words_of (told j counts);
}

-- after the job was run to its end
abbrev pub driven_by : JobData → Driven → Driven
driven_by j d = closed j (full_counts j) d
