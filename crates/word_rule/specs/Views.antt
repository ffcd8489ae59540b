-- What a seat knows: the sequences that it drives with their counts, and its last look.
use Rattle.std.specs.Prelude.{
  ◌≡◌,
  ℕ,
  zero,
  suc,
  ◌+◌,
  Bool,
  not,
  cond,
  nat_eq,
  List,
  [],
  ◌∷◌,
  ◌++◌,
  map,
  filter,
  length,
  Option,
  Some,
  None,
}
use Rattle.phase_laws.specs.Job.{JobData}
use Rattle.word_rule.specs.declared.view.Count.{Count}
use Rattle.word_rule.specs.declared.view.Knowledge.{Knowledge}
use Rattle.word_rule.specs.declared.view.View.{View}
use Rattle.word_rule.specs.declared.view.View.TheVariants.{Spent, Holds}

-- the count of sequence s, if it is among these
abbrev pub count_in : List Count → ℕ → Option ℕ
count_in [] s = None
count_in (x ∷ xs) s = cond (nat_eq x.seq s) (Some x.made) (count_in xs s)

-- one more micro-step of s
abbrev pub raised : List Count → ℕ → List Count
raised xs s = map (λ x. cond (nat_eq x.seq s) (record { seq = x.seq; made = x.made + 1 }) x) xs

-- By this view sequence s has made this many micro-steps; it is none if the view does
-- not drive s, or is spent.
abbrev pub count_by : View → ℕ → Option ℕ
count_by Spent s = None
count_by (Holds k) s = count_in k.driven s

-- The view is one of the job j; a spent view is one of any job.
abbrev pub IsFor : JobData → View → Type 0
IsFor j Spent = Unit {0}
IsFor j (Holds k) = k.job ≡ j

-- One more micro-step of sequence s is counted, if it is driven; all else is as before.
abbrev pub stepped : Knowledge → ℕ → Knowledge
stepped k s = record { job = k.job; driven = raised k.driven s; looks = k.looks; word = k.word; found = k.found }

-- a look at a word that finds this
abbrev pub looked : Knowledge → ℕ → ℕ → Knowledge
looked k word found = record { job = k.job; driven = k.driven; looks = k.looks + 1; word = word; found = found }

-- what is held afterwards; a view that is spent stays so
abbrev pub after : (Knowledge → Knowledge) → View → View
after f Spent = Spent
after f (Holds k) = Holds (f k)

-- the sequences from s on, none of which has made a micro-step
abbrev pub all_from : ℕ → ℕ → List Count
all_from s zero = []
all_from s (suc n) = record { seq = s; made = 0 } ∷ all_from (suc s) n

-- the first seat drives every sequence
abbrev pub first_view : JobData → View
first_view j = Holds record { job = j; driven = all_from 0 (length j.program.seqs); looks = 0; word = 0; found = 0 }

-- the sequences that pass the test
abbrev pub picked : (ℕ → Bool) → List Count → List Count
picked test xs = filter (λ x. test x.seq) xs

-- of a view that is cut in two: what stays, and what the new seat gets
abbrev pub left_of : (ℕ → Bool) → View → View
left_of test Spent = Spent
left_of test (Holds k) = Holds record {
  job = k.job;
  driven = picked (λ s. not (test s)) k.driven;
  looks = k.looks;
  word = k.word;
  found = k.found;
}

-- The new seat gets the sequences that pass the test, and no look; of a spent view it gets nothing.
abbrev pub right_of : (ℕ → Bool) → View → View
right_of test Spent = Spent
right_of test (Holds k) = Holds record { job = k.job; driven = picked test k.driven; looks = 0; word = 0; found = 0 }

-- A view takes in what another one drives. No look is recorded, so its own looks stay as they are.
abbrev pub joined : View → View → View
joined (Holds k) (Holds l) = Holds record {
  job = k.job;
  driven = k.driven ++ l.driven;
  looks = k.looks;
  word = k.word;
  found = k.found;
}
joined (Holds k) Spent = Holds k
joined Spent w = w
