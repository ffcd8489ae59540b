-- Which drivers drive every sequence, on worked groups: the definition computed.
use Rattle.std.proofs.Common.{◌≡◌, ℕ, zero, suc, List, [], ◌∷◌, None, refl, arith}
use Rattle.atomic_table.specs.Seated.{TableId}
use Rattle.executive_program.specs.declared.program.SeqCode.{SeqCode}
use Rattle.word_rule.specs.Job.{JobData}
use Rattle.word_table.specs.Answers.{DrivesEvery}
use Rattle.word_table.specs.Driver.{DriverData}

abbrev sequence : ℕ → SeqCode
sequence o = record { seq = record { operator = o; medium = None }; prologue = []; turn = [] }

abbrev job : List SeqCode → JobData
job seqs = record {
  program = record { buffers = []; pairs = []; seqs = seqs };
  graph = record { vertices = []; bodies = [] };
  media = 0;
  sensors = [];
  lens = [];
  opening = [];
}

-- the driver of this group of so many, of a job with these sequences
abbrev driver : TableId → List SeqCode → ℕ → ℕ → DriverData
driver table seqs groups group = record {
  fabric = record { table = table; job = job seqs; groups = groups };
  group = group;
  counts = [];
  look = record { number = 0; word = 0; found = 0 };
  registers = [];
  cells = [];
  rows = [];
}

abbrev one : List SeqCode
one = sequence 4 ∷ []

abbrev two : List SeqCode
two = sequence 4 ∷ sequence 7 ∷ []

-- one sequence in three groups: the driver of group 0 drives every sequence
first_alone : (t : TableId) → DrivesEvery (driver t one 3 0)
first_alone t zero l = refl
first_alone t (suc s) l = absurd (omega (arith, l))

-- and the two others do not
second_idle : (t : TableId) → DrivesEvery (driver t one 3 1) → ⊥
second_idle t every = let e : 0 ≡ 1 = every 0 (omega arith) in omega (arith, e)

third_idle : (t : TableId) → DrivesEvery (driver t one 3 2) → ⊥
third_idle t every = let e : 0 ≡ 2 = every 0 (omega arith) in omega (arith, e)

-- two sequences in three groups: no driver drives both
none_of_two : (t : TableId) (group : ℕ) → DrivesEvery (driver t two 3 group) → ⊥
none_of_two t group every = let first : 0 ≡ group = every 0 (omega arith) in let second : 1 ≡ group = every 1 (omega arith) in omega (arith, first, second)

-- in one group its driver drives both
both_in_one : (t : TableId) → DrivesEvery (driver t two 1 0)
both_in_one t zero l = refl
both_in_one t (suc zero) l = refl
both_in_one t (suc (suc s)) l = absurd (omega (arith, l))
