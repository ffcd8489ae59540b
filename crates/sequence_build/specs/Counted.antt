-- The words and the micro-steps of a schedule's program, by its acts and by how many sequences wait for each buffer.
use Rattle.std.specs.Prelude.{
  ◌≡◌,
  ℕ,
  ◌+◌,
  ◌-◌,
  ◌*◌,
  ◌^◌,
  cond,
  max,
  min,
  nat_eq,
  List,
  [],
  ◌∷◌,
  length,
  Option,
  None,
}
use Rattle.std.specs.List.{flat_map, sum_by}
use Rattle.syn_base.specs.declared.limits.LimitKind.TheVariants.{Words, MicroSteps}
use Rattle.syn_base.specs.declared.limits.LimitFault.{LimitFault}
use Rattle.sequence_build_laws.specs.Owners.{sum_below}
use Rattle.sequence_build_laws.specs.Graph.{Graph}
use Rattle.sequence_build_laws.specs.Archi.{Architecture}
use Rattle.sequence_build_laws.specs.Sequences.{sequences}
use Rattle.sequence_build_laws.specs.declared.Schedule.{Schedule}
use Rattle.sequence_build_laws.specs.Acts.{Act, carry, run, acts, Copy, copy}
use Rattle.sequence_build_laws.specs.declared.Buffer.{Buffer}
use Rattle.sequence_build_laws.specs.declared.Program.{Program}
use Rattle.sequence_build_laws.specs.Instructions.{len_of}
use Rattle.sequence_build_laws.specs.Sizes.{plain_of, looks_at}
use Rattle.sequence_build_laws.specs.Serial.{Step, copies, buffer_for, plain_steps}
use Rattle.sequence_build.specs.declared.site.Site.{Site}
use Rattle.sequence_build.specs.Plain.{numbering, steps_at}
use Rattle.sequence_build.specs.Touched.{Counts}
use Rattle.syn_base.specs.Limits.{above}

-- In a program with these buffers, where a copy's buffer has the number that a function gives it.
module _ (p : Program) (number : Copy → ℕ) where
  -- the length of what an act carries over medium m
  abbrev pub carried_len : ℕ → Act → ℕ
  carried_len m (carry t) = cond (nat_eq t.medium m) (len_of p (number (copy t.from t.source))) 0
  carried_len m (run d) = 0

  abbrev pub longest : ℕ → List Act → ℕ
  longest m [] = 0
  longest m (x ∷ xs) = max (carried_len m x) (longest m xs)

-- the micro-steps of these steps, none of which is of a semaphore
abbrev pub step_micros : Program → List Step → ℕ
step_micros p steps = sum_by (λ (x : Step). plain_of p x.instr) steps

-- the elements of these buffers in all their places, of which a buffer that some sequence waits for has this many
abbrev pub buffer_sum : ℕ → List ℕ → List Buffer → ℕ
buffer_sum depth [] buffers = 0
buffer_sum depth (n ∷ ns) [] = 0
buffer_sum depth (n ∷ ns) (x ∷ xs) = cond (nat_eq n 0) 1 depth * x.len + buffer_sum depth ns xs

-- the micro-steps of a pair's two takes and two signals
abbrev pub pair_micros : ℕ → ℕ
pair_micros depth = 4 + 2 * looks_at depth

-- In a program with these buffers, each of which is read by this many sequences that do not write it, and has this
-- many places where there is such a sequence.
module _ (p : Program) (counts : List ℕ) (depth : ℕ) where
  -- the words on this many media
  abbrev pub all_words : (Copy → ℕ) → List Act → ℕ → ℕ
  all_words number acts media = 2 * sum_by (λ n. n) counts + media + buffer_sum depth counts p.buffers +
      sum_below (λ m. longest p number m acts) media

  abbrev pub all_micros : List Step → ℕ
  all_micros steps = step_micros p steps + sum_by (λ n. n) counts * pair_micros depth

  abbrev pub limit_of : (Copy → ℕ) → List Act → List Step → ℕ → Option LimitFault
  limit_of number acts steps media = above Words (all_words number acts media)
      (above MicroSteps (min (all_micros steps) (2 ^ 128 - 1)) None)

-- it is the limit of the acts of a site, by some counts that are right
pub record IsLimit (p : Program) (site : Site) (acts : List Act) (depth media : ℕ) (limit : Option LimitFault) :
    Type 0 where
  pub counts : List ℕ
  pub right : Counts (length site.sequences.now) site.copies (flat_map (steps_at site) acts) counts
  pub is : limit ≡ limit_of p counts depth (numbering site) acts (flat_map (steps_at site) acts) media

-- it is the limit of a schedule
pub record IsLimitOf (g : Graph) (a : Architecture) (s : Schedule) (p : Program) (limit : Option LimitFault) :
    Type 0 where
  pub counts : List ℕ
  pub right : Counts (length (sequences a)) (length (copies g a s)) (plain_steps g a s) counts
  pub is : limit ≡ limit_of p counts a.depth (buffer_for g a s) (acts s) (plain_steps g a s) (length a.media)
