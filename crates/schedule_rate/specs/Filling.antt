-- How a table of arcs is filled from the steps of a schedule's acts: of each its entry, its line,
-- and the entries of the acts that make what it reads.
use Rattle.std.specs.Prelude.{
  ◌≡◌,
  ◌≤◌,
  ◌+◌,
  ◌-◌,
  ℕ,
  Bool,
  true,
  false,
  cond,
  nat_eq,
  List,
  [],
  ◌∷◌,
  ◌++◌,
  length,
  map,
  replicate,
  Option,
  Some,
  None,
  All,
  slice_get,
  slice_index_or,
  slice_set,
}
use Rattle.self_timed.specs.declared.layout.Step.{Step}
use Rattle.self_timed.specs.declared.line.Line.{Line}
use Rattle.self_timed.specs.declared.line.Line.TheVariants.{Operator, Medium}
use Rattle.self_timed.specs.declared.line.Ends.{Ends}
use Rattle.self_timed.specs.Lines.{AreStarted, AreTables, IsLine, last_in, noted}
use Rattle.rates.specs.declared.table.Arc.{Arc}
use Rattle.rates.specs.Arcs.{arc}
use Rattle.rates.specs.Tables.{at}

-- Of each entry the number of its act, after these steps, of which the first is that of act n.
abbrev pub entered : ℕ → List Step → List ℕ → List ℕ
entered n [] acts = acts
entered n (st ∷ sts) acts = entered (n + 1) sts (slice_set acts st.entry n)

-- Both lines are the same one.
abbrev pub is_same_line : Line → Line → Bool
is_same_line (Operator a) (Operator b) = nat_eq b a
is_same_line (Operator a) (Medium b) = false
is_same_line (Medium a) (Operator b) = false
is_same_line (Medium a) (Medium b) = nat_eq b a

-- The step, if there is one, is in this line.
abbrev pub is_step_in : Option Step → Line → Bool
is_step_in None line = true
is_step_in (Some st) line = is_same_line st.line line

-- The acts that read in other lines what act i makes, if these are the lists of all acts.
abbrev pub readers_at : List (List ℕ) → ℕ → List ℕ
readers_at readers i = slice_index_or readers i []

-- The lists with act j among those that read what act i makes.
abbrev pub with_reader : List (List ℕ) → ℕ → ℕ → List (List ℕ)
with_reader readers i j = slice_set readers i (readers_at readers i ++ j ∷ [])

-- The steps of all acts, and the numbers of acts by entry.
module _ (steps : List Step) (acts : List ℕ) where
  -- The lists after act j, in this line, has read what the acts of these entries make.
  abbrev pub with_sources : ℕ → Line → List ℕ → List (List ℕ) → List (List ℕ)
  with_sources j line [] readers = readers
  with_sources j line (e ∷ es) readers = with_sources j line es
      (cond (is_step_in (slice_get steps (at acts e)) line) readers (with_reader readers (at acts e) j))

  -- The lists after these steps, of which the first is that of act n.
  abbrev pub with_steps : ℕ → List Step → List (List ℕ) → List (List ℕ)
  with_steps n [] readers = readers
  with_steps n (st ∷ sts) readers = with_steps (n + 1) sts (with_sources n st.line st.sources readers)

-- In each line the last act of these steps, of which the first is that of act n: its number plus 1,
-- in the place of an end.
abbrev pub lasts : Ends → ℕ → List Step → Ends
lasts ends n [] = ends
lasts ends n (st ∷ sts) = lasts (noted ends st.line (n + 1)) (n + 1) sts

-- Each step is in a line that is there.
abbrev pub AreLined : List Step → Type 0
AreLined steps = All (λ (st : Step). IsLine st.line) steps

-- No line has an act with a number above this one.
pub record AreLow (count : ℕ) (ends : Ends) : Type 0 where
  pub tables : AreTables ends
  pub low : (line : Line) → last_in ends line ≤ count

-- In each line these are the last acts of the steps.
pub record AreLast (steps : List Step) (ends : Ends) : Type 0 where
  pub first : Ends
  pub started : AreStarted first
  pub is : ends ≡ lasts first 0 steps
  pub low : AreLow (length steps) ends

-- The arc of a line: to the last act before in the same reaction, and otherwise to the last one of
-- the reaction before.
abbrev pub line_arc : Ends → Ends → Line → Arc
line_arc before last line = cond (nat_eq (last_in before line) 0)
    (arc 1 (last_in last line - 1)) (arc 0 (last_in before line - 1))

-- Buffers that another sequence reads have this depth.
module _ (depth : ℕ) (acts : List ℕ) where
  -- The row of an act: the arc of its line, those to what makes what it reads, and those to its
  -- readers.
  abbrev pub full_row : Arc → List ℕ → List ℕ → List Arc
  full_row a sources readers = a ∷ (map (λ e. arc 0 (at acts e)) sources ++ map (λ j. arc depth j) readers)

  -- The rows of these steps, of which the first is that of act n.
  abbrev pub rows_from : List (List ℕ) → Ends → Ends → ℕ → List Step → List (List Arc)
  rows_from readers last before n [] = []
  rows_from readers last before n (st ∷ sts) =
      full_row (line_arc before last st.line) st.sources (readers_at readers n)
      ∷ rows_from readers last (noted before st.line (n + 1)) (n + 1) sts

-- The table is filled from these steps.
pub record IsFilled (depth entries : ℕ) (steps : List Step) (table : List (List Arc)) : Type 0 where
  pub acts : List ℕ
  pub last : Ends
  pub before : Ends
  pub acts_are : acts ≡ entered 0 steps (replicate entries 0)
  pub last_are : AreLast steps last
  pub before_started : AreStarted before
  pub rows : table
      ≡ rows_from depth acts (with_steps steps acts 0 steps (replicate (length steps) []))
      last before 0 steps
