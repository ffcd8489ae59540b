-- Straight code over one store of words, and what it computes.
use Rattle.std.specs.Prelude.{
  ◌≡◌,
  ℕ,
  ◌+◌,
  ◌-◌,
  ◌<◌,
  ◌≤◌,
  ℤ,
  pos,
  List,
  [],
  ◌∷◌,
  ◌++◌,
  if◌then◌else◌,
  take,
  drop,
  slice_index_or,
}
use Rattle.std.specs.Ordering.{int_eq}
use Rattle.syn_base.specs.Arithmetic.{applied, wrapped}
use Rattle.body_lang.specs.Expr.{element_at, total}
use Rattle.expression_code.specs.declared.step.Action.{Action}
use Rattle.expression_code.specs.declared.step.Action.TheVariants.{
  Fill,
  Count,
  Copy,
  Back,
  Spread,
  Gather,
  Total,
  Both,
  Right,
  Left,
  Choose,
}
use Rattle.expression_code.specs.declared.step.Step.{Step}

-- A word of a store by its place, 0 outside the store.
abbrev pub word : List ℤ → ℕ → ℤ
word store k = slice_index_or store k (pos 0)

-- This many words from a place on.
abbrev pub words : List ℤ → ℕ → ℕ → List ℤ
words store from count = take count (drop from store)

-- The first words, as many as are counted, are those that a function gives by their numbers.
abbrev pub FirstAre : ℕ → List ℤ → (ℕ → ℤ) → Type 0
FirstAre count row f = (j : ℕ) → j < count → word row j ≡ f j

-- The first of two numbers if the condition is not 0, else the second.
abbrev pub chosen : ℤ → ℤ → ℤ → ℤ
chosen condition first second = if int_eq condition (pos 0) then second else first

-- What an action gives for element j, over the words that are known before it.
abbrev pub given : Action → List ℤ → ℕ → ℤ
given (Fill value) known j = value
given Count known j = pos j
given (Copy from) known j = word known (from + j)
given (Back from) known j = word known (from - j)
given (Spread from) known j = word known from
given (Gather from count at) known j = element_at (words known from count) (word known (at + j))
given (Total from count) known j = wrapped (total (words known from count))
given (Both op left right) known j = applied op (word known (left + j)) (word known (right + j))
given (Right op left value) known j = applied op (word known (left + j)) value
given (Left op value right) known j = applied op value (word known (right + j))
given (Choose condition first second) known j =
    chosen (word known (condition + j)) (word known (first + j)) (word known (second + j))

-- All that an action of this length reads lies below the end of what is known.
abbrev pub IsWithin : ℕ → ℕ → Action → Type 0
IsWithin end len (Fill value) = Unit {0}
IsWithin end len Count = Unit {0}
IsWithin end len (Copy from) = from + len ≤ end
IsWithin end len (Back from) = (from < end) × (len ≤ from + 1)
IsWithin end len (Spread from) = from < end
IsWithin end len (Gather from count at) = (from + count ≤ end) × (at + len ≤ end)
IsWithin end len (Total from count) = from + count ≤ end
IsWithin end len (Both op left right) = (left + len ≤ end) × (right + len ≤ end)
IsWithin end len (Right op left value) = left + len ≤ end
IsWithin end len (Left op value right) = right + len ≤ end
IsWithin end len (Choose condition first second) =
    (condition + len ≤ end) × (first + len ≤ end) × (second + len ≤ end)

-- Each step reads only what the steps before it, or the words before the code, give.
abbrev pub AreWithin : ℕ → List Step → Type 0
AreWithin at [] = Unit {0}
AreWithin at (step ∷ steps) = IsWithin at step.len step.action × AreWithin (at + step.len) steps

-- Where the words of these steps end, if those of the first begin at this place.
abbrev pub end_of : ℕ → List Step → ℕ
end_of at [] = at
end_of at (step ∷ steps) = end_of (at + step.len) steps

-- The words of a step, which begin at this place, are in the new store what its action gives over the
-- words before them in the old one.
abbrev pub PutAt : Step → ℕ → List ℤ → List ℤ → Type 0
PutAt step at old new = (j : ℕ) → j < step.len → word new (at + j) ≡ given step.action (take at old) j

-- A store in which each step has what its action gives over the words before it.
abbrev pub IsRun : ℕ → List Step → List ℤ → Type 0
IsRun at [] store = Unit {0}
IsRun at (step ∷ steps) store =
    PutAt step at store store × IsRun (at + step.len) steps store

-- Straight code: the place where its words begin, and its steps.
pub record Straight : Type 0 where
  pub from : ℕ
  pub steps : List Step

-- How many words a store of the code has.
abbrev pub size : Straight → ℕ
size code = end_of code.from code.steps

-- A store in which the code has run.
abbrev pub HasRun : Straight → List ℤ → Type 0
HasRun code store = IsRun code.from code.steps store

-- Code with one step more, whose words begin at this place.
pub record Pushed (old new : Straight) (len : ℕ) (action : Action) (at : ℕ) : Type 0 where
  pub place : at ≡ end_of old.from old.steps
  pub from : new.from ≡ old.from
  pub steps : new.steps ≡ old.steps ++ (record { len = len; action = action }) ∷ []
