-- What code computes of an expression.
use Rattle.std.specs.Prelude.{◌≡◌, ℕ, ◌+◌, ◌-◌, ◌<◌, ◌≤◌, ℤ, pos, List, length, slice_index_or}
use Rattle.syn_base.specs.Vectors.{Values, vector_at}
use Rattle.body_lang.specs.Expr.{Expr, index, literal, value_of}
use Rattle.expression_code.specs.Code.{word, words, size, HasRun, Straight}
use Rattle.expression_code.specs.declared.step.Span.{Span}

-- The span of a port, empty if there is no such port.
abbrev pub span_at : List Span → ℕ → Span
span_at ports k = slice_index_or ports k (record { start = 0; len = 0 })

-- The spans of the ports end at a place or before it.
abbrev pub AreBelow : ℕ → List Span → Type 0
AreBelow from ports = (k : ℕ) → k < length ports → (span_at ports k).start + (span_at ports k).len ≤ from

-- A store in which the vectors of the ports stand in their spans.
abbrev pub Carries : List Span → Values → List ℤ → Type 0
Carries ports ins store =
    (k : ℕ) → k < length ports → words store (span_at ports k).start (span_at ports k).len ≡ vector_at ins k

-- The words from a place on are the values of an expression, for the elements below a length.
abbrev pub Holds : List ℤ → ℕ → ℕ → Expr → Values → Type 0
Holds store at len e ins = (j : ℕ) → j < len → word store (at + j) ≡ value_of e ins j

-- Code that was grown for an expression. In each store in which it has run the values of the
-- expression, for the elements below a length, stand at a place, whatever vectors the ports have; and
-- what the code computed before it was grown stands there too.
pub record Compiled (ports : List Span) (len : ℕ) (old new : Straight) (e : Expr) (at : ℕ) : Type 0 where
  pub from : new.from ≡ old.from
  pub longer : size old ≤ size new
  pub room : at + len ≤ size new
  pub before : (store : List ℤ) → HasRun new store → HasRun old store
  pub values : (store : List ℤ) (ins : Values) → HasRun new store → Carries ports ins store → Holds store at len e ins

-- A run of the code leads from one store to another in which each expression for which the code was
-- grown has its values, whatever vectors its ports have in the first.
abbrev pub GivesValues : Straight → List ℤ → List ℤ → Type 0
GivesValues code before after =
    (ports : List Span) (len : ℕ) (old : Straight) (e : Expr) (at : ℕ) (ins : Values)
    → Compiled ports len old code e at → AreBelow code.from ports → Carries ports ins before
    → Holds after at len e ins

-- An expression that numbers the elements of a vector of `count` from an offset on.
pub record Numbers (count len : ℕ) (at : Expr) (offset : ℕ) : Type 0 where
  pub room : offset + len ≤ count
  pub values : (ins : Values) (j : ℕ) → j < len → value_of at ins j ≡ pos (offset + j)

-- An expression that numbers the elements of a vector of `count` backwards from an offset on.
pub record NumbersBack (count len : ℕ) (at : Expr) (offset : ℕ) : Type 0 where
  pub inside : offset < count
  pub room : len ≤ offset + 1
  pub values : (ins : Values) (j : ℕ) → j < len → value_of at ins j ≡ pos (offset - j)

-- The first expression is the number of the element, and the second is this number.
abbrev pub IsShift : ℕ → Expr → Expr → Type 0
IsShift shift a b = (a ≡ index) × (b ≡ literal (pos shift))
