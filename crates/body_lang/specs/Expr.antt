-- Expressions as plain data, and their value.
use Rattle.std.specs.Prelude.{ℕ, ◌<◌, ℤ, pos, negsuc, ◌+ℤ◌, List, [], ◌∷◌, if◌then◌else◌, slice_index_or, map}
use Rattle.std.specs.Ordering.{int_eq}
use Rattle.syn_base.specs.declared.arithmetic.Op.{Op}
use Rattle.syn_base.specs.declared.arithmetic.Op.TheVariants.{Neg}
use Rattle.syn_base.specs.Arithmetic.{applied, wrapped}
use Rattle.body_lang.specs.declared.expression.Expr as declared
use Rattle.body_lang.specs.declared.expression.Expr.TheVariants.{
  Lit,
  Index,
  Elem',
  SumOf,
  Neg' as NegOf',
  Apply',
  Select',
}
use Rattle.syn_base.specs.Vectors.{Vector, Values, vector_at, zeros}
use Rattle.syn_base.specs.Numbers.{numbers_below}

-- An expression, whatever memory holds it.
pub data Expr : Type 0 where
  literal : ℤ → Expr
  index : Expr
  element : ℕ → Expr → Expr
  sum_over : ℕ → Expr
  negation : Expr → Expr
  apply : Op → Expr → Expr → Expr
  select : Expr → Expr → Expr → Expr

-- The expression as plain data.
abbrev pub view : declared.Expr → Expr
view (Lit v) = literal v
view Index = index
view (Elem' k p e) = element k (view e)
view (SumOf k) = sum_over k
view (NegOf' p e) = negation (view e)
view (Apply' op p a q b) = apply op (view a) (view b)
view (Select' p c q a r b) = select (view c) (view a) (view b)

-- An element by its number, 0 outside the vector.
abbrev pub element_at : Vector → ℤ → ℤ
element_at v (pos n) = slice_index_or v n (pos 0)
element_at v (negsuc n) = pos 0

-- The sum as a whole number.
abbrev pub total : Vector → ℤ
total [] = pos 0
total (x ∷ xs) = x +ℤ total xs

-- The value of an expression for element number j of an output.
abbrev pub value_of : Expr → Values → ℕ → ℤ
value_of (literal v) ins j = v
value_of index ins j = pos j
value_of (element k e) ins j = element_at (vector_at ins k) (value_of e ins j)
value_of (sum_over k) ins j = wrapped (total (vector_at ins k))
value_of (negation e) ins j = applied Neg (value_of e ins j) (pos 0)
value_of (apply op a b) ins j = applied op (value_of a ins j) (value_of b ins j)
value_of (select c a b) ins j = if int_eq (value_of c ins j) (pos 0) then value_of b ins j else value_of a ins j

-- Each port that the expression names has a number below n.
abbrev pub PortsBelow : ℕ → Expr → Type 0
PortsBelow n (literal v) = Unit {0}
PortsBelow n index = Unit {0}
PortsBelow n (element k e) = (k < n) × PortsBelow n e
PortsBelow n (sum_over k) = k < n
PortsBelow n (negation e) = PortsBelow n e
PortsBelow n (apply op a b) = PortsBelow n a × PortsBelow n b
PortsBelow n (select c a b) = PortsBelow n c × (PortsBelow n a × PortsBelow n b)

-- A vector of this length, by its elements.
abbrev pub vector_of : ℕ → (ℕ → ℤ) → Vector
vector_of len f = map f (numbers_below len)

-- The outputs of a function: for each output its expression at each element.
abbrev pub function_outputs : List ℕ → List Expr → Values → Values
function_outputs [] es ins = []
function_outputs (len ∷ lens) [] ins = zeros len ∷ function_outputs lens [] ins
function_outputs (len ∷ lens) (e ∷ es) ins = vector_of len (value_of e ins) ∷ function_outputs lens es ins
