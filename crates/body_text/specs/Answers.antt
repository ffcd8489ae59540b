-- What the reader of tokens returns, by what is to be read.
use Rattle.std.specs.Prelude.{
  ◌≡◌,
  ℕ,
  ◌+◌,
  ◌≤◌,
  List,
  length,
  drop,
  map,
  Bool,
  true,
  false,
  Option,
  None,
  Some,
  slice_get,
  Result,
  Ok,
  Err,
}
use Rattle.body_lang.specs.Expr.{view}
use Rattle.body_lang.specs.Expr as numbered
use Rattle.body_lang.specs.declared.expression.Port.{Port}
use Rattle.body_text.specs.declared.read.Read.{Read}
use Rattle.body_text.specs.declared.read.Stop.{Stop}
use Rattle.body_text.specs.declared.read.Stop.TheVariants.{At, OutOfMemory}
use Rattle.body_text.specs.declared.token.Placed as declared
use Rattle.body_lang.specs.declared.expression.Expr as declared_expression
use Rattle.body_text.specs.declared.fault.BodyFault.{BodyFault}
use Rattle.body_text.specs.declared.fault.BodyFault.TheVariants.{UnknownPort}
use Rattle.body_text.specs.Reads.{place_or}
use Rattle.syn_base.specs.Bytes.{Bytes}
use Rattle.body_text.specs.Tokens.{Token, Placed}
use Rattle.body_text.specs.Cut.{token_view}
use Rattle.body_text.specs.Grammar.{Written, written}
use Rattle.body_text.specs.Ports.{resolved, first_unknown, namings}
use Rattle.body_text.specs.Parse.{Parse, good, stops}

abbrev pub tokens_of : List declared.Placed → List Token
tokens_of ps = map (λ p. token_view p.token) ps

-- The tokens from token i on.
abbrev pub behind_of : ℕ → List declared.Placed → List Token
behind_of i ps = drop i (tokens_of ps)

abbrev pub names_of : List Port → List Bytes
names_of ports = map (λ p. p.name) ports

-- The expression that begins with token `from` was read, and as many tokens after it as `more` says.
pub record IsRead (names : List Bytes) (ps : List declared.Placed) (from more : ℕ)
    (w : Written) (rest : List Token) (r : Read) : Type 0 where
  pub value : view r.value ≡ resolved names w
  pub unknown : r.unknown ≡ first_unknown names (namings from w)
  pub next : r.next ≡ from + length (written w) + more
  pub within : r.next ≤ length ps
  pub left : behind_of r.next ps ≡ rest

-- Reading stopped at the token with which these tokens are left.
pub record IsStop (ps : List declared.Placed) (rest : List Token) (at : ℕ) : Type 0 where
  pub within : at ≤ length ps
  pub left : behind_of at ps ≡ rest

abbrev pub StopsBy : List declared.Placed → List Token → Stop → Type 0
StopsBy ps rest (At i) = IsStop ps rest i
StopsBy ps rest OutOfMemory = Unit {0}

abbrev pub LacksMemory : Stop → Type 0
LacksMemory (At i) = ⊥
LacksMemory OutOfMemory = Unit {0}

module _ (names : List Bytes) (ps : List declared.Placed) (from more : ℕ) where
  -- What is returned is what the parse gives, want of memory aside.
  abbrev pub Answers : Parse → Result Read Stop → Type 0
  Answers (good w rest) (Ok r) = IsRead names ps from more w rest r
  Answers (good w rest) (Err s) = LacksMemory s
  Answers (stops rest) (Ok r) = ⊥
  Answers (stops rest) (Err s) = StopsBy ps rest s

-- What is returned is the number of the element, where the name is `j`, or else the place after the name.
abbrev pub IsIndex : Bool → ℕ → Result Read Stop → Type 0
IsIndex true start (Ok r) = (view r.value ≡ numbered.index) × (r.next ≡ start + 1) × (r.unknown ≡ None)
IsIndex true start (Err s) = ⊥
IsIndex false start (Ok r) = ⊥
IsIndex false start (Err (At i)) = i ≡ start + 1
IsIndex false start (Err OutOfMemory) = ⊥

-- An expression that was put together from what was read.
pub record IsMade (e : numbered.Expr) (next : ℕ) (unknown : Option ℕ) (r : Read) : Type 0 where
  pub value : view r.value ≡ e
  pub next_is : r.next ≡ next
  pub unknown_is : r.unknown ≡ unknown

-- The same, unless memory was wanting.
abbrev pub Makes : numbered.Expr → ℕ → Option ℕ → Result Read Stop → Type 0
Makes e next unknown (Ok r) = IsMade e next unknown r
Makes e next unknown (Err s) = LacksMemory s

abbrev pub place_at : List Placed → ℕ → ℕ → ℕ
place_at ps end i = place_or end (slice_get ps i)

-- What is returned is the expression, or the place of the first name of a port that is none.
abbrev pub KnownBy : List Placed → ℕ → Option ℕ → numbered.Expr → Result declared_expression.Expr BodyFault → Type 0
KnownBy ps end None e (Ok x) = view x ≡ e
KnownBy ps end None e (Err f) = ⊥
KnownBy ps end (Some i) e (Ok x) = ⊥
KnownBy ps end (Some i) e (Err (UnknownPort place)) = place ≡ place_at ps end i
KnownBy ps end (Some i) e (Err _) = ⊥

abbrev pub IsKnown : List Placed → ℕ → Read → Result declared_expression.Expr BodyFault → Type 0
IsKnown ps end r result = KnownBy ps end r.unknown (view r.value) result
