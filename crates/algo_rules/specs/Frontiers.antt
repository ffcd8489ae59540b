-- The checks of repetitions and of switches.
use Rattle.std.specs.Prelude.{
  ℕ,
  ◌*◌,
  Bool,
  false,
  not,
  ◌&&◌,
  ◌||◌,
  ◌==◌,
  nat_lt,
  List,
  [],
  ◌∷◌,
  ◌++◌,
  Option,
  Some,
  None,
  if◌then◌else◌,
  ℤ,
}
use Rattle.std.specs.List.{list_all, flat_map}
use Rattle.std.specs.Ordering.{int_eq}
use Rattle.syn_base.specs.declared.limits.LimitKind.TheVariants.{PortLength}
use Rattle.syn_base.specs.Limits.{bound_of}
use Rattle.algo_text.specs.declared.Port.{Port}
use Rattle.algo_text.specs.declared.definition.Case.{Case}
use Rattle.algo_text.specs.declared.definition.Frontier.{Frontier}
use Rattle.algo_text.specs.declared.definition.Frontier.TheVariants.{Fork, Diffuse, Iterate, Join}
use Rattle.algo_text.specs.declared.definition.FrontierLine.{FrontierLine}
use Rattle.algo_text.specs.declared.fault.AlgoCause.TheVariants.{BadCase, BadRepeat}
use Rattle.syn_base.specs.Bytes.{Bytes}
use Rattle.text_lines.specs.Refusals.{Limit}
use Rattle.algo_text.specs.Refusals.{AlgoRefusal}
use Rattle.algo_text.specs.Among.{is_among}
use Rattle.algo_rules.specs.Links.{fault, first_of}
use Rattle.algo_rules.specs.Ports.{has_port, len_of, same_ports}
use Rattle.algo_rules.specs.declared.ports.Ports.{Ports}

-- The refusal by the limit on lengths, if this length is above it.
abbrev pub too_long : ℕ → Option AlgoRefusal
too_long len =
    if nat_lt 64 len
    then Some (Limit (record { which = PortLength; count = len; bound = bound_of PortLength })) else None

-- The inner input that a frontier line uses.
abbrev pub used_by : Frontier → List Bytes
used_by (Fork p x) = x ∷ []
used_by (Diffuse p x) = x ∷ []
used_by (Iterate p x y q) = x ∷ []
used_by (Join y q) = []

module _ (copies : ℕ) (inner : Ports) where
  -- An inner input that no line before uses.
  abbrev pub is_open : List Bytes → Bytes → Bool
  is_open used x = has_port inner.ins x && not (is_among x used)

  -- An inner port that is not there, an inner input that is used twice, an iterate between unequal lengths; then an
  -- outer port that is too long.
  abbrev pub frontier_fault : List Bytes → ℕ → Frontier → Option AlgoRefusal
  frontier_fault used n (Fork p x) =
      if is_open used x then too_long (copies * len_of inner.ins x) else fault n BadRepeat
  frontier_fault used n (Diffuse p x) =
      if is_open used x then too_long (len_of inner.ins x) else fault n BadRepeat
  frontier_fault used n (Iterate p x y q) =
      if is_open used x && (has_port inner.outs y && (len_of inner.ins x == len_of inner.outs y))
      then too_long (len_of inner.ins x) else fault n BadRepeat
  frontier_fault used n (Join y q) =
      if has_port inner.outs y then too_long (copies * len_of inner.outs y) else fault n BadRepeat

  -- For each of these frontier lines in order its fault, if it has one. The lines before them use
  -- the inner inputs `used`.
  abbrev pub frontier_faults : List Bytes → List FrontierLine → List (Option AlgoRefusal)
  frontier_faults used [] = []
  frontier_faults used (l ∷ ls) =
      frontier_fault used l.line l.frontier ∷ frontier_faults (used ++ used_by l.frontier) ls

  -- An inner input that stands in no line.
  abbrev pub unfed : ℕ → List FrontierLine → Option AlgoRefusal
  unfed line ls =
      if list_all (λ p. is_among p.name (flat_map (λ l. used_by l.frontier) ls)) inner.ins then None else
      fault line BadRepeat

  -- A repetition at this line: its lines in order, and then its inner inputs.
  abbrev pub repeat_fault : ℕ → List FrontierLine → Option AlgoRefusal
  repeat_fault line ls = first_of (frontier_faults [] ls ++ unfed line ls ∷ [])

-- The ports of a definition are those of the switch without its conditioning input.
abbrev pub fits : List Port → List Port → Ports → Bool
fits ins outs p = same_ports p.ins ins && same_ports p.outs outs

-- The number v is one of these.
abbrev pub has_value : List ℤ → ℤ → Bool
has_value [] v = false
has_value (x ∷ xs) v = int_eq x v || has_value xs v

module _ (of : Bytes → Ports) (ins outs : List Port) where
  -- The fault of a case, if it has one: its value is one of those of the cases before it, which are
  -- given, or its definition does not have the ports of the switch.
  abbrev pub case_fault : List ℤ → Case → Option AlgoRefusal
  case_fault before c =
      if not (has_value before c.value) && fits ins outs (of c.def) then None else fault c.line BadCase

  -- For each of these cases in order its fault, if it has one. The cases before them have the
  -- values `before`.
  abbrev pub case_faults : List ℤ → List Case → List (Option AlgoRefusal)
  case_faults before [] = []
  case_faults before (c ∷ cs) = case_fault before c ∷ case_faults (before ++ c.value ∷ []) cs

  -- A switch: each case has a new value and the switch's ports, and `otherwise` has them too.
  abbrev pub switch_fault : List Case → Bytes → ℕ → Option AlgoRefusal
  switch_fault cases otherwise last = first_of
      (case_faults [] cases ++ (if fits ins outs (of otherwise) then None else fault last BadCase) ∷ [])
