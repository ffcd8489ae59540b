-- What a frontier line uses and how long its outer ports are.
use Rattle.std.specs.Prelude.{ℕ, Bool, List, Option, Some, None, if◌then◌else◌}
use Rattle.std.specs.List.{flat_map}
use Rattle.syn_base.specs.Bytes.{Bytes}
use Rattle.algo_rules.specs.Refusals.{AlgoRefusal}
use Rattle.algo_rules.specs.declared.Port.{Port}
use Rattle.algo_rules.specs.declared.FrontierLine.{FrontierLine}
use Rattle.algo_rules.specs.declared.AlgoCause.TheVariants.{BadRepeat}
use Rattle.algo_rules.specs.Links.{fault}
use Rattle.algo_rules.specs.Ports.{has_port, len_of}
use Rattle.algo_rules.specs.Frontiers.{used_by, too_long}

-- The inner inputs that these lines use.
abbrev pub all_used : List FrontierLine → List Bytes
all_used ls = flat_map (λ l. used_by l.frontier) ls

-- The length of a port of this name, if this holds.
abbrev pub len_where : Bool → List Port → Bytes → Option ℕ
len_where holds ps w = if holds then Some (len_of ps w) else None

-- The length of the port of a name, if there is one.
abbrev pub found_len : List Port → Bytes → Option ℕ
found_len ps w = len_where (has_port ps w) ps w

-- The fault of a line whose outer port has this length, if its inner ports are used rightly.
abbrev pub fault_by : ℕ → Option ℕ → Option AlgoRefusal
fault_by line None = fault line BadRepeat
fault_by line (Some len) = too_long len
