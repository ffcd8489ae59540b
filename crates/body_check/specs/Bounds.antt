-- The bounds that the reader of texts keeps.
use Rattle.std.specs.Prelude.{◌≤◌, ◌/◌, List, length, All}
use Rattle.algo_rules.specs.declared.Port.{Port}
use Rattle.algo_rules.specs.declared.Body.{Body}
use Rattle.algo_rules.specs.declared.Body.TheVariants.{Constant, Delay, Repeat}
use Rattle.algo_rules.specs.declared.ports.Ports.{Ports}

-- At most 64 elements in each port.
abbrev pub AreShort : List Port → Type 0
AreShort ps = All (λ p. p.len ≤ 64) ps

-- No input and no output has more than 64 elements.
abbrev pub HasShortPorts : Ports → Type 0
HasShortPorts p = AreShort p.ins × AreShort p.outs

-- At most 64 values, in each group of a delay too, and at most 64 copies of a definition with such ports.
abbrev pub IsBounded : Ports → Body → Type 0
IsBounded inner (Constant values) = length values ≤ 64
IsBounded inner (Delay depth values) = (1 ≤ depth) × (length values / depth ≤ 64)
IsBounded inner (Repeat copies def lines) = (copies ≤ 64) × HasShortPorts inner
IsBounded inner _ = Unit {0}
