-- Tables of ports, which are filled depth by depth.
use Rattle.std.specs.Prelude.{◌≡◌, ℕ, ◌<◌, ◌≤◌, List, length, slice_index_or}
use Rattle.std.specs.List.{All}
use Rattle.syn_base.specs.Bytes.{Bytes}
use Rattle.algo_check.specs.Linked.{IsLinked}
use Rattle.algo_rules.specs.declared.Def.{Def}
use Rattle.algo_rules.specs.ReferenceLinks.{depth}
use Rattle.algo_rules.specs.Links.{links_of}
use Rattle.algo_rules.specs.Ports.{no_ports, ports_of}
use Rattle.algo_rules.specs.declared.ports.Ports.{Ports}
use Rattle.body_check.specs.Bounds.{HasShortPorts}

-- At most 65 inputs and as many outputs, each of at most 64 elements.
pub record IsSmall (p : Ports) : Type 0 where
  pub short : HasShortPorts p
  pub ins : length p.ins ≤ 65
  pub outs : length p.outs ≤ 65

-- The ports of the definition that stands here, whatever its name.
abbrev pub HasPorts : List Def → List Ports → ℕ → Type 0
HasPorts ds table k = (w : Bytes) → IsLinked ds w k → slice_index_or table k no_ports ≡ ports_of ds w

-- A row for each definition, with the ports of those whose depth is below this one.
pub record IsTable (ds : List Def) (depth_now : ℕ) (table : List Ports) : Type 0 where
  pub rows : length table ≡ length ds
  pub small : All IsSmall table
  pub ports : (k : ℕ) → k < length ds → depth (links_of ds) k < depth_now → HasPorts ds table k

-- The same, with the ports of those of this depth that stand before a place.
pub record IsFilling (ds : List Def) (depth_now place : ℕ) (table : List Ports) : Type 0 where
  pub below : IsTable ds depth_now table
  pub here : (k : ℕ) → k < place → k < length ds → depth (links_of ds) k ≡ depth_now → HasPorts ds table k
