-- Definitions with the places of those that each names, and with their ports.
use Rattle.std.specs.Prelude.{◌≡◌, List, map, None}
use Rattle.std.specs.List.{All}
use Rattle.algo_laws.specs.declared.Def.{Def}
use Rattle.algo_laws.specs.RuleLinks.{links_of, unknown}
use Rattle.algo_laws.specs.Ports.{ports_of}
use Rattle.algo_laws.specs.WellRead.{IsWellRead}
use Rattle.algo_laws.specs.declared.Ports.{Ports}
use Rattle.algo_laws.specs.ReferenceLinks.{Links}

pub record IsReady (ds : List Def) (links : Links) (table : List Ports) : Type 0 where
  pub read : All (λ d. IsWellRead d.body) ds
  pub known : unknown ds ≡ None
  pub linked : links ≡ links_of ds
  pub ports : table ≡ map (λ d. ports_of ds d.name) ds
