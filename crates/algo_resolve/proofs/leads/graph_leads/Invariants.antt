use Rattle.std.proofs.Common.{◌≡◌, ◌++◌, drop, map}
use Rattle.wiring_laws.specs.Wiring.{lead}
use Rattle.algo_resolve.specs.Rounds.{unit_view}
use Rattle.algo_resolve.proofs.leads.graph_leads.Given as goal

abbrev pub invariant-loop-source : goal.invariant-loop-source
invariant-loop-source l =
    l.leads.items ++ map (lead (map unit_view l.units)) (drop l.source-index l.sources) ≡ map (lead (map unit_view l.units)) l.sources
