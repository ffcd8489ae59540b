use Rattle.std.proofs.Common.{◌≡◌, ◌++◌, drop, map}
use Rattle.wiring_laws.specs.Wiring.{give_lead}
use Rattle.algo_resolve.proofs.leads.repeat_leads.Given as goal

abbrev pub invariant-loop-give : goal.invariant-loop-give
invariant-loop-give l =
    l.all.items ++ map (give_lead l.copies l.feeds l.leads) (drop l.give-index l.gives) ≡ map (give_lead l.copies l.feeds l.leads) l.gives
