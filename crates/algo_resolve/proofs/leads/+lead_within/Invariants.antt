use Rattle.algo_resolve.proofs.leads.+lead_within.Given as goal

abbrev pub decreases-lead_within : goal.decreases-lead_within
decreases-lead_within l = l.most
