use Rattle.algo_resolve.proofs.leads.+copy_lead.Given as goal

abbrev pub decreases-copy_lead : goal.decreases-copy_lead
decreases-copy_lead l = l.copy
