use Rattle.algo_check.proofs.Leading.{each_leads, all_lead}
use Rattle.algo_check.proofs.link_laws.links_lead_to_definitions.Goals as goal

pub returns-clause-each : goal.returns-clause-each
returns-clause-each c = each_leads

pub returns-clause-all : goal.returns-clause-all
returns-clause-all c = all_lead
