use Rattle.macro_check.proofs.carrying.+follow_all.Given as goal

abbrev pub decreases-follow_all : goal.decreases-follow_all
decreases-follow_all l = l.hops
