use Rattle.std.proofs.Common.{◌≡◌, ◌++◌, ◌∷◌, [], take, drop, map, None, cond}
use Rattle.algo_rules.specs.declared.AlgoCause.TheVariants.{BadCase}
use Rattle.algo_rules.specs.Links.{fault, first_of}
use Rattle.algo_rules.specs.Ports.{ports_of}
use Rattle.algo_rules.specs.Frontiers.{fits, case_faults, switch_fault}
use Rattle.body_check.proofs.switch.check_switch.Given as goal

-- the cases that are left decide
abbrev pub invariant-loop-at : goal.invariant-loop-at
invariant-loop-at l =
    first_of (case_faults (ports_of l.switch.defs.now) l.switch.ins.now l.switch.outs.now (map (λ c. c.value) (take l.at l.switch.cases.now)) (drop l.at l.switch.cases.now)
    ++ cond (fits l.switch.ins.now l.switch.outs.now (ports_of l.switch.defs.now l.switch.otherwise.now)) None (fault l.switch.otherwise_line BadCase) ∷ [])
    ≡ switch_fault (ports_of l.switch.defs.now) l.switch.ins.now l.switch.outs.now l.switch.cases.now l.switch.otherwise.now l.switch.otherwise_line
