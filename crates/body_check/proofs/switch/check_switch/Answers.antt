use Rattle.std.proofs.Common.{rules, ap, ◌≡◌, ◌<◌, ◌∷◌, [], length, add-one, sym, ◌∙◌, arith, cond, None}
use Rattle.text_lines.specs.Refusals.{refusal}
use Rattle.algo_rules.specs.declared.AlgoCause.TheVariants.{BadCase}
use Rattle.algo_rules.specs.Links.{fault}
use Rattle.algo_rules.specs.Ports.{ports_of}
use Rattle.algo_rules.specs.Frontiers.{fits, switch_fault}
use Rattle.algo_rules.specs.declared.ports.Ports.{Ports}
use Rattle.body_check.proofs.Cases.{refused_here, passed_here, only_rest, fits_last, fails_last}
use Rattle.body_check.proofs.Places.{one_more, case_at, otherwise_at, ports_here}
use Rattle.body_check.proofs.switch.check_switch.Goals as goal

pub bounds-places-at : goal.bounds-places-at
bounds-places-at c = let more =
    one_more c.args.switch.now.defs.now c.args.switch.now.table.now c.args.switch.now.otherwise.now c.args.switch.now.cases.now
    c.args.switch.now.places.now c.requires.placed in omega (arith, more)

pub bounds-places-cases : goal.bounds-places-cases
bounds-places-cases c = let more =
    one_more c.args.switch.now.defs.now c.args.switch.now.table.now c.args.switch.now.otherwise.now c.args.switch.now.cases.now
    c.args.switch.now.places.now c.requires.placed in omega (arith, more)

pub ports_at-ports-requires : goal.ports_at-ports-requires
ports_at-ports-requires c =
    (case_at c.args.switch.now.defs.now c.args.switch.now.table.now c.args.switch.now.otherwise.now c.args.switch.now.cases.now
    c.args.switch.now.places.now c.loop-at.at c.index-cases-at.result c.requires.placed (omega arith)).in_table

pub ports_at-ports-requires-2 : goal.ports_at-ports-requires-2
ports_at-ports-requires-2 c =
    (otherwise_at c.args.switch.now.defs.now c.args.switch.now.table.now c.args.switch.now.otherwise.now c.args.switch.now.cases.now c.args.switch.now.places.now c.requires.placed).in_table

pub returns-in_err-check_case : goal.returns-in_err-check_case
returns-in_err-check_case c =
    let ds = c.args.switch.now.defs.now in
    let at = c.loop-at.at in
    let case = c.index-cases-at.result in
    let below : at < length c.args.switch.now.cases.now = omega arith in
    let ports = ports_here ds c.args.switch.now.table.now c.args.switch.now.otherwise.now c.args.switch.now.cases.now
    c.args.switch.now.places.now at case c.ports_at-ports.result.now c.requires.placed below c.index-cases-at.is c.ports_at-ports.ensures in
    let last = cond (fits c.args.switch.now.ins.now c.args.switch.now.outs.now (ports_of ds c.args.switch.now.otherwise.now)) None (fault c.args.switch.now.otherwise_line BadCase) in
    let told = refused_here (ports_of ds) c.args.switch.now.ins.now c.args.switch.now.outs.now c.args.switch.now.cases.now at
    (last ∷ []) case c.ports_at-ports.result.now below c.index-cases-at.is ports c.in_err-check_case.field-0.0
    (switch_fault (ports_of ds) c.args.switch.now.ins.now c.args.switch.now.outs.now c.args.switch.now.cases.now
    c.args.switch.now.otherwise.now c.args.switch.now.otherwise_line) c.loop-at.invariant c.in_err-check_case.ensures in
    search (rules, told)

pub loop-at-preserved : goal.loop-at-preserved
loop-at-preserved c =
    let ds = c.args.switch.now.defs.now in
    let at = c.loop-at.at in
    let case = c.index-cases-at.result in
    let below : at < length c.args.switch.now.cases.now = omega arith in
    let ports = ports_here ds c.args.switch.now.table.now c.args.switch.now.otherwise.now c.args.switch.now.cases.now
    c.args.switch.now.places.now at case c.ports_at-ports.result.now c.requires.placed below c.index-cases-at.is c.ports_at-ports.ensures in
    let last = cond (fits c.args.switch.now.ins.now c.args.switch.now.outs.now (ports_of ds c.args.switch.now.otherwise.now)) None (fault c.args.switch.now.otherwise_line BadCase) in
    rw add-one (passed_here (ports_of ds) c.args.switch.now.ins.now c.args.switch.now.outs.now c.args.switch.now.cases.now at
    (last ∷ []) case c.ports_at-ports.result.now below c.index-cases-at.is ports
    (switch_fault (ports_of ds) c.args.switch.now.ins.now c.args.switch.now.outs.now c.args.switch.now.cases.now
    c.args.switch.now.otherwise.now c.args.switch.now.otherwise_line) c.loop-at.invariant c.in_ok-check_case.ensures)

pub returns-then-not-fits : goal.returns-then-not-fits
returns-then-not-fits c =
    let ds = c.args.switch.now.defs.now in
    let none = fault c.args.switch.now.otherwise_line BadCase in
    let placed = otherwise_at ds c.args.switch.now.table.now c.args.switch.now.otherwise.now c.args.switch.now.cases.now c.args.switch.now.places.now c.requires.placed in
    let ports : c.ports_at-ports-2.result.now ≡ ports_of ds c.args.switch.now.otherwise.now = c.ports_at-ports-2.ensures ∙ placed.ports in
    let fails = c.if-not-fits.ensures ∙ ap (λ (p : Ports). fits c.args.switch.now.ins.now c.args.switch.now.outs.now p) ports in
    let last = fits c.args.switch.now.ins.now c.args.switch.now.outs.now (ports_of ds c.args.switch.now.otherwise.now) in
    rw c.refused_at.ensures (sym c.loop-at.invariant ∙ only_rest (ports_of ds) c.args.switch.now.ins.now c.args.switch.now.outs.now c.args.switch.now.cases.now c.loop-at.at (cond last None none ∷ []) c.loop-at-test.false
    ∙ fails_last last (refusal c.args.switch.now.otherwise_line BadCase) fails)

pub returns : goal.returns
returns c =
    let ds = c.args.switch.now.defs.now in
    let none = fault c.args.switch.now.otherwise_line BadCase in
    let placed = otherwise_at ds c.args.switch.now.table.now c.args.switch.now.otherwise.now c.args.switch.now.cases.now c.args.switch.now.places.now c.requires.placed in
    let ports : c.ports_at-ports-2.result.now ≡ ports_of ds c.args.switch.now.otherwise.now = c.ports_at-ports-2.ensures ∙ placed.ports in
    let holds = c.if-not-fits.ensures ∙ ap (λ (p : Ports). fits c.args.switch.now.ins.now c.args.switch.now.outs.now p) ports in
    let last = fits c.args.switch.now.ins.now c.args.switch.now.outs.now (ports_of ds c.args.switch.now.otherwise.now) in
    sym c.loop-at.invariant ∙ only_rest (ports_of ds) c.args.switch.now.ins.now c.args.switch.now.outs.now c.args.switch.now.cases.now c.loop-at.at (cond last None none ∷ []) c.loop-at-test.false
    ∙ fits_last last none holds
