use Rattle.std.proofs.Common.{◌≡◌, ◌-◌, ℕ, None, Option, suc, map, sym, ap, ◌∙◌, arith}
use Rattle.algo_laws.specs.declared.Source.{Source}
use Rattle.wiring_laws.specs.Wiring.{lead_out, lead_source}
use Rattle.algo_resolve.specs.Rounds.{unit_view}
use Rattle.algo_resolve.proofs.LeadsByHops.{one-hop, then_lead}
use Rattle.algo_resolve.proofs.leads.+lead_within.Goals as goal

pub returns-in_err-next-in-Of : goal.returns-in_err-next-in-Of
returns-in_err-next-in-Of t c =
    let ws = map unit_view c.args.units.now in
    let most = c.args.most in
    let more : most ≡ suc (most - 1) = omega (arith, c.if-most-eq0.false) in
    c.from_residual.ensures
    ∙ sym (ap (lead_source (lead_out ws most)) c.in-Of.is ∙ ap (λ (n : ℕ). lead_out ws n c.in-Of.unit c.in-Of.port) more
    ∙ one-hop ws (most - 1) c.in-Of.unit c.in-Of.port ∙ ap (then_lead ws (most - 1)) (sym c.in_err-next-in-Of.ensures))

pub returns-in_ok-next-in-Of : goal.returns-in_ok-next-in-Of
returns-in_ok-next-in-Of t c =
    let ws = map unit_view c.args.units.now in
    let most = c.args.most in
    let more : most ≡ suc (most - 1) = omega (arith, c.if-most-eq0.false) in
    c.lead_within.ensures
    ∙ sym (ap (lead_source (lead_out ws most)) c.in-Of.is ∙ ap (λ (n : ℕ). lead_out ws n c.in-Of.unit c.in-Of.port) more
    ∙ one-hop ws (most - 1) c.in-Of.unit c.in-Of.port ∙ ap (then_lead ws (most - 1)) (sym c.in_ok-next-in-Of.ensures))
