use Rattle.std.proofs.Common.{◌≡◌, ◌-◌, suc, sym, ap, ◌∙◌, arith}
use Rattle.wiring_laws.specs.Wiring.{feed_lead}
use Rattle.algo_resolve.proofs.LeadsByHops.{before, fed-by, fed-nowhere, later-copy}
use Rattle.algo_resolve.proofs.leads.+copy_lead.Goals as goal

pub returns-then-input-feeds : goal.returns-then-input-feeds
returns-then-input-feeds t c =
    sym (fed-nowhere c.args.feeds.now c.args.leads.now c.args.copy c.args.output c.in_ok-input.field-0 (sym c.in_ok-input.ensures) (omega (arith, c.if-input-feeds.true)))

pub returns-in-Fork : goal.returns-in-Fork
returns-in-Fork t c =
    let fs = c.args.feeds.now in
    let ls = c.args.leads.now in
    sym (fed-by fs ls c.args.copy c.args.output c.in_ok-input.field-0 (sym c.in_ok-input.ensures) c.index-feeds-input.result (omega (arith, c.if-input-feeds.false)) c.index-feeds-input.is
    ∙ ap (feed_lead (before fs ls c.args.copy) c.args.copy) c.in-Fork.is)

pub returns-in-Diffuse : goal.returns-in-Diffuse
returns-in-Diffuse t c =
    let fs = c.args.feeds.now in
    let ls = c.args.leads.now in
    sym (fed-by fs ls c.args.copy c.args.output c.in_ok-input.field-0 (sym c.in_ok-input.ensures) c.index-feeds-input.result (omega (arith, c.if-input-feeds.false)) c.index-feeds-input.is
    ∙ ap (feed_lead (before fs ls c.args.copy) c.args.copy) c.in-Diffuse.is)

pub returns-else-copy-eq0 : goal.returns-else-copy-eq0
returns-else-copy-eq0 t c =
    let fs = c.args.feeds.now in
    let ls = c.args.leads.now in
    let copy = c.args.copy in
    let more : copy ≡ suc (copy - 1) = omega (arith, c.if-copy-eq0.false) in
    c.copy_lead.ensures
    ∙ sym (fed-by fs ls copy c.args.output c.in_ok-input.field-0 (sym c.in_ok-input.ensures) c.index-feeds-input.result (omega (arith, c.if-input-feeds.false)) c.index-feeds-input.is
    ∙ ap (feed_lead (before fs ls copy) copy) c.in-Iterate.is
    ∙ later-copy fs ls copy (copy - 1) c.in-Iterate.outer c.in-Iterate.given more)
