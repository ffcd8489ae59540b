use Rattle.std.proofs.Common.{◌≡◌, ℕ, List, map, ap, ◌∙◌}
use Rattle.std.specs.List.{flat_map}
use Rattle.algo_laws.specs.declared.Feed.{Feed}
use Rattle.algo_laws.specs.declared.Give.{Give}
use Rattle.algo_laws.specs.Tree as tree
use Rattle.algo_laws.specs.declared.FrontierLine.{FrontierLine}
use Rattle.algo_laws.specs.Resolved.{feed_of, give_by}
use Rattle.algo_laws.specs.declared.Ports.{Ports}
use Rattle.algo_resolve.proofs.kind.repeat_kind.Goals as goal

of_lines : (copies : ℕ) (inner own : Ports) (ks ls lines : List FrontierLine) (feeds : List Feed) (gives : List Give) → ks ≡ lines → ls ≡ lines
    → feeds ≡ map (λ p. feed_of inner own ks p.name) inner.ins → ((outer : Ports) → gives ≡ flat_map (λ l. give_by inner outer l.frontier) ls)
    → tree.repeat copies feeds gives ≡ tree.repeat copies (map (λ p. feed_of inner own lines p.name) inner.ins) (flat_map (λ l. give_by inner own l.frontier) lines)
of_lines copies inner own ks ls lines feeds gives first second fed given =
    ap (λ (fs : List Feed). tree.repeat copies fs gives) (fed ∙ ap (λ (ms : List FrontierLine). map (λ p. feed_of inner own ms p.name) inner.ins) first)
    ∙ ap (λ (gs : List Give). tree.repeat copies (map (λ p. feed_of inner own lines p.name) inner.ins) gs)
    (given own ∙ ap (λ (ms : List FrontierLine). flat_map (λ l. give_by inner own l.frontier) ms) second)

pub returns : goal.returns
returns c =
    of_lines c.args.copies c.args.inner.now c.args.own.now _ _ c.args.lines.now _ _
    c.as_slice.ensures c.as_slice-2.ensures c.in_ok-feeds.ensures c.in_ok-gives.ensures
