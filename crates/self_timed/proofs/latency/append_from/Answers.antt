use Rattle.std.proofs.Common.{◌∙◌, ◌++◌, List, ap, sym, true, false}
use Rattle.std.proofs.lemmas.List.{append-nil}
use Rattle.sequence_build_laws.specs.declared.Vertex.{Vertex}
use Rattle.self_timed.specs.Latency.{senses}
use Rattle.self_timed.specs.declared.latency.Latency.{Latency}
use Rattle.self_timed.proofs.Listing.{from_is}
use Rattle.self_timed.proofs.latency.append_from.Goals as goal

pub returns-then-not-senses : goal.returns-then-not-senses
returns-then-not-senses c =
    sym (append-nil c.args.list.now.items)
    ∙ ap (λ (l : List Latency). c.args.list.now.items ++ l)
    (sym (from_is c.args.vertices.now c.args.dates.now c.args.op c.index-vertices-op.result false c.requires.here
    c.index-vertices-op.is (c.if-not-senses.ensures ∙ ap (λ (x : Vertex). senses x.kind) (sym c.index-vertices-op.is))))

pub returns : goal.returns
returns c =
    c.in_ok-append_reached.ensures
    ∙ ap (λ (l : List Latency). c.args.list.now.items ++ l)
    (sym (from_is c.args.vertices.now c.args.dates.now c.args.op c.index-vertices-op.result true c.requires.here c.index-vertices-op.is
    (c.if-not-senses.ensures ∙ ap (λ (x : Vertex). senses x.kind) (sym c.index-vertices-op.is))))
