use Rattle.std.proofs.Common.{◌∙◌, ◌≤◌, List, ap, length, map, subst, sym}
use Rattle.std.specs.Prelude.{All}
use Rattle.schedule.specs.declared.Source.{Source}
use Rattle.comm_routing.specs.Draft.{drafted}
use Rattle.comm_routing.specs.Start.{reads_of}
use Rattle.comm_routing.proofs.Sites.{all_there, site_of}
use Rattle.comm_routing.proofs.draft.Draft.new.Goals as goal

pub all_reads-requires-clause-there : goal.all_reads-requires-clause-there
all_reads-requires-clause-there c = all_there c.args.flat.now c.vertices.ensures.valid c.vertices.result.now c.vertices.ensures.same

pub begin-requires-clause-site : goal.begin-requires-clause-site
begin-requires-clause-site c =
    site_of c.args.flat.now c.args.archi.now c.args.routes.now c.args.durations.now c.vertices.ensures.valid
    c.operators-operators.ensures.valid c.requires.routes c.requires.fits c.operations-operations.ensures.valid c.operations-operations.ensures.beside

pub begin-requires-clause-reads : goal.begin-requires-clause-reads
begin-requires-clause-reads c = c.as_slice.ensures.value ∙ c.in_ok-reads.ensures.reads ∙ ap (map reads_of) c.vertices.ensures.same

pub begin-requires-clause-short : goal.begin-requires-clause-short
begin-requires-clause-short c = subst (λ (l : List (List Source)). All (λ (r : List Source). length r ≤ 131072) l) (sym c.as_slice.ensures.value) c.in_ok-reads.ensures.short

pub returns : goal.returns
returns c = ap (drafted (record { flat = c.args.flat; archi = c.args.archi; routes = c.args.routes; durations = c.args.durations })) c.in_ok-progress.ensures.none
