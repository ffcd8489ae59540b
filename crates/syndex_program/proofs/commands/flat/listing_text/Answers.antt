use Rattle.std.proofs.Common.{ap}
use Rattle.std.specs.Prelude.{Ok}
use Rattle.std.proofs.lemmas.Result.{err_from_is_err_and}
use Rattle.syn_base.specs.Bytes.{Bytes}
use Rattle.algo_text.specs.declared.definition.Defs.{Defs}
use Rattle.algo_tree.specs.Tree.{Vertex}
use Rattle.flat_text.specs.Listing.{listing}
use Rattle.top_plans.proofs.Steps.{algorithm_stops, went_on}
use Rattle.top_plans.specs.Plan.{give}
use Rattle.top_plans.proofs.Makes.{gave, memory}
use Rattle.top_plans.specs.FlatOf.{flat_of}
use Rattle.top_plans.specs.Given.{written}
use Rattle.syndex_program.proofs.commands.flat.listing_text.Goals as goal

pub returns-in_err-algorithm-clause-makes : goal.returns-in_err-algorithm-clause-makes
returns-in_err-algorithm-clause-makes g c =
    let H = g.S.Shelf.held in
    let p = err_from_is_err_and c.from_residual.result c.from_residual.ensures.1 in
    rw (p.1, p.2) (algorithm_stops c.args.algorithm.now (H c.args.shelf.now) (H c.read_algorithm.new.shelf) c.in_err-algorithm.field-0.0 _ c.in_err-algorithm.ensures.reads)

pub returns-in_err-print_listing-clause-makes : goal.returns-in_err-print_listing-clause-makes
returns-in_err-print_listing-clause-makes g c =
    let H = g.S.Shelf.held in
    let p = err_from_is_err_and c.from_residual-in_err-print_listing.result c.from_residual-in_err-print_listing.ensures.1 in
    rw (p.1, p.2) (
    went_on c.args.algorithm.now (H c.args.shelf.now) (H c.read_algorithm.new.shelf) (H c.read_algorithm.new.shelf) c.in_ok-algorithm.algorithm
    (λ (defs : Defs) (main : Vertex). give (written (listing (flat_of main)))) _ c.in_ok-algorithm.ensures.reads (memory (H c.read_algorithm.new.shelf) _)
    )

pub returns-clause-makes : goal.returns-clause-makes
returns-clause-makes g c =
    let H = g.S.Shelf.held in
    went_on c.args.algorithm.now (H c.args.shelf.now) (H c.read_algorithm.new.shelf) (H c.read_algorithm.new.shelf) c.in_ok-algorithm.algorithm
    (λ (defs : Defs) (main : Vertex). give (written (listing (flat_of main)))) _ c.in_ok-algorithm.ensures.reads
    (gave (H c.read_algorithm.new.shelf) _ _ (ap (λ (x : Bytes). Ok (written x)) c.in_ok-print_listing.ensures))
