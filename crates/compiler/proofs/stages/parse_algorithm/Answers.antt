use Rattle.std.proofs.lemmas.Result.{err_from_is_err_and}
use Rattle.accepted_laws.proofs.Whole.{have_periods}
use Rattle.compiler.proofs.Sizes.{few_definitions, few_lines}
use Rattle.compiler.proofs.Refused.{by_definitions}
use Rattle.compiler.proofs.stages.parse_algorithm.Goals as goal

pub read_algo-requires : goal.read_algo-requires
read_algo-requires c = few_lines c.args.text.now c.requires

pub elaborate-requires-clause-read : goal.elaborate-requires-clause-read
elaborate-requires-clause-read c = c.accepted_are_well_read.ensures c.args.text.now c.in_ok-defs.defs c.in_ok-defs.ensures

pub elaborate-requires-clause-few : goal.elaborate-requires-clause-few
elaborate-requires-clause-few c =
    let defs = c.in_ok-defs.defs in
    few_definitions c.args.text.now defs c.requires (c.canonical_text_reads_back.ensures.lines c.args.text.now defs c.in_ok-defs.ensures)

pub elaborate-requires-clause-periods : goal.elaborate-requires-clause-periods
elaborate-requires-clause-periods c =
    let defs = c.in_ok-defs.defs in
    have_periods defs.version defs.defs (c.accepted_have_periods.ensures c.args.text.now defs c.in_ok-defs.ensures)

pub returns-in_err-tree : goal.returns-in_err-tree
returns-in_err-tree c =
    let p = err_from_is_err_and c.from_residual-in_err-tree.result c.from_residual-in_err-tree.ensures.1 in
    rw (p.1, p.2) (by_definitions c.args.text.now c.in_ok-defs.defs c.in_err-tree.field-0.0 c.in_ok-defs.ensures c.in_err-tree.ensures)

pub returns : goal.returns
returns c = record {
  says = c.in_ok-defs.ensures;
  resolves = c.in_ok-tree.ensures;
}
