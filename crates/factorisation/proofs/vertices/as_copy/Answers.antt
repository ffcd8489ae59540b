use Rattle.std.proofs.Common.{◌≡◌, arith, ap, ◌∙◌, length, map}
use Rattle.algo_tree.specs.Well.{fork_names}
use Rattle.flat_laws.proofs.Lines.{many-lines}
use Rattle.factorisation.proofs.vertices.as_copy.Goals as goal

pub copy_ins-requires-clause-few : goal.copy_ins-requires-clause-few
copy_ins-requires-clause-few c =
    let many : length (fork_names (map (λ f. f.now) c.args.lines.now)) ≡ length (fork_names c.args.feeds.now) = ap (λ fs. length (fork_names fs)) c.requires.lines ∙ many-lines c.args.feeds.now in
    omega (arith, many, c.requires.few)
