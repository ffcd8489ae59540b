use Rattle.std.proofs.Common.{map, sym, subst}
use Rattle.body_text.specs.Canonical.{IsRead}
use Rattle.algo_text.specs.declared.definition.Output.{Output}
use Rattle.algo_print.proofs.blocks.print_outputs.Goals as goal

pub print_output-requires : goal.print_output-requires
print_output-requires c = subst (λ (o : Output). IsRead (map (λ p. p.name) c.args.ins.now) o.formula) (sym c.output-item.is)
    (c.requires c.loop-output.output-index c.output-item.result c.loop-output-test.true)
