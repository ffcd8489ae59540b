use Rattle.std.proofs.Common.{subst}
use Rattle.algo_text.specs.declared.definition.Body.{Body}
use Rattle.algo_print.specs.Canonical.{IsPrintable}
use Rattle.algo_print.proofs.print.print_definition.Goals as goal

pub print_function-requires : goal.print_function-requires
print_function-requires c = rw (c.as_slice-in-Function.ensures, c.as_slice-in-Function-2.ensures) (subst (λ (b : Body). IsPrintable b) c.in-Function.is c.requires)
