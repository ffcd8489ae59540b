-- A read expression's ports are known, and its canonical text is read back.
use Rattle.std.proofs.lemmas.List.{length-map}
use Rattle.body_text.proofs.CanonicalReads.{ports_below, reads_back}
use Rattle.body_text.proofs.print.print_body.Goals as goal

pub print_expression-requires : goal.print_expression-requires
print_expression-requires c = ports_below _ _ _ (length-map c.args.ports.now (λ p. p.name)) c.requires

pub returns-in-Ok-clause-reads_back : goal.returns-in-Ok-clause-reads_back
returns-in-Ok-clause-reads_back c = reads_back _ _ c.requires

pub returns-in-Err-clause-reads_back : goal.returns-in-Err-clause-reads_back
returns-in-Err-clause-reads_back c = reads_back _ _ c.requires
