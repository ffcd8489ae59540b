use Rattle.std.proofs.Common.{arith, drop, length-append}
use Rattle.std.proofs.lemmas.List.{length-drop, length-take-le}
use Rattle.graph_code.proofs.Outputs.{has_put}
use Rattle.graph_code.proofs.fire.run_output.Goals as goal

pub returns : goal.returns
returns c =
    let part = c.run.new.store in
    let rest = drop c.end.result c.args.store.now in
    let same = c.run.auto.store in
    let cut = length-take-le c.end.result c.args.store.now (omega (arith, c.end.ensures, c.requires.code)) in
    has_put c.args.output.now c.end.result c.args.store.now part c.put_words.new.store c.end.ensures (omega (arith, same, cut))
    (omega (arith, c.end.ensures, c.requires.code)) c.requires.at c.run.ensures.given c.run.ensures.values
    (omega (arith, same, cut, length-append part rest, length-drop c.end.result c.args.store.now, c.end.ensures, c.requires.code)) c.put_words.ensures
