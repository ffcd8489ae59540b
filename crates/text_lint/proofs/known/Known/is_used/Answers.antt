use Rattle.std.proofs.Common.{List, Option, ℕ, ap, ◌∙◌}
use Rattle.std.specs.Prelude.{is_some}
use Rattle.std.specs.Str.{bytes_eq}
use Rattle.algo_rules.specs.Among.{is_among}
use Rattle.algo_rules.specs.declared.Def.{Def}
use Rattle.archi_reader.proofs.Places.{some_place}
use Rattle.text_lint.specs.Named.{named_in}
use Rattle.text_lint.proofs.known.Known.is_used.Goals as goal

pub returns : goal.returns
returns c =
    c.is_some.ensures
    ∙ ap (λ (o : Option ℕ). is_some o) c.find.ensures
    ∙ some_place (bytes_eq c.args.name.now) c.self.inside.used
    ∙ c.self.invariant.same c.args.name.now
    ∙ ap (λ (ds : List Def). is_among c.args.name.now (named_in ds)) c.self.view_is
