use Rattle.std.proofs.Common.{◌∙◌}
use Rattle.std.specs.Prelude.{codes}
use Rattle.clap.specs.Matches.{found_of}
use Rattle.clap.proofs.WalkLemmas.{first_value-rows}
use Rattle.lab_words.proofs.given.values_in.Goals as goal

pub returns : goal.returns
returns c =
    let f = found_of c.args.matches.now in λ i. record {
      algorithm = (c.get_str-algorithm.ensures ∙ first_value-rows f (codes "algorithm")) i;
      architecture = (c.get_str-architecture.ensures ∙ first_value-rows f (codes "architecture")) i;
      macros = (c.get_str-macros.ensures ∙ first_value-rows f (codes "code")) i;
      sensors = (c.get_str-sensors.ensures ∙ first_value-rows f (codes "sensors")) i;
      durations = (c.get_str-durations.ensures ∙ first_value-rows f (codes "durations")) i;
      reactions = (c.get_str-reactions.ensures ∙ first_value-rows f (codes "reactions")) i;
      tries = (c.get_str-tries.ensures ∙ first_value-rows f (codes "tries")) i;
      seed = (c.get_str-seed.ensures ∙ first_value-rows f (codes "seed")) i;
      goal = (c.get_str-goal.ensures ∙ first_value-rows f (codes "for")) i;
    }
