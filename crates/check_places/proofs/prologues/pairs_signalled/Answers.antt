-- The pairs before a reading, and its own.
use Rattle.std.proofs.Common.{◌≡◌, ℕ, ◌++◌, get_or, ap, ◌∙◌}
use Rattle.std.proofs.lemmas.Option.{slice_get-get_or}
use Rattle.sequence_build_laws.specs.Blocks.{repeated}
use Rattle.program_tables.specs.declared.readings.Reading.{Reading}
use Rattle.check_places.proofs.ByReading.{with_it, without_it}
use Rattle.check_places.proofs.prologues.pairs_signalled.Goals.{then-reading-sequence+in_ok-push_repeated, else-reading-sequence}
use Rattle.check_places.proofs.prologues.pairs_signalled.Goals as goal

pub loop-pair-preserved : goal.loop-pair-preserved
loop-pair-preserved c =
    let none : Reading = record { buffer = 0; sequence = 0 } in
    let pair = c.loop-pair.pair in
    let there = slice_get-get_or c.args.found.now pair none c.loop-pair-test.true in
    elim c.if-reading-sequence.branch [
      | then-reading-sequence+in_ok-push_repeated w ↦ with_it c.args.program.now c.args.found.now c.requires c.args.sequence pair (get_or c.args.found.now pair none) there c.loop-pair.pairs.items
          c.if-reading-sequence.pairs.items w.if-reading-sequence.true c.loop-pair.invariant
          ((λ i. (w.pairs-is i).items) ∙ (w.in_ok-push_repeated.ensures ∙ ap (λ (n : ℕ). c.loop-pair.pairs.items ++ repeated pair n) w.depth_of.ensures))
      | else-reading-sequence w ↦ (λ i. (w.pairs-is i).items)
          ∙ without_it c.args.program.now c.args.found.now c.requires c.args.sequence pair (get_or c.args.found.now pair none) there c.loop-pair.pairs.items
          w.if-reading-sequence.false c.loop-pair.invariant
    ]
