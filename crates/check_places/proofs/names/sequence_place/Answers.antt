-- No code is left.
use Rattle.std.proofs.Common.{◌≡◌, length, nat_eq, ap, arith, ◌∙◌}
use Rattle.check_places.specs.First.{unless}
use Rattle.check_places.proofs.Rests.{no_code}
use Rattle.check_places.proofs.names.sequence_place.Goals as goal

pub returns : goal.returns
returns c =
    let t = c.loop-sequence-test.false in
    let l = c.loop-sequence.invariant.1 in
    (c.unless.ensures ∙ ap (unless (nat_eq (length c.args.codes.now) (length c.args.seqs.now))) c.broken-2.ensures)
    ∙ (no_code c.args.codes.now c.args.seqs.now c.loop-sequence.sequence (omega arith) l ∙ c.loop-sequence.invariant.0)
