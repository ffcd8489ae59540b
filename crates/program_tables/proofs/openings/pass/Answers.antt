use Rattle.std.proofs.Common.{◌≡◌, ℕ, ◌+◌, ◌<◌, length, drop, sym, ap, subst, arith, ◌∙◌}
use Rattle.std.specs.Prelude.{slice_index, slice_set}
use Rattle.executive_program.specs.Instructions.{depth_of}
use Rattle.executive_program.specs.Places.{reader}
use Rattle.program_tables.specs.declared.readings.Reading.{Reading}
use Rattle.program_tables.specs.Openings.{IsPassed, opens_next}
use Rattle.program_tables.proofs.Opened.{passes, stops}
use Rattle.program_tables.proofs.openings.pass.Goals as goal

pub returns-then-not-opens_next-clause-closed : goal.returns-then-not-opens_next-clause-closed
returns-then-not-opens_next-clause-closed c _ all =
    let p = c.args.program.now in
    let same : (reader p c.args.pair).sequence ≡ c.args.reading.sequence = ap (λ (r : Reading). r.sequence) (sym c.requires.here) in
    let many : c.depth_of-count.result ≡ depth_of p (reader p c.args.pair).buffer = c.depth_of-count.ensures ∙ ap (λ (r : Reading). depth_of p r.buffer) c.requires.here in
    let rest = c.split_at.ensures.back ∙ ap (drop (slice_index c.args.passed.now c.args.reading.sequence)) c.prologue_of.ensures in
    let low : c.args.reading.sequence < length c.args.passed.now = (let l = c.if-sequence-passed.false in omega arith) in
    stops p c.args.pair c.args.passed.now c.requires.before c.args.reading.sequence same low c.requires.within
    ((λ i. opens_next c.args.pair (sym many i) (sym rest i)) ∙ sym c.opens_next.ensures ∙ c.if-not-opens_next.true) all

pub returns-clause-opened : goal.returns-clause-opened
returns-clause-opened c _ =
    let p = c.args.program.now in
    let same : (reader p c.args.pair).sequence ≡ c.args.reading.sequence = ap (λ (r : Reading). r.sequence) (sym c.requires.here) in
    let many : c.depth_of-count.result ≡ depth_of p (reader p c.args.pair).buffer = c.depth_of-count.ensures ∙ ap (λ (r : Reading). depth_of p r.buffer) c.requires.here in
    let rest = c.split_at.ensures.back ∙ ap (drop (slice_index c.args.passed.now c.args.reading.sequence)) c.prologue_of.ensures in
    let low : c.args.reading.sequence < length c.args.passed.now = (let l = c.if-sequence-passed.false in omega arith) in
    subst (λ (n : ℕ). IsPassed p (c.args.pair + 1) (slice_set c.args.passed.now c.args.reading.sequence (slice_index c.args.passed.now c.args.reading.sequence + n))) (sym many)
    (passes p c.args.pair c.args.passed.now c.requires.before c.args.reading.sequence same low
    ((λ i. opens_next c.args.pair (sym many i) (sym rest i)) ∙ sym c.opens_next.ensures ∙ c.if-not-opens_next.false))
