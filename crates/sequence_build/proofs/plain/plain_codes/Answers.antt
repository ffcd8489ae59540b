use Rattle.std.proofs.Common.{◌≡◌, List, length, ap, subst, arith, ◌∙◌}
use Rattle.std.specs.List.{flat_map}
use Rattle.std.specs.Prelude.{IfOk}
use Rattle.sequence_build_laws.specs.Acts.{acts_of}
use Rattle.sequence_build_laws.specs.declared.SeqCode.{SeqCode}
use Rattle.sequence_build_laws.specs.Serial.{projection}
use Rattle.sequence_build.specs.Numbers.{number_in}
use Rattle.sequence_build.specs.Plain.{codes_from, steps_of}
use Rattle.sequence_build.proofs.Assembling.{plain_loops}
use Rattle.sequence_build.proofs.Covering.{few_operations}
use Rattle.sequence_build.proofs.plain.plain_codes.Goals as goal

pub codes_of-requires : goal.codes_of-requires
codes_of-requires c =
    let many = c.in_ok-loops.ensures.many in
    let made = ap (λ l. length l) c.as_slice.ensures.value in
    let given = ap (λ l. length l) c.deref.ensures.value in
    omega arith

pub returns : goal.returns
returns c =
    let g = c.args.flat.now in
    let same = c.vertices.ensures.same in
    let decisions = c.as_slice-3.ensures in
    let seqs = c.as_slice.ensures.value ∙ c.in_ok-sequences.ensures in
    let many : length c.in_ok-loops.loops.items
    ≡ length c.in_ok-sequences.sequences.items =
    (let e = c.in_ok-loops.ensures.many in let f = ap (λ l. length l) c.as_slice.ensures.value in omega arith) in
    subst (λ (l : List SeqCode). IfOk c.codes_of.result (λ codes. codes ≡ l))
    (ap (codes_from c.in_ok-loops.loops.items) (c.deref.ensures.value ∙ c.in_ok-sequences.ensures)
    ∙ plain_loops g c.args.archi.now c.args.schedule.now (few_operations g c.vertices.ensures.valid) c.requires.covered
    c.args.places.now c.in_ok-numbers.numbers.items c.in_ok-loops.loops.items c.requires.places c.in_ok-numbers.ensures
    (many ∙ ap (λ l. length l) c.in_ok-sequences.ensures)
    (λ k h. c.in_ok-loops.ensures.each k h
    ∙ (λ i. projection (flat_map (steps_of (same i) (seqs i) (number_in (length (same i)) (c.as_slice-2.ensures.value i) (c.in_ok-copies.ensures.same i))) (acts_of (decisions i))) k)))
    c.codes_of.ensures
