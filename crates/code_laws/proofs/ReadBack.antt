-- The text of a well-formed program within its limits is read as the program.
use Rattle.std.proofs.Common.{◌≡◌, ℕ, ◌+◌, ◌<◌, true, List, length, Some, None, sym, ap, arith, ◌∙◌}
use Rattle.std.specs.Prelude.{slice_get}
use Rattle.std.proofs.lemmas.Option.{slice_get_within, get_or_from_slice_get, same_Some}
use Rattle.sequence_build.specs.Limit.{program_limit}
use Rattle.sequence_build_laws.specs.Graph.{Graph}
use Rattle.sequence_build_laws.specs.FlatValid.{is_flat}
use Rattle.sequence_build_laws.specs.Archi.{Architecture}
use Rattle.sequence_build_laws.specs.Sequences.{sequences}
use Rattle.sequence_build_laws.specs.declared.Buffer.{Buffer}
use Rattle.sequence_build_laws.specs.declared.Program.{Program}
use Rattle.sequence_build_laws.specs.WellFormed.{IsOrder}
use Rattle.sequence_build_laws.specs.Built.{program_of, order_of}
use Rattle.sequence_build_laws.proofs.Whole.{built_are_well_formed}
use Rattle.code_laws.specs.ReadsBack.{ReadsBack, IsNamedArchi, WellFormedReadBack, BuiltReadBack}
use Rattle.code_laws.proofs.ListPlaces.{map_got, all_there}
use Rattle.code_laws.proofs.Named.{are_named}
use Rattle.code_laws.proofs.Declared.{size_of}
use Rattle.code_laws.proofs.Processors.{places_of}
use Rattle.code_laws.proofs.Formed as formed
use Rattle.code_laws.proofs.Lengths as lengths
use Rattle.code_laws.proofs.Whole.{owner, size, read_whole}
use Rattle.code_laws.proofs.Limits.{is_signal, opens_alone, within, few, not_limited}

by_order : (p : Program) (g : Graph) (a : Architecture) (order : List ℕ) → is_flat g ≡ true → IsNamedArchi a
    → IsOrder p g (sequences a) (length a.media) order → program_limit p (length a.media) ≡ None → ReadsBack p g a
by_order p g a order flat archi h limits =
    let names = are_named g a flat archi.valid archi.named in
    let low = within p (length a.media) limits in
    let bounds = few p (length a.media) low.words_low (lengths.elements p g a order h flat) (λ b l. ((h.buffers b l).some_place, (h.buffers b l).few_places)) in
    read_whole g a names p
    (record {
      few_pairs = bounds.few_pairs;
      few_buffers = bounds.few_buffers;
      declarable = bounds.declarable;
      owners = λ i x e. ap (owner p) (let k : 0 + i ≡ i = omega arith in k) ∙ get_or_from_slice_get p.pairs i x 0 e;
      sizes = λ i x e. ap (size p) (let k : 0 + i ≡ i = omega arith in k) ∙ ap size_of (get_or_from_slice_get p.buffers i x _ e);
      readable = formed.seqs_readable p g a order h bounds.few_pairs bounds.few_buffers;
    })
    pair_low buffer_low h.sequences
    (not_limited p (length a.media) low
    (all_there opens_alone p.seqs (λ s c e. all_there is_signal c.prologue
    (λ i x f. ap is_signal (formed.opens p g a order h bounds.few_pairs bounds.few_buffers s i c x e f).is))))
  where
    on_low : (b o : ℕ) → b < length p.buffers → formed.OnOperator p g a order h b o → o < length a.operators
    on_low b o l it =
        let one = h.buffers b l in
        let w = formed.written p g a order h b l in
        let same = formed.same_operator p g a order h b o _ it w in
        let c = formed.operator_low p g a order h _ _ one.instr one.stands in omega (arith, same, c)

    pair_low : (i x : ℕ) → slice_get p.pairs i ≡ Some x → x < length a.operators
    pair_low i x e =
        let q = formed.pair_of p g a order h i (slice_get_within p.pairs i x e) in
        let same : q.owner ≡ x = same_Some q.owner x (sym q.owned ∙ e) in
        let l = on_low _ q.owner q.below q.on in omega (arith, l, same)

    buffer_low : (i x : ℕ) → slice_get (places_of p.buffers) i ≡ Some x → x < length a.operators
    buffer_low i x e =
        let y = map_got (λ (z : Buffer). z.operator) p.buffers i x e in
        on_low i x (slice_get_within p.buffers i y.0 y.1) (record { buffer = y.0; stands = y.1; on = y.2 })

pub well_formed_read_back : WellFormedReadBack
well_formed_read_back p g a flat archi h limits = by_order p g a h.0 flat archi h.1 limits

pub built_read_back : BuiltReadBack
built_read_back g a ticks s flat archi deep valid limits = by_order (program_of g a s) g a (order_of g a s) flat archi (built_are_well_formed g a ticks s flat archi.valid deep valid) limits
