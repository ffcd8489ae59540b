use Rattle.std.proofs.Common.{List, ℕ, map, ap, ◌∙◌}
use Rattle.macro_code.specs.declared.numbered.Size.{Size}
use Rattle.macro_code.specs.ReadText.{at_place, no_size}
use Rattle.code_reader.specs.Views.{code_of}
use Rattle.code_reader.proofs.Wholes.{same_limited}
use Rattle.code_reader.proofs.reader.Reader.program_at_places.Goals as goal

pub returns : goal.returns
returns c =
    let sizes = c.in_ok-sizes_in_order.ensures ∙ ap (λ (xs : List Size). map (at_place xs no_size) c.args.buffers.now) c.as_slice.ensures.value in
    let owners = c.in_ok-owners_in_order.ensures ∙ ap (λ (xs : List ℕ). map (at_place xs 0) c.args.pairs.now) c.as_slice-2.ensures.value in
    same_limited c.args.self.now.sizes.items _ c.args.self.now.owners.items _ c.args.self.now.buffers.items c.args.self.now.pairs.items c.args.buffers.now c.args.pairs.now _ _ _ _ _
    c.requires.buffers c.requires.pairs sizes owners (ap (map code_of) c.as_slice-3.ensures.value) c.media.ensures c.program_in_limits.ensures
