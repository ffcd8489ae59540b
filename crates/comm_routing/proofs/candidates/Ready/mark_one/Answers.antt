use Rattle.std.proofs.Common.{◌+◌, List, ℕ, ap, arith, false, length, sym, take, ◌∙◌}
use Rattle.std.specs.Prelude.{slice_set}
use Rattle.std.proofs.lemmas.List.{with_items_is}
use Rattle.comm_routing.specs.Ascending.{with_place, without_place}
use Rattle.comm_routing.specs.declared.candidates.Ready.{Ready}
use Rattle.comm_routing.proofs.Ordered.{at_flag, listed_with, listed_without, room, unlike}
use Rattle.comm_routing.proofs.candidates.Ready.mark_one.Goals as goal
use Rattle.comm_routing.proofs.candidates.Ready.mark_one.Goals.{then-is_ready, else-is_ready}

pub put_in-self-requires : goal.put_in-self-requires
put_in-self-requires c =
    let s = c.args.self.now in
    let a = c.requires.listed.flags in
    let b = c.requires.listed.list in
    let n = c.requires.listed.count in
    let op = c.requires.operation in
    let long = ap length c.as_mut_slice.ensures.value in
    let unset = at_flag s.flags.items c.args.op false c.index.result.now (omega arith) ∙ sym c.index.ensures
    ∙ unlike c.is_candidate-is_ready.result c.index.result.now c.if-is_ready-index.false c.if-is_ready.true in
    let free = room s.flags.items s.list.items s.count c.args.op c.requires.listed.ready (omega arith) (omega arith) (omega arith) unset in
    omega arith

pub returns-clause-listed : goal.returns-clause-listed
returns-clause-listed c =
    let s = c.args.self.now in
    let a = c.requires.listed.flags in
    let b = c.requires.listed.list in
    let op = c.requires.operation in
    elim c.if-is_ready.branch [
      | then-is_ready w ↦ (
          let unset = at_flag s.flags.items c.args.op false c.index.result.now (omega arith) ∙ sym c.index.ensures
          ∙ unlike c.is_candidate-is_ready.result c.index.result.now c.if-is_ready-index.false w.if-is_ready.true in
          let value = w.as_mut_slice.ensures.value in
          let size = w.put_in-self.ensures.size in
          let long = w.as_mut_slice.ensures.len in
          let list = ap (λ (r : Ready). r.list.items) w.self-is ∙ with_items_is s.list w.put_in-self.new.ready (omega arith) in
          listed_with (length c.args.vertices.now) c.args.op s _ op c.requires.listed unset
          (ap (λ (r : Ready). r.flags.items) w.self-is ∙ ap (slice_set s.flags.items c.args.op) w.if-is_ready.true)
          (ap length list ∙ size ∙ ap length value)
          (w.self2-is ∙ w.put_in-self.ensures.count)
          (ap (take (s.count + 1)) list ∙ w.put_in-self.ensures.ready ∙ ap (λ (l : List ℕ). with_place c.args.op (take s.count l)) value))
      | else-is_ready w ↦ (
          let value = w.as_mut_slice-else-is_ready.ensures.value in
          let size = w.take_out-self.ensures.size in
          let long = w.as_mut_slice-else-is_ready.ensures.len in
          let less = w.take_out-self.ensures.count in
          let count = w.self2-is in
          let list = ap (λ (r : Ready). r.list.items) w.self-is ∙ with_items_is s.list w.take_out-self.new.ready (omega arith) in
          listed_without (length c.args.vertices.now) c.args.op s _ op c.requires.listed
          (ap (λ (r : Ready). r.flags.items) w.self-is ∙ ap (slice_set s.flags.items c.args.op) w.if-is_ready.false)
          (ap length list ∙ size ∙ ap length value)
          (omega arith)
          ((λ i. take (w.self2-is i) (list i)) ∙ w.take_out-self.ensures.ready ∙ ap (λ (l : List ℕ). without_place c.args.op (take s.count l)) value))
    ]
