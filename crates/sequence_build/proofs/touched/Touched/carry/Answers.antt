use Rattle.std.proofs.Common.{Bool, List, refl, ap, arith, ◌∙◌}
use Rattle.std.specs.Vec.{with_items}
use Rattle.std.proofs.lemmas.List.{with_items_is}
use Rattle.sequence_build.specs.Touched.{put_in}
use Rattle.sequence_build.proofs.Touching.{carry_notes}
use Rattle.sequence_build.proofs.touched.Touched.carry.Goals as goal

pub returns : goal.returns
returns c =
    let reads = with_items_is c.args.self.now.reads c.put.new.marks (let l = c.put.auto.marks in let d = c.deref_mut.ensures.len in omega arith) in
    let writes = with_items_is c.args.self.now.writes c.put-2.new.marks (let l = c.put-2.auto.marks in let d = c.deref_mut-2.ensures.len in omega arith) in
    carry_notes c.args.self.now (record { width = c.args.self.now.width; reads = with_items c.args.self.now.reads c.put.new.marks; writes = with_items c.args.self.now.writes c.put-2.new.marks })
    c.args.site.now c.args.transfer.now c.in_ok-sender.sender c.buffer-sent.result c.in_ok-receiver.receiver c.buffer-received.result
    c.in_ok-sender.ensures c.buffer-sent.ensures c.in_ok-receiver.ensures c.buffer-received.ensures refl
    (reads ∙ c.put.ensures ∙ ap (λ (l : List Bool). put_in c.args.self.now.width l c.in_ok-sender.sender c.buffer-sent.result) c.deref_mut.ensures.value)
    (writes ∙ c.put-2.ensures ∙ ap (λ (l : List Bool). put_in c.args.self.now.width l c.in_ok-receiver.receiver c.buffer-received.result) c.deref_mut-2.ensures.value)
