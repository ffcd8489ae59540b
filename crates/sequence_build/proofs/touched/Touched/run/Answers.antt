use Rattle.std.proofs.Common.{◌&&◌, nat_eq, Bool, List, refl, sym, subst, arith, ◌∙◌}
use Rattle.std.specs.List.{list_any}
use Rattle.std.specs.Vec.{with_items}
use Rattle.std.proofs.lemmas.List.{with_items_is}
use Rattle.sequence_build.specs.Touched.{Puts}
use Rattle.sequence_build.proofs.Touching.{run_notes}
use Rattle.sequence_build.proofs.touched.Touched.run.Goals as goal

pub returns : goal.returns
returns c =
    let reads = with_items_is c.args.self.now.reads c.put_all.new.marks (let l = c.put_all.auto.marks in let d = c.deref_mut.ensures.len in omega arith) in
    let writes = with_items_is c.args.self.now.writes c.put_all-2.new.marks (let l = c.put_all-2.auto.marks in let d = c.deref_mut-2.ensures.len in omega arith) in
    run_notes c.args.self.now (record { width = c.args.self.now.width; reads = with_items c.args.self.now.reads c.put_all.new.marks; writes = with_items c.args.self.now.writes c.put_all-2.new.marks })
    c.args.site.now c.args.decision.now c.in_ok-sequence.sequence c.as_slice.result.now c.as_slice-2.result.now
    c.in_ok-sequence.ensures (c.as_slice.ensures ∙ c.in_ok-ins.ensures) (c.as_slice-2.ensures ∙ c.in_ok-outs.ensures) refl
    (subst (λ (l : List Bool). Puts c.args.self.now.width c.args.self.now.reads.items l (λ b s. nat_eq c.in_ok-sequence.sequence s && list_any (λ n. nat_eq n b) c.as_slice.result.now)) (sym reads)
    (subst (λ (l : List Bool). Puts c.args.self.now.width l c.put_all.new.marks
    (λ b s. nat_eq c.in_ok-sequence.sequence s && list_any (λ n. nat_eq n b) c.as_slice.result.now)) c.deref_mut.ensures.value c.put_all.ensures))
    (subst (λ (l : List Bool). Puts c.args.self.now.width c.args.self.now.writes.items l (λ b s. nat_eq c.in_ok-sequence.sequence s && list_any (λ n. nat_eq n b) c.as_slice-2.result.now)) (sym writes)
    (subst (λ (l : List Bool). Puts c.args.self.now.width l c.put_all-2.new.marks
    (λ b s. nat_eq c.in_ok-sequence.sequence s && list_any (λ n. nat_eq n b) c.as_slice-2.result.now)) c.deref_mut-2.ensures.value c.put_all-2.ensures))
