use Rattle.std.proofs.Common.{rules, ◌+◌, length, ap, sym, ◌∙◌, arith}
use Rattle.std.proofs.Math.Nat.{add-mod_right}
use Rattle.word_table.specs.Driver.{FabricData}
use Rattle.executive_run.proofs.Goings.{turn_begins, turned_more, finished_all, stuck}
use Rattle.executive_run.proofs.group.Group.turn.Goals as goal

pub loop-seq-init : goal.loop-seq-init
loop-seq-init g c = record {
  turned = turn_begins c.args.self.now.driver c.group-first.result c.group-first.ensures (omega (arith, ap (λ (f : FabricData). f.groups) c.requires.of));
  own = search rules;
}

pub loop-seq-preserved : goal.loop-seq-preserved
loop-seq-preserved g c =
    let p = c.loop-seq.invariant in
    let q = c.go_on.ensures in record {
      turned = turned_more c.args.fabric.now c.args.self.now.driver c.loop-seq.self.driver c.go_on.new.self.driver
          c.loop-seq.progress.steps c.go_on.result.steps c.and-progress.result.steps c.loop-seq.progress.waiting c.go_on.result.waiting c.and-progress.result.waiting
          c.loop-seq.seq (c.loop-seq.seq + c.groups-groups.result)
          (q.goes.fabric ∙ (p.turned.goes.fabric
          ∙ c.requires.of)) p.turned q.goes q.others q.ends q.alone c.and-progress.ensures.steps c.and-progress.ensures.waiting
          (omega arith) p.own (omega arith);
      own = let at = c.groups-groups.ensures in rw at (add-mod_right c.loop-seq.seq c.args.fabric.now.groups ∙ p.own ∙ sym q.goes.group);
    }

pub returns-2 : goal.returns-2
returns-2 g c =
    let p = c.loop-seq.invariant in
    let q = c.go_on.ensures in
    let same = q.goes.fabric ∙ (p.turned.goes.fabric ∙ c.requires.of) in
    let seqs = ap (λ (f : FabricData). length f.job.program.seqs) same in
    let turned = turned_more c.args.fabric.now c.args.self.now.driver c.loop-seq.self.driver c.go_on.new.self.driver
    c.loop-seq.progress.steps c.go_on.result.steps c.and-progress.result.steps c.loop-seq.progress.waiting c.go_on.result.waiting c.and-progress.result.waiting
    c.loop-seq.seq c.sequences-seq-end.result
    same p.turned q.goes q.others q.ends q.alone c.and-progress.ensures.steps c.and-progress.ensures.waiting (omega arith) p.own (omega arith) in record {
      goes = turned.goes;
      finished = λ none. finished_all c.go_on.new.self.driver c.sequences-seq-end.result (omega (arith, seqs)) (turned.finished none);
      alone = λ one none some. stuck c.go_on.new.self.driver c.sequences-seq-end.result (omega (arith, seqs))
          (turned.halted (ap (λ (f : FabricData). f.groups) same ∙ one) none) (turned.short none some);
    }

pub returns : goal.returns
returns g c =
    let turned = c.loop-seq.invariant.turned in
    let same = turned.goes.fabric ∙ c.requires.of in
    let seqs = ap (λ (f : FabricData). length f.job.program.seqs) same in record {
      goes = turned.goes;
      finished = λ none. finished_all c.loop-seq.self.driver c.loop-seq.seq (omega (arith, seqs)) (turned.finished none);
      alone = λ one none some. stuck c.loop-seq.self.driver c.loop-seq.seq (omega (arith, seqs))
          (turned.halted (ap (λ (f : FabricData). f.groups) same ∙ one) none) (turned.short none some);
    }
