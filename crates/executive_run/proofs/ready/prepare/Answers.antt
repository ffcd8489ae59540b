use Rattle.std.proofs.Common.{◌≡◌, ℕ, List, min, ap, sym, subst, ◌∙◌, arith}
use Rattle.std.specs.Prelude.{count_by}
use Rattle.executive_program.specs.declared.program.Program.{Program}
use Rattle.executive_program.specs.declared.program.SeqCode.{SeqCode}
use Rattle.executive_run.specs.Sharing.{KeepsApart, is_busy}
use Rattle.executive_run.proofs.ready.prepare.Goals as goal

pub invariant_of-result : goal.invariant_of-result
invariant_of-result c =
    let count = c.groups_for-count.result in
    let groups : c.in_ok-fabric.fabric.groups ≡ count = c.in_ok-fabric.ensures.fabric.1 in
    let seqs : c.as_slice-seqs.result.now ≡ c.args.job.now.program.seqs = c.as_slice-seqs.ensures ∙ ap (λ (p : Program). p.seqs) c.program.ensures.same in
    let P : List SeqCode → Type 0 = λ s. KeepsApart s count c.args.workers in
    let Q : ℕ → Type 0 = λ n. KeepsApart c.args.job.now.program.seqs n c.args.workers in (
      record { job = c.in_ok-fabric.ensures.fabric.0; some = (let s = c.groups_for-count.ensures.some in omega (arith, groups, s)); are_all = c.in_ok-groups.ensures },
      record { empty = c.in_ok-places.ensures.len; enough = (let e = c.in_ok-places.ensures.exact in omega (arith, groups, e)) },
      record { empty = c.in_ok-done.ensures.len; enough = (let e = c.in_ok-done.ensures.exact in omega (arith, groups, e)) },
      record { empty = c.in_ok-drivers.ensures.len; enough = (let e = c.in_ok-drivers.ensures.exact in omega (arith, groups, e)) },
      record {
        few = (let f = c.groups_for-count.ensures.few in omega (arith, groups, f));
        apart = subst Q (sym groups) (subst P seqs c.groups_for-count.ensures.apart);
        only_busy = c.min-active.ensures ∙ (λ i. min ((c.busy_count.ensures ∙ ap (count_by is_busy) seqs) i) (sym groups i));
      },
    )
