use Rattle.std.proofs.Common.{◌≡◌, ◌+◌, ◌++◌, ◌∙◌, sym, ap, subst, List, ℕ, length, drop, take, arith, Option}
use Rattle.std.specs.Global.{Vec}
use Rattle.std.proofs.Math.Seq.{take-append_seam}
use Rattle.std.proofs.lemmas.Result.{err_from_is_err_and}
use Rattle.algo_rules.specs.Refusals.{AlgoRefusal}
use Rattle.algo_rules.specs.Resolved.{bodies_fault, faults_at}
use Rattle.algo_rules.specs.declared.ports.Ports.{Ports}
use Rattle.algo_check.specs.Tables.{IsTable}
use Rattle.algo_check.proofs.InOrder.{told, tells}
use Rattle.algo_check.proofs.ByDepth.{depth_told, depth_passed}
use Rattle.algo_check.proofs.Own.{filled}
use Rattle.algo_check.proofs.tables.ports_of_bodies.Goals as goal

pub returns-in_err-pass-clause-checks : goal.returns-in_err-pass-clause-checks
returns-in_err-pass-clause-checks c =
    let p = err_from_is_err_and c.from_residual-in_err-pass.result c.from_residual-in_err-pass.ensures.1 in
    let f : ℕ → List (Option AlgoRefusal) = λ n. faults_at c.args.defs.now n c.args.defs.now c.args.levels.now.depths in
    rw (p.1, p.2) (told (Vec Ports) _ _
    (depth_told f c.loop-depth.depth c.loop-depth-test.true (bodies_fault c.args.defs.now) c.loop-depth.invariant.left _
    (tells (Unit {0}) _ _ c.in_err-pass.ensures.checks)))

pub loop-depth-preserved : goal.loop-depth-preserved
loop-depth-preserved c =
    let f : ℕ → List (Option AlgoRefusal) = λ n. faults_at c.args.defs.now n c.args.defs.now c.args.levels.now.depths in
    let new = c.pass.new.table in
    let rest = drop (length new) c.loop-depth.table.items in
    let len : c.loop-depth.table.len ≡ length new = omega (arith, c.in_ok-pass.ensures.table.rows, c.loop-depth.invariant.table.rows, c.loop-depth.table.ok) in
    let back : take c.loop-depth.table.len (new ++ rest) ≡ new = ap (λ (k : ℕ). take k (new ++ rest)) len ∙ take-append_seam new rest in
    record {
      table = subst (λ (t : List Ports). IsTable c.args.defs.now (c.loop-depth.depth + 1) t) (sym back) c.in_ok-pass.ensures.table;
      left = depth_passed f c.loop-depth.depth c.loop-depth-test.true (bodies_fault c.args.defs.now) c.loop-depth.invariant.left c.in_ok-pass.ensures.checks;
    }

pub returns-clause-ports : goal.returns-clause-ports
returns-clause-ports c =
    let last : c.loop-depth.depth ≡ 9 = omega arith in
    filled c.args.defs.now c.loop-depth.table.items c.requires.distinct c.requires.leveled.shallow
    (subst (λ (n : ℕ). IsTable c.args.defs.now n c.loop-depth.table.items) last c.loop-depth.invariant.table)
