-- The limits of a run: what is above no bound, and fewer reactions.
use Rattle.std.proofs.Common.{◌≡◌, ℕ, ◌-◌, ◌*◌, ◌^◌, ◌<◌, ◌≤◌, ◌⊎◌, inl, inr, min, Option, Some, None, sym, arith}
use Rattle.std.specs.List.{sum_by}
use Rattle.std.proofs.Math.Nat.{mul-le-mul_right}
use Rattle.std.proofs.lemmas.Bool.{cases_lt, lt-ltb, le-ltb}
use Rattle.std.proofs.lemmas.Option.{none-some}
use Rattle.syn_base.specs.declared.limits.LimitKind.{LimitKind}
use Rattle.syn_base.specs.declared.limits.LimitKind.TheVariants.{Output, Total}
use Rattle.syn_base.specs.declared.limits.LimitFault.{LimitFault}
use Rattle.syn_base.specs.Limits.{bound_of, above}
use Rattle.executive_program.specs.Graph.{Graph}
use Rattle.executive_program.specs.FlatLaws.{actuator_lens}
use Rattle.executive_program.specs.declared.program.Program.{Program}
use Rattle.executive_program.specs.Steps.{all_turns}
use Rattle.semaphore_core.specs.Job.{output_elements, total_steps}
use Rattle.semaphore_core.specs.IsJob.{limit_in, FewerMeetNone}

pub above_none : (which : LimitKind) (count : ℕ) (next : Option LimitFault) → above which count next ≡ None → (count ≤ bound_of which) × (next ≡ None)
above_none which count next e = by (cases_lt (bound_of which) count)
  where
    fault : LimitFault
    fault = record { which = which; count = count; bound = bound_of which }

    by : (bound_of which < count) ⊎ (count ≤ bound_of which) → (count ≤ bound_of which) × (next ≡ None)
    by (inl l) = let z : Some fault ≡ None = rw (lt-ltb (bound_of which) count l) at e in absurd (none-some fault (sym z))
    by (inr l) = (l, rw (le-ltb (bound_of which) count l) at e)

pub none_above : (which : LimitKind) (count : ℕ) (next : Option LimitFault) → count ≤ bound_of which → next ≡ None → above which count next ≡ None
none_above which count next l e = rw (le-ltb (bound_of which) count l) e

-- no limit: few elements and few micro-steps
pub limits_kept : (p : Program) (g : Graph) (n : ℕ) → limit_in p g n ≡ None → (output_elements g n ≤ 2000000) × (total_steps p n ≤ 20000000)
limits_kept p g n e =
    let a = above_none Output (output_elements g n) (above Total (min (total_steps p n) (2 ^ 128 - 1)) None) e in
    let b = (above_none Total (min (total_steps p n) (2 ^ 128 - 1)) None a.1).0 in (a.0, omega arith)

pub fewer_meet_none : FewerMeetNone
fewer_meet_none p g m n l e =
    let k = limits_kept p g n e in
    let o : output_elements g m ≤ output_elements g n = mul-le-mul_right (sum_by (λ x. x) (actuator_lens g g.vertices)) l in
    let t : m * all_turns p ≤ n * all_turns p = mul-le-mul_right (all_turns p) l in
    none_above Output (output_elements g m) _ (let a = k.0 in let r : output_elements g m ≤ 2000000 = omega arith in r)
    (none_above Total (min (total_steps p m) (2 ^ 128 - 1)) None (let a = k.1 in let r : min (total_steps p m) (2 ^ 128 - 1) ≤ 20000000 = omega arith in r) refl_none)
  where
    refl_none : ◌≡◌ {A = Option LimitFault} None None
    refl_none = Rattle.std.proofs.Common.refl
