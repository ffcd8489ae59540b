-- Counting elements and micro-steps without laying them out.
use Rattle.std.proofs.Common.{◌≡◌, ℕ, zero, suc, ◌+◌, ◌*◌, ◌≤◌, min, List, [], ◌∷◌, length, refl, sym, ap, arith, ◌∙◌, suc-mul}
use Rattle.std.proofs.Math.Nat.{mul_comm}
use Rattle.std.specs.Prelude.{IsTrue}
use Rattle.std.specs.List.{sum_by}
use Rattle.std.proofs.lemmas.Bool.{and_parts, leb-true}
use Rattle.std.proofs.lemmas.List.Sums.{sum_by-cons, sum_by-append}
use Rattle.executive_program.specs.declared.Vertex.{Vertex}
use Rattle.executive_program.specs.Graph.{Graph}
use Rattle.executive_program.specs.FlatOrder.{is_acyclic}
use Rattle.executive_program.specs.FlatValid.{is_flat, is_vertex, all_from, are_named_apart, sensors_from, actuators_from, kinds_of}
use Rattle.executive_program.specs.declared.Seq.{Seq}
use Rattle.executive_program.specs.FlatLaws.{actuator_lens, actuator_len}
use Rattle.executive_program.specs.declared.program.Program.{Program}
use Rattle.executive_program.specs.Steps.{all_prologues, all_turns}
use Rattle.semaphore_core.specs.Job.{total_steps}
use Rattle.semaphore_core.specs.Totals.{taken_by, CountsLooks}
use Rattle.executive_program.specs.Sizes.{plain_prologues, plain_turns, deep_pairs}
use Rattle.executive_program.specs.WellFormed.{IsWellFormed}
use Rattle.executive_program.proofs.DeepPairs.{looks_in_prologues, looks_in_turns}
use Rattle.executive_program.proofs.MicroCounts.{all_prologues_size, all_turns_size}

-- A valid graph has at most 2,048 operations.
pub few_operations : (g : Graph) → IsTrue (is_flat g) → length g.vertices ≤ 2048
few_operations g h =
    let acyclic = and_parts _ (is_acyclic g.vertices) h in
    let actuators = and_parts _ (actuators_from 0 (kinds_of g.vertices)) acyclic.0 in
    let sensors = and_parts _ (sensors_from 0 (kinds_of g.vertices)) actuators.0 in
    let all = and_parts _ (all_from (is_vertex g) 0 g.vertices) sensors.0 in
    leb-true (length g.vertices) 2048 (and_parts _ (are_named_apart g.vertices) all.0).0

-- A product that stops at a bound depends on its factor only up to the bound.
product_capped : (n x y m : ℕ) → min x m ≡ min y m → min (n * x) m ≡ min (n * y) m
product_capped zero x y m h = omega arith
product_capped (suc n) x y m h = omega (arith, h, suc-mul n x, suc-mul n y, product_capped n x y m h)

-- Sums and products that stop at a bound each are the whole that stops there.
pub total_capped : (a b d n m : ℕ) → min (min a m + min (min (min b m + min (min d m * 2) m) m * n) m) m ≡ min (a + n * (b + 2 * d)) m
total_capped a b d n m =
    let t = min (min b m + min (min d m * 2) m) m in
    let e = product_capped n t (b + 2 * d) m (omega arith) in
    let c = mul_comm t n in omega (arith, e, c)

-- What all actuators take is the sum of what each takes.
pub all_taken : (g : Graph) (xs : List Vertex) → sum_by (taken_by g) xs ≡ sum_by (λ l. l) (actuator_lens g xs)
all_taken g [] = refl
all_taken g (x ∷ xs) = sum_by-cons (taken_by g) x xs ∙ ap (λ n. taken_by g x + n) (all_taken g xs) ∙ sym (sum_by-append (λ l. l) (actuator_len g x x.kind) (actuator_lens g xs))

-- The micro-steps of a whole run of a well-formed program.
pub counts_looks : (p : Program) (g : Graph) (seqs : List Seq) (media : ℕ) → IsWellFormed p g seqs media → CountsLooks p
counts_looks p g seqs media formed = record { before = looks_in_prologues p g seqs media formed.0 formed.1; within = looks_in_turns p g seqs media formed.0 formed.1 }

pub total_size : (p : Program) → CountsLooks p → (n : ℕ) → total_steps p n ≡ plain_prologues p + n * (plain_turns p + 2 * deep_pairs p)
total_size p looks n = λ i. prologues i + n * turns i
  where
    prologues : all_prologues p ≡ plain_prologues p
    prologues = let a = all_prologues_size p in let b = looks.before in omega arith

    turns : all_turns p ≡ plain_turns p + 2 * deep_pairs p
    turns = let a = all_turns_size p in let b = looks.within in omega arith
