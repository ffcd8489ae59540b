-- What every job has: buffers with places, prologues of signals, few micro-steps, and lengths that fit.
use Rattle.std.proofs.Common.{◌≡◌, ℕ, ◌<◌, ◌≤◌, true, List, map, length, Option, Some, None, refl, sym, ap, subst, arith, ◌∙◌}
use Rattle.std.specs.Prelude.{slice_get, slice_index_or}
use Rattle.std.proofs.lemmas.List.{length-map}
use Rattle.std.proofs.lemmas.Option.{slice_get_within}
use Rattle.executive_program.specs.Graph.{lens_of}
use Rattle.executive_program.specs.declared.Vertex.{Vertex}
use Rattle.executive_program.specs.declared.Kind.{Kind}
use Rattle.executive_program.specs.declared.Kind.TheVariants.{Sensor}
use Rattle.executive_program.specs.FlatValid.{is_flat}
use Rattle.executive_program.specs.Fire.{cell_len, seen_len, kind_cell_len, kind_seen_len}
use Rattle.executive_program.specs.Meaning.{initial_cells}
use Rattle.executive_program.proofs.KindLens.{length-vector_at}
use Rattle.executive_program.specs.Sequences.{sequences}
use Rattle.executive_program.specs.FlatLaws.{actuator_lens}
use Rattle.executive_program.specs.declared.program.SeqCode.{SeqCode}
use Rattle.executive_program.specs.declared.program.Instr.{Instr}
use Rattle.executive_program.specs.declared.steps.MicroStep.{MicroStep}
use Rattle.executive_program.specs.Instructions.{number_or, prologue_of, HasPlaces}
use Rattle.executive_program.specs.Places.{opening_of}
use Rattle.executive_program.specs.Steps.{steps, steps_by, steps_in_list}
use Rattle.operation_desks.specs.Operation.{delay_of}
use Rattle.operation_desks.specs.Desk.{AreDesks}
use Rattle.semaphore_core.specs.Job.{JobData, reactions, total_steps}
use Rattle.semaphore_core.specs.IsJob.{IsJob}
use Rattle.semaphore_core.specs.Parts.{Kept}
use Rattle.semaphore_core.specs.Held.{AreReady, HasRow, NeedsReaction}
use Rattle.semaphore_core.proofs.Numbered.{actuator_at, sensor_at, delay_cell, no_delay}
use Rattle.semaphore_core.proofs.Limits.{limits_kept}
use Rattle.semaphore_core.proofs.Prologues.{opening_bare}
use Rattle.executive_program.proofs.Formed.{formed_has_places}
use Rattle.syn_base.specs.Vectors.{Values, vector_at}

module _ (j : JobData) (job : IsJob j) where
  -- every buffer has a place
  pub has_places : HasPlaces j.program
  has_places = formed_has_places j.program j.graph (sequences job.0) j.media job.1.0.formed

  -- the micro-steps in all are few
  pub few_steps : total_steps j.program (reactions j) ≤ 20000000
  few_steps = (limits_kept j.program j.graph (reactions j) job.1.1.0).1

  -- a prologue neither loads nor stores
  pub prologue_bare : (s l : ℕ) (m : MicroStep) → slice_get (steps j.program s).prologue l ≡ Some m → NeedsReaction m 0 0
  prologue_bare s l m e = by (slice_get j.program.seqs s) refl e
    where
      by : (o : Option SeqCode) → slice_get j.program.seqs s ≡ o → slice_get (steps_by j.program o).prologue l ≡ Some m → NeedsReaction m 0 0
      by None is e = absurd (cc)
      by (Some q) is e =
          let same : q.prologue ≡ opening_of j.program s = sym (ap prologue_of is) ∙ job.1.0.formed.1.prologues s (slice_get_within j.program.seqs s q is) in
          opening_bare j.program s (number_or 0 q.seq.medium) l m (subst (λ (xs : List Instr). slice_get (steps_in_list j.program (number_or 0 q.seq.medium) xs) l ≡ Some m) same e)

  -- the rows of all actuators are laid out
  pub rows_laid_out : is_flat j.graph ≡ true → (lens : List ℕ) → lens ≡ actuator_lens j.graph j.graph.vertices → (v : ℕ) → HasRow j lens v
  rows_laid_out valid lens e v x a is k =
      subst (λ (l : List ℕ). (a < length l) × (slice_index_or l a 0 ≡ slice_index_or (lens_of j.graph.vertices x.ins) 0 0)) (sym e)
      (actuator_at j.graph valid v a x is k)

  -- the opening cells, rows of zeros, and a place for each desk
  pub opening_ready : (k : Kept) → is_flat j.graph ≡ true → k.cells ≡ j.opening → length k.rows ≡ reactions j → length k.desks ≡ length j.graph.vertices → AreReady j k
  opening_ready k valid cells rows desks = record {
    valid = valid;
    desks_there = desks;
    cells_fit = cells_fit;
    no_cell = λ v x is e. vertex_cell v x is ∙ no_delay j.graph valid v x is e;
    rows_there = rows;
    sensor_fits = sensor_fits;
  }
    where
      vertex_cell : (v : ℕ) (x : Vertex) → slice_get j.graph.vertices v ≡ Some x → cell_len j.graph v ≡ kind_cell_len x.kind (lens_of j.graph.vertices x.ins)
      vertex_cell v x is = rw is refl

      cells_fit : (v : ℕ) (x : Vertex) (c : ℕ) → slice_get j.graph.vertices v ≡ Some x → delay_of j.graph v x ≡ Some c → (c < length k.cells) × (length (vector_at k.cells c) ≡ cell_len j.graph v)
      cells_fit v x c is e =
          let lens : map length k.cells ≡ map length (initial_cells j.graph.vertices) = ap (λ (l : Values). map length l) cells ∙ job.1.0.opened in
          let r = delay_cell j.graph valid v c x is e in
          let many : length (map length k.cells) ≡ length k.cells = length-map k.cells length in (
            (let t = r.0 in let n = ap (λ (l : List ℕ). length l) lens in omega arith),
            length-vector_at k.cells c ∙ ap (λ (l : List ℕ). slice_index_or l c 0) lens ∙ r.1 ∙ sym (vertex_cell v x is),
          )

      sensor_fits : (v : ℕ) (x : Vertex) (i : ℕ) → slice_get j.graph.vertices v ≡ Some x → x.kind ≡ Sensor i → (i < length j.lens) × (slice_index_or j.lens i 0 ≡ seen_len j.graph v)
      sensor_fits v x i is e =
          let seen : seen_len j.graph v ≡ slice_index_or x.outs 0 0 = rw is (ap (λ (q : Kind). kind_seen_len q x.outs) e) in
          subst (λ (l : List ℕ). (i < length l) × (slice_index_or l i 0 ≡ seen_len j.graph v)) (sym job.1.0.sensed)
          (let r = sensor_at j.graph valid v i x is e in (r.0, r.1 ∙ sym seen))
