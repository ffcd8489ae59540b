-- The state before any step is open for its job.
use Rattle.std.proofs.Common.{◌≡◌, ℕ, zero, suc, ◌*◌, ◌<◌, ◌≤◌, ◌⊎◌, inl, inr, List, [], ◌∷◌, map, length, Option, Some, None, refl, sym, ap, subst, arith, ◌∙◌}
use Rattle.std.specs.Prelude.{slice_get, slice_index_or, replicate}
use Rattle.std.specs.Option.{option_map}
use Rattle.std.proofs.lemmas.Bool.{cases_lt}
use Rattle.std.proofs.lemmas.List.{length-map, length-replicate, get_or-replicate, get_or_past}
use Rattle.std.proofs.lemmas.Option.{slice_get-map, get_or_from_slice_get}
use Rattle.executive_program.specs.Graph.{Graph}
use Rattle.executive_program.specs.declared.program.Program.{Program}
use Rattle.executive_program.specs.declared.program.SeqCode.{SeqCode}
use Rattle.executive_program.specs.declared.steps.MicroStep.{MicroStep}
use Rattle.executive_program.specs.declared.expand.SeqSteps.{SeqSteps}
use Rattle.executive_program.specs.Expanded.{expanded, AreSteps}
use Rattle.executive_program.specs.Steps.{steps, steps_by}
use Rattle.operation_desks.specs.RegisterFile.{RegisterFile}
use Rattle.operation_desks.specs.Desk.{DeskLens}
use Rattle.semaphore_core.specs.Job.{JobData}
use Rattle.semaphore_core.specs.IsJob.{IsJob}
use Rattle.semaphore_core.specs.Core.{Core, opening}
use Rattle.semaphore_core.specs.Held.{Held, IsOpened, AreReady, IsLaid}
use Rattle.operation_desks.specs.Rooms.{Fits, highest, room_of, all_registers}
use Rattle.semaphore_core.specs.Parts.{Kept, Parts}
use Rattle.semaphore_core.specs.AtOpening.{AreAtOpening}
use Rattle.semaphore_core.proofs.Viewing.{values_of, rooms_of, parts_of}
use Rattle.semaphore_core.proofs.Jobs.{has_places, few_steps, prologue_bare}

zero_at : (n i : ℕ) → ◌≡◌ {A = ℕ} (slice_index_or (replicate n 0) i 0) 0
zero_at n i = by (cases_lt i n)
  where
    by : (i < n) ⊎ (n ≤ i) → ◌≡◌ {A = ℕ} (slice_index_or (replicate n 0) i 0) 0
    by (inl l) = get_or-replicate n i 0 0 l
    by (inr l) = get_or_past (replicate n 0) i 0 (let e : length (replicate {A = ℕ} n 0) ≡ n = length-replicate n 0 in omega arith)

-- registers up to the highest number are enough for each micro-step
highest_fits : (g : Graph) (list : List MicroStep) (l room : ℕ) → highest g list < room → Fits g room (slice_get list l)
highest_fits g [] l room h = tt
highest_fits g (m ∷ ms) zero room h = omega arith
highest_fits g (m ∷ ms) (suc l) room h = highest_fits g ms l room (omega arith)

module _ (j : JobData) (code : List SeqSteps) (are : AreSteps j.program code) where
  code_at : (s : ℕ) → slice_get code s ≡ option_map (expanded j.program) (slice_get j.program.seqs s)
  code_at s = ap (λ (l : List SeqSteps). slice_get l s) are ∙ slice_get-map (expanded j.program) j.program.seqs s

  -- the room of a sequence of the program
  room_at : (s : ℕ) (q : SeqCode) → slice_get j.program.seqs s ≡ Some q → slice_index_or (map (room_of j.graph) code) s 0 ≡ room_of j.graph (expanded j.program q)
  room_at s q is = get_or_from_slice_get (map (room_of j.graph) code) s (room_of j.graph (expanded j.program q)) 0
      (slice_get-map (room_of j.graph) code s ∙ ap (option_map (room_of j.graph)) (code_at s ∙ ap (option_map (expanded j.program)) is))

  pub prologue_fits : (s l : ℕ) → Fits j.graph (slice_index_or (map (room_of j.graph) code) s 0) (slice_get (steps j.program s).prologue l)
  prologue_fits s l = by (slice_get j.program.seqs s) refl
    where
      by : (o : Option SeqCode) → slice_get j.program.seqs s ≡ o → Fits j.graph (slice_index_or (map (room_of j.graph) code) s 0) (slice_get (steps_by j.program o).prologue l)
      by None is = tt
      by (Some q) is = highest_fits j.graph (expanded j.program q).prologue l (slice_index_or (map (room_of j.graph) code) s 0) (let e = room_at s q is in omega arith)

  pub turn_fits : (s l : ℕ) → Fits j.graph (slice_index_or (map (room_of j.graph) code) s 0) (slice_get (steps j.program s).turn l)
  turn_fits s l = by (slice_get j.program.seqs s) refl
    where
      by : (o : Option SeqCode) → slice_get j.program.seqs s ≡ o → Fits j.graph (slice_index_or (map (room_of j.graph) code) s 0) (slice_get (steps_by j.program o).turn l)
      by None is = tt
      by (Some q) is = highest_fits j.graph (expanded j.program q).turn l (slice_index_or (map (room_of j.graph) code) s 0) (let e = room_at s q is in omega arith)

  -- with desks, cells and rows that are ready
  pub opening_open : IsJob j → (lens : List ℕ) (desks : List (Option DeskLens)) → ((v : ℕ) → IsLaid j lens desks v)
      → AreReady j (record { cells = (opening j).cells; rows = (opening j).rows; lens = lens; desks = desks })
      → IsOpened j (record { core = opening j; steps = code; rooms = map (room_of j.graph) code; lens = lens; desks = desks })
  opening_open job lens desks laid ready = record {
    reached = ([], refl);
    places = has_places j job;
    ready = ready;
    laid = laid;
    steps_are = are;
    counts_there = length-replicate (length j.program.seqs) 0;
    rooms_there = length-map code (room_of j.graph) ∙ ap (λ (l : List SeqSteps). length l) are ∙ length-map j.program.seqs (expanded j.program);
    registers_there = length-replicate (length j.program.seqs) [];
    within = λ s. let e = zero_at (length j.program.seqs) s in omega arith;
    semaphores_few = λ x. let e = zero_at (2 * length j.program.pairs) x in omega arith;
    turns_few = λ m. let e = zero_at j.media m in omega arith;
    total = few_steps j job;
    in_prologue = prologue_fits;
    bare = prologue_bare j job;
    in_turn = turn_fits;
  }

-- no register is in use, and there is the room that the micro-steps need
values_empty : (g : Graph) (code : List SeqSteps) → values_of (all_registers g code) ≡ replicate (length code) []
values_empty g [] = refl
values_empty g (q ∷ code) = λ i. [] ∷ values_empty g code i

rooms_empty : (g : Graph) (code : List SeqSteps) → rooms_of (all_registers g code) ≡ map (room_of g) code
rooms_empty g [] = refl
rooms_empty g (q ∷ code) = λ i. room_of g q ∷ rooms_empty g code i

pub at_opening : (j : JobData) (g : Graph) → g ≡ j.graph → (code : List SeqSteps) (files : List RegisterFile) → files ≡ all_registers g code → (kept : Kept) → kept.cells ≡ j.opening → AreReady j kept
    → AreAtOpening j code (parts_of files kept)
at_opening j g same code files e kept cells ready = record {
  registers = ap values_of e ∙ values_empty g code;
  rooms = ap rooms_of e ∙ rooms_empty g code ∙ ap (λ (h : Graph). map (room_of h) code) same;
  cells = cells;
  ready = ready;
}

module _ (j : JobData) (p : Program) (same : p ≡ j.program) (code : List SeqSteps) (are : AreSteps p code) (own : Parts) (at : AreAtOpening j code own) where
  steps_of_job : AreSteps j.program code
  steps_of_job = subst (λ (q : Program). AreSteps q code) same are

  pub registers_empty : own.registers ≡ replicate (length j.program.seqs) []
  registers_empty = at.registers ∙ ap (λ (n : ℕ). replicate n []) (ap (λ (l : List SeqSteps). length l) steps_of_job ∙ length-map j.program.seqs (expanded j.program))

  -- a state with these parts is open
  pub state_open : IsJob j → (core : Core) → ((v : ℕ) → IsLaid j own.kept.lens own.kept.desks v) → core ≡ opening j
      → AreReady j (record { cells = core.cells; rows = core.rows; lens = own.kept.lens; desks = own.kept.desks })
      → IsOpened j (record { core = core; steps = code; rooms = own.rooms; lens = own.kept.lens; desks = own.kept.desks })
  state_open job core laid_out e ready = subst (λ (h : Held). IsOpened j h) (λ i. record { core = sym e i; steps = code; rooms = sym at.rooms i; lens = own.kept.lens; desks = own.kept.desks })
      (opening_open j code steps_of_job job own.kept.lens own.kept.desks laid_out
      (subst (λ (z : Core). AreReady j (record { cells = z.cells; rows = z.rows; lens = own.kept.lens; desks = own.kept.desks })) e ready))
