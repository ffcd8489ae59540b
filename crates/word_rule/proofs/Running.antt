-- What the steps on a table need holds of every job: lengths, bounds, and that what a micro-step names is there.
use Rattle.std.proofs.Common.{
  ◌≡◌,
  ℕ,
  ◌+◌,
  ◌*◌,
  ◌%◌,
  ◌<◌,
  ◌≤◌,
  ◌⊎◌,
  inl,
  inr,
  Bool,
  true,
  false,
  cond,
  List,
  [],
  length,
  get_or,
  Option,
  Some,
  None,
  refl,
  ap,
  subst,
  arith,
  ◌∙◌,
  ℤ,
  pos,
  suc-mul,
  mul-le-mul_right,
}
use Rattle.std.specs.Prelude.{slice_get, nat_lt}
use Rattle.std.proofs.lemmas.Bool.{cases_lt}
use Rattle.std.proofs.lemmas.List.{length-map, length-replicate, get_or-map}
use Rattle.std.proofs.lemmas.Nat.{mod_below}
use Rattle.std.proofs.lemmas.Option.{same_Some, slice_get_past}
use Rattle.executive_program.specs.Sites.{step_at, place_at}
use Rattle.executive_program.specs.Owners.{sum_below}
use Rattle.executive_program.proofs.InterleavingSums.{le_below, member_below}
use Rattle.executive_program.specs.System.{Micro}
use Rattle.executive_program.specs.Graph.{Graph}
use Rattle.executive_program.specs.FlatValid.{is_flat}
use Rattle.executive_program.specs.declared.program.SeqCode.{SeqCode}
use Rattle.executive_program.specs.declared.steps.Place.{Place}
use Rattle.executive_program.specs.declared.steps.Place.TheVariants.{Buffer, Wire}
use Rattle.executive_program.specs.declared.steps.MicroStep.{MicroStep}
use Rattle.executive_program.specs.declared.steps.MicroStep.TheVariants.{Take, See, Lower, Signal, Await, Advance, Load, Store}
use Rattle.executive_program.specs.Instructions.{len_of, depth_of}
use Rattle.executive_program.specs.MicroSteps.{code, wire_len}
use Rattle.executive_program.specs.Steps.{steps, steps_by}
use Rattle.phase_laws.specs.Job.{JobData, reactions}
use Rattle.phase_laws.specs.IsJob.{IsJob}
use Rattle.phase_laws.specs.Core.{Core, opening, count, full, run}
use Rattle.phase_laws.specs.Held.{made}
use Rattle.phase_laws.proofs.Opened.{full_total}
use Rattle.phase_laws.proofs.Jobs.{has_places, few_steps, prologue_bare}
use Rattle.phase_laws.specs.Agrees.{IsFormed, IsMatched, Matches, LiesAt}
use Rattle.phase_laws.specs.Reached.{ReachedLaws}
use Rattle.phase_laws.specs.Values.{IsSupplied}
use Rattle.phase_laws.proofs.AgreeLaws.{jobs_are_formed}
use Rattle.phase_laws.proofs.AgreeRuns.{runs_agree}
use Rattle.phase_laws.proofs.AgreeSteps.{AtSame, matched_at, steps_matched}
use Rattle.phase_laws.proofs.AgreePlaces.{lists_many, buffer_list, wire_list}
use Rattle.phase_laws.proofs.OwnValues.{compute_their_values}
use Rattle.phase_laws.proofs.Reached.{reached_have_laws}
use Rattle.phase_laws.proofs.Together.{have_laws, jobs_are_supplied}
use Rattle.word_rule.specs.Given.{IsShaped, HasRoom, IsHere, IsThere, RunsOnWords}

-- place q of this many elements each
digit_inside : (q n l d : ℕ) → q < d → n < l → q * l + n < d * l
digit_inside q n l d h k = let c = suc-mul q l in let m = mul-le-mul_right l h in omega (arith, c, m, k)

module _ (j : JobData) (f : IsFormed j) (supplied : IsSupplied j) (job : IsJob j) where
  -- an element's slot is there, in every reaction
  here : (x : Place) (y i : ℕ) → LiesAt j.program j.media x y i → IsHere j x
  here (Buffer b n) y i h k = (
    (let a = lists_many j.program j.media in let l = length-map (opening j).elements (length {A = ℤ}) in let z = h.0 in omega (arith, a, l, z)),
    (let e = ap (length {A = ℤ}) (buffer_list j.program j.media b h.0) ∙ length-replicate (depth_of j.program b * len_of j.program b) (pos 0) in
        let m = get_or-map (length {A = ℤ}) (opening j).elements b [] 0 (let a = lists_many j.program j.media in let z = h.0 in omega (arith, a, z)) in
        let d = digit_inside (k % depth_of j.program b) n (len_of j.program b) (depth_of j.program b)
        (mod_below k (depth_of j.program b) (let p = has_places j job b in omega (arith, p))) h.1 in omega (arith, e, m, d)),
  )
  here (Wire m n) y i h k = (
    (let a = lists_many j.program j.media in let l = length-map (opening j).elements (length {A = ℤ}) in let z = h.0 in omega (arith, a, l, z)),
    (let e = ap (length {A = ℤ}) (wire_list j.program j.media m h.0) ∙ length-replicate (wire_len j.program m) (pos 0) in
        let q = get_or-map (length {A = ℤ}) (opening j).elements (length j.program.buffers + m) [] 0 (let a = lists_many j.program j.media in let z = h.0 in omega (arith, a, z)) in
        let z = h.1 in omega (arith, e, q, z)),
  )

  run_shaped : (list : List ℕ) → IsShaped j (run j list)
  run_shaped list = let a = runs_agree j f list in record { counts = a.counts_there; semaphores = a.semaphores_there; turns = a.turns_there; elements = a.elements_there }

  laws_at : (list : List ℕ) → ReachedLaws j (run j list).counts
  laws_at list = reached_have_laws j supplied (run j list).counts (list, refl)

  made_few : (list : List ℕ) → made (run j list) ≤ 20000000
  made_few list = let w = (laws_at list).within in let a = le_below (count (run j list)) (full j) (length (run j list).counts) (λ i l. w.within i) in
      let b : sum_below (full j) (length (run j list).counts) ≡ sum_below (full j) (length j.program.seqs) = ap (sum_below (full j)) w.many in
      let c = full_total j in let d = few_steps j job in omega (arith, a, b, c, d)

  run_room : (list : List ℕ) → HasRoom j (run j list)
  run_room list = let e = (have_laws j supplied).told list in record {
    semaphores = λ x. let b = (laws_at list).bounded.semaphores x in let c = made_few list in let s = ap (λ (z : Core). get_or z.semaphores x 0) e in omega (arith, b, c, s);
    turns = λ m. let b = (laws_at list).bounded.turns m in let c = made_few list in let s = ap (λ (z : Core). get_or z.turns m 0) e in omega (arith, b, c, s);
  }

  matched : (s : ℕ) (m : MicroStep) (c : Micro) → Matches j.program j.media s m c → IsThere j m
  matched s (Take x) c h = h.0
  matched s (See x) c h = h.0
  matched s (Lower x) c h = h.0
  matched s (Signal x) c h = h.0
  matched s (Await m i n exact) c h = h.0
  matched s (Advance m) c h = h.0
  matched s (Load x then) c h = here x h.1 h.2 h.3
  matched s (Store x what) c h = here x h.1 h.2 h.3

  some_there : (s : ℕ) (o : Option MicroStep) (c : Option Micro) (m : MicroStep) → AtSame j.program j.media s o c → o ≡ Some m → IsThere j m
  some_there s None c m h e = absurd cc
  some_there s (Some x) None m h e = absurd h
  some_there s (Some x) (Some c) m h e = subst (IsThere j) (same_Some x m e) (matched s x c h)

  step_there : (s n : ℕ) (m : MicroStep) → step_at (steps j.program s) n ≡ Some m → IsThere j m
  step_there s n m e = by (nat_lt n (length (steps j.program s).prologue)) e
    where
      q : IsMatched j.program j.media s
      q = steps_matched j f s

      by : (b : Bool) → cond b (slice_get (steps j.program s).prologue n) (slice_get (steps j.program s).turn (place_at (steps j.program s) n)) ≡ Some m → IsThere j m
      by true e = some_there s (slice_get (steps j.program s).prologue n) (slice_get (code j.program s).prologue n) m
          (matched_at j.program j.media s (steps j.program s).prologue (code j.program s).prologue n q.prologues) e
      by false e = some_there s (slice_get (steps j.program s).turn (place_at (steps j.program s) n))
          (slice_get (code j.program s).turn (place_at (steps j.program s) n)) m
          (matched_at j.program j.media s (steps j.program s).turn (code j.program s).turn (place_at (steps j.program s) n) q.turns) e

  full_few : (s : ℕ) → full j s ≤ 20000000
  full_few s = by (cases_lt s (length j.program.seqs))
    where
      by : (s < length j.program.seqs) ⊎ (length j.program.seqs ≤ s) → full j s ≤ 20000000
      by (inl l) = let a = member_below (full j) (length j.program.seqs) s l in let b = full_total j in let c = few_steps j job in omega (arith, a, b, c)
      by (inr l) = let e = slice_get_past j.program.seqs s l in
          let z : full j s ≡ 0 + reactions j * 0 = ap (λ (o : Option SeqCode). length (steps_by j.program o).prologue + reactions j * length (steps_by j.program o).turn) e in omega (arith, z)

  runs : RunsOnWords j
  runs = record {
    supplied = supplied;
    formed = f;
    places = has_places j job;
    laws = have_laws j supplied;
    reached = reached_have_laws j supplied;
    values = compute_their_values j supplied;
    few = full_few;
    bare = prologue_bare j job;
    shaped = run_shaped;
    room = run_room;
    there = step_there;
  }

-- every job on a valid graph runs on words
pub jobs_run_on_words : (j : JobData) → IsJob j → is_flat j.graph ≡ true → RunsOnWords j
jobs_run_on_words j job valid = runs j (jobs_are_formed j job valid) (jobs_are_supplied j job valid) job

pub job_runs : (j : JobData) → IsJob j → (g : Graph) → g ≡ j.graph → is_flat g ≡ true → RunsOnWords j
job_runs j job g same valid = jobs_run_on_words j job (subst (λ (x : Graph). is_flat x ≡ true) same valid)
