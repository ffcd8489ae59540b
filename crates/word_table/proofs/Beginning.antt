-- A driver that begins: its sequences have made no micro-step.
use Rattle.std.proofs.Common.{◌<◌, ◌≡◌, ℕ, ◌+◌, ◌%◌, zero, suc, Bool, true, false, cond, List, [], ◌∷◌, map, length, get_or, Some, refl, sym, ap, subst, arith, ◌∙◌, ℤ, eq-eqb}
use Rattle.std.specs.Prelude.{replicate, slice_get, nat_eq}
use Rattle.std.proofs.lemmas.List.{length-map, length-replicate, length-append, get_or-map}
use Rattle.std.proofs.lemmas.Option.{slice_get_within}
use Rattle.executive_program.specs.declared.Vertex.{Vertex}
use Rattle.executive_program.specs.declared.Kind.TheVariants.{Actuator}
use Rattle.executive_program.specs.Graph.{Graph, lens_of}
use Rattle.executive_program.specs.FlatLaws.{actuator_lens, actuator_len}
use Rattle.executive_program.specs.declared.expand.SeqSteps.{SeqSteps}
use Rattle.executive_program.specs.Expanded.{AreSteps, expanded}
use Rattle.word_rule.specs.Rooms.{room_of}
use Rattle.word_rule.specs.RowLens.{lens_for}
use Rattle.word_rule.specs.AtOpening.{AreAtOpening}
use Rattle.word_rule.specs.Registers.{Own}
use Rattle.word_rule.specs.Held.{IsLaid}
use Rattle.word_rule.specs.Job.{JobData, zero_rows, reactions}
use Rattle.word_rule.specs.Core.{opening}
use Rattle.word_rule.specs.Told.{own_after}
use Rattle.word_rule.proofs.Numbered.{actuator_at}
use Rattle.word_rule.proofs.OpenStates.{prologue_fits, turn_fits}
use Rattle.word_rule.specs.Agrees.{caller, row_at}
use Rattle.word_rule.specs.declared.view.Knowledge.{Knowledge}
use Rattle.word_rule.specs.declared.view.View.{View}
use Rattle.word_rule.specs.declared.view.View.TheVariants.{Spent, Holds}
use Rattle.word_rule.specs.Views.{count_in}
use Rattle.word_rule.specs.Given.{RunsOnWords}
use Rattle.word_table.specs.declared.driver_parts.DriverParts.{DriverParts}
use Rattle.word_table.specs.Parts.{HasOwn, IsDriver, AreDriverParts, last_look, driver_view}
use Rattle.word_table.specs.Driver.{IsNew}
use Rattle.word_table.specs.Weaving.{IsNewView, DrivesGroup}
use Rattle.syn_base.specs.Vectors.{Values, vector_at, zeros}

none_used : (n s : ℕ) → get_or (replicate {A = List ℤ} n []) s [] ≡ []
none_used zero s = refl
none_used (suc n) zero = refl
none_used (suc n) (suc s) = none_used n s

count_zero : (n s : ℕ) → get_or (replicate {A = ℕ} n 0) s 0 ≡ 0
count_zero zero s = refl
count_zero (suc n) zero = refl
count_zero (suc n) (suc s) = count_zero n s

-- rows that are laid out for some operations have as many vectors as those of all
lens_many : (g : Graph) (mine : ℕ → Bool) (v : ℕ) (xs : List Vertex) → length (lens_for g mine v xs) ≡ length (actuator_lens g xs)
lens_many g mine v [] = refl
lens_many g mine v (x ∷ xs) = length-append (map (λ l. cond (mine v) l 0) (actuator_len g x x.kind)) (lens_for g mine (v + 1) xs)
    ∙ (λ i. length-map (actuator_len g x x.kind) (λ l. cond (mine v) l 0) i + lens_many g mine (v + 1) xs i) ∙ sym (length-append (actuator_len g x x.kind) (actuator_lens g xs))

same_rows : (n : ℕ) (k l : List ℕ) → length k ≡ length l → map length (replicate n (map zeros k)) ≡ map length (replicate n (map zeros l))
same_rows zero k l e = refl
same_rows (suc n) k l e = λ i. (length-map k zeros ∙ e ∙ sym (length-map l zeros)) i ∷ same_rows n k l e i

-- a vector of rows of zeros
zero_row : (n : ℕ) (lens : List ℕ) (k a m : ℕ) → a < length lens → get_or lens a 0 ≡ m → row_at (replicate n (map zeros lens)) k a ≡ get_or (replicate n (zeros m)) k []
zero_row zero lens k a m l e = refl
zero_row (suc n) lens zero a m l e = get_or-map zeros lens a 0 [] l ∙ ap zeros e
zero_row (suc n) lens (suc k) a m l e = zero_row n lens k a m l e

module _ (j : JobData) (g : RunsOnWords j) (code : List SeqSteps) (are : AreSteps j.program code) (callers : List ℕ)
    (called : (v : ℕ) → v < length j.graph.vertices → get_or callers v 0 ≡ caller j v) (callers_there : length callers ≡ length j.graph.vertices)
    (k : Knowledge) (d : DriverParts) (job : d.job.now ≡ j) (new : IsNewView j k)
    (drives : (s : ℕ) → s < length j.program.seqs → s % d.groups ≡ d.group → count_in k.driven s ≡ Some 0)
    (only : (s n : ℕ) → count_in k.driven s ≡ Some n → s % d.groups ≡ d.group)
    (holds : d.seat.view ≡ Holds k) (mine : List Bool) (mine_is : mine ≡ map (λ s. nat_eq (s % d.groups) d.group) callers)
    (counts : d.counts.items ≡ replicate (length j.program.seqs) 0) (at : AreAtOpening j code d.own) (lens : d.own.kept.lens ≡ lens_for j.graph (λ v. get_or mine v false) 0 j.graph.vertices)
    (rows : d.own.kept.rows ≡ replicate (reactions j) (map zeros d.own.kept.lens)) (laid : (v : ℕ) → get_or mine v false ≡ true → IsLaid j d.own.kept.lens d.own.kept.desks v) where
  code_long : length code ≡ length j.program.seqs
  code_long = ap (length {A = SeqSteps}) are ∙ length-map j.program.seqs (expanded j.program)

  first : (s n : ℕ) → count_in k.driven s ≡ Some n → own_after j s n ≡ record { registers = []; cells = j.opening; rows = zero_rows j }
  first s n c = ap (own_after j s) (new.none_made s n c) ∙ g.values.first s

  -- what the group calls is its own
  is_own : (v : ℕ) (x : Vertex) → slice_get j.graph.vertices v ≡ Some x → caller j v % d.groups ≡ d.group → get_or mine v false ≡ true
  is_own v x is q = own
    where
      there : v < length j.graph.vertices
      there = slice_get_within j.graph.vertices v x is

      own : get_or mine v false ≡ true
      own = ap (λ (l : List Bool). get_or l v false) mine_is ∙ get_or-map (λ s. nat_eq (s % d.groups) d.group) callers v 0 false (let t = there in let w = callers_there in omega (arith, t, w))
          ∙ eq-eqb (get_or callers v 0 % d.groups) d.group (ap (λ (s : ℕ). s % d.groups) (called v there) ∙ q)

  -- and is laid out
  calls_laid : (v : ℕ) → caller j v % d.groups ≡ d.group → IsLaid j d.own.kept.lens d.own.kept.desks v
  calls_laid v q = record {
    row = λ x a is e. (laid v (is_own v x is q)).row x a is e;
    desk = λ x b is at. (laid v (is_own v x is q)).desk x b is at;
  }

  row_first : (s n v a i : ℕ) (x : Vertex) → count_in k.driven s ≡ Some n → slice_get j.graph.vertices v ≡ Some x → x.kind ≡ Actuator a
      → caller j v ≡ s → row_at d.own.kept.rows i a ≡ row_at (zero_rows j) i a
  row_first s n v a i x c is e w =
      let q = (calls_laid v (ap (λ (t : ℕ). t % d.groups) w ∙ only s n c)).row x a is e in let p = actuator_at j.graph at.ready.valid v a x is e in
      ap (λ (l : List Values). row_at l i a) rows ∙ zero_row (reactions j) d.own.kept.lens i a (get_or (lens_of j.graph.vertices x.ins) 0 0) q.0 q.1
      ∙ sym (zero_row (reactions j) (actuator_lens j.graph j.graph.vertices) i a (get_or (lens_of j.graph.vertices x.ins) 0 0) p.0 p.1)

  own_first : HasOwn j k d.own.registers d.own.kept.cells d.own.kept.rows
  own_first = record {
    cells_there = ap (length {A = List ℤ}) at.cells;
    rows_there = ap (map (length {A = List ℤ})) rows ∙ same_rows (reactions j) d.own.kept.lens (actuator_lens j.graph j.graph.vertices)
        (ap (length {A = ℕ}) lens ∙ lens_many j.graph (λ v. get_or mine v false) 0 j.graph.vertices);
    own_registers = λ s n c. ap (λ (l : List (List ℤ)). get_or l s []) at.registers ∙ none_used (length code) s ∙ ap (λ (o : Own). o.registers) (sym (first s n c));
    own_cells = λ s n v q x c i e w. ap (λ (l : Values). vector_at l q) at.cells ∙ ap (λ (o : Own). vector_at o.cells q) (sym (first s n c));
    own_rows = λ s n v a i x c e q w. row_first s n v a i x c e q w ∙ ap (λ (o : Own). row_at o.rows i a) (sym (first s n c));
  }

  begins : IsDriver j d.seat.table k d
  begins = record {
    of_table = refl;
    of_job = job;
    holds = holds;
    job = new.job;
    counts_there = ap (length {A = ℕ}) counts ∙ length-replicate (length j.program.seqs) 0;
    registers_there = ap (length {A = List ℤ}) at.registers ∙ length-replicate (length code) [] ∙ code_long;
    rooms_there = ap (length {A = ℕ}) at.rooms ∙ length-map code (room_of j.graph) ∙ code_long;
    there = new.there;
    within = λ s n c. let z = new.none_made s n c in omega (arith, z);
    counted = λ s n c. ap (λ (l : List ℕ). get_or l s 0) counts ∙ count_zero (length j.program.seqs) s ∙ sym (new.none_made s n c);
    only = only;
    all = λ s l q. (0, drives s l q);
    reaches = record { counts = (opening j).counts; reached = ([], refl); agree = λ s n c. count_zero (length j.program.seqs) s ∙ sym (new.none_made s n c) };
    ready = at.ready;
    laid = calls_laid;
    in_prologue = rw at.rooms (prologue_fits j code are);
    in_turn = rw at.rooms (turn_fits j code are);
    own = own_first;
  }

-- a driver of its group
pub begins_by : (j : JobData) → RunsOnWords j → (code : List SeqSteps) → AreSteps j.program code → (callers : List ℕ)
    → ((v : ℕ) → v < length j.graph.vertices → get_or callers v 0 ≡ caller j v) → length callers ≡ length j.graph.vertices
    → (d : DriverParts) → d.job.now ≡ j → DrivesGroup j d.groups d.group d.seat.view → (mine : List Bool) → mine ≡ map (λ s. nat_eq (s % d.groups) d.group) callers
    → d.counts.items ≡ replicate (length j.program.seqs) 0 → AreAtOpening j code d.own
    → d.own.kept.lens ≡ lens_for j.graph (λ v. get_or mine v false) 0 j.graph.vertices
    → d.own.kept.rows ≡ replicate (reactions j) (map zeros d.own.kept.lens) → ((v : ℕ) → get_or mine v false ≡ true → IsLaid j d.own.kept.lens d.own.kept.desks v)
    → AreDriverParts d × IsNew (driver_view d)
begins_by j g code are callers called there d job new mine mine_is counts at lens rows laid = by d.seat.view refl new
  where
    by : (v : View) → d.seat.view ≡ v → DrivesGroup j d.groups d.group v → AreDriverParts d × IsNew (driver_view d)
    by Spent e n = absurd n
    by (Holds k) e n = (
      (k, subst (λ (i : JobData). IsDriver i d.seat.table k d) (sym job) (begins j g code are callers called there k d job n.0 n.1 n.2 e mine mine_is counts at lens rows laid)),
      record { counts = counts ∙ ap (λ (i : JobData). replicate (length i.program.seqs) 0) (sym job); look = ap (λ (v : View). (last_look v).number) e ∙ n.0.looks },
    )
