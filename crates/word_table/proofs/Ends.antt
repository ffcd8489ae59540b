-- Driver by driver all is gathered, and in the end it is what the counts tell.
use Rattle.std.proofs.Common.{◌≡◌, ℕ, zero, suc, ◌+◌, ◌%◌, ◌<◌, ◌≤◌, ◌⊎◌, inl, inr, ⊎_elim, List, [], ◌∷◌, map, length, get_or, Option, Some, None, refl, sym, ap, subst, arith, ◌∙◌, ℤ}
use Rattle.std.specs.Prelude.{slice_get, replicate}
use Rattle.std.proofs.lemmas.Bool.{cases_eq}
use Rattle.std.proofs.lemmas.List.{length-map, length-replicate}
use Rattle.std.proofs.lemmas.Nat.{mod_below}
use Rattle.std.proofs.lemmas.Option.{slice_get_within}
use Rattle.executive_program.specs.declared.Vertex.{Vertex}
use Rattle.executive_program.specs.declared.Kind.TheVariants.{Actuator}
use Rattle.executive_program.specs.System as theory
use Rattle.executive_program.specs.System.{State}
use Rattle.executive_program.specs.FlatLaws.{actuator_lens}
use Rattle.executive_program.specs.declared.program.SeqCode.{SeqCode}
use Rattle.executive_program.specs.declared.program.Instr.{Instr}
use Rattle.executive_program.specs.Instructions.{turn_of}
use Rattle.word_rule.specs.Job.{JobData, system, zero_rows, reactions}
use Rattle.word_rule.specs.Core.{Core}
use Rattle.word_rule.specs.Operation.{delay_of}
use Rattle.word_rule.specs.Registers.{Own}
use Rattle.word_rule.specs.Told.{told, stored_value, own_after}
use Rattle.word_rule.specs.Agrees.{IsFormed, Agrees, caller, row_at}
use Rattle.word_rule.proofs.AgreeTells.{agreement_tells}
use Rattle.word_rule.proofs.AgreeTold.{told_agrees}
use Rattle.word_rule.specs.declared.view.Knowledge.{Knowledge}
use Rattle.word_rule.specs.Given.{RunsOnWords}
use Rattle.word_rule.specs.Views.{count_in}
use Rattle.word_rule.proofs.Ending.{same_lists}
use Rattle.word_table.specs.declared.remains.Remains.{Remains}
use Rattle.word_table.specs.declared.driver_parts.DriverParts.{DriverParts}
use Rattle.word_table.specs.Ends.{Gathers, IsGathered, TakesRows}
use Rattle.word_table.specs.Owners.{owners}
use Rattle.word_table.specs.Parts.{AreLaid, IsDriver}
use Rattle.word_table.proofs.Callers.{cell_owner}
use Rattle.syn_base.specs.Vectors.{Values, vector_at, zeros}

-- the sequence that calls an operation is one of the program
pub caller_there : (j : JobData) → IsFormed j → (v : ℕ) (x : Vertex) → slice_get j.graph.vertices v ≡ Some x → caller j v < length j.program.seqs
caller_there j f v x is = by _ _ (slice_get j.program.seqs (caller j v)) refl (f.formed.1.called v x is).stands
  where
    by : (a : ℕ) (y : Instr) (o : Option SeqCode) → slice_get j.program.seqs (caller j v) ≡ o → slice_get (turn_of o) a ≡ Some y → caller j v < length j.program.seqs
    by a y None e s = absurd cc
    by a y (Some q) e s = slice_get_within j.program.seqs (caller j v) q e

-- lists of the same length each
widths : {A : Type 0} (xs : List (List A)) (n w : ℕ) → length xs ≡ n → ((k : ℕ) → k < length xs → length (get_or xs k []) ≡ w) → map length xs ≡ replicate n w
widths [] zero w l h = refl
widths [] (suc n) w l h = absurd (omega arith)
widths (x ∷ xs) zero w l h = absurd (omega arith)
widths (x ∷ xs) (suc n) w l h = λ i. h 0 (omega arith) i ∷ widths xs n w (omega arith) (λ k q. h (suc k) (omega arith)) i

same_widths : {A : Type 0} (n : ℕ) (x : List A) → map length (replicate n x) ≡ replicate n (length x)
same_widths zero x = refl
same_widths (suc n) x = ap (λ l. length x ∷ l) (same_widths n x)

-- the rows of zeros are wide
pub zeros_wide : (j : JobData) (k : ℕ) → k < length (zero_rows j) → length (get_or (zero_rows j) k []) ≡ length (actuator_lens j.graph j.graph.vertices)
zeros_wide j k l = at (reactions j) k
    (let e = length-replicate (reactions j) (map zeros (actuator_lens j.graph j.graph.vertices)) in omega (arith, e, l))
    ∙ length-map (actuator_lens j.graph j.graph.vertices) zeros
  where
    at : (n k : ℕ) → k < n → length (get_or (replicate n (map zeros (actuator_lens j.graph j.graph.vertices))) k []) ≡ length (map zeros (actuator_lens j.graph j.graph.vertices))
    at zero k l = absurd (omega arith)
    at (suc n) zero l = refl
    at (suc n) (suc k) l = at n k (omega arith)

-- nothing is gathered yet
pub none_gathered : (j : JobData) (groups : ℕ) (counts : List ℕ) (r : Remains) → 0 < groups → AreLaid j r → IsGathered j groups groups counts r
none_gathered j groups counts r some l = record {
  of_job = record {
    counts_there = l.counts_there;
    cells_there = ap (length {A = List ℤ}) l.cells;
    rows_there = ap (length {A = Values}) l.rows ∙ length-replicate (reactions j) (map zeros (actuator_lens j.graph j.graph.vertices));
    wide = λ k q. ap (λ (rows : List Values). length (get_or rows k [])) l.rows ∙ zeros_wide j k (let e = ap (length {A = Values}) l.rows in omega (arith, e, q)) ∙ ap (length {A = ℕ}) (sym l.lens);
    callers_there = l.callers_there;
    callers = l.callers;
  };
  words_there = l.words_there;
  lens = l.lens;
  cell_owners = l.cell_owners;
  made = λ s q h. absurd (let m = mod_below s groups some in omega (arith, m, h));
  cells = λ v d x is e h. absurd (let m = mod_below (caller j v) groups some in omega (arith, m, h));
  rows = λ v a k x is e h. absurd (let m = mod_below (caller j v) groups some in omega (arith, m, h));
}

-- one group more
module _ (j : JobData) (g : RunsOnWords j) (groups m : ℕ) (counts : List ℕ) (old new : Remains) (d : DriverParts) (k : Knowledge)
    (i : IsDriver j d.seat.table k d) (gs : d.groups ≡ groups) (gm : d.group ≡ m)
    (r : IsGathered j groups (m + 1) counts old) (t : Gathers d old new) (agree : (s : ℕ) → s < length j.program.seqs → s % groups ≡ m → get_or counts s 0 ≡ get_or d.counts.items s 0) where
  -- is it of this group, or of a later one
  which : (s : ℕ) → m ≤ s % groups → (s % groups ≡ m) ⊎ (m + 1 ≤ s % groups)
  which s h = ⊎_elim (λ q. inl q) (λ q. inr (omega (arith, q, h))) (cases_eq (s % groups) m)

  to_own : (s : ℕ) → s % groups ≡ m → s % d.groups ≡ d.group
  to_own s q = ap (λ (n : ℕ). s % n) gs ∙ q ∙ sym gm

  not_own : (s : ℕ) → m + 1 ≤ s % groups → s % d.groups ≡ d.group → ⊥
  not_own s h q = let e : s % groups ≡ m = ap (λ (n : ℕ). s % n) (sym gs) ∙ q ∙ gm in omega (arith, e, h)

  -- the count of a sequence of this group
  own_count : (s : ℕ) → s < length j.program.seqs → (q : s % groups ≡ m) → (n : ℕ) × (count_in k.driven s ≡ Some n) × (n ≡ get_or counts s 0)
  own_count s l q = let c = i.all s l (to_own s q) in (c.0, c.1, sym (agree s l q ∙ i.counted s c.0 c.1))

  called : (v : ℕ) (x : Vertex) → slice_get j.graph.vertices v ≡ Some x → get_or old.callers.items v 0 ≡ caller j v
  called v x is = r.of_job.callers v (slice_get_within j.graph.vertices v x is)

  owned : (v d' : ℕ) (x : Vertex) → slice_get j.graph.vertices v ≡ Some x → delay_of j.graph v x ≡ Some d' → slice_get old.cell_owners.items d' ≡ Some (caller j v)
  owned v d' x is e = ap (λ (l : List ℕ). slice_get l d') r.cell_owners ∙ cell_owner j g.formed old.callers.items r.of_job.callers_there r.of_job.callers v d' x is e

  cell_now : (v d' : ℕ) (x : Vertex) → slice_get j.graph.vertices v ≡ Some x → delay_of j.graph v x ≡ Some d' → (caller j v % groups ≡ m) ⊎ (m + 1 ≤ caller j v % groups)
      → vector_at new.cells.items d' ≡ vector_at (own_after j (caller j v) (get_or counts (caller j v) 0)).cells d'
  cell_now v d' x is e (inl q) = let c = own_count (caller j v) (caller_there j g.formed v x is) q in
      t.cells.here d' (caller j v) (let a = (i.ready.cells_fit v x d' is e).0 in let b = i.own.cells_there in
      let w = r.of_job.cells_there in omega (arith, a, b, w)) (owned v d' x is e) (to_own (caller j v) q)
      ∙ i.own.own_cells (caller j v) c.0 v d' x c.1 is e refl ∙ ap (λ (n : ℕ). vector_at (own_after j (caller j v) n).cells d') c.2
  cell_now v d' x is e (inr h) = t.cells.elsewhere d' (caller j v) (owned v d' x is e) (not_own (caller j v) h) ∙ r.cells v d' x is e h

  row_now : (v a n : ℕ) (x : Vertex) → slice_get j.graph.vertices v ≡ Some x → x.kind ≡ Actuator a → (caller j v % groups ≡ m) ⊎ (m + 1 ≤ caller j v % groups)
      → row_at new.rows.reactions n a ≡ row_at (own_after j (caller j v) (get_or counts (caller j v) 0)).rows n a
  row_now v a n x is e (inl q) = let c = own_count (caller j v) (caller_there j g.formed v x is) q in
      rows.here v a n x is e (ap (λ (s : ℕ). s % d.groups) (called v x is) ∙ to_own (caller j v) q)
      ∙ i.own.own_rows (caller j v) c.0 v a n x c.1 is e refl ∙ ap (λ (n' : ℕ). row_at (own_after j (caller j v) n').rows n a) c.2
    where
      rows : TakesRows j old.rows new.rows (record { lens = d.own.kept.lens; reactions = d.own.kept.rows }) old.callers.items d.groups d.group
      rows = subst (λ (j' : JobData). TakesRows j' old.rows new.rows (record { lens = d.own.kept.lens; reactions = d.own.kept.rows }) old.callers.items d.groups d.group) i.of_job t.rows
  row_now v a n x is e (inr h) = rows.elsewhere v a n x is e (λ q. not_own (caller j v) h (ap (λ (s : ℕ). s % d.groups) (sym (called v x is)) ∙ q)) ∙ r.rows v a n x is e h
    where
      rows : TakesRows j old.rows new.rows (record { lens = d.own.kept.lens; reactions = d.own.kept.rows }) old.callers.items d.groups d.group
      rows = subst (λ (j' : JobData). TakesRows j' old.rows new.rows (record { lens = d.own.kept.lens; reactions = d.own.kept.rows }) old.callers.items d.groups d.group) i.of_job t.rows

  pub gathered_more : IsGathered j groups m counts new
  gathered_more = record {
    of_job = record {
      counts_there = t.counts.many ∙ r.of_job.counts_there;
      cells_there = t.cells.many ∙ r.of_job.cells_there;
      rows_there = t.rows.many ∙ r.of_job.rows_there;
      wide = t.rows.wide;
      callers_there = ap (λ w. length w.items) t.callers ∙ r.of_job.callers_there;
      callers = λ v l. ap (λ w. get_or w.items v 0) t.callers ∙ r.of_job.callers v l;
    };
    words_there = ap (λ w. length w.items + 1) t.words ∙ r.words_there;
    lens = t.rows.lens ∙ r.lens;
    cell_owners = ap (λ w. w.items) t.owners ∙ r.cell_owners ∙ ap (λ w. owners w.items j.graph.vertices) (sym t.callers);
    made = λ s l h. ⊎_elim
        (λ q. t.counts.here s (let a = r.of_job.counts_there in omega (arith, a, l)) (to_own s q) ∙ sym (agree s l q))
        (λ q. t.counts.elsewhere s (not_own s q) ∙ r.made s l q) (which s h);
    cells = λ v d' x is e h. cell_now v d' x is e (which (caller j v) h);
    rows = λ v a n x is e h. row_now v a n x is e (which (caller j v) h);
  }

-- When all groups are gathered.
module _ (j : JobData) (g : RunsOnWords j) (groups : ℕ) (counts : List ℕ) (many : length counts ≡ length j.program.seqs) (r : Remains) (h : IsGathered j groups 0 counts r) where
  abbrev Z : Core
  Z = told j counts

  abbrev W : State Own
  W = theory.told (system j) (stored_value j) (own_after j) (λ s. get_or counts s 0)

  a : Agrees j Z W
  a = told_agrees j g.formed counts many

  -- the state that counts tell, with what is gathered
  abbrev Y : Core
  Y = record { counts = counts; semaphores = Z.semaphores; turns = Z.turns; elements = Z.elements; registers = Z.registers; cells = r.cells.items; rows = r.rows.reactions }

  b : Agrees j Y W
  b = record {
    counts = a.counts;
    semaphores = a.semaphores;
    turns = a.turns;
    buffers = a.buffers;
    wires = a.wires;
    registers = a.registers;
    cells = λ v q x is e. h.cells v q x is e (omega arith);
    rows = λ v n k x is e. h.rows v n k x is e (omega arith);
    counts_there = a.counts_there;
    semaphores_there = a.semaphores_there;
    turns_there = a.turns_there;
    elements_there = a.elements_there;
    registers_there = a.registers_there;
    cells_there = h.of_job.cells_there;
    rows_there = widths r.rows.reactions (reactions j) (length (actuator_lens j.graph j.graph.vertices)) h.of_job.rows_there (λ k l. h.of_job.wide k l ∙ ap (length {A = ℕ}) h.lens)
        ∙ ap (replicate (reactions j)) (sym (length-map (actuator_lens j.graph j.graph.vertices) zeros)) ∙ sym (same_widths (reactions j) (map zeros (actuator_lens j.graph j.graph.vertices)));
    own_cells_there = a.own_cells_there;
    own_rows_there = a.own_rows_there;
  }

  same : Y ≡ Z
  same = agreement_tells j g.formed Y Z W b a

  pub cells_told : r.cells.items ≡ (told j counts).cells
  cells_told = ap (λ (z : Core). z.cells) same

  pub rows_told : r.rows.reactions ≡ (told j counts).rows
  rows_told = ap (λ (z : Core). z.rows) same

  pub counts_are : r.counts.items ≡ counts
  counts_are = same_lists r.counts.items counts (h.of_job.counts_there ∙ sym many) (λ s l. h.made s (let e = h.of_job.counts_there in omega (arith, e, l)) (omega arith))
