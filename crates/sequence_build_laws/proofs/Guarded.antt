-- The semaphore lines of a sequence depend on its own instructions alone, so the program of a schedule is its plain program with semaphores.
use Rattle.std.proofs.Common.{◌≡◌, ℕ, zero, suc, Bool, true, false, ◌&&◌, ◌||◌, not, cond, nat_eq, List, [], ◌∷◌, ◌++◌, map, refl, sym, ap, ◌∙◌}
use Rattle.std.specs.Prelude.{slice_get}
use Rattle.std.specs.List.{flat_map, list_any, filter}
use Rattle.std.proofs.lemmas.Bool.{eqb-true}
use Rattle.std.proofs.lemmas.List.{append-nil}
use Rattle.schedule.specs.declared.Seq.{Seq}
use Rattle.schedule.specs.Graph.{Graph}
use Rattle.schedule.specs.Archi.{Architecture}
use Rattle.schedule.specs.Sequences.{sequences}
use Rattle.schedule.specs.declared.decision.Schedule.{Schedule}
use Rattle.schedule.specs.Acts.{Copy}
use Rattle.executive_program.specs.declared.program.Instr.{Instr}
use Rattle.executive_program.specs.declared.program.Instr.TheVariants.{Suc0, Suc1, Pre0, Pre1}
use Rattle.executive_program.specs.Instructions.{Reader, reads}
use Rattle.sequence_build_laws.specs.InTurn.{Standing, in_turn, in_turn_after}
use Rattle.sequence_build_laws.specs.Serial.{Step, step, projection, codes, reads_for, is_filled, pairs_where, block, steps_at, pairs, copies, buffer, plain_steps}
use Rattle.sequence_build_laws.specs.Built.{buffers_from, operator_in as copy_operator}
use Rattle.sequence_build_laws.specs.Guarded.{reads_in, lines_at, guarded_loop, opening, guarded_codes, guarded_buffers, operator_in, BuiltAreGuarded}

pub projection-append : (xs ys : List Step) (s : ℕ) → projection (xs ++ ys) s ≡ projection xs s ++ projection ys s
projection-append [] ys s = refl
projection-append (x ∷ xs) ys s = by (nat_eq x.sequence s) (projection-append xs ys s)
  where
    by : (b : Bool) → projection (xs ++ ys) s ≡ projection xs s ++ projection ys s
        → map (λ (x : Step). x.instr) (cond b (x ∷ filter (λ (x : Step). nat_eq x.sequence s) (xs ++ ys)) (filter (λ (x : Step). nat_eq x.sequence s) (xs ++ ys)))
        ≡ map (λ (x : Step). x.instr) (cond b (x ∷ filter (λ (x : Step). nat_eq x.sequence s) xs) (filter (λ (x : Step). nat_eq x.sequence s) xs)) ++ projection ys s
    by true e = ap (λ (l : List Instr). x.instr ∷ l) e
    by false e = e

-- the steps of one sequence
steps-projected : (t s : ℕ) (b : Bool) → nat_eq t s ≡ b → (xs : List Instr) → projection (map (step t) xs) s ≡ cond b xs []
steps-projected t s true e [] = refl
steps-projected t s false e [] = refl
steps-projected t s true e (x ∷ xs) =
    (λ i. map (λ (x : Step). x.instr) (cond (e i) (step t x ∷ filter (λ (x : Step). nat_eq x.sequence s) (map (step t) xs)) (filter (λ (x : Step). nat_eq x.sequence s) (map (step t) xs))))
    ∙ ap (λ (l : List Instr). x ∷ l) (steps-projected t s true e xs)
steps-projected t s false e (x ∷ xs) =
    (λ i. map (λ (x : Step). x.instr) (cond (e i) (step t x ∷ filter (λ (x : Step). nat_eq x.sequence s) (map (step t) xs)) (filter (λ (x : Step). nat_eq x.sequence s) (map (step t) xs))))
    ∙ steps-projected t s false e xs

one-projected : (x : Step) (s : ℕ) (b : Bool) → nat_eq x.sequence s ≡ b → (xs : List Step) → projection (x ∷ xs) s ≡ cond b (x.instr ∷ projection xs s) (projection xs s)
one-projected x s true e xs = λ i. map (λ (x : Step). x.instr) (cond (e i) (x ∷ filter (λ (x : Step). nat_eq x.sequence s) xs) (filter (λ (x : Step). nat_eq x.sequence s) xs))
one-projected x s false e xs = λ i. map (λ (x : Step). x.instr) (cond (e i) (x ∷ filter (λ (x : Step). nat_eq x.sequence s) xs) (filter (λ (x : Step). nat_eq x.sequence s) xs))

module _ (ps : List Reader) (s : ℕ) where
  -- what reads for a pair of this sequence stands in this sequence
  any_same : (r : Reader) → nat_eq s r.sequence ≡ true → (xs : List Step) → list_any (reads_for r) xs ≡ list_any (reads_in ps s r) (projection xs s)
  any_same r own [] = refl
  any_same r own (x ∷ xs) = by (nat_eq x.sequence s) refl (any_same r own xs)
    where
      mine : s ≡ r.sequence
      mine = eqb-true s r.sequence own

      by : (b : Bool) → nat_eq x.sequence s ≡ b → list_any (reads_for r) xs ≡ list_any (reads_in ps s r) (projection xs s)
          → list_any (reads_for r) (x ∷ xs) ≡ list_any (reads_in ps s r) (projection (x ∷ xs) s)
      by true e ih =
          (λ i. (nat_eq (eqb-true x.sequence s e i) r.sequence && reads r.buffer x.instr) || ih i)
          ∙ ap (list_any (reads_in ps s r)) (sym (one-projected x s true e xs))
      by false e ih =
          (λ i. ((nat_eq x.sequence (sym mine i)) && reads r.buffer x.instr) || list_any (reads_for r) xs)
          ∙ (λ i. (e i && reads r.buffer x.instr) || ih i)
          ∙ ap (list_any (reads_in ps s r)) (sym (one-projected x s false e xs))

  abbrev local : List Step → Step → List Step → Standing Instr
  local bs x xs = record { before = projection bs s; it = x.instr; after = projection xs s }

  abbrev global : List Step → Step → List Step → Standing Step
  global bs x xs = record { before = bs; it = x; after = xs }

  -- a test of an instruction and of others around it
  around_same : (r : Reader) (x : Step) (others : List Step) → x.sequence ≡ s → (reads_for r x && not (list_any (reads_for r) others))
      ≡ (reads_in ps s r x.instr && not (list_any (reads_in ps s r) (projection others s)))
  around_same r x others e = (λ i. (nat_eq (e i) r.sequence && reads r.buffer x.instr) && not (list_any (reads_for r) others)) ∙ by (nat_eq s r.sequence) refl
    where
      by : (b : Bool) → nat_eq s r.sequence ≡ b → ((nat_eq s r.sequence && reads r.buffer x.instr) && not (list_any (reads_for r) others))
          ≡ ((nat_eq s r.sequence && reads r.buffer x.instr) && not (list_any (reads_in ps s r) (projection others s)))
      by true own = λ i. (nat_eq s r.sequence && reads r.buffer x.instr) && not (any_same r own others i)
      by false own = (λ i. (own i && reads r.buffer x.instr) && not (list_any (reads_for r) others))
          ∙ sym (λ i. (own i && reads r.buffer x.instr) && not (list_any (reads_in ps s r) (projection others s)))

  block_same : (bs : List Step) (x : Step) (xs : List Step) → x.sequence ≡ s → block ps (global bs x xs) ≡ lines_at ps s (local bs x xs)
  block_same bs x xs e = λ i.
      map Suc1 (pairs_where ps (λ r. around_same r x bs e i)) ++ (map Suc0 (pairs_where ps (is_filled (global bs x xs)))
      ++ (x.instr ∷ (map Pre0 (pairs_where ps (λ r. around_same r x xs e i)) ++ map Pre1 (pairs_where ps (is_filled (global bs x xs))))))

  after_same : (bs xs : List Step) → projection (flat_map (steps_at ps) (in_turn_after bs xs)) s ≡ flat_map (lines_at ps s) (in_turn_after (projection bs s) (projection xs s))
  after_same bs [] = refl
  after_same bs (x ∷ xs) = projection-append (steps_at ps (global bs x xs)) (flat_map (steps_at ps) (in_turn_after (bs ++ x ∷ []) xs)) s ∙ by (nat_eq x.sequence s) refl (after_same (bs ++ x ∷ []) xs)
    where
      by : (b : Bool) → nat_eq x.sequence s ≡ b → projection (flat_map (steps_at ps) (in_turn_after (bs ++ x ∷ []) xs)) s
          ≡ flat_map (lines_at ps s) (in_turn_after (projection (bs ++ x ∷ []) s) (projection xs s))
          → projection (steps_at ps (global bs x xs)) s ++ projection (flat_map (steps_at ps) (in_turn_after (bs ++ x ∷ []) xs)) s
          ≡ flat_map (lines_at ps s) (in_turn_after (projection bs s) (projection (x ∷ xs) s))
      by true e ih =
          let here = steps-projected x.sequence s true e (block ps (global bs x xs)) ∙ block_same bs x xs (eqb-true x.sequence s e) in
          let past : projection (bs ++ x ∷ []) s ≡ projection bs s ++ x.instr ∷ [] = projection-append bs (x ∷ []) s ∙ ap (λ (l : List Instr). projection bs s ++ l) (one-projected x s true e []) in
          (λ i. here i ++ (ih ∙ ap (λ (l : List Instr). flat_map (lines_at ps s) (in_turn_after l (projection xs s))) past) i)
          ∙ ap (λ (l : List Instr). flat_map (lines_at ps s) (in_turn_after (projection bs s) l)) (sym (one-projected x s true e xs))
      by false e ih =
          let here = steps-projected x.sequence s false e (block ps (global bs x xs)) in
          let past : projection (bs ++ x ∷ []) s ≡ projection bs s = projection-append bs (x ∷ []) s
          ∙ (ap (λ (l : List Instr). projection bs s ++ l) (one-projected x s false e []) ∙ append-nil (projection bs s)) in
          (λ i. here i ++ (ih ∙ ap (λ (l : List Instr). flat_map (lines_at ps s) (in_turn_after l (projection xs s))) past) i)
          ∙ ap (λ (l : List Instr). flat_map (lines_at ps s) (in_turn_after (projection bs s) l)) (sym (one-projected x s false e xs))

  pub loop_same : (plain : List Step) → projection (flat_map (steps_at ps) (in_turn plain)) s ≡ guarded_loop ps s (projection plain s)
  loop_same plain = after_same [] plain

codes_same : (depth : ℕ) (ps : List Reader) (plain : List Step) (s : ℕ) (qs : List Seq)
    → codes (λ t. opening ps t depth) (projection (flat_map (steps_at ps) (in_turn plain))) s qs ≡ guarded_codes depth ps s (codes (λ _. []) (projection plain) s qs)
codes_same depth ps plain s [] = refl
codes_same depth ps plain s (q ∷ qs) = let here = loop_same ps s plain in let rest = codes_same depth ps plain (suc s) qs in
    λ i. record { seq = q; prologue = opening ps s depth; turn = here i } ∷ rest i

module _ (g : Graph) (a : Architecture) (s : Schedule) where
  buffers_same : (depth b : ℕ) (cs : List Copy) → buffers_from depth g a s b cs ≡ guarded_buffers depth (pairs g a s) b (map (buffer g a s 1) cs)
  buffers_same depth b [] = refl
  buffers_same depth b (c ∷ cs) = let rest = buffers_same depth (suc b) cs in λ i. buffer g a s (cond (list_any (λ (r : Reader). nat_eq r.buffer b) (pairs g a s)) depth 1) c ∷ rest i

  operator_same : (cs : List Copy) (b : ℕ) → copy_operator (slice_get cs b) ≡ operator_in (slice_get (map (buffer g a s 1) cs) b)
  operator_same [] b = refl
  operator_same (c ∷ cs) zero = refl
  operator_same (c ∷ cs) (suc b) = operator_same cs b

pub built_are_guarded : BuiltAreGuarded
built_are_guarded g a s =
    let seqs = codes_same a.depth (pairs g a s) (plain_steps g a s) 0 (sequences a) in
    let buffers = buffers_same g a s a.depth 0 (copies g a s) in
    λ i. record {
      buffers = buffers i;
      pairs = map (λ (r : Reader). operator_same g a s (copies g a s) r.buffer i) (pairs g a s);
      seqs = seqs i;
    }
