-- Communications: each communicator of a medium has one in each transfer over it, in the order of the transfers.
use Rattle.std.proofs.Common.{
  ◌≡◌,
  ℕ,
  zero,
  suc,
  ◌+◌,
  ◌<◌,
  ◌≤◌,
  Bool,
  true,
  false,
  ◌&&◌,
  not,
  cond,
  nat_eq,
  List,
  [],
  ◌∷◌,
  ◌++◌,
  length,
  map,
  take,
  Option,
  Some,
  refl,
  sym,
  ap,
  arith,
  ◌∙◌,
  eq-eqb,
  ne_eqb,
}
use Rattle.std.specs.Prelude.{slice_get}
use Rattle.std.specs.List.{flat_map, filter, list_any}
use Rattle.std.specs.Cmp.Derive.{both_true}
use Rattle.std.proofs.lemmas.Bool.{false≢true, and_parts, and_right, eqb-true}
use Rattle.std.proofs.lemmas.Option.{same_Some, slice_get_within}
use Rattle.std.proofs.Math.Bool.{and-true}
use Rattle.schedule.specs.Graph.{Graph}
use Rattle.schedule.specs.declared.Seq.{Seq}
use Rattle.schedule.specs.Archi.{Architecture, is_archi}
use Rattle.schedule.specs.Sequences.{sequences}
use Rattle.schedule.specs.declared.decision.Transfer.{Transfer}
use Rattle.schedule.specs.declared.decision.Schedule.{Schedule}
use Rattle.schedule.proofs.Copies.{same_copy_self, same_bool}
use Rattle.executive_program.proofs.Reading.{any_at}
use Rattle.sequence_build_laws.specs.InTurn.{Standing, in_turn_after, in_turn}
use Rattle.schedule.specs.Acts.{Act, carry, run, acts, is_over, copy, same_copy, made_by}
use Rattle.schedule.specs.Valid.{is_valid}
use Rattle.executive_program.specs.declared.program.Instr.{Instr}
use Rattle.executive_program.specs.declared.program.Instr.TheVariants.{Suc0, Suc1, Pre0, Pre1}
use Rattle.executive_program.specs.declared.program.Program.{Program}
use Rattle.executive_program.specs.Instructions.{Reader, is_communication, turn, medium, operator, same_medium}
use Rattle.executive_program.specs.WellFormed.{Stands}
use Rattle.sequence_build_laws.specs.Serial.{
  Step,
  step,
  projection,
  numbers_where,
  is_other,
  reads_first,
  reads_last,
  is_filled,
  pairs_where,
  block,
  steps_at,
  steps_of,
  number_of,
  plain_steps,
  pairs,
  serial,
}
use Rattle.sequence_build_laws.specs.Built.{program_with}
use Rattle.sequence_build_laws.proofs.Lists.{map_at, starts, take_flat, tally, tally_yes, tally_not, tally-append, tally_grows, tally_rises, take_get}
use Rattle.sequence_build_laws.proofs.Loops as loops
use Rattle.sequence_build_laws.proofs.Loops.{is_of, tally-map}
use Rattle.sequence_build_laws.proofs.Lines as lines
use Rattle.sequence_build_laws.proofs.Lines.{is_plain, middle}
use Rattle.sequence_build_laws.proofs.Setting.{Setting, Here, here, Core, core_of, placed}
use Rattle.sequence_build_laws.proofs.Sequences.{one_sequence, medium_is_same, same_medium_of}
use Rattle.sequence_build_laws.proofs.Works.{read_made, of_transfer}
use Rattle.sequence_build_laws.proofs.Steps as steps
use Rattle.sequence_build_laws.proofs.Steps.{Kind, kind_of, of_step, step_at, waiting, calling, from_there, to_there, setting}

-- a communication of this sequence
abbrev pub comm_in : ℕ → Step → Bool
comm_in s y = nat_eq y.sequence s && is_communication y.instr

-- the front of a projection is the projection of a front
front_of : (s : ℕ) (xs : List Step) (n : ℕ) → take (tally (is_of s) (take n xs)) (projection xs s) ≡ projection (take n xs) s
front_of s xs zero = refl
front_of s [] (suc n) = refl
front_of s (x ∷ xs) (suc n) = by (nat_eq x.sequence s) (front_of s xs n)
  where
    by : (b : Bool) → take (tally (is_of s) (take n xs)) (projection xs s) ≡ projection (take n xs) s
        → take (cond b (suc (tally (is_of s) (take n xs))) (tally (is_of s) (take n xs))) (map (λ (y : Step). y.instr) (cond b (x ∷ filter (is_of s) xs) (filter (is_of s) xs)))
        ≡ map (λ (y : Step). y.instr) (cond b (x ∷ filter (is_of s) (take n xs)) (filter (is_of s) (take n xs)))
    by true e = ap (λ (l : List Instr). x.instr ∷ l) e
    by false e = e

comms_of : (s : ℕ) (xs : List Step) → tally is_communication (projection xs s) ≡ tally (comm_in s) xs
comms_of s [] = refl
comms_of s (x ∷ xs) = by (nat_eq x.sequence s) (is_communication x.instr) refl (comms_of s xs)
  where
    by : (b c : Bool) → is_communication x.instr ≡ c → tally is_communication (projection xs s) ≡ tally (comm_in s) xs
        → tally is_communication (map (λ (y : Step). y.instr) (cond b (x ∷ filter (is_of s) xs) (filter (is_of s) xs))) ≡ cond (b && c) (suc (tally (comm_in s) xs)) (tally (comm_in s) xs)
    by true true h e = tally_yes is_communication x.instr (projection xs s) h ∙ ap (λ (n : ℕ). suc n) e
    by true false h e = tally_not is_communication x.instr (projection xs s) h ∙ e
    by false c h e = e

none_pass : {A B : Type 0} (p : B → Bool) (f : A → B) (xs : List A) → ((x : A) → p (f x) ≡ false) → tally p (map f xs) ≡ 0
none_pass p f [] h = refl
none_pass p f (x ∷ xs) h = tally_not p (f x) (map f xs) (h x) ∙ none_pass p f xs h

-- a block has the communications of its instruction
module _ (pairs : List Reader) (s : ℕ) (v : Standing Step) where
  abbrev test : Step → Bool
  test = comm_in s

  line_none : (f : ℕ → Instr) (ns : List ℕ) → ((q : ℕ) → is_communication (f q) ≡ false) → tally (comm_in s) (map (step v.it.sequence) (map f ns)) ≡ 0
  line_none f ns h = tally-map (comm_in s) (step v.it.sequence) (map f ns)
      ∙ none_pass (λ (x : Instr). comm_in s (step v.it.sequence x)) f ns (λ q. and_right (nat_eq v.it.sequence s) (is_communication (f q)) (h q))

  tally_split : (f : Instr → Step) (xs ys : List Instr) → tally (comm_in s) (map f (xs ++ ys)) ≡ tally (comm_in s) (map f xs) + tally (comm_in s) (map f ys)
  tally_split f xs ys = tally-map (comm_in s) f (xs ++ ys) ∙ tally-append (λ (x : Instr). comm_in s (f x)) xs ys
      ∙ (let e = tally-map (comm_in s) f xs in let d = tally-map (comm_in s) f ys in omega arith)

  abbrev firsts : List Instr
  firsts = map Suc1 (pairs_where pairs (reads_first v))

  abbrev filleds : List Instr
  filleds = map Suc0 (pairs_where pairs (is_filled v))

  abbrev behind : List Instr
  behind = map Pre0 (pairs_where pairs (reads_last v)) ++ map Pre1 (pairs_where pairs (is_filled v))

  in_behind : tally (comm_in s) (map (step v.it.sequence) behind) ≡ 0
  in_behind = let e = tally_split (step v.it.sequence) (map Pre0 (pairs_where pairs (reads_last v))) (map Pre1 (pairs_where pairs (is_filled v))) in
      let a = line_none Pre0 (pairs_where pairs (reads_last v)) (λ q. refl) in let b = line_none Pre1 (pairs_where pairs (is_filled v)) (λ q. refl) in omega arith

  pub in_block : tally (comm_in s) (steps_at pairs v) ≡ cond (comm_in s v.it) 1 0
  in_block =
      let e = tally_split (step v.it.sequence) firsts (filleds ++ (v.it.instr ∷ behind)) in
      let d = tally_split (step v.it.sequence) filleds (v.it.instr ∷ behind) in
      let a = line_none Suc1 (pairs_where pairs (reads_first v)) (λ q. refl) in
      let b = line_none Suc0 (pairs_where pairs (is_filled v)) (λ q. refl) in
      let c = in_behind in by (comm_in s v.it) (let z : tally (comm_in s) (steps_at pairs v) ≡ tally (comm_in s) (step v.it.sequence v.it.instr ∷ map (step v.it.sequence) behind) = omega arith in z) c
    where
      by : (t : Bool) → tally (comm_in s) (steps_at pairs v) ≡ cond t (suc (tally (comm_in s) (map (step v.it.sequence) behind))) (tally (comm_in s) (map (step v.it.sequence) behind))
          → tally (comm_in s) (map (step v.it.sequence) behind) ≡ 0 → tally (comm_in s) (steps_at pairs v) ≡ cond t 1 0
      by true e c = omega arith
      by false e c = omega arith

  -- up to the instruction there is none
  pub before_middle : tally (comm_in s) (take (middle pairs v) (steps_at pairs v)) ≡ 0
  before_middle = by (comm_in s v.it) refl
    where
      there : slice_get (steps_at pairs v) (middle pairs v) ≡ Some v.it
      there = map_at (step v.it.sequence) (block pairs v) (middle pairs v) v.it.instr (lines.middle_there pairs v)

      all : tally (comm_in s) (steps_at pairs v) ≡ tally (comm_in s) (take (length (steps_at pairs v)) (steps_at pairs v))
      all = ap (tally (comm_in s)) (sym (Rattle.std.proofs.lemmas.List.take_all (length (steps_at pairs v)) (steps_at pairs v) (omega arith)))

      by : (t : Bool) → comm_in s v.it ≡ t → tally (comm_in s) (take (middle pairs v) (steps_at pairs v)) ≡ 0
      by true e = let g = tally_grows (comm_in s) (steps_at pairs v) (middle pairs v) (length (steps_at pairs v)) v.it there e (slice_get_within (steps_at pairs v) (middle pairs v) v.it there) in
          let w : tally (comm_in s) (steps_at pairs v) ≡ 1 = in_block ∙ ap (λ (t : Bool). cond t 1 0) e in let y = all in omega arith
      by false e = let g = tally_rises (comm_in s) (steps_at pairs v) (middle pairs v) (length (steps_at pairs v))
          (let z = slice_get_within (steps_at pairs v) (middle pairs v) v.it there in omega arith) in
          let w : tally (comm_in s) (steps_at pairs v) ≡ 0 = in_block ∙ ap (λ (t : Bool). cond t 1 0) e in let y = all in omega arith

turn_tally : (f : Standing Step → List Step) (p : Step → Bool) (h : (v : Standing Step) → tally p (f v) ≡ cond (p v.it) 1 0) (before xs : List Step) (c : ℕ)
    → tally p (flat_map f (take c (in_turn_after before xs))) ≡ tally p (take c xs)
turn_tally f p h before xs zero = refl
turn_tally f p h before [] (suc c) = refl
turn_tally f p h before (x ∷ xs) (suc c) =
    let v : Standing Step = record { before = before; it = x; after = xs } in
    let e = tally-append p (f v) (flat_map f (take c (in_turn_after (before ++ x ∷ []) xs))) in
    let d = turn_tally f p h (before ++ x ∷ []) xs c in
    let k = h v in by (p x) k d e
  where
    by : (t : Bool) → tally p (f (record { before = before; it = x; after = xs })) ≡ cond t 1 0 → tally p (flat_map f (take c (in_turn_after (before ++ x ∷ []) xs))) ≡ tally p (take c xs)
        → tally p (f (record { before = before; it = x; after = xs }) ++ flat_map f (take c (in_turn_after (before ++ x ∷ []) xs)))
        ≡ tally p (f (record { before = before; it = x; after = xs })) + tally p (flat_map f (take c (in_turn_after (before ++ x ∷ []) xs)))
        → tally p (f (record { before = before; it = x; after = xs }) ++ flat_map f (take c (in_turn_after (before ++ x ∷ []) xs))) ≡ cond t (suc (tally p (take c xs))) (tally p (take c xs))
    by true k d e = omega arith
    by false k d e = omega arith

turn_length : {A : Type 0} (before xs : List A) → length (in_turn_after before xs) ≡ length xs
turn_length before [] = refl
turn_length before (x ∷ xs) = ap (λ (n : ℕ). suc n) (turn_length (before ++ x ∷ []) xs)

-- one number among those that pass
number_tally : (test : Seq → Bool) (n s z : ℕ) (xs : List Seq) (q : Seq) → slice_get xs s ≡ Some q → z ≡ n + s → tally (λ k. nat_eq k z && true) (numbers_where test n xs) ≡ cond (test q) 1 0
number_tally test n s z [] q e h = absurd cc
number_tally test n zero z (x ∷ xs) q e h = by (test x) (ap test (same_Some x q e))
  where
    past : (m : ℕ) (ys : List Seq) → z < m → tally (λ k. nat_eq k z && true) (numbers_where test m ys) ≡ 0
    past m [] l = refl
    past m (y ∷ ys) l = go (test y) (past (suc m) ys (omega arith))
      where
        go : (b : Bool) → tally (λ k. nat_eq k z && true) (numbers_where test (suc m) ys) ≡ 0
            → tally (λ k. nat_eq k z && true) (cond b (m ∷ numbers_where test (suc m) ys) (numbers_where test (suc m) ys)) ≡ 0
        go true r = tally_not (λ k. nat_eq k z && true) m (numbers_where test (suc m) ys) (ap (λ (b : Bool). b && true) (ne_eqb m z (λ e. omega arith))) ∙ r
        go false r = r

    by : (b : Bool) → b ≡ test q → tally (λ k. nat_eq k z && true) (cond b (n ∷ numbers_where test (suc n) xs) (numbers_where test (suc n) xs)) ≡ cond (test q) 1 0
    by true t = tally_yes (λ k. nat_eq k z && true) n (numbers_where test (suc n) xs)
        (ap (λ (b : Bool). b && true) (eq-eqb n z (omega arith))) ∙ ap (λ (k : ℕ). suc k) (past (suc n) xs (omega arith)) ∙ ap (λ (b : Bool). cond b 1 0) t
    by false t = past (suc n) xs (omega arith) ∙ ap (λ (b : Bool). cond b 1 0) t
number_tally test n (suc s) z (x ∷ xs) q e h = by (test x) (number_tally test (suc n) s z xs q e (omega arith))
  where
    by : (b : Bool) → tally (λ k. nat_eq k z && true) (numbers_where test (suc n) xs) ≡ cond (test q) 1 0
        → tally (λ k. nat_eq k z && true) (cond b (n ∷ numbers_where test (suc n) xs) (numbers_where test (suc n) xs)) ≡ cond (test q) 1 0
    by true r = tally_not (λ k. nat_eq k z && true) n (numbers_where test (suc n) xs) (ap (λ (b : Bool). b && true) (ne_eqb n z (λ e. omega arith))) ∙ r
    by false r = r

-- of three, at a medium one
one_of_three : (on from to : Bool) → (from ≡ true → to ≡ true → ⊥) → (n : ℕ) → n ≡ cond (on && not from && not to) 1 0
    → cond (from && on) (suc (cond (to && on) (suc n) n)) (cond (to && on) (suc n) n) ≡ cond on 1 0
one_of_three true true true h n e = absurd (h refl refl)
one_of_three true true false h n e = ap (λ (k : ℕ). suc k) e
one_of_three true false true h n e = ap (λ (k : ℕ). suc k) e
one_of_three true false false h n e = e
one_of_three false true true h n e = e
one_of_three false true false h n e = e
one_of_three false false true h n e = e
one_of_three false false false h n e = e

flat_tally : {A : Type 0} (f : A → List Step) (p : Step → Bool) (r : A → Bool) (xs : List A) → ((i : ℕ) (x : A) → slice_get xs i ≡ Some x → tally p (f x) ≡ cond (r x) 1 0) → (n : ℕ)
    → tally p (flat_map f (take n xs)) ≡ tally r (take n xs)
flat_tally f p r xs h zero = refl
flat_tally f p r [] h (suc n) = refl
flat_tally f p r (x ∷ xs) h (suc n) = by (r x) (h 0 x refl) (flat_tally f p r xs (λ i y e. h (suc i) y e) n) (tally-append p (f x) (flat_map f (take n xs)))
  where
    by : (b : Bool) → tally p (f x) ≡ cond b 1 0 → tally p (flat_map f (take n xs)) ≡ tally r (take n xs) → tally p (f x ++ flat_map f (take n xs)) ≡ tally p (f x) + tally p (flat_map f (take n xs))
        → tally p (f x ++ flat_map f (take n xs)) ≡ cond b (suc (tally r (take n xs))) (tally r (take n xs))
    by true k e d = omega arith
    by false k e d = omega arith

-- before the one that passes none does
before_one : (p : Step → Bool) (xs : List Step) (j : ℕ) (y : Step) → slice_get xs j ≡ Some y → p y ≡ true → tally p xs ≤ 1 → tally p (take j xs) ≡ 0
before_one p xs j y e t l =
    let g = tally_grows p xs j (length xs) y e t (slice_get_within xs j y e) in
    let all : tally p (take (length xs) xs) ≡ tally p xs = ap (tally p) (Rattle.std.proofs.lemmas.List.take_all (length xs) xs (omega arith)) in omega arith

cond_small : (b : Bool) (n : ℕ) → n ≡ cond b 1 0 → n ≤ 1
cond_small true n e = omega arith
cond_small false n e = omega arith

module _ (g : Graph) (a : Architecture) (ticks : ℕ → ℕ → Option ℕ) (s : Schedule) (right : is_archi a.operators a.media ≡ true) (valid : is_valid g a ticks s ≡ true) where
  -- a transfer leads from one operator to another
  pub ends_differ : (i : ℕ) (t : Transfer) → slice_get (acts s) i ≡ Some (carry t) → t.from ≡ t.to → ⊥
  ends_differ i t e same =
      let o = of_transfer g a ticks s valid i t e in
      let m = read_made g a ticks s valid i 0 (carry t) (copy t.from t.source) e refl in
      let passes : same_copy (copy t.to t.source) (copy t.from t.source) ≡ true = ap (λ (k : ℕ). same_copy (copy t.to t.source) (copy k t.source)) same ∙ same_copy_self (copy t.to t.source) in
      let there = any_at (same_copy (copy t.to t.source)) (made_by g.vertices m.act) m.inner (copy t.from t.source) m.made passes in
      false≢true (sym o.fresh ∙ any_at (λ y. list_any (same_copy (copy t.to t.source)) (made_by g.vertices y)) (take i (acts s)) m.at m.act (take_get (acts s) i m.at m.act m.less m.stands) there)

  -- whether a sequence is the communicator that was looked for
  at_sequence : (n u : ℕ) (q : Seq) (o m : ℕ) → slice_get (sequences a) u ≡ Some q → slice_get (sequences a) n
      ≡ Some (record { operator = o; medium = Some m }) → nat_eq n u ≡ (nat_eq q.operator o && same_medium q.medium (Some m))
  at_sequence n u q o m e h = same_bool (nat_eq n u) (nat_eq q.operator o && same_medium q.medium (Some m)) there back
    where
      there : nat_eq n u ≡ true → (nat_eq q.operator o && same_medium q.medium (Some m)) ≡ true
      there t =
          let same : record { operator = o; medium = Some m } ≡ q = same_Some _ q (sym h ∙ ap (slice_get (sequences a)) (eqb-true n u t) ∙ e) in
          both_true (eq-eqb q.operator o (ap (λ (r : Seq). r.operator) (sym same))) (same_medium_of q.medium (Some m) (ap (λ (r : Seq). r.medium) (sym same)))

      back : (nat_eq q.operator o && same_medium q.medium (Some m)) ≡ true → nat_eq n u ≡ true
      back t =
          let parts = and_parts (nat_eq q.operator o) (same_medium q.medium (Some m)) t in
          let x = eqb-true q.operator o parts.0 in
          let y = medium_is_same q.medium (Some m) parts.1 in
          let same : q ≡ record { operator = o; medium = Some m } = (λ i. record { operator = x i; medium = y i }) in
          eq-eqb n u (one_sequence a n u q (h ∙ ap (λ (r : Seq). Some r) (sym same)) e)

  -- each transfer over a medium is one communication of each of its communicators
  pub in_act : (u m : ℕ) (q : Seq) → slice_get (sequences a) u ≡ Some q → q.medium ≡ Some m → (i : ℕ) (x : Act) → slice_get (acts s) i
      ≡ Some x → tally (comm_in u) (steps_of g a s x) ≡ cond (is_over m x) 1 0
  in_act u m q e h i (run d) k = tally_not (comm_in u) (calling g a s d) [] (and_right (nat_eq (calling g a s d).sequence u) false refl)
  in_act u m q e h i (carry t) k =
      let n = number_of g a s (record { operator = t.from; medium = Some t.medium }) in
      let l = number_of g a s (record { operator = t.to; medium = Some t.medium }) in
      let ns = numbers_where (is_other t) 0 (sequences a) in
      let x : (nat_eq (number_of g a s (record { operator = t.from; medium = Some t.medium })) u && true) ≡ (nat_eq q.operator t.from && same_medium q.medium (Some t.medium))
      = and-true (nat_eq n u) ∙ at_sequence n u q t.from t.medium e (from_there g a ticks s right valid i t k) in
      let y : (nat_eq (number_of g a s (record { operator = t.to; medium = Some t.medium })) u && true) ≡ (nat_eq q.operator t.to && same_medium q.medium (Some t.medium))
      = and-true (nat_eq l u) ∙ at_sequence l u q t.to t.medium e (to_there g a ticks s right valid i t k) in
      let w : tally (comm_in u) (map (λ k. waiting g a s t k) (numbers_where (is_other t) 0 (sequences a))) ≡ cond (is_other t q) 1 0
      = tally-map (comm_in u) (λ k. waiting g a s t k) ns ∙ number_tally (is_other t) 0 u u (sequences a) q e (omega arith) in
      let on : same_medium q.medium (Some t.medium) ≡ nat_eq t.medium m = ap (λ (o : Option ℕ). same_medium o (Some t.medium)) h
      ∙ same_bool (nat_eq m t.medium) (nat_eq t.medium m) (λ z. eq-eqb t.medium m (sym (eqb-true m t.medium z))) (λ z. eq-eqb m t.medium (sym (eqb-true t.medium m z))) in
      (λ j. cond (x j) (suc (cond (y j)
      (suc (tally (comm_in u) (map (λ k. waiting g a s t k) (numbers_where (is_other t) 0 (sequences a)))))
      (tally (comm_in u) (map (λ k. waiting g a s t k) (numbers_where (is_other t) 0 (sequences a))))))
      (cond (y j) (suc (tally (comm_in u) (map (λ k. waiting g a s t k) (numbers_where (is_other t) 0 (sequences a)))))
      (tally (comm_in u) (map (λ k. waiting g a s t k) (numbers_where (is_other t) 0 (sequences a))))))
      ∙ one_of_three (same_medium q.medium (Some t.medium)) (nat_eq q.operator t.from) (nat_eq q.operator t.to)
      (λ b c. ends_differ i t k (sym (eqb-true q.operator t.from b) ∙ eqb-true q.operator t.to c))
      (tally (comm_in u) (map (λ k. waiting g a s t k) (numbers_where (is_other t) 0 (sequences a)))) w
      ∙ ap (λ (b : Bool). cond b 1 0) on

  module _ (depth : ℕ) where
    abbrev pub S : Setting
    S = setting g a ticks s right valid depth

    abbrev pub p : Program
    p = program_with depth g a s

    pub medium_of : (u : ℕ) (q : Seq) → slice_get (sequences a) u ≡ Some q → medium p u ≡ q.medium
    medium_of u q e = loops.medium_is p (serial g a s) S.prologues (sequences a) refl (lines.serial_low S.pairs S.plain S.program S.prologues S.seqs S.codes_are S.low) u q e

    pub operator_of : (u : ℕ) (q : Seq) → slice_get (sequences a) u ≡ Some q → operator p u ≡ q.operator
    operator_of u q e = loops.operator_is p (serial g a s) S.prologues (sequences a) refl (lines.serial_low S.pairs S.plain S.program S.prologues S.seqs S.codes_are S.low) u q e

    turn_of : (u : ℕ) (q : Seq) → slice_get (sequences a) u ≡ Some q → turn p u ≡ projection (serial g a s) u
    turn_of u q e = loops.turn_is p (serial g a s) S.prologues (sequences a) refl (lines.serial_low S.pairs S.plain S.program S.prologues S.seqs S.codes_are S.low) u
        (let l = slice_get_within (sequences a) u q e in
        let z = loops.seqs_length p (serial g a s) S.prologues (sequences a) refl
        (lines.serial_low S.pairs S.plain S.program S.prologues S.seqs S.codes_are S.low) in omega arith)

    -- the communications of a communicator in all
    pub count_all : (u m : ℕ) (q : Seq) → slice_get (sequences a) u ≡ Some q → q.medium ≡ Some m → tally is_communication (turn p u) ≡ tally (is_over m) (acts s)
    count_all u m q e h =
        let xs = plain_steps g a s in
        let v = in_turn (plain_steps g a s) in
        let one = turn_tally (steps_at (pairs g a s)) (comm_in u) (in_block (pairs g a s) u) [] (plain_steps g a s) (length (in_turn (plain_steps g a s))) in
        let two = flat_tally (steps_of g a s) (comm_in u) (is_over m) (acts s) (in_act u m q e h) (length (acts s)) in
        ap (tally is_communication) (turn_of u q e) ∙ comms_of u (serial g a s)
        ∙ ap (λ (l : List (Standing Step)). tally (comm_in u) (flat_map (steps_at (pairs g a s)) l))
        (sym (Rattle.std.proofs.lemmas.List.take_all (length (in_turn (plain_steps g a s))) (in_turn (plain_steps g a s)) (omega arith)))
        ∙ one
        ∙ ap (tally (comm_in u)) (Rattle.std.proofs.lemmas.List.take_all (length (in_turn (plain_steps g a s))) (plain_steps g a s) (let z = turn_length [] (plain_steps g a s) in omega arith))
        ∙ ap (λ (l : List Act). tally (comm_in u) (flat_map (steps_of g a s) l)) (sym (Rattle.std.proofs.lemmas.List.take_all (length (acts s)) (acts s) (omega arith)))
        ∙ two
        ∙ ap (tally (is_over m)) (Rattle.std.proofs.lemmas.List.take_all (length (acts s)) (acts s) (omega arith))

    -- those before a step of an act
    count_at : (u m at : ℕ) (q : Seq) (x : Instr) (h : Here S u at x) → Core S u at x h → slice_get (sequences a) u ≡ Some q → q.medium ≡ Some m → is_communication x ≡ true
        → (i j : ℕ) (act : Act) → slice_get (acts s) i ≡ Some act → slice_get (steps_of g a s act) j ≡ Some (step u x) → h.block_number ≡ starts (steps_of g a s) (acts s) i + j
        → tally is_communication (take at (turn p u)) ≡ tally (is_over m) (take i (acts s))
    count_at u m at q x h c e k comm i j act ia st is =
        let ps = pairs g a s in
        let front : at ≡ tally (is_of u) (take h.entry.at (serial g a s)) = sym h.entry.number in
        let place : h.entry.at ≡ starts (steps_at (pairs g a s)) (in_turn (plain_steps g a s)) h.block_number + middle (pairs g a s) h.it =
        h.entry_at ∙ ap (λ (n : ℕ). starts (steps_at (pairs g a s)) (in_turn (plain_steps g a s)) h.block_number + n) c.inner in
        let within : middle (pairs g a s) h.it ≤ length (steps_at (pairs g a s) h.it) = (let w = h.within in let y = c.inner in omega arith) in
        let one = turn_tally (steps_at (pairs g a s)) (comm_in u) (in_block (pairs g a s) u) [] (plain_steps g a s) h.block_number in
        let none = before_middle (pairs g a s) u h.it in
        let two = flat_tally (steps_of g a s) (comm_in u) (is_over m) (acts s) (in_act u m q e k) i in
        let passes : comm_in u (step u x) ≡ true = both_true (eq-eqb u u refl) comm in
        let few = before_one (comm_in u) (steps_of g a s act) j (step u x) st passes (cond_small (is_over m act) (tally (comm_in u) (steps_of g a s act)) (in_act u m q e k i act ia)) in
        let inner : j ≤ length (steps_of g a s act) = (let w = slice_get_within (steps_of g a s act) j (step u x) st in omega arith) in
        let split = tally-append (comm_in u) (flat_map (steps_at (pairs g a s)) (take h.block_number (in_turn (plain_steps g a s)))) (take (middle (pairs g a s) h.it) (steps_at (pairs g a s) h.it)) in
        let split2 = tally-append (comm_in u) (flat_map (steps_of g a s) (take i (acts s))) (take j (steps_of g a s act)) in
        (λ z. tally is_communication (take (front z) (turn_of u q e z)))
        ∙ ap (tally is_communication) (front_of u (serial g a s) h.entry.at)
        ∙ comms_of u (take h.entry.at (serial g a s))
        ∙ ap (λ (n : ℕ). tally (comm_in u) (take n (serial g a s))) place
        ∙ ap (tally (comm_in u)) (take_flat (steps_at (pairs g a s)) (in_turn (plain_steps g a s)) h.block_number (middle (pairs g a s) h.it) h.it h.is_it within)
        ∙ split
        ∙ (λ z. one z + none z)
        ∙ (let w : tally (comm_in u) (take h.block_number (plain_steps g a s)) + 0 ≡ tally (comm_in u) (take h.block_number (plain_steps g a s)) = omega arith in w)
        ∙ ap (λ (n : ℕ). tally (comm_in u) (take n (plain_steps g a s))) is
        ∙ ap (tally (comm_in u)) (take_flat (steps_of g a s) (acts s) i j act ia inner)
        ∙ split2
        ∙ (λ z. two z + few z)
        ∙ (let w : tally (is_over m) (take i (acts s)) + 0 ≡ tally (is_over m) (take i (acts s)) = omega arith in w)

    -- What a communication of a loop is.
    pub record Comm (u at : ℕ) (x : Instr) : Type 0 where
      pub entry : Here S u at x
      pub number : ℕ
      pub transfer : Transfer
      pub inner : ℕ
      pub act : slice_get (acts s) number ≡ Some (carry transfer)
      pub kind : Kind g a s (carry transfer) inner (step u x)
      pub block : entry.block_number ≡ starts (steps_of g a s) (acts s) number + inner
      pub seq : Seq
      pub sequence : slice_get (sequences a) u ≡ Some seq
      pub on : seq.medium ≡ Some transfer.medium
      pub count : tally is_communication (take at (turn p u)) ≡ tally (is_over transfer.medium) (take number (acts s))

    comm_plain : (x : Instr) → is_communication x ≡ true → is_plain x ≡ true
    comm_plain (Suc0 q) h = h
    comm_plain (Suc1 q) h = h
    comm_plain (Pre0 q) h = h
    comm_plain (Pre1 q) h = h
    comm_plain _ h = refl

    medium_of_kind : (i j : ℕ) (t : Transfer) (y : Step) → slice_get (acts s) i ≡ Some (carry t) → Kind g a s (carry t) j y → (q : Seq)
        × (slice_get (sequences a) y.sequence ≡ Some q) × (q.medium ≡ Some t.medium)
    medium_of_kind i j t y e (steps.sends z w h) = (_, ap (λ (w : Step). slice_get (sequences a) w.sequence) h ∙ from_there g a ticks s right valid i z e, refl)
    medium_of_kind i j t y e (steps.receives z w h) = (_, ap (λ (w : Step). slice_get (sequences a) w.sequence) h ∙ to_there g a ticks s right valid i z e, refl)
    medium_of_kind i j t y e (steps.waits z k q r w n o h) =
        let parts = and_parts (same_medium r.medium (Some z.medium) && not (nat_eq r.operator z.from)) (not (nat_eq r.operator z.to)) o in
        let on = and_parts (same_medium r.medium (Some z.medium)) (not (nat_eq r.operator z.from)) parts.0 in
        (r, ap (λ (w : Step). slice_get (sequences a) w.sequence) h ∙ n, medium_is_same r.medium (Some z.medium) on.0)

    comm_with : (u at : ℕ) (x : Instr) (h : Here S u at x) → Core S u at x h → is_communication x ≡ true → (i j : ℕ) (act : Act)
        → slice_get (acts s) i ≡ Some act → slice_get (steps_of g a s act) j ≡ Some (step u x)
        → h.block_number ≡ starts (steps_of g a s) (acts s) i + j → Comm u at x
    comm_with u at x h c comm i j (carry t) ia st is =
        let k = kind_of g a s (carry t) j (step u x) st in
        let m = medium_of_kind i j t (step u x) ia k in
        record {
          entry = h;
          number = i;
          transfer = t;
          inner = j;
          act = ia;
          kind = k;
          block = is;
          seq = m.0;
          sequence = m.1;
          on =
              m.2;
          count = count_at u t.medium at m.0 x h c m.1 m.2 comm i j (carry t) ia st is;
        }
    comm_with u at x h c comm i zero (run d) ia st is = absurd (false≢true (ap (λ (y : Step). is_communication y.instr) (same_Some (calling g a s d) (step u x) st) ∙ comm))
    comm_with u at x h c comm i (suc j) (run d) ia st is = absurd cc

    pub comm_of : (u at : ℕ) (x : Instr) → Stands p u at x → is_communication x ≡ true → Comm u at x
    comm_of u at x e comm =
        let h = here S u at x e in
        let c = core_of S u at x h (comm_plain x comm) in
        let o = of_step g a s h.block_number (step u x) c.stands in
        comm_with u at x h c comm o.at o.inner o.act o.is_act o.stands o.is

    -- A step of a transfer, in its loop.
    pub record Onto (i j : ℕ) (t : Transfer) (y : Step) : Type 0 where
      pub at : ℕ
      pub stands : Stands p y.sequence at y.instr
      pub entry : Here S y.sequence at y.instr
      pub block : entry.block_number ≡ starts (steps_of g a s) (acts s) i + j
      pub count : tally is_communication (take at (turn p y.sequence)) ≡ tally (is_over t.medium) (take i (acts s))

    pub onto : (i j : ℕ) (t : Transfer) (y : Step) → slice_get (acts s) i ≡ Some (carry t) → slice_get (steps_of g a s (carry t)) j ≡ Some y → is_communication y.instr ≡ true → Onto i j t y
    onto i j t y ia st comm =
        let z = placed S (starts (steps_of g a s) (acts s) i + j) y (step_at g a s i j (carry t) y ia st) in
        let c = core_of S y.sequence z.at y.instr z.entry (comm_plain y.instr comm) in
        let m = medium_of_kind i j t y ia (kind_of g a s (carry t) j y st) in
        record { at = z.at; stands = z.stands; entry = z.entry; block = z.number; count = count_at y.sequence t.medium z.at m.0 y.instr z.entry c m.1 m.2 comm i j (carry t) ia st z.number }
