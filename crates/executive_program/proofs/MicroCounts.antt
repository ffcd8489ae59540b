-- Counting micro-steps without laying them out.
use Rattle.std.proofs.Common.{◌≡◌, ℕ, zero, suc, ◌+◌, ◌*◌, Bool, true, false, cond, nat_eq, get_or, List, [], ◌∷◌, length, Option, Some, None, refl, sym, ap, arith, ◌∙◌, length-append}
use Rattle.std.specs.Prelude.{slice_get, take as take_list}
use Rattle.std.specs.List.{count_by, sum_by}
use Rattle.std.proofs.lemmas.List.Sums.{sum_by-cons}
use Rattle.interleavings.specs.Owners.{sum_below}
use Rattle.executive_program.specs.declared.program.Program.{Program}
use Rattle.executive_program.specs.declared.program.SeqCode.{SeqCode}
use Rattle.executive_program.specs.declared.program.Instr.{Instr}
use Rattle.executive_program.specs.declared.program.Instr.TheVariants.{Suc0, Suc1, Pre0, Pre1, Call, Send, Recv, Sync}
use Rattle.executive_program.specs.Blocks.{blocks}
use Rattle.executive_program.specs.Instructions.{is_communication, number_or, len_of, pair_depth, len_by}
use Rattle.executive_program.specs.Steps.{
  take_steps,
  len_at,
  elements_in,
  load_step,
  store_step,
  load_steps,
  store_steps,
  input_steps,
  output_steps,
  call_steps,
  send_step,
  receive_step,
  steps_of,
  steps_in,
  steps_at,
  steps_in_list,
  steps_by,
  all_prologues,
  all_turns,
}
use Rattle.executive_program.proofs.Expanding.{blocks_length}
use Rattle.executive_program.specs.Sizes.{looks_at, looks_of, looks_in, plain_of, plain_in, plain_prologues, plain_turns, prologue_looks, turn_looks, pair_depths}
use Rattle.executive_program.proofs.DepthTable.{pair_depth_is}
use Rattle.executive_program.specs.declared.steps.MicroStep.TheVariants.{Take, See, Lower}

-- This many times the same.
pub constant : (c n : ℕ) → sum_below (λ _. c) n ≡ n * c
constant c zero = omega arith
constant c (suc n) = let e = constant c n in omega (arith, e)

-- Blocks of one length each.
even_blocks : {A : Type 0} (f : ℕ → List A) (c n : ℕ) → ((i : ℕ) → length (f i) ≡ c) → length (blocks f n) ≡ n * c
even_blocks f c n h = blocks_length f (λ _. c) n h ∙ constant c n

-- A sum by number takes its first part off.
pub first_off : (f : ℕ → ℕ) (n : ℕ) → sum_below f (suc n) ≡ f 0 + sum_below (λ i. f (suc i)) n
first_off f zero = omega arith
first_off f (suc n) = let e = first_off f n in omega (arith, e)

-- A sum over the places of a list is the sum over its items.
pub by_place : {A : Type 0} (at : Option A → ℕ) (f : A → ℕ) → ((x : A) → at (Some x) ≡ f x) → (xs : List A) → sum_below (λ i. at (slice_get xs i)) (length xs) ≡ sum_by f xs
by_place at f h [] = refl
by_place at f h (x ∷ xs) = first_off (λ i. at (slice_get (x ∷ xs) i)) (length xs) ∙ (λ i. h x i + by_place at f h xs i) ∙ sym (sum_by-cons f x xs)

-- a sum of sums is the sum of both
pub sum_of_sums : {A : Type 0} (f g : A → ℕ) (xs : List A) → sum_by (λ x. f x + g x) xs ≡ sum_by f xs + sum_by g xs
sum_of_sums f g [] = refl
sum_of_sums f g (x ∷ xs) = let a = sum_by-cons (λ y. f y + g y) x xs in let b = sum_by-cons f x xs in let c = sum_by-cons g x xs in let d = sum_of_sums f g xs in omega arith

module _ (p : Program) where
  one_load : (v loads micros r : ℕ) (b : Option ℕ) → length (load_steps p v loads micros r b) ≡ len_by p b
  one_load v loads micros r None = refl
  one_load v loads micros r (Some b) = let e = even_blocks (load_step v loads micros b r) 1 (len_of p b) (λ _. refl) in omega (arith, e)

  one_store : (v loads micros r : ℕ) (b : Option ℕ) → length (store_steps p v loads micros r b) ≡ len_by p b
  one_store v loads micros r None = refl
  one_store v loads micros r (Some b) = let e = even_blocks (store_step v loads micros b r) 1 (len_of p b) (λ _. refl) in omega (arith, e)

  call_size : (v : ℕ) (ins outs : List ℕ) → length (call_steps p v ins outs) ≡ elements_in p ins + elements_in p outs
  call_size v ins outs =
      let loads = elements_in p ins in let micros = elements_in p ins + elements_in p outs in
      length-append (blocks (input_steps p v loads micros ins) (length ins)) (blocks (output_steps p v loads micros outs) (length outs))
      ∙ (λ i. blocks_length (input_steps p v loads micros ins) (len_at p ins) (length ins) (λ k. one_load v loads micros (sum_below (len_at p ins) k) (slice_get ins k)) i
      + blocks_length (output_steps p v loads micros outs) (len_at p outs) (length outs) (λ k. one_store v loads micros (loads + sum_below (len_at p outs) k) (slice_get outs k)) i)

  -- The micro-steps of an instruction: without looks, and its looks.
  abbrev pub micros_of : Instr → ℕ
  micros_of x = plain_of p x + looks_of (pair_depth p) x

  take_size : (depth x : ℕ) → length (take_steps depth x) ≡ 1 + looks_at depth
  take_size depth x = by (nat_eq depth 1)
    where
      by : (b : Bool) → length (cond b (Take x ∷ []) (See x ∷ Lower x ∷ [])) ≡ 1 + cond b 0 1
      by true = refl
      by false = refl

  pub instr_size : (m n t : ℕ) (x : Instr) → length (steps_of p m n t x) ≡ micros_of x
  instr_size m n t (Suc0 q) = take_size (pair_depth p q) (2 * q)
  instr_size m n t (Suc1 q) = take_size (pair_depth p q) (2 * q + 1)
  instr_size m n t (Pre0 q) = refl
  instr_size m n t (Pre1 q) = refl
  instr_size m n t (Call v ins outs) = let e = call_size v ins outs in omega arith
  instr_size m n t (Send b q) = let e = even_blocks (send_step m b) 2 (len_of p b) (λ _. refl) in let f = length-append (blocks (send_step m b) (len_of p b)) in omega (arith, e, f)
  instr_size m n t (Recv b q) = let e = even_blocks (receive_step m b) 2 (len_of p b) (λ _. refl) in let f = length-append (blocks (receive_step m b) (len_of p b)) in omega (arith, e, f)
  instr_size m n t (Sync q r) = refl

  abbrev of_one : Option Instr → ℕ
  of_one None = 0
  of_one (Some x) = micros_of x

  one_size : (m n t : ℕ) (x : Option Instr) → length (steps_in p m n t x) ≡ of_one x
  one_size m n t None = refl
  one_size m n t (Some x) = instr_size m n t x

  list_size : (m : ℕ) (xs : List Instr) → length (steps_in_list p m xs) ≡ plain_in p xs + looks_in (pair_depth p) xs
  list_size m xs =
      blocks_length (steps_at p m xs) (λ a. of_one (slice_get xs a)) (length xs) (λ a. one_size m (count_by is_communication xs) (count_by is_communication (take_list a xs)) (slice_get xs a))
      ∙ by_place of_one micros_of (λ _. refl) xs ∙ sum_of_sums (plain_of p) (looks_of (pair_depth p)) xs

  pub all_prologues_size : all_prologues p ≡ plain_prologues p + prologue_looks p
  all_prologues_size = by_place (λ (o : Option SeqCode). length (steps_by p o).prologue) (λ (q : SeqCode). plain_in p q.prologue + looks_in (pair_depth p) q.prologue)
      (λ q. list_size (number_or 0 q.seq.medium) q.prologue) p.seqs ∙ sum_of_sums (λ (q : SeqCode). plain_in p q.prologue) (λ (q : SeqCode). looks_in (pair_depth p) q.prologue) p.seqs

  pub all_turns_size : all_turns p ≡ plain_turns p + turn_looks p
  all_turns_size = by_place (λ (o : Option SeqCode). length (steps_by p o).turn) (λ (q : SeqCode). plain_in p q.turn + looks_in (pair_depth p) q.turn)
      (λ q. list_size (number_or 0 q.seq.medium) q.turn) p.seqs ∙ sum_of_sums (λ (q : SeqCode). plain_in p q.turn) (λ (q : SeqCode). looks_in (pair_depth p) q.turn) p.seqs

  -- by the table of pairs
  pub looks_by_table : sum_by (λ (q : SeqCode). looks_in (λ r. get_or (pair_depths p) r 1) q.turn) p.seqs ≡ turn_looks p
  looks_by_table = ap (λ (d : ℕ → ℕ). sum_by (λ (q : SeqCode). looks_in d q.turn) p.seqs) (λ i r. pair_depth_is p r i)
