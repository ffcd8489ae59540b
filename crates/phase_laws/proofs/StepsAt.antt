-- The micro-step of the core at which a sequence stands, by its instruction: how loads and stores go on with the registers.
use Rattle.std.proofs.Common.{◌≡◌, ℕ, suc, ◌+◌, ◌-◌, ◌*◌, ◌%◌, ◌<◌, Bool, true, false, cond, List, [], ◌∷◌, ◌++◌, length, take, Option, Some, None, refl, sym, ap, arith, ◌∙◌, length-append}
use Rattle.std.specs.Prelude.{slice_get, nat_eq}
use Rattle.std.specs.List.{count_by}
use Rattle.std.proofs.lemmas.Option.{slice_get_within}
use Rattle.std.proofs.lemmas.Bool.{le-ltb}
use native.Mathlib.Nat.{mul-one}
use Rattle.executive_program.specs.Sites.{step_at, place_at}
use Rattle.executive_program.specs.System.{Micro, take as taken, see, sub, advance}
use Rattle.executive_program.specs.Owners.{sum_below}
use Rattle.executive_program.proofs.InterleavingSums.{same_below}
use Rattle.executive_program.specs.declared.program.Instr.{Instr}
use Rattle.executive_program.specs.declared.program.Instr.TheVariants.{Suc0, Suc1, Pre0, Pre1, Call, Send, Recv, Sync}
use Rattle.executive_program.specs.declared.program.Program.{Program}
use Rattle.executive_program.specs.declared.program.SeqCode.{SeqCode}
use Rattle.executive_program.specs.declared.steps.Place.TheVariants.{Buffer, Wire}
use Rattle.executive_program.specs.declared.steps.OnLoad.TheVariants.{Carry as CarryIn}
use Rattle.executive_program.specs.declared.steps.OnStore.TheVariants.{Carry as CarryOut}
use Rattle.executive_program.specs.declared.steps.MicroStep.{MicroStep}
use Rattle.executive_program.specs.declared.steps.MicroStep.TheVariants.{Take, See, Lower, Await, Advance, Load, Store}
use Rattle.executive_program.specs.Blocks.{blocks}
use Rattle.executive_program.specs.Instructions.{is_communication, turn, turn_of, prologue, prologue_of, medium, medium_in, number_or, len_of, pair_depth, communications, len_by}
use Rattle.executive_program.specs.MicroSteps.{code, size, begins, block_in, takes, micros_of, micros_in, loads_of, stores_of, loads_at, stores_at, load_at, store_at, send_at, receive_at}
use Rattle.executive_program.specs.Steps.{
  steps,
  steps_by,
  steps_of,
  steps_in,
  steps_at,
  steps_in_list,
  call_steps,
  take_steps,
  on_load,
  on_store,
  load_step,
  store_step,
  load_steps,
  store_steps,
  input_steps,
  output_steps,
  send_step,
  receive_step,
  len_at,
  elements_in,
}
use Rattle.phase_laws.proofs.Blocks.{blocks_length, blocks_at, get-append_past, get-append_within, sum_const, sum_inside}
use Rattle.phase_laws.proofs.Standing.{Here}

pub sum_equal : (f h : ℕ → ℕ) (n : ℕ) → ((i : ℕ) → f i ≡ h i) → sum_below f n ≡ sum_below h n
sum_equal f h n e = same_below f h n (λ i l. e i)

same_blocks : {A B : Type 0} (f : ℕ → List A) (h : ℕ → List B) (n : ℕ) → ((a : ℕ) → length (f a) ≡ length (h a)) → length (blocks f n) ≡ length (blocks h n)
same_blocks f h n e = blocks_length f n ∙ sum_equal (λ a. length (f a)) (λ a. length (h a)) n e ∙ sym (blocks_length h n)

singles : {A : Type 0} (f : ℕ → A) (n : ℕ) → length (blocks (λ i. f i ∷ []) n) ≡ n
singles f n = let a = blocks_length (λ i. f i ∷ []) n in let b = sum_const 1 n in omega (arith, mul-one n)

at_single : {A : Type 0} (f : ℕ → A) (n j : ℕ) → j < n → slice_get (blocks (λ i. f i ∷ []) n) j ≡ Some (f j)
at_single f n j h = let u = sum_const 1 j in let y = mul-one j in let z : sum_below (λ _. 1) j + 0 ≡ j = omega arith in
    ap (λ (k : ℕ). slice_get (blocks (λ i. f i ∷ []) n) k) (sym z) ∙ blocks_at (λ i. f i ∷ []) n j 0 h (omega arith)

at_double : {A : Type 0} (f g : ℕ → A) (n j : ℕ) → j < n → (slice_get (blocks (λ i. f i ∷ g i ∷ []) n) (2 * j) ≡ Some (f j)) × (slice_get (blocks (λ i. f i ∷ g i ∷ []) n) (2 * j + 1) ≡ Some (g j))
at_double f g n j h = let u = sum_const 2 j in let z : sum_below (λ _. 2) j + 0 ≡ 2 * j = omega arith in let y : sum_below (λ _. 2) j + 1 ≡ 2 * j + 1 = omega arith in (
  ap (λ (k : ℕ). slice_get (blocks (λ i. f i ∷ g i ∷ []) n) k) (sym z) ∙ blocks_at (λ i. f i ∷ g i ∷ []) n j 0 h (omega arith),
  ap (λ (k : ℕ). slice_get (blocks (λ i. f i ∷ g i ∷ []) n) k) (sym y) ∙ blocks_at (λ i. f i ∷ g i ∷ []) n j 1 h (omega arith),
)

doubles : {A : Type 0} (f g : ℕ → A) (n : ℕ) → length (blocks (λ i. f i ∷ g i ∷ []) n) ≡ 2 * n
doubles f g n = let a = blocks_length (λ i. f i ∷ g i ∷ []) n in let b = sum_const 2 n in omega arith

-- between a wait and an advance
inside_half : {A : Type 0} (w z : A) (xs : List A) (r k : ℕ) (y : A) → r ≡ suc k → slice_get xs k ≡ Some y → slice_get (w ∷ (xs ++ z ∷ [])) r ≡ Some y
inside_half w z xs r k y e h = ap (slice_get (w ∷ (xs ++ z ∷ []))) e ∙ get-append_within xs (z ∷ []) k (slice_get_within xs k y h) ∙ h

module _ (p : Program) where
  pub loads_length : (o : Option ℕ) → length (loads_of p o) ≡ len_by p o
  loads_length None = refl
  loads_length (Some b) = let e = blocks_length (load_at p b) (len_of p b) in let f = sum_const 1 (len_of p b) in omega (arith, mul-one (len_of p b))

  pub stores_length : (o : Option ℕ) → length (stores_of p o) ≡ len_by p o
  stores_length None = refl
  stores_length (Some b) = let e = blocks_length (store_at p b) (len_of p b) in let f = sum_const 1 (len_of p b) in omega (arith, mul-one (len_of p b))

  load_steps_length : (v loads micros r : ℕ) (o : Option ℕ) → length (load_steps p v loads micros r o) ≡ len_by p o
  load_steps_length v loads micros r None = refl
  load_steps_length v loads micros r (Some b) = let e = blocks_length (load_step v loads micros b r) (len_of p b) in let f = sum_const 1 (len_of p b) in omega (arith, mul-one (len_of p b))

  store_steps_length : (v loads micros r : ℕ) (o : Option ℕ) → length (store_steps p v loads micros r o) ≡ len_by p o
  store_steps_length v loads micros r None = refl
  store_steps_length v loads micros r (Some b) = let e = blocks_length (store_step v loads micros b r) (len_of p b) in let f = sum_const 1 (len_of p b) in omega (arith, mul-one (len_of p b))

  -- how many micro-steps load, and how many store
  pub loads_count : (ins : List ℕ) → length (blocks (loads_at p ins) (length ins)) ≡ elements_in p ins
  loads_count ins = blocks_length (loads_at p ins) (length ins) ∙ sum_equal (λ k. length (loads_at p ins k)) (len_at p ins) (length ins) (λ k. loads_length (slice_get ins k))

  pub stores_count : (outs : List ℕ) → length (blocks (stores_at p outs) (length outs)) ≡ elements_in p outs
  stores_count outs = blocks_length (stores_at p outs) (length outs) ∙ sum_equal (λ k. length (stores_at p outs k)) (len_at p outs) (length outs) (λ k. stores_length (slice_get outs k))

  same_takes : (depth x : ℕ) → length (take_steps depth x) ≡ length (takes depth x)
  same_takes depth x = by (nat_eq depth 1)
    where
      by : (b : Bool) → length (cond b (Take x ∷ []) (See x ∷ Lower x ∷ [])) ≡ length (cond b (taken x ∷ []) (see x ∷ sub x ∷ []))
      by true = refl
      by false = refl

  module _ (v : ℕ) (ins outs : List ℕ) where
    abbrev N : ℕ
    N = elements_in p ins

    abbrev M : ℕ
    M = elements_in p ins + elements_in p outs

    abbrev Ins : List MicroStep
    Ins = blocks (input_steps p v N M ins) (length ins)

    abbrev Outs : List MicroStep
    Outs = blocks (output_steps p v N M outs) (length outs)

    ins_length : (k : ℕ) → length (input_steps p v (elements_in p ins) (elements_in p ins + elements_in p outs) ins k) ≡ len_at p ins k
    ins_length k = load_steps_length v N M (sum_below (len_at p ins) k) (slice_get ins k)

    outs_length : (k : ℕ) → length (output_steps p v (elements_in p ins) (elements_in p ins + elements_in p outs) outs k) ≡ len_at p outs k
    outs_length k = store_steps_length v N M (N + sum_below (len_at p outs) k) (slice_get outs k)

    all_ins : length (blocks (input_steps p v (elements_in p ins) (elements_in p ins + elements_in p outs) ins) (length ins)) ≡ elements_in p ins
    all_ins = blocks_length (input_steps p v N M ins) (length ins) ∙ sum_equal (λ k. length (input_steps p v N M ins k)) (len_at p ins) (length ins) ins_length

    all_outs : length (blocks (output_steps p v (elements_in p ins) (elements_in p ins + elements_in p outs) outs) (length outs)) ≡ elements_in p outs
    all_outs = blocks_length (output_steps p v N M outs) (length outs) ∙ sum_equal (λ k. length (output_steps p v N M outs k)) (len_at p outs) (length outs) outs_length

    pub call_length : length (call_steps p v ins outs) ≡ elements_in p ins + elements_in p outs
    call_length = let a = length-append Ins Outs in let b = all_ins in let c = all_outs in omega arith

    -- load j of input k
    pub input_step : (k b j : ℕ) → slice_get ins k ≡ Some b → j < len_of p b
        → slice_get (call_steps p v ins outs) (sum_below (len_at p ins) k + j)
        ≡ Some (Load (Buffer b j) (on_load v (elements_in p ins) (elements_in p ins + elements_in p outs) (sum_below (len_at p ins) k + j)))
    input_step k b j e l = get-append_within Ins Outs (sum_below (len_at p ins) k + j) inner
        ∙ ap (λ (n : ℕ). slice_get Ins (n + j)) (sym start) ∙ blocks_at (input_steps p v N M ins) (length ins) k j (slice_get_within ins k b e) within
        ∙ ap (λ (o : Option ℕ). slice_get (load_steps p v N M (sum_below (len_at p ins) k) o) j) e
        ∙ one
      where
        start : sum_below (λ i. length (input_steps p v (elements_in p ins) (elements_in p ins + elements_in p outs) ins i)) k ≡ sum_below (len_at p ins) k
        start = sum_equal (λ i. length (input_steps p v N M ins i)) (len_at p ins) k ins_length

        within : j < length (input_steps p v (elements_in p ins) (elements_in p ins + elements_in p outs) ins k)
        within = let a = ins_length k in let b = ap (len_by p) e in omega arith

        one : slice_get (blocks (load_step v N M b (sum_below (len_at p ins) k)) (len_of p b)) j
            ≡ Some (Load (Buffer b j) (on_load v (elements_in p ins) (elements_in p ins + elements_in p outs) (sum_below (len_at p ins) k + j)))
        one = at_single (λ i. Load (Buffer b i) (on_load v N M (sum_below (len_at p ins) k + i))) (len_of p b) j l

        inner : sum_below (len_at p ins) k + j < length (blocks (input_steps p v (elements_in p ins) (elements_in p ins + elements_in p outs) ins) (length ins))
        inner = let a = all_ins in let z = sum_inside (len_at p ins) (length ins) k j (slice_get_within ins k b e) (let q = ap (len_by p) e in omega arith) in omega arith

    -- store j of output k
    pub output_step : (k b j : ℕ) → slice_get outs k ≡ Some b → j < len_of p b
        → slice_get (call_steps p v ins outs) (elements_in p ins + sum_below (len_at p outs) k + j)
        ≡ Some (Store (Buffer b j) (on_store v (elements_in p ins) (elements_in p ins + elements_in p outs) (elements_in p ins + sum_below (len_at p outs) k + j)))
    output_step k b j e l = ap (slice_get (Ins ++ Outs)) place
        ∙ get-append_past Ins Outs (sum_below (len_at p outs) k + j)
        ∙ ap (λ (n : ℕ). slice_get Outs (n + j)) (sym start) ∙ blocks_at (output_steps p v N M outs) (length outs) k j (slice_get_within outs k b e) within
        ∙ ap (λ (o : Option ℕ). slice_get (store_steps p v N M (N + sum_below (len_at p outs) k) o) j) e
        ∙ at_single (λ i. Store (Buffer b i) (on_store v N M (N + sum_below (len_at p outs) k + i))) (len_of p b) j l
      where
        place : elements_in p ins + sum_below (len_at p outs) k + j
            ≡ length (blocks (input_steps p v (elements_in p ins) (elements_in p ins + elements_in p outs) ins) (length ins)) +
            (sum_below (len_at p outs) k + j)
        place = let a = all_ins in omega arith

        start : sum_below (λ i. length (output_steps p v (elements_in p ins) (elements_in p ins + elements_in p outs) outs i)) k ≡ sum_below (len_at p outs) k
        start = sum_equal (λ i. length (output_steps p v N M outs i)) (len_at p outs) k outs_length

        within : j < length (output_steps p v (elements_in p ins) (elements_in p ins + elements_in p outs) outs k)
        within = let a = outs_length k in let b = ap (len_by p) e in omega arith

  -- the load and the store of element j of a send, and of a receive
  module _ (m n t b o j : ℕ) (l : j < len_of p b) where
    pub send_load : (r : ℕ) → r ≡ 2 * j + 1 → slice_get (steps_of p m n t (Send b o)) r ≡ Some (Load (Buffer b j) CarryIn)
    send_load r e = inside_half (Await m (2 * t) (2 * n) true) (Advance m) (blocks (send_step m b) (len_of p b)) r (2 * j) _ (let z : r ≡ suc (2 * j) = omega arith in z)
        (at_double (λ i. Load (Buffer b i) CarryIn) (λ i. Store (Wire m i) CarryOut) (len_of p b) j l).0

    pub send_store : (r : ℕ) → r ≡ 2 * j + 2 → slice_get (steps_of p m n t (Send b o)) r ≡ Some (Store (Wire m j) CarryOut)
    send_store r e = inside_half (Await m (2 * t) (2 * n) true) (Advance m) (blocks (send_step m b) (len_of p b)) r (2 * j + 1) _ (let z : r ≡ suc (2 * j + 1) = omega arith in z)
        (at_double (λ i. Load (Buffer b i) CarryIn) (λ i. Store (Wire m i) CarryOut) (len_of p b) j l).1

    pub receive_load : (r : ℕ) → r ≡ 2 * j + 1 → slice_get (steps_of p m n t (Recv b o)) r ≡ Some (Load (Wire m j) CarryIn)
    receive_load r e = inside_half (Await m (2 * t + 1) (2 * n) true) (Advance m) (blocks (receive_step m b) (len_of p b)) r (2 * j) _ (let z : r ≡ suc (2 * j) = omega arith in z)
        (at_double (λ i. Load (Wire m i) CarryIn) (λ i. Store (Buffer b i) CarryOut) (len_of p b) j l).0

    pub receive_store : (r : ℕ) → r ≡ 2 * j + 2 → slice_get (steps_of p m n t (Recv b o)) r ≡ Some (Store (Buffer b j) CarryOut)
    receive_store r e = inside_half (Await m (2 * t + 1) (2 * n) true) (Advance m) (blocks (receive_step m b) (len_of p b)) r (2 * j + 1) _ (let z : r ≡ suc (2 * j + 1) = omega arith in z)
        (at_double (λ i. Load (Wire m i) CarryIn) (λ i. Store (Buffer b i) CarryOut) (len_of p b) j l).1

  -- an instruction has as many micro-steps in the core as in the theory
  pub same_size : (m n t : ℕ) (x : Instr) → length (steps_of p m n t x) ≡ length (micros_of p m t x)
  same_size m n t (Suc0 q) = same_takes (pair_depth p q) (2 * q)
  same_size m n t (Suc1 q) = same_takes (pair_depth p q) (2 * q + 1)
  same_size m n t (Pre0 q) = refl
  same_size m n t (Pre1 q) = refl
  same_size m n t (Call v ins outs) = let a = call_length v ins outs in let b = loads_count ins in let c = stores_count outs in
      let d = length-append (blocks (loads_at p ins) (length ins)) (blocks (stores_at p outs) (length outs)) in omega arith
  same_size m n t (Send b q) = let e = same_blocks (send_step m b) (send_at p m t b) (len_of p b) (λ _. refl) in
      let f = length-append (blocks (send_step m b) (len_of p b)) (Advance m ∷ []) in let g = length-append (blocks (send_at p m t b) (len_of p b)) (advance m (2 * t) ∷ []) in omega arith
  same_size m n t (Recv b q) = let e = same_blocks (receive_step m b) (receive_at p m t b) (len_of p b) (λ _. refl) in
      let f = length-append (blocks (receive_step m b) (len_of p b)) (Advance m ∷ []) in let g = length-append (blocks (receive_at p m t b) (len_of p b)) (advance m (2 * t + 1) ∷ []) in omega arith
  same_size m n t (Sync q r) = refl

  size_in : (m n t : ℕ) (o : Option Instr) → length (steps_in p m n t o) ≡ length (micros_in p m t o)
  size_in m n t None = refl
  size_in m n t (Some x) = same_size m n t x

  size_at : (m : ℕ) (xs : List Instr) (a : ℕ) → length (steps_at p m xs a) ≡ length (block_in p m xs a)
  size_at m xs a = size_in m (count_by is_communication xs) (count_by is_communication (take a xs)) (slice_get xs a)

  size_all : (m : ℕ) (xs : List Instr) → length (steps_in_list p m xs) ≡ length (blocks (block_in p m xs) (length xs))
  size_all m xs = same_blocks (steps_at p m xs) (block_in p m xs) (length xs) (size_at m xs)

  module _ (s : ℕ) where
    prologue_by : (o : Option SeqCode) → (steps_by p o).prologue ≡ steps_in_list p (number_or 0 (medium_in o)) (prologue_of o)
    prologue_by None = refl
    prologue_by (Some q) = refl

    turn_by : (o : Option SeqCode) → (steps_by p o).turn ≡ steps_in_list p (number_or 0 (medium_in o)) (turn_of o)
    turn_by None = refl
    turn_by (Some q) = refl

    pub same_prologue : length (steps p s).prologue ≡ length (code p s).prologue
    same_prologue = ap (λ (l : List MicroStep). length l) (prologue_by (slice_get p.seqs s)) ∙ size_all (number_or 0 (medium p s)) (prologue p s)

    pub same_turn : length (steps p s).turn ≡ length (code p s).turn
    same_turn = ap (λ (l : List MicroStep). length l) (turn_by (slice_get p.seqs s)) ∙ size_all (number_or 0 (medium p s)) (turn p s)

    same_begins : (a : ℕ) → sum_below (λ b. length (steps_at p (number_or 0 (medium p s)) (turn p s) b)) a ≡ begins p s a
    same_begins a = sum_equal (λ b. length (steps_at p (number_or 0 (medium p s)) (turn p s) b)) (size p s) a (size_at (number_or 0 (medium p s)) (turn p s))

    pub same_place : (n : ℕ) → place_at (steps p s) n ≡ place_at (code p s) n
    same_place n = λ i. (n - same_prologue i) % same_turn i

    -- the micro-step of the core at which the sequence stands
    pub step_is : (n : ℕ) (c : Micro) (o : Here p s n c) → step_at (steps p s) n
        ≡ slice_get (steps_of p (number_or 0 (medium p s)) (count_by is_communication (turn p s)) (communications p s o.index) o.instr) o.at
    step_is n c o = late ∙ ap (slice_get (steps p s).turn) (same_place n ∙ o.is) ∙ ap (λ (l : List MicroStep). slice_get l (begins p s o.index + o.at)) (turn_by (slice_get p.seqs s))
        ∙ ap (λ (k : ℕ). slice_get (steps_in_list p (number_or 0 (medium p s)) (turn p s)) (k + o.at)) (sym (same_begins o.index))
        ∙ blocks_at (steps_at p (number_or 0 (medium p s)) (turn p s)) (length (turn p s)) o.index o.at (slice_get_within (turn p s) o.index o.instr o.stands) inner
        ∙ ap (λ (x : Option Instr). slice_get (steps_in p (number_or 0 (medium p s)) (count_by is_communication (turn p s)) (communications p s o.index) x) o.at) o.stands
      where
        late : step_at (steps p s) n ≡ slice_get (steps p s).turn (place_at (steps p s) n)
        late = let a = same_prologue in let b = o.late in rw (le-ltb n (length (steps p s).prologue) (omega arith)) refl

        inner : o.at < length (steps_at p (number_or 0 (medium p s)) (turn p s) o.index)
        inner = let a = size_at (number_or 0 (medium p s)) (turn p s) o.index in let b = o.inner in omega arith
