-- One more input or output of a call, in its micro-steps.
use Rattle.std.proofs.Common.{◌≡◌, ℕ, suc, ◌+◌, ◌<◌, ◌≤◌, List, ◌++◌, length, get_or, Option, Some, refl, sym, ap, arith, ◌∙◌, add-one, append_assoc, length-append}
use Rattle.std.specs.Prelude.{slice_get, take as take_list}
use Rattle.std.specs.List.{count_by}
use Rattle.executive_program.specs.declared.program.Instr.{Instr}
use Rattle.executive_program.specs.Instructions.{is_communication}
use Rattle.std.proofs.lemmas.Option.{slice_get-get_or, slice_get_within, get_or_from_slice_get}
use Rattle.std.proofs.lemmas.Bool.{cases_Bool}
use Rattle.std.proofs.lemmas.List.Sums.{count_by_more_yes, count_by_more_no}
use Rattle.std.proofs.Common.{Bool, true, false, cond, ◌⊎◌, inl, inr}
use Rattle.interleavings.specs.Owners.{sum_below}
use Rattle.executive_program.specs.declared.program.Program.{Program}
use Rattle.executive_program.specs.declared.steps.MicroStep.{MicroStep}
use Rattle.executive_program.specs.Blocks.{blocks}
use Rattle.executive_program.specs.Instructions.{len_of, len_by}
use Rattle.executive_program.specs.Steps.{call_steps, steps_at, steps_of, steps_in, len_at, load_step, store_step, load_steps, store_steps, input_steps, output_steps}

-- a block list grows by its next block
pub blocks_more : {A : Type 0} (f : ℕ → List A) (k : ℕ) (start out new : List A) → out ≡ start ++ blocks f k → new ≡ out ++ f k → new ≡ start ++ blocks f (k + 1)
blocks_more f k start out new e n = n ∙ ap (λ (l : List _). l ++ f k) e ∙ append_assoc start (blocks f k) (f k) ∙ ap (λ (i : ℕ). start ++ blocks f i) (sym (add-one k))

pub blocks_length : {A : Type 0} (f : ℕ → List A) (len : ℕ → ℕ) (k : ℕ) → ((i : ℕ) → length (f i) ≡ len i) → length (blocks f k) ≡ sum_below len k
blocks_length f len Prim.Native.Nat.zero h = refl
blocks_length f len (suc k) h = let e = blocks_length f len k h in let g = h k in omega (arith, length-append (blocks f k) (f k))

-- the elements of one more buffer
pub len_at_more : (p : Program) (list : List ℕ) (k b : ℕ) → k < length list → get_or list k 0 ≡ b → sum_below (len_at p list) (k + 1) ≡ sum_below (len_at p list) k + len_of p b
len_at_more p list k b h e = ap (λ (i : ℕ). sum_below (len_at p list) i) (add-one k)
    ∙ ap (λ (n : ℕ). sum_below (len_at p list) k + n) (ap (len_by p) (slice_get-get_or list k 0 h) ∙ ap (len_of p) e)

module _ (p : Program) (v loads micros : ℕ) where
  pub input_more : (ins : List ℕ) (k b first len : ℕ) (start out new : List MicroStep) → k < length ins → get_or ins k 0 ≡ b → len ≡ len_of p b → first ≡ sum_below (len_at p ins) k
      → out ≡ start ++ blocks (input_steps p v loads micros ins) k → new ≡ out ++ blocks (load_step v loads micros b first) len → new ≡ start ++ blocks (input_steps p v loads micros ins) (k + 1)
  input_more ins k b first len start out new h e n f o q = blocks_more (input_steps p v loads micros ins) k start out new o (q ∙ ap (λ (l : List MicroStep). out ++ l) one)
    where
      s : slice_get ins k ≡ Some b
      s = slice_get-get_or ins k 0 h ∙ ap (λ (x : ℕ). Some x) e

      one : blocks (load_step v loads micros b first) len ≡ input_steps p v loads micros ins k
      one = ap (λ (l : ℕ). blocks (load_step v loads micros b first) l) n ∙ ap (λ (r : ℕ). blocks (load_step v loads micros b r) (len_of p b)) f
          ∙ ap (load_steps p v loads micros (sum_below (len_at p ins) k)) (sym s)

  pub output_more : (outs : List ℕ) (k b first len : ℕ) (start out new : List MicroStep) → k < length outs → get_or outs k 0 ≡ b → len ≡ len_of p b → first ≡ loads + sum_below (len_at p outs) k
      → out ≡ start ++ blocks (output_steps p v loads micros outs) k → new ≡ out ++ blocks (store_step v loads micros b first) len → new ≡ start ++ blocks (output_steps p v loads micros outs) (k + 1)
  output_more outs k b first len start out new h e n f o q = blocks_more (output_steps p v loads micros outs) k start out new o (q ∙ ap (λ (l : List MicroStep). out ++ l) one)
    where
      s : slice_get outs k ≡ Some b
      s = slice_get-get_or outs k 0 h ∙ ap (λ (x : ℕ). Some x) e

      one : blocks (store_step v loads micros b first) len ≡ output_steps p v loads micros outs k
      one = ap (λ (l : ℕ). blocks (store_step v loads micros b first) l) n ∙ ap (λ (r : ℕ). blocks (store_step v loads micros b r) (len_of p b)) f
          ∙ ap (store_steps p v loads micros (loads + sum_below (len_at p outs) k)) (sym s)

pub same_call : (p : Program) (v : ℕ) (ins inputs outs outputs : List ℕ) (out new : List MicroStep) → ins ≡ inputs → outs ≡ outputs → new
    ≡ out ++ call_steps p v ins outs → new ≡ out ++ call_steps p v inputs outputs
same_call p v ins inputs outs outputs out new a b e = e ∙ (λ i. out ++ call_steps p v (a i) (b i))

-- one more instruction of a list, with the communications before it
pub instr_more : (p : Program) (m : ℕ) (xs : List Instr) (k o n t : ℕ) (x : Instr) (start out new : List MicroStep) → slice_get xs k
    ≡ Some x → o ≡ m → n ≡ count_by is_communication xs → t ≡ count_by is_communication (take_list k xs)
    → out ≡ start ++ blocks (steps_at p m xs) k → new ≡ out ++ steps_of p o n t x → new ≡ start ++ blocks (steps_at p m xs) (k + 1)
instr_more p m xs k o n t x start out new s b a e h q = blocks_more (steps_at p m xs) k start out new h
    (q ∙ (λ i. out ++ steps_of p (b i) (a i) (e i) x) ∙ ap (λ (y : Option Instr). out ++ steps_in p m (count_by is_communication xs) (count_by is_communication (take_list k xs)) y) (sym s))

pub counts_more : (xs : List Instr) (k done add : ℕ) (x : Instr) → slice_get xs k ≡ Some x → done ≡ count_by is_communication (take_list k xs) → add ≡ cond (is_communication x) 1 0
    → done + add ≡ count_by is_communication (take_list (k + 1) xs)
counts_more xs k done add x s e a = by (cases_Bool (is_communication x))
  where
    inside : k < length xs
    inside = slice_get_within xs k x s

    item : get_or xs k x ≡ x
    item = get_or_from_slice_get xs k x x s

    by : (is_communication x ≡ true) ⊎ (is_communication x ≡ false) → done + add ≡ count_by is_communication (take_list (k + 1) xs)
    by (inl y) = let z = count_by_more_yes is_communication xs k x inside (ap is_communication item ∙ y) in let w : add ≡ 1 = a ∙ ap (λ (b : Bool). cond b 1 0) y in omega arith
    by (inr y) = let z = count_by_more_no is_communication xs k x inside (ap is_communication item ∙ y) in let w : add ≡ 0 = a ∙ ap (λ (b : Bool). cond b 1 0) y in omega arith

pub one_most : (n : ℕ) (x : Instr) → n ≡ cond (is_communication x) 1 0 → n ≤ 1
one_most n x e = by (cases_Bool (is_communication x))
  where
    by : (is_communication x ≡ true) ⊎ (is_communication x ≡ false) → n ≤ 1
    by (inl y) = let w : n ≡ 1 = e ∙ ap (λ (b : Bool). cond b 1 0) y in omega arith
    by (inr y) = let w : n ≡ 0 = e ∙ ap (λ (b : Bool). cond b 1 0) y in omega arith
