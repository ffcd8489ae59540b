-- What passes a test of one instruction or of a medium.
use Rattle.std.proofs.Common.{◌≡◌, ℕ, true, Option, Some, None, ap, sym, subst, eq-eqb, refl}
use Rattle.std.proofs.lemmas.Bool.{false≢true, eqb-true}
use Rattle.executive_program.specs.declared.program.Instr.{Instr}
use Rattle.executive_program.specs.declared.program.Instr.TheVariants.{Suc0, Suc1, Pre0, Pre1, Call}
use Rattle.executive_program.specs.MicroSteps.{is_on}
use Rattle.executive_program.specs.Places.{calls, ins_in, outs_in, signals_empty, signals_full, takes_empty, takes_full}

pub empty_taken : (q : ℕ) (x : Instr) → takes_empty q x ≡ true → x ≡ Suc0 q
empty_taken q (Suc0 r) h = ap (λ (n : ℕ). Suc0 n) (eqb-true r q h)
empty_taken q _ h = absurd (false≢true h)

pub full_taken : (q : ℕ) (x : Instr) → takes_full q x ≡ true → x ≡ Suc1 q
full_taken q (Suc1 r) h = ap (λ (n : ℕ). Suc1 n) (eqb-true r q h)
full_taken q _ h = absurd (false≢true h)

pub empty_signalled : (q : ℕ) (x : Instr) → signals_empty q x ≡ true → x ≡ Pre0 q
empty_signalled q (Pre0 r) h = ap (λ (n : ℕ). Pre0 n) (eqb-true r q h)
empty_signalled q _ h = absurd (false≢true h)

pub full_signalled : (q : ℕ) (x : Instr) → signals_full q x ≡ true → x ≡ Pre1 q
full_signalled q (Pre1 r) h = ap (λ (n : ℕ). Pre1 n) (eqb-true r q h)
full_signalled q _ h = absurd (false≢true h)

pub call_is : (v : ℕ) (x : Instr) → calls v x ≡ true → x ≡ Call v (ins_in (Some x)) (outs_in (Some x))
call_is v (Call u ins outs) h = ap (λ (n : ℕ). Call n ins outs) (eqb-true u v h)
call_is v _ h = absurd (false≢true h)

pub on_is : (m : ℕ) (o : Option ℕ) → is_on m o ≡ true → o ≡ Some m
on_is m None h = absurd (false≢true h)
on_is m (Some n) h = ap (λ (k : ℕ). Some k) (eqb-true n m h)

pub is_on_it : (m : ℕ) (o : Option ℕ) → o ≡ Some m → is_on m o ≡ true
is_on_it m o e = subst (λ (o : Option ℕ). is_on m o ≡ true) (sym e) (eq-eqb m m refl)
