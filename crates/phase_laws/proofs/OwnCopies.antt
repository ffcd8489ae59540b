-- A load and a store of a send or a receive, and the micro-steps that touch no element.
use Rattle.std.proofs.Common.{◌≡◌, ℕ, ◌+◌, ◌-◌, ◌*◌, ◌/◌, ◌%◌, ◌<◌, ◌⊎◌, Bool, true, false, cond, List, [], ◌∷◌, length, Some, refl, sym, ap, inl, inr, ⊎_elim, arith, ◌∙◌, ℤ, length-append}
use Rattle.std.specs.Prelude.{nat_lt}
use Rattle.std.proofs.lemmas.Bool.{lt-ltb, le-ltb, ne_eqb}
use Rattle.executive_program.specs.Sites.{reaction_at}
use Rattle.executive_program.specs.System.{Micro, load, store, advance}
use Rattle.executive_program.specs.Level.{element_at}
use Rattle.executive_program.specs.declared.program.Instr.{Instr}
use Rattle.executive_program.specs.declared.program.Instr.TheVariants.{Call, Send, Recv}
use Rattle.executive_program.specs.Blocks.{blocks}
use Rattle.executive_program.specs.Instructions.{len_of, communications}
use Rattle.executive_program.specs.MicroSteps.{code, size, element_of, wire_of, access, send_at, receive_at}
use Rattle.semaphore_core.specs.Registers.{with_registers}
use Rattle.semaphore_core.specs.Job.{JobData}
use Rattle.semaphore_core.specs.Told.{registers_in, copied, buffer_value, own_after}
use Rattle.phase_laws.specs.Values.{IsSupplied}
use Rattle.phase_laws.proofs.From.{IsHalf, sending, receiving, half_len, two_length}
use Rattle.phase_laws.proofs.Places.{micros_at, block_is}
use Rattle.phase_laws.proofs.Buffers.{MediumAt}
use Rattle.phase_laws.proofs.Standing.{Here}
use Rattle.phase_laws.proofs.OwnSteps.{kept_all}
use Rattle.phase_laws.proofs.OwnCalls.{same_own, now, then}

copied_odd : (j : JobData) (b k r : ℕ) → r % 2 ≡ 1 → copied j b k r ≡ []
copied_odd j b k r e = rw e refl

copied_even : (j : JobData) (b k i : ℕ) → copied j b k (2 * i + 2) ≡ element_at (buffer_value j b k) i ∷ []
copied_even j b k i = let a : (2 * i + 2) % 2 ≡ 0 = omega arith in let c : (2 * i + 2) / 2 - 1 ≡ i = omega arith in
    rw (a, ne_eqb (2 * i + 2) 0 (λ q. omega arith)) (ap (λ (n : ℕ). element_at (buffer_value j b k) n ∷ []) c)

module _ (j : JobData) (h : IsSupplied j) (s n : ℕ) (m : Micro) (o : Here j.program s n m) where
  not_last : ((v : ℕ) (ins outs : List ℕ) → o.instr ≡ Call v ins outs → ⊥) → ((own_after j s n).cells ≡ (own_after j s (n + 1)).cells) × ((own_after j s n).rows ≡ (own_after j s (n + 1)).rows)
  not_last x = kept_all j h s n m o (λ t q a b. x t _ _ a)

  quiet : ((v : ℕ) (ins outs : List ℕ) → o.instr ≡ Call v ins outs → ⊥) → registers_in j (reaction_at (code j.program s) n) (Some o.instr) o.at ≡ []
      → cond (nat_lt (o.at + 1) (size j.program s o.index)) (registers_in j (reaction_at (code j.program s) n) (Some o.instr) (o.at + 1)) [] ≡ [] → own_after j s (n + 1) ≡ own_after j s n
  quiet x a b = let z = not_last x in same_own (own_after j s (n + 1)) (own_after j s n) (then j h s n m o ∙ b ∙ sym a ∙ sym (now j h s n m o)) (sym z.0) (sym z.1)

  -- the instruction sends or receives buffer b
  abbrev pub Copies : ℕ → ℕ → Type 0
  Copies b q = (o.instr ≡ Send b q) ⊎ (o.instr ≡ Recv b q)

  half_size : (b q : ℕ) → Copies b q → size j.program s o.index ≡ 2 * len_of j.program b + 2
  half_size b q x = ap (λ (l : List Micro). length l) (block_is j.program s o.index o.instr o.stands) ∙ by x
    where
      by : (o.instr ≡ Send b q) ⊎ (o.instr ≡ Recv b q) → length (micros_at j.program s o.index o.instr) ≡ 2 * len_of j.program b + 2
      by (inl e) = ap (λ (i : Instr). length (micros_at j.program s o.index i)) e
          ∙ (let y = two_length j.program (MediumAt j.program s) (communications j.program s o.index)
          (λ i. load (element_of j.program b i) 0)
          (λ i. store (wire_of j.program (MediumAt j.program s) i)
          (access j.program (MediumAt j.program s) i (communications j.program s o.index))) (len_of j.program b) in
          let z = length-append (blocks (send_at j.program (MediumAt j.program s) (communications j.program s o.index) b)
          (len_of j.program b)) (advance (MediumAt j.program s) (2 * communications j.program s o.index) ∷ []) in omega arith)
      by (inr e) = ap (λ (i : Instr). length (micros_at j.program s o.index i)) e
          ∙ (let y = two_length j.program (MediumAt j.program s) (communications j.program s o.index)
          (λ i. load (wire_of j.program (MediumAt j.program s) i)
          (access j.program (MediumAt j.program s) i (communications j.program s o.index))) (λ i. store (element_of j.program b i) 0)
          (len_of j.program b) in
          let z = length-append (blocks (receive_at j.program (MediumAt j.program s) (communications j.program s o.index) b)
          (len_of j.program b)) (advance (MediumAt j.program s) (2 * communications j.program s o.index + 1) ∷ []) in omega arith)

  copies_now : (b q : ℕ) → Copies b q → (r : ℕ) → registers_in j (reaction_at (code j.program s) n) (Some o.instr) r ≡ copied j b (reaction_at (code j.program s) n) r
  copies_now b q x r = ⊎_elim (λ e. ap (λ (i : Instr). registers_in j (reaction_at (code j.program s) n) (Some i) r) e)
      (λ e. ap (λ (i : Instr). registers_in j (reaction_at (code j.program s) n) (Some i) r) e) x

  no_call : (b q : ℕ) → Copies b q → (v : ℕ) (ins outs : List ℕ) → o.instr ≡ Call v ins outs → ⊥
  no_call b q (inl e) v ins outs a = let z = sym e ∙ a in cc
  no_call b q (inr e) v ins outs a = let z = sym e ∙ a in cc

  clear : (b q : ℕ) → Copies b q → (o.at + 1) % 2 ≡ 1 → (t : Bool) → cond t (registers_in j (reaction_at (code j.program s) n) (Some o.instr) (o.at + 1)) [] ≡ []
  clear b q x e true = copies_now b q x (o.at + 1) ∙ copied_odd j b (reaction_at (code j.program s) n) (o.at + 1) e
  clear b q x e false = refl

  -- element i on its way
  pub copy_load : (b q i : ℕ) → Copies b q → i < len_of j.program b → o.at ≡ 2 * i + 1 → (z : ℤ) → z
      ≡ element_at (buffer_value j b (reaction_at (code j.program s) n)) i → own_after j s (n + 1) ≡ with_registers (own_after j s n) (z ∷ [])
  copy_load b q i x l e z v = let k = not_last (no_call b q x) in let y = half_size b q x in
      same_own (own_after j s (n + 1)) (with_registers (own_after j s n) (z ∷ [])) (then j h s n m o ∙ rw (lt-ltb (o.at + 1) (size j.program s o.index) (omega arith)) (copies_now b q x (o.at + 1)
      ∙ ap (copied j b (reaction_at (code j.program s) n)) (let a : o.at + 1 ≡ 2 * i + 2 = omega arith in a)
      ∙ copied_even j b (reaction_at (code j.program s) n) i ∙ ap (λ (w : ℤ). w ∷ []) (sym v))) (sym k.0) (sym k.1)

  pub copy_store : (b q i : ℕ) → Copies b q → o.at ≡ 2 * i + 2
      → (element_at (own_after j s n).registers 0 ≡ element_at (buffer_value j b (reaction_at (code j.program s) n)) i)
      × (own_after j s (n + 1) ≡ with_registers (own_after j s n) [])
  copy_store b q i x e = let k = not_last (no_call b q x) in (
    ap (λ (l : List ℤ). element_at l 0) (now j h s n m o ∙ copies_now b q x o.at ∙ ap (copied j b (reaction_at (code j.program s) n)) e ∙ copied_even j b (reaction_at (code j.program s) n) i),
    same_own (own_after j s (n + 1)) (with_registers (own_after j s n) []) (then j h s n m o ∙ clear b q x (omega arith) (nat_lt (o.at + 1) (size j.program s o.index))) (sym k.0) (sym k.1),
  )

  -- a micro-step that touches no element leaves all
  clear_both : (t : Bool) (x : Instr) → ((r : ℕ) → registers_in j (reaction_at (code j.program s) n) (Some x) r ≡ []) → o.instr ≡ x
      → (registers_in j (reaction_at (code j.program s) n) (Some o.instr) o.at ≡ []) × (cond t (registers_in j (reaction_at (code j.program s) n) (Some o.instr) (o.at + 1)) [] ≡ [])
  clear_both true x z e = (
    ap (λ (i : Instr). registers_in j (reaction_at (code j.program s) n) (Some i) o.at) e ∙ z o.at,
    ap (λ (i : Instr). registers_in j (reaction_at (code j.program s) n) (Some i) (o.at + 1)) e ∙ z (o.at + 1),
  )
  clear_both false x z e = (ap (λ (i : Instr). registers_in j (reaction_at (code j.program s) n) (Some i) o.at) e ∙ z o.at, refl)

  pub idle : (x : Instr) → ((r : ℕ) → registers_in j (reaction_at (code j.program s) n) (Some x) r ≡ [])
      → ((v : ℕ) (ins outs : List ℕ) → x ≡ Call v ins outs → ⊥) → o.instr ≡ x → own_after j s (n + 1) ≡ own_after j s n
  idle x z c e = let b = clear_both (nat_lt (o.at + 1) (size j.program s o.index)) x z e in quiet (λ v ins outs a. c v ins outs (sym e ∙ a)) b.0 b.1

  copy_idle : (b q : ℕ) → Copies b q → (o.at ≡ 0) ⊎ (o.at ≡ 2 * len_of j.program b + 1) → own_after j s (n + 1) ≡ own_after j s n
  copy_idle b q x (inl z) = quiet (no_call b q x) (copies_now b q x o.at ∙ ap (copied j b (reaction_at (code j.program s) n)) z)
      (clear b q x (omega arith) (nat_lt (o.at + 1) (size j.program s o.index)))
  copy_idle b q x (inr z) = quiet (no_call b q x)
      (copies_now b q x o.at ∙ copied_odd j b (reaction_at (code j.program s) n) o.at (omega arith))
      (let y = half_size b q x in rw (le-ltb (o.at + 1) (size j.program s o.index) (omega arith)) refl)

  -- the wait and the advance of a half
  pub half_idle : (i : ℕ) → IsHalf j.program (MediumAt j.program s) (communications j.program s o.index) o.instr i
      → (o.at ≡ 0) ⊎ (o.at ≡ 2 * half_len j.program (MediumAt j.program s) (communications j.program s o.index) o.instr + 1) → own_after j s (n + 1) ≡ own_after j s n
  half_idle i (sending b q e z) v =
      copy_idle b q (inl e) (⊎_elim (λ k. inl k)
      (λ k. inr (k ∙ ap (λ (x : Instr). 2 * half_len j.program (MediumAt j.program s) (communications j.program s o.index) x + 1) e)) v)
  half_idle i (receiving b q e z) v =
      copy_idle b q (inr e) (⊎_elim (λ k. inl k)
      (λ k. inr (k ∙ ap (λ (x : Instr). 2 * half_len j.program (MediumAt j.program s) (communications j.program s o.index) x + 1) e)) v)
