-- The values that elements have in their rounds.
use Rattle.std.proofs.Common.{◌≡◌, ℕ, ◌+◌, ◌-◌, ◌*◌, ◌/◌, ◌<◌, Bool, false, cond, length, Option, refl, ap, arith, ◌∙◌}
use Rattle.std.specs.Prelude.{nat_lt}
use Rattle.std.proofs.lemmas.Bool.{lt-ltb, le-ltb}
use Rattle.std.proofs.lemmas.Nat.{mod-mul-add, div-mul-add}
use native.Mathlib.Nat.{mul-one}
use Rattle.executive_program.specs.Sites.{reaction_at}
use Rattle.executive_program.specs.System.{round_number}
use Rattle.executive_program.specs.Owners.{sum_below}
use Rattle.executive_program.specs.Level.{element_at}
use Rattle.executive_program.specs.Blocks.{block_at}
use Rattle.executive_program.specs.Instructions.{len_of, len_by}
use Rattle.executive_program.specs.MicroSteps.{code, element_of, wire_of, buffer_elements, wire_len, transfers, transfer_len, uses, access, sent}
use Rattle.executive_program.specs.Places.{places, transfer}
use Rattle.semaphore_core.specs.Job.{JobData, reactions, buffer_at, wire_at, number_at, period_at, system}
use Rattle.semaphore_core.specs.Told.{buffer_value, sent_value, wire_value, stored_value}
use Rattle.phase_laws.specs.Values.{IsSupplied}
use Rattle.phase_laws.proofs.Setting.{Conditions}
use Rattle.phase_laws.proofs.Blocks.{block_at_is}
use Rattle.phase_laws.proofs.Buffers.{len_inside, element_low}
use Rattle.phase_laws.proofs.Sent.{found}
use Rattle.phase_laws.proofs.Wires.{user, user_of, wire_at_is, number_at_is, period_is, wire_holds}
use Rattle.phase_laws.proofs.Programs.{parts_of, conditions_of}

-- element n of buffer b
stored_buffer : (j : JobData) (b n t : ℕ) → n < len_of j.program b → stored_value j (element_of j.program b n) t ≡ element_at (buffer_value j b t) n
stored_buffer j b n t l = let e = block_at_is (len_of j.program) (length j.program.buffers) b n (len_inside j.program b n l) l in
    rw (lt-ltb (element_of j.program b n) (buffer_elements j.program) (element_low j.program b n l))
    (ap (λ (c : ℕ). element_at (buffer_value j c t) (element_of j.program b n - sum_below (len_of j.program) c)) e
    ∙ ap (element_at (buffer_value j b t)) (let z : element_of j.program b n - sum_below (len_of j.program) b ≡ n = omega arith in z))

-- in a reaction
pub buffer_round : (j : JobData) (s n b i : ℕ) → i < len_of j.program b
    → stored_value j (element_of j.program b i) (round_number (system j) s n (element_of j.program b i) 0) ≡ element_at (buffer_value j b (reaction_at (code j.program s) n)) i
buffer_round j s n b i l = let q : period_at j.program j.media (element_of j.program b i) ≡ 1 = rw (lt-ltb (element_of j.program b i) (buffer_elements j.program) (element_low j.program b i l)) refl in
    ap (λ (c : ℕ). stored_value j (element_of j.program b i) (reaction_at (code j.program s) n * c + 0)) q
    ∙ ap (stored_value j (element_of j.program b i))
    (let y = mul-one (reaction_at (code j.program s) n) in
    let z : reaction_at (code j.program s) n * 1 + 0 ≡ reaction_at (code j.program s) n = omega arith in z)
    ∙ stored_buffer j b i (reaction_at (code j.program s) n) l

module _ (j : JobData) (h : IsSupplied j) where
  abbrev C : Conditions j.program (places j.program)
  C = conditions_of j h.seqs h.order h.formed

  module _ (m t i : ℕ) (a : m < j.media) (b : t < transfers j.program m) (l : i < len_of j.program (transfer j.program m t).sent) where
    len : transfer_len j.program m t ≡ len_of j.program (transfer j.program m t).sent
    len = ap (len_by j.program) (found j.program (places j.program) C (reactions j) (parts_of j) m t a b)

    long : i < wire_len j.program m
    long = let z = wire_holds j.program (places j.program) C (reactions j) (parts_of j) m t a b in let y = len in omega arith

    u : (user j.program m i (access j.program m i t) ≡ t) × (access j.program m i t < access j.program m i (transfers j.program m))
    u = user_of j.program m i t b (let z = len in omega arith)

    period : period_at j.program j.media (wire_of j.program m i) ≡ access j.program m i (transfers j.program m)
    period = period_is j.program (places j.program) C (reactions j) (parts_of j) m i a long

    high : nat_lt (wire_of j.program m i) (buffer_elements j.program) ≡ false
    high = le-ltb (wire_of j.program m i) (buffer_elements j.program) (omega arith)

    stored_wire : (r : ℕ) → stored_value j (wire_of j.program m i) r ≡ wire_value j m i (access j.program m i (transfers j.program m)) r
    stored_wire r = ap (λ (d : Bool). cond d (element_at (buffer_value j (buffer_at j.program j.media (wire_of j.program m i)) r) (number_at j.program j.media (wire_of j.program m i)))
        (wire_value j (wire_at j.program j.media (wire_of j.program m i)) (number_at j.program j.media (wire_of j.program m i)) (period_at j.program j.media (wire_of j.program m i)) r)) high
        ∙ (λ q. wire_value j (wire_at_is j.program (places j.program) C (reactions j) (parts_of j) m i a long q)
        (number_at_is j.program (places j.program) C (reactions j) (parts_of j) m i a long q) (period q) r)

    -- element i of the wire of m in transfer t of a reaction
    wire_is : (k : ℕ) → stored_value j (wire_of j.program m i) (k * access j.program m i (transfers j.program m) + access j.program m i t)
        ≡ element_at (buffer_value j (transfer j.program m t).sent k) i
    wire_is k = stored_wire (k * access j.program m i (transfers j.program m) + access j.program m i t)
        ∙ ap (λ (q : ℕ). element_at (sent_value j (sent j.program m (block_at (uses j.program m i) (transfers j.program m) q))
        ((k * access j.program m i (transfers j.program m) + access j.program m i t) / access j.program m i (transfers j.program m))) i)
        (mod-mul-add k (access j.program m i (transfers j.program m)) (access j.program m i t) u.1)
        ∙ ap (λ (q : ℕ). element_at (sent_value j (sent j.program m (user j.program m i (access j.program m i t))) q) i)
        (div-mul-add k (access j.program m i (transfers j.program m)) (access j.program m i t) u.1)
        ∙ ap (λ (q : ℕ). element_at (sent_value j (sent j.program m q) k) i) u.0
        ∙ ap (λ (o : Option ℕ). element_at (sent_value j o k) i) (found j.program (places j.program) C (reactions j) (parts_of j) m t a b)

    pub wire_round : (s n : ℕ) → stored_value j (wire_of j.program m i)
        (round_number (system j) s n (wire_of j.program m i) (access j.program m i t))
        ≡ element_at (buffer_value j (transfer j.program m t).sent (reaction_at (code j.program s) n)) i
    wire_round s n = ap (λ (c : ℕ). stored_value j (wire_of j.program m i) (reaction_at (code j.program s) n * c + access j.program m i t)) period ∙ wire_is (reaction_at (code j.program s) n)
