-- The source that a buffer carries, found step by step, and the test that transfers keep it.
use Rattle.std.proofs.Common.{◌≡◌, ℕ, zero, suc, ◌-◌, ◌<◌, true, nat_eq, refl, sym, ap, eq-eqb, arith, ◌∙◌}
use Rattle.std.specs.Prelude.{slice_get, Option, Some, None}
use Rattle.std.specs.Cmp.Derive.{both_true}
use Rattle.std.proofs.lemmas.Bool.{and_parts, eqb-true}
use Rattle.executive_program.specs.declared.Source.{Source}
use Rattle.executive_program.specs.Graph.{same_source}
use Rattle.executive_program.specs.declared.program.Instr.{Instr}
use Rattle.executive_program.specs.declared.program.Instr.TheVariants.{Suc0, Suc1, Pre0, Pre1, Call, Send, Recv, Sync}
use Rattle.executive_program.specs.declared.program.Program.{Program}
use Rattle.executive_program.specs.Instructions.{communications, medium, turn}
use Rattle.executive_program.specs.MicroSteps.{sent, transfers}
use Rattle.executive_program.specs.Places.{Writing, carried, carried_within, no_source, sent_source, source_by, writing}
use Rattle.order_check.specs.declared.carrying.Origin.{Origin}
use Rattle.order_check.specs.declared.carrying.Origin.TheVariants.{Made, Received, Nowhere}
use Rattle.program_walks.specs.Walks.{all_below}
use Rattle.order_check.specs.Carries.{are_kept, is_kept, origin, origin_of, received, sent_on, source_from}
use Rattle.order_check.specs.Transfers.{buffer_at, receiver_of, sender_of}
use Rattle.program_walks.proofs.ListTests.{below_of, of_below}

pub same_source_is : (x y : Source) → same_source x y ≡ true → x ≡ y
same_source_is x y h =
    let parts = and_parts (nat_eq x.vertex y.vertex) (nat_eq x.port y.port) h in
    let v = eqb-true x.vertex y.vertex parts.0 in
    let q = eqb-true x.port y.port parts.1 in
    λ i. record { vertex = v i; port = q i }

pub is_same_source : (x y : Source) → x ≡ y → same_source x y ≡ true
is_same_source x y e = both_true (eq-eqb x.vertex y.vertex (ap (λ (z : Source). z.vertex) e)) (eq-eqb x.port y.port (ap (λ (z : Source). z.port) e))

module _ (p : Program) where
  received_is : (inner : ℕ → Source) (o : Option ℕ) → sent_source p inner o ≡ source_from p inner (received o)
  received_is inner None = refl
  received_is inner (Some b) = refl

  source_is : (inner : ℕ → Source) (w : Writing) (x : Option Instr) → source_by p inner w x ≡ source_from p inner (origin_of p w.writer w.at w.port x)
  source_is inner w None = refl
  source_is inner w (Some (Call v ins outs)) = refl
  source_is inner w (Some (Recv b o)) = by (medium p w.writer) refl
    where
      by : (m : Option ℕ) → medium p w.writer ≡ m → source_by p inner w (Some (Recv b o)) ≡ source_from p inner (received (sent_on p (medium p w.writer) (communications p w.writer w.at)))
      by None e = rw e refl
      by (Some m) e = rw e (received_is inner (sent p m (communications p w.writer w.at)))
  source_is inner w (Some (Suc0 q)) = refl
  source_is inner w (Some (Suc1 q)) = refl
  source_is inner w (Some (Pre0 q)) = refl
  source_is inner w (Some (Pre1 q)) = refl
  source_is inner w (Some (Send b q)) = refl
  source_is inner w (Some (Sync q r)) = refl

  -- one hop
  pub hop : (hops b : ℕ) → 0 < hops → carried_within p hops b ≡ source_from p (carried_within p (hops - 1)) (origin p b)
  hop zero b l = absurd (omega arith)
  hop (suc hops) b l =
      source_is (carried_within p hops) (writing p b) (slice_get (turn p (writing p b).writer) (writing p b).at)
      ∙ ap (λ (n : ℕ). source_from p (carried_within p n) (origin p b)) (let e : hops ≡ suc hops - 1 = omega arith in e)

  -- the walk ends with a source, or goes on from the buffer that is sent
  pub comes_from_call : (n at b v port : ℕ) → 0 < n → carried_within p n at ≡ carried p b → Made v port ≡ origin p at → record { vertex = v; port = port } ≡ carried p b
  comes_from_call n at b v port l h e = ap (λ (o : Origin). source_from p (carried_within p (n - 1)) o) e ∙ (sym (hop n at l) ∙ h)

  pub comes_from_nowhere : (n at b : ℕ) → 0 < n → carried_within p n at ≡ carried p b → Nowhere ≡ origin p at → no_source p ≡ carried p b
  comes_from_nowhere n at b l h e = ap (λ (o : Origin). source_from p (carried_within p (n - 1)) o) e ∙ (sym (hop n at l) ∙ h)

  pub comes_from_buffer : (n at b s k : ℕ) → 0 < n → carried_within p n at ≡ carried p b → Received s ≡ origin p at → k ≡ n - 1 → carried_within p k s ≡ carried p b
  comes_from_buffer n at b s k l h e same =
      ap (λ (k : ℕ). carried_within p k s) same ∙ (ap (λ (o : Origin). source_from p (carried_within p (n - 1)) o) e ∙ (sym (hop n at l) ∙ h))

  pub kept_of : (media : ℕ) → are_kept p media ≡ true → (m t : ℕ) → m < media → t < transfers p m → carried p (buffer_at p (receiver_of p m t) t) ≡ carried p (buffer_at p (sender_of p m t) t)
  kept_of media h m t l k =
      same_source_is (carried p (buffer_at p (receiver_of p m t) t)) (carried p (buffer_at p (sender_of p m t) t))
      (below_of (λ t. is_kept p m t) (transfers p m) (below_of (λ m. all_below (λ t. is_kept p m t) (transfers p m)) media h m l) t k)

  pub of_kept : (media : ℕ) → ((m t : ℕ) → m < media → t < transfers p m → carried p (buffer_at p (receiver_of p m t) t) ≡ carried p (buffer_at p (sender_of p m t) t)) → are_kept p media ≡ true
  of_kept media h =
      of_below (λ m. all_below (λ t. is_kept p m t) (transfers p m)) media (λ m l.
      of_below (λ t. is_kept p m t) (transfers p m) (λ t k.
      is_same_source (carried p (buffer_at p (receiver_of p m t) t)) (carried p (buffer_at p (sender_of p m t) t)) (h m t l k)))
