-- Where buffers are wrong in what they carry, by the table of what is met from each.
use Rattle.std.proofs.Common.{◌≡◌, ℕ, ◌<◌, List, length, ap, ◌∙◌}
use Rattle.std.specs.Prelude.{Option, slice_get}
use Rattle.sequence_build_laws.specs.declared.Program.{Program}
use Rattle.sequence_build_laws.specs.Places.{carried, written_at, writer_of}
use Rattle.sequence_build_laws.specs.MicroSteps.{first_of}
use Rattle.sequence_build_laws.specs.Graph.{same_source}
use Rattle.program_tables.specs.declared.crossings.Crossing.{Crossing}
use Rattle.program_tables.specs.Crossings.{crossing}
use Rattle.order_check.specs.declared.carrying.Origin.{Origin}
use Rattle.order_check.specs.Carries.{is_kept}
use Rattle.check_laws.specs.Items.{is_made}
use Rattle.check_laws.specs.Tests.{has_same_len}
use Rattle.macro_check.specs.Carrying.{carries_alike, follow, follow_all, is_as_long, is_call, origin_or}
use Rattle.macro_check.proofs.Follows.{call_is}
use Rattle.macro_check.proofs.Sourced.{met_is}
use Rattle.macro_check.proofs.Told.{made_there}
use Rattle.check_places.specs.declared.place.Rule.TheVariants.{NotMade, OtherValue, UnequalLengths}
use Rattle.check_places.specs.declared.place.Subject.TheVariants.{Buffer, Transfer}
use Rattle.check_places.specs.Buffers.{kept_place, made_place}
use Rattle.check_places.specs.First.{broken, in_loop, unless}

module _ (p : Program) (sources : List Origin) (table : sources ≡ follow_all p (length p.buffers)) where
  -- a call is met from a buffer, or none
  made_is : (b : ℕ) → b < length p.buffers → is_call (origin_or (slice_get sources b)) ≡ is_made p (length p.buffers) b
  made_is b l =
      ap (λ (all : List Origin). is_call (origin_or (slice_get all b))) table
      ∙ (ap (λ (o : Option Origin). is_call (origin_or o)) (made_there (follow p (length p.buffers)) (length p.buffers) b l) ∙ call_is p (length p.buffers) b)

  pub made_place_is : (b w a : ℕ) → b < length p.buffers → w ≡ writer_of p b → a ≡ written_at p b
      → unless (is_call (origin_or (slice_get sources b))) (broken NotMade (Buffer b) (in_loop w a)) ≡ made_place p b
  made_place_is b w a l e f = λ i. unless (made_is b l i) (broken NotMade (Buffer b) (in_loop (e i) (f i)))

  module _ (m t : ℕ) (c : Crossing) (here : c ≡ crossing p m t) where
    same_len_is : is_as_long p c ≡ has_same_len p m t
    same_len_is = ap (is_as_long p) here

    alike_is : c.received < length p.buffers → c.sent < length p.buffers → carries_alike sources c ≡ is_kept p m t
    alike_is received sent =
        let one = met_is p c.received received in
        let two = met_is p c.sent sent in
        ap (λ (all : List Origin). carries_alike all c) table ∙ ((λ i. same_source (one i) (two i)) ∙ (λ i. same_source (carried p (here i).received) (carried p (here i).sent)))

    pub kept_place_is : c.received < length p.buffers → c.sent < length p.buffers
        → first_of (unless (is_as_long p c) (broken UnequalLengths (Transfer m t) (in_loop c.receiver c.receive_at)))
        (unless (carries_alike sources c) (broken OtherValue (Transfer m t) (in_loop c.receiver c.receive_at))) ≡ kept_place p m t
    kept_place_is received sent = λ i.
        first_of (unless (same_len_is i) (broken UnequalLengths (Transfer m t) (in_loop (here i).receiver (here i).receive_at)))
        (unless (alike_is received sent i) (broken OtherValue (Transfer m t) (in_loop (here i).receiver (here i).receive_at)))
