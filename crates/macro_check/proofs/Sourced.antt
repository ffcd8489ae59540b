-- What is met from the buffers decides the checks of what they carry.
use Rattle.std.proofs.Common.{◌≡◌, ℕ, ◌<◌, Bool, true, false, ◌&&◌, List, length, Option, Some, None, refl, sym, ap, subst, inl, inr, ◌∙◌}
use Rattle.std.specs.Prelude.{slice_get}
use Rattle.std.specs.List.{list_all, range_with_len}
use Rattle.std.proofs.lemmas.Option.{slice_get_within}
use Rattle.std.proofs.lemmas.List.Folds.{list_all-map}
use Rattle.sequence_build_laws.specs.declared.Source.{Source}
use Rattle.sequence_build_laws.specs.declared.Vertex.{Vertex}
use Rattle.sequence_build_laws.specs.declared.Instr.{Instr}
use Rattle.sequence_build_laws.specs.declared.Instr.TheVariants.{Suc0, Suc1, Pre0, Pre1, Call, Send, Recv, Sync}
use Rattle.sequence_build_laws.specs.declared.Buffer.{Buffer}
use Rattle.sequence_build_laws.specs.declared.Program.{Program}
use Rattle.sequence_build_laws.specs.Instructions.{communications, medium, operator, turn}
use Rattle.sequence_build_laws.specs.MicroSteps.{transfers}
use Rattle.sequence_build_laws.specs.Places.{carried, output_at, transfer, writer_of, written_at}
use Rattle.sequence_build_laws.specs.WellFormed.{Stands}
use Rattle.sequence_build_laws.specs.Graph.{same_source}
use Rattle.program_walks.specs.Walks.{all_at, all_below}
use Rattle.program_walks.proofs.ListTests.{below_of, of_below}
use Rattle.program_tables.specs.declared.crossings.Crossing.{Crossing}
use Rattle.program_tables.specs.Crossings.{crossing, crossings, crossings_on}
use Rattle.program_tables.proofs.Lone.{same_tests}
use Rattle.program_walks.specs.Buffers.{are_buffers}
use Rattle.order_check.specs.declared.carrying.Origin.{Origin}
use Rattle.order_check.specs.declared.carrying.Origin.TheVariants.{Received}
use Rattle.order_check.specs.Calls.{has_len}
use Rattle.order_check.specs.Carries.{are_kept, is_kept, origin_of, received, sent_on}
use Rattle.check_laws.specs.Items.{AreTransferred, is_made}
use Rattle.check_laws.specs.Tests.{are_written, fits, has_same_len}
use Rattle.check_laws.proofs.Sent.{found}
use Rattle.macro_check.specs.Carrying.{AreLow, carries_alike, carry_all, follow, follow_all, from_transfer, is_as_long, is_call, met_in, origin_or, source_met}
use Rattle.macro_check.specs.Causes.{AreThere}
use Rattle.macro_check.specs.Tabled.{crossing_at}
use Rattle.macro_check.proofs.Follows.{call_is, source_is}
use Rattle.macro_check.proofs.Told.{crossing_there, made_there, part_of}

below_same : (f g : ℕ → Bool) (n : ℕ) → ((k : ℕ) → k < n → f k ≡ g k) → all_below f n ≡ all_below g n
below_same f g n h = same_tests (all_below f n) (all_below g n)
    (λ e. of_below g n (λ k l. sym (h k l) ∙ below_of f n e k l))
    (λ e. of_below f n (λ k l. h k l ∙ below_of g n e k l))

swapped : (a b : Bool) → (a && b) ≡ (b && a)
swapped true true = refl
swapped true false = refl
swapped false true = refl
swapped false false = refl

and_none : (b : Bool) → false ≡ (b && false)
and_none true = refl
and_none false = refl

module _ (p : Program) where
  -- what is met is what is carried
  pub met_is : (b : ℕ) → b < length p.buffers → met_in (follow_all p (length p.buffers)) b ≡ carried p b
  met_is b l = ap (λ (o : Option Origin). source_met (origin_or o)) (made_there (follow p (length p.buffers)) (length p.buffers) b l) ∙ source_is p (length p.buffers) b

  pub carried_is : (sources : List Origin) (b : ℕ) (x : Source) → sources ≡ follow_all p (length p.buffers) → b < length p.buffers → same_source (met_in sources b) x ≡ same_source (carried p b) x
  carried_is sources b x e l = ap (λ (s : List Origin). same_source (met_in s b) x) e ∙ ap (λ (s : Source). same_source s x) (met_is b l)

  pub given_is : (sources : List Origin) (b n : ℕ) (x : Source) → sources ≡ follow_all p (length p.buffers)
      → (has_len (slice_get p.buffers b) n && same_source (met_in sources b) x) ≡ (same_source (carried p b) x && has_len (slice_get p.buffers b) n)
  given_is sources b n x e = by (slice_get p.buffers b) refl
    where
      by : (o : Option Buffer) → slice_get p.buffers b ≡ o → (has_len o n && same_source (met_in sources b) x) ≡ (same_source (carried p b) x && has_len o n)
      by None q = and_none (same_source (carried p b) x)
      by (Some y) q = ap (λ (t : Bool). has_len (Some y) n && t) (carried_is sources b x e (slice_get_within p.buffers b y q)) ∙ swapped (has_len (Some y) n) (same_source (carried p b) x)

  pub calls_are : list_all is_call (follow_all p (length p.buffers)) ≡ all_below (is_made p (length p.buffers)) (length p.buffers)
  calls_are = list_all-map is_call (follow p (length p.buffers)) (range_with_len 0 (length p.buffers)) ∙ (λ i. list_all (λ b. call_is p (length p.buffers) b i) (range_with_len 0 (length p.buffers)))

  module _ (media : ℕ) where
    -- a test of each transfer
    each : (test : Crossing → Bool) → list_all (λ row. list_all test row) (crossings p media) ≡ all_below (λ m. all_below (λ t. test (crossing p m t)) (transfers p m)) media
    each test =
        list_all-map (λ (row : List Crossing). list_all test row) (crossings_on p) (range_with_len 0 media)
        ∙ (λ i. list_all (λ m. list_all-map test (crossing p m) (range_with_len 0 (transfers p m)) i) (range_with_len 0 media))

    pub long_are : list_all (λ row. list_all (is_as_long p) row) (crossings p media) ≡ all_below (λ m. all_below (λ t. has_same_len p m t) (transfers p m)) media
    long_are = each (is_as_long p)

    pub kept_are : AreLow p media → list_all (λ row. list_all (carries_alike (follow_all p (length p.buffers))) row) (crossings p media) ≡ are_kept p media
    kept_are low = each (carries_alike (follow_all p (length p.buffers)))
        ∙ below_same (λ m. all_below (λ t. carries_alike (follow_all p (length p.buffers)) (crossing p m t)) (transfers p m)) (λ m. all_below (λ t. is_kept p m t) (transfers p m)) media (λ m l.
        below_same (λ t. carries_alike (follow_all p (length p.buffers)) (crossing p m t)) (λ t. is_kept p m t) (transfers p m) (λ t k.
        let one = met_is (crossing p m t).received (low.received m t l k) in
        let two = met_is (crossing p m t).sent (low.sent m t l k) in
        λ i. same_source (one i) (two i)))

    pub written_is : (vertices : List Vertex) (sources : List Origin) (rows : List (List Crossing)) → AreLow p media → are_buffers p ≡ true
        → sources ≡ follow_all p (length p.buffers) → rows ≡ crossings p media → carry_all p vertices sources rows ≡ are_written p vertices media
    written_is vertices sources rows low b e f =
        (λ i. carry_all p vertices (e i) (f i))
        ∙ (λ i. calls_are i && all_at (λ v x. fits p vertices v x) 0 vertices && long_are i && kept_are low i)
        ∙ ap (λ (t : Bool). t && all_below (is_made p (length p.buffers)) (length p.buffers)
        && all_at (λ v x. fits p vertices v x) 0 vertices && all_below (λ m. all_below (λ t. has_same_len p m t) (transfers p m)) media
        && are_kept p media) (sym b)

    pub not_written : (vertices : List Vertex) → are_buffers p ≡ false → false ≡ are_written p vertices media
    not_written vertices b = ap (λ (t : Bool). t && all_below (is_made p (length p.buffers)) (length p.buffers)
        && all_at (λ v x. fits p vertices v x) 0 vertices && all_below (λ m. all_below (λ t. has_same_len p m t) (transfers p m)) media
        && are_kept p media) (sym b)

    -- where a receive's value comes from
    pub received_is : AreTransferred p media → (s a b o : ℕ) → Stands p s a (Recv b o)
        → from_transfer (crossing_at (crossings p media) (medium p s) (communications p s a)) ≡ received (sent_on p (medium p s) (communications p s a))
    received_is r s a b o h =
        let c = part_of p media r s a (Recv b o) h refl in
        ap (λ (m : Option ℕ). from_transfer (crossing_at (crossings p media) m (communications p s a))) c.at
        ∙ ap from_transfer (crossing_there p media c.on (communications p s a) c.low c.inside)
        ∙ ap received (sym (found p c.on (communications p s a) (r.transfers c.on (communications p s a) c.low c.inside)))
        ∙ ap (λ (m : Option ℕ). received (sent_on p m (communications p s a))) (sym c.at)

    pub are_low : AreThere p → AreTransferred p media → AreLow p media
    are_low names r = record {
      origins = λ b c e. from b (writer_of p b) (written_at p b) (output_at b (slice_get (turn p (writer_of p b)) (written_at p b))) c (slice_get (turn p (writer_of p b)) (written_at p b)) refl e;
      sent = sent;
      received = λ m t l k. names.buffers (transfer p m t).receiver (transfer p m t).receive_at (transfer p m t).received
          (operator p (transfer p m t).sender) (inr (r.transfers m t l k).receives.stands);
    }
      where
        sent : (m t : ℕ) → m < media → t < transfers p m → (transfer p m t).sent < length p.buffers
        sent m t l k = names.buffers (transfer p m t).sender (transfer p m t).send_at (transfer p m t).sent (operator p (transfer p m t).receiver) (inl (r.transfers m t l k).sends.stands)

        from : (b s a port c : ℕ) (o : Option Instr) → slice_get (turn p s) a ≡ o → origin_of p s a port o ≡ Received c → c < length p.buffers
        from b s a port c None h e = absurd cc
        from b s a port c (Some (Call v ins outs)) h e = absurd cc
        from b s a port c (Some (Recv d o)) h e =
            let q = part_of p media r s a (Recv d o) h refl in
            let is = ap received (sym (found p q.on (communications p s a) (r.transfers q.on (communications p s a) q.low q.inside)))
            ∙ ap (λ (m : Option ℕ). received (sent_on p m (communications p s a))) (sym q.at) ∙ e in
            let same : (transfer p q.on (communications p s a)).sent ≡ c = one is in
            subst (λ (n : ℕ). n < length p.buffers) same (sent q.on (communications p s a) q.low q.inside)
          where
            one : {x y : ℕ} → Received x ≡ Received y → x ≡ y
            one {x} {y} e = cc
        from b s a port c (Some (Suc0 q)) h e = absurd cc
        from b s a port c (Some (Suc1 q)) h e = absurd cc
        from b s a port c (Some (Pre0 q)) h e = absurd cc
        from b s a port c (Some (Pre1 q)) h e = absurd cc
        from b s a port c (Some (Send d q)) h e = absurd cc
        from b s a port c (Some (Sync d q)) h e = absurd cc
