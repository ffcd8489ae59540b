-- What the buffers of a call carry, one by one: what is wrong where a test fails, and what is right where none does.
use Rattle.std.proofs.Common.{◌≡◌, ℕ, zero, suc, ◌+◌, ◌<◌, ◌⊎◌, true, false, nat_eq, List, [], ◌∷◌, ◌++◌, map, drop, length, refl, sym, ap, subst, eq-eqb, arith, zero-add, inl, inr, ◌∙◌}
use Rattle.std.specs.Prelude.{Option, Some, None, nat_lt, slice_get}
use Rattle.std.specs.Cmp.Derive.{both_true}
use Rattle.std.proofs.lemmas.Bool.{and_parts, eqb-true, false≢true, lt-ltb, ltb-true}
use Rattle.std.proofs.lemmas.Option.{same_Some, slice_get_within}
use Rattle.sequence_build_laws.specs.declared.Guard.{Guard}
use Rattle.sequence_build_laws.specs.declared.Source.{Source}
use Rattle.sequence_build_laws.specs.declared.Vertex.{Vertex}
use Rattle.sequence_build_laws.specs.Graph.{Graph, same_source}
use Rattle.sequence_build_laws.specs.declared.Buffer as declared_buffer
use Rattle.sequence_build_laws.specs.declared.Instr.TheVariants.{Call}
use Rattle.sequence_build_laws.specs.declared.Program.{Program}
use Rattle.sequence_build_laws.specs.Instructions.{len_of, turn}
use Rattle.sequence_build_laws.specs.Places.{caller_of, carried, ins_in, outs_in, places}
use Rattle.sequence_build_laws.specs.WellFormed.{HasLength, Stands, len_is}
use Rattle.sequence_build_laws.proofs.Lists.{get_drop}
use Rattle.program_walks.proofs.Readings.{entry_is, is_entry}
use Rattle.order_check.specs.Calls.{called_at, carries, gives_at, has_len, has_output}
use Rattle.order_check.proofs.Kept.{is_same_source, same_source_is}
use Rattle.check_laws.specs.Items.{IsCalledOnce}
use Rattle.check_places.specs.Ahead.{CarryBelow, Fits, GiveBelow, Takes}
use Rattle.check_places.specs.Buffers.{fit_place, guard_place, input_place, output_place, taken_place}
use Rattle.check_places.specs.Wrong.{Carries, Gives, HasOtherInput, HasOtherOutput, HasUnequalInputs, HasUnequalOutputs}
use Rattle.check_places.proofs.Places.{holds_of, none_parts}
use Rattle.check_places.proofs.Telling.{none_at, some_at}

-- what an operation takes: the sources of its guards, and then its inputs
abbrev pub sources : List Guard → List Source → List Source
sources ds xs = map (λ (d : Guard). d.source) ds ++ xs

at_guard : (ds : List Guard) (xs : List Source) (k : ℕ) (d : Guard) → slice_get ds k ≡ Some d → slice_get (sources ds xs) k ≡ Some d.source
at_guard [] xs k d e = absurd cc
at_guard (f ∷ ds) xs zero d e = ap (λ (z : Guard). Some z.source) (same_Some f d e)
at_guard (f ∷ ds) xs (suc k) d e = at_guard ds xs k d e

at_input : (ds : List Guard) (xs : List Source) (k : ℕ) → slice_get (sources ds xs) (length ds + k) ≡ slice_get xs k
at_input [] xs k = ap (slice_get xs) (zero-add k)
at_input (d ∷ ds) xs k =
    ap (slice_get (d.source ∷ sources ds xs)) (let e : length (d ∷ ds) + k ≡ suc (length ds + k) = omega arith in e) ∙ at_input ds xs k

-- where source k comes from
record OfGuard (ds : List Guard) (k : ℕ) (z : Source) : Type 0 where
  guard : Guard
  there : slice_get ds k ≡ Some guard
  is : guard.source ≡ z

record OfInput (ds : List Guard) (xs : List Source) (k : ℕ) (z : Source) : Type 0 where
  at : ℕ
  counted : k ≡ length ds + at
  there : slice_get xs at ≡ Some z

source_at : (ds : List Guard) (xs : List Source) (k : ℕ) (z : Source) → slice_get (sources ds xs) k ≡ Some z → OfGuard ds k z ⊎ OfInput ds xs k z
source_at [] xs k z e = inr (record { at = k; counted = sym (zero-add k); there = e })
source_at (d ∷ ds) xs zero z e = inl (record { guard = d; there = refl; is = same_Some d.source z e })
source_at (d ∷ ds) xs (suc k) z e = elim (source_at ds xs k z e) [
  | inl r ↦ inl (record { guard = r.guard; there = r.there; is = r.is })
  | inr r ↦ inr (record { at = r.at; counted = (let c = r.counted in omega arith); there = r.there })
]

module _ (p : Program) (g : Graph) where
  length_told : (x : Source) (n : ℕ) (o : Option Vertex) → slice_get g.vertices x.vertex ≡ o → has_output o x.port n ≡ true → HasLength p [] (places p) (carried p) g x n
  length_told x n None e h = absurd (false≢true h)
  length_told x n (Some v) e h = rw e (entry_is (slice_get v.outs x.port) n h)

  told_length : (x : Source) (n : ℕ) (o : Option Vertex) → slice_get g.vertices x.vertex ≡ o → HasLength p [] (places p) (carried p) g x n → has_output o x.port n ≡ true
  told_length x n None e h = absurd (rw e at h)
  told_length x n (Some v) e h = is_entry (slice_get v.outs x.port) n (rw e at h)

  carries_is : (x : Source) (b : ℕ) → carries p g.vertices x (Some b) ≡ true → Carries p g x b
  carries_is x b h =
      let long = and_parts _ (has_output (slice_get g.vertices x.vertex) x.port (len_of p b)) h in
      let named = and_parts (nat_lt b (length p.buffers)) (same_source (carried p b) x) long.0 in
      (ltb-true b (length p.buffers) named.0, same_source_is (carried p b) x named.1, length_told x (len_of p b) (slice_get g.vertices x.vertex) refl long.1)

  is_carries : (x : Source) (b : ℕ) → Carries p g x b → carries p g.vertices x (Some b) ≡ true
  is_carries x b h =
      both_true (both_true (lt-ltb b (length p.buffers) h.0) (is_same_source (carried p b) x h.1)) (told_length x (len_of p b) (slice_get g.vertices x.vertex) refl h.2)

  len_told : (o : Option declared_buffer.Buffer) (n : ℕ) → has_len o n ≡ true → len_is p o n
  len_told None n h = absurd (false≢true h)
  len_told (Some x) n h = eqb-true x.len n h

  told_len : (o : Option declared_buffer.Buffer) (n : ℕ) → len_is p o n → has_len o n ≡ true
  told_len None n h = absurd h
  told_len (Some x) n h = eq-eqb x.len n h

  gives_is : (v k n b : ℕ) → gives_at p v k n (Some b) ≡ true → Gives p v k n b
  gives_is v k n b h =
      let parts = and_parts (same_source (carried p b) (record { vertex = v; port = k })) (has_len (slice_get p.buffers b) n) h in
      (same_source_is (carried p b) (record { vertex = v; port = k }) parts.0, len_told (slice_get p.buffers b) n parts.1)

  is_gives : (v k n b : ℕ) → Gives p v k n b → gives_at p v k n (Some b) ≡ true
  is_gives v k n b h = both_true (is_same_source (carried p b) (record { vertex = v; port = k }) h.0) (told_len (slice_get p.buffers b) n h.1)

  -- the call of operation v, which is x
  module _ (v : ℕ) (x : Vertex) (once : IsCalledOnce p v x) where
    abbrev s : ℕ
    s = caller_of p v

    abbrev a : ℕ
    a = called_at p v

    abbrev ins : List ℕ
    ins = ins_in (slice_get (turn p s) a)

    abbrev outs : List ℕ
    outs = outs_in (slice_get (turn p s) a)

    abbrev rest : List ℕ
    rest = drop (length x.guards) ins

    abbrev many : ℕ
    many = length x.guards + length x.ins

    stands : Stands p s a (Call v ins outs)
    stands = once.stands

    pub unequal_inputs : nat_eq (length ins) many ≡ false → HasUnequalInputs p v x s a
    unequal_inputs f = (ins, outs, stands, λ e. false≢true (sym f ∙ eq-eqb (length ins) many e))

    pub other_guard : length ins ≡ many → (k : ℕ) (d : Guard) → slice_get x.guards k ≡ Some d → carries p g.vertices d.source (slice_get ins k) ≡ false → HasOtherInput p g v k x s a
    other_guard e k d i f =
        let l : k < length x.guards = slice_get_within x.guards k d i in
        let b = some_at ins k (omega (arith, l, e)) in
        (ins, outs, b.0, d.source, stands, b.1, at_guard x.guards x.ins k d i, λ c. false≢true (sym f ∙ (ap (carries p g.vertices d.source) b.1 ∙ is_carries d.source b.0 c)))

    pub other_input : length ins ≡ many → (k : ℕ) (z : Source) → slice_get x.ins k ≡ Some z → carries p g.vertices z (slice_get rest k) ≡ false → HasOtherInput p g v (length x.guards + k) x s a
    other_input e k z i f =
        let l : k < length x.ins = slice_get_within x.ins k z i in
        let b = some_at ins (length x.guards + k) (omega (arith, l, e)) in (
          ins,
          outs,
          b.0,
          z,
          stands,
          b.1,
          at_input x.guards x.ins k ∙ i,
          λ c. false≢true (sym f ∙ (ap (carries p g.vertices z) (get_drop ins (length x.guards) k ∙ b.1) ∙ is_carries z b.0 c)),
        )

    -- inputs that pass carry what is taken
    pub carry_below : (k : ℕ) → ((j : ℕ) (d : Guard) → j < k → slice_get x.guards j ≡ Some d → carries p g.vertices d.source (slice_get ins j) ≡ true)
        → ((j : ℕ) (z : Source) → length x.guards + j < k → slice_get x.ins j ≡ Some z → carries p g.vertices z (slice_get rest j) ≡ true) → CarryBelow p g v x k
    carry_below k guards inputs j b z l e f = elim (source_at x.guards x.ins j z f) [
      | inl r ↦ subst (λ (y : Source). Carries p g y b) r.is (carries_is r.guard.source b (ap (carries p g.vertices r.guard.source) (sym e) ∙ guards j r.guard l r.there))
      | inr r ↦ (
          let low : length x.guards + r.at < k = (let c = r.counted in omega arith) in
          let there : slice_get rest r.at ≡ Some b = get_drop ins (length x.guards) r.at ∙ (ap (slice_get ins) (sym r.counted) ∙ e) in
          carries_is z b (ap (carries p g.vertices z) (sym there) ∙ inputs r.at z low r.there))
    ]

    pub unequal_outputs : nat_eq (length outs) (length x.outs) ≡ false → HasUnequalOutputs p v x s a
    unequal_outputs f = (ins, outs, stands, λ e. false≢true (sym f ∙ eq-eqb (length outs) (length x.outs) e))

    pub other_output : length outs ≡ length x.outs → (k n : ℕ) → slice_get x.outs k ≡ Some n → gives_at p v k n (slice_get outs k) ≡ false → HasOtherOutput p v k x s a
    other_output e k n i f =
        let l : k < length x.outs = slice_get_within x.outs k n i in
        let b = some_at outs k (omega (arith, l, e)) in
        (ins, outs, b.0, n, stands, b.1, i, λ c. false≢true (sym f ∙ (ap (gives_at p v k n) b.1 ∙ is_gives v k n b.0 c)))

    pub give_below : (k : ℕ) → ((j n : ℕ) → j < k → slice_get x.outs j ≡ Some n → gives_at p v j n (slice_get outs j) ≡ true) → GiveBelow p v x k
    give_below k all j b n l e i = gives_is v j n b (ap (gives_at p v j n) (sym e) ∙ all j n l i)

    -- what is right where there is no place
    pub guard_passes : (k : ℕ) (d : Guard) → guard_place p g.vertices v s a ins k d ≡ None → carries p g.vertices d.source (slice_get ins k) ≡ true
    guard_passes k d e = holds_of (carries p g.vertices d.source (slice_get ins k)) _ e

    pub input_passes : (k : ℕ) (z : Source) → input_place p g.vertices v s a (length x.guards) rest k z ≡ None → carries p g.vertices z (slice_get rest k) ≡ true
    input_passes k z e = holds_of (carries p g.vertices z (slice_get rest k)) _ e

    pub output_passes : (k n : ℕ) → output_place p g.vertices v s a outs k n ≡ None → gives_at p v k n (slice_get outs k) ≡ true
    output_passes k n e = holds_of (gives_at p v k n (slice_get outs k)) _ e

    pub takes_it : taken_place p g.vertices v x s a ins ≡ None → Takes p g v x
    takes_it e =
        let equal = none_parts _ _ e in
        let each = none_parts _ _ equal.1 in (
          eqb-true (length ins) many (holds_of (nat_eq (length ins) many) _ equal.0),
          carry_below (length ins)
              (λ j d l i. guard_passes j d (none_at (guard_place p g.vertices v s a ins) x.guards each.0 j d i))
              (λ j z l i. input_passes j z (none_at (input_place p g.vertices v s a (length x.guards) rest) x.ins each.1 j z i)),
        )

    pub fits_it : fit_place p g.vertices v x ≡ None → Fits p g v x
    fits_it e =
        let parts = none_parts _ _ e in
        let given = none_parts _ _ parts.1 in (
          takes_it parts.0,
          eqb-true (length outs) (length x.outs) (holds_of (nat_eq (length outs) (length x.outs)) _ given.0),
          give_below (length outs) (λ j n l i. output_passes j n (none_at (output_place p g.vertices v s a outs) x.outs given.1 j n i)),
        )
