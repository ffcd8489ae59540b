-- Where a run stops each sequence that is not at its end waits for an instruction that the run has not made.
use Rattle.std.proofs.Common.{◌≡◌, ℕ, zero, suc, ◌+◌, ◌<◌, ◌≤◌, Bool, true, false, cond, List, ◌∷◌, length, refl, sym, ap, subst, arith, ◌∙◌}
use Rattle.std.specs.Prelude.{Option, Some, None, nat_lt, option_map, slice_get}
use Rattle.std.proofs.lemmas.Bool.{false≢true, ltb-false, ltb-true}
use Rattle.std.proofs.lemmas.Option.{same_Some, slice_get-map}
use Rattle.sequence_build_laws.specs.Graph.{Graph}
use Rattle.sequence_build_laws.specs.declared.Seq.{Seq}
use Rattle.sequence_build_laws.specs.declared.Program.{Program}
use Rattle.sequence_build_laws.specs.Instructions.{turn}
use Rattle.check_laws.specs.Run.{awaited, is_past, is_ready, left_from, made, run, stuck}
use Rattle.check_laws.specs.Run as run_specs
use Rattle.check_laws.proofs.Running.{ready_at, stops}
use Rattle.check_laws.proofs.Searches.{lowest_none}
use Rattle.macro_check.specs.Awaiting.{stand_or}
use Rattle.check_places.specs.declared.place.Part.TheVariants.{Loop}
use Rattle.check_places.specs.declared.place.Spot.{Spot}
use Rattle.check_places.specs.declared.place.Waiting.{Waiting}
use Rattle.check_places.specs.Shown.{AreWaiting}
use Rattle.check_places.specs.Waits.{awaits, spot_of, waiting, waitings}
use Rattle.check_places.proofs.Telling.{some_at}

module _ (p : Program) (order : List ℕ) where
  -- a place at which a sequence is left
  record IsLeft (k n : ℕ) (z : run_specs.Place) : Type 0 where
    next : z.at ≡ made order z.sequence
    inside : z.at < length (turn p z.sequence)
    low : z.sequence < k + n

  left_is : (k n i : ℕ) (z : run_specs.Place) → slice_get (left_from p order k n) i ≡ Some z → IsLeft k n z
  left_is k zero i z e = absurd cc
  left_is k (suc n) i z e = by (nat_lt (made order k) (length (turn p k))) refl i e (λ j f. left_is (suc k) n j z f)
    where
      later : IsLeft (suc k) n z → IsLeft k (suc n) z
      later r = record { next = r.next; inside = r.inside; low = (let l = r.low in omega arith) }

      by : (b : Bool) → nat_lt (made order k) (length (turn p k)) ≡ b → (i : ℕ)
          → slice_get (cond b (record { sequence = k; at = made order k } ∷ left_from p order (suc k) n) (left_from p order (suc k) n)) i ≡ Some z
          → ((j : ℕ) → slice_get (left_from p order (suc k) n) j ≡ Some z → IsLeft (suc k) n z) → IsLeft k (suc n) z
      by true h zero e more =
          subst (λ (z : run_specs.Place). IsLeft k (suc n) z) (same_Some (record { sequence = k; at = made order k }) z e)
          (record { next = refl; inside = ltb-true _ _ h; low = omega arith })
      by true h (suc i) e more = later (more i e)
      by false h i e more = later (more i e)

module _ (p : Program) where
  -- what is not past is awaited
  record Awaits (o : Option run_specs.Place) : Type 0 where
    spot : Spot
    is : spot_of (stand_or o) ≡ Some spot
    unmade : made (run p) spot.sequence ≤ spot.at

  awaits_of : (o : Option run_specs.Place) → is_past p (run p) o ≡ false → Awaits o
  awaits_of None h = absurd (false≢true (sym h))
  awaits_of (Some y) h = record { spot = record { part = Loop; sequence = y.sequence; at = y.at }; is = refl; unmade = ltb-false y.at (made (run p) y.sequence) h }

  at_stop : (z : run_specs.Place) → IsLeft p (run p) 0 (length p.seqs) z → (y : Spot) × ((waiting p z).awaits ≡ Some y) × (made (run p) y.sequence ≤ y.at)
  at_stop z r =
      let x = some_at (turn p z.sequence) z.at r.inside in
      let unready = lowest_none (is_ready p (run p)) 0 (length p.seqs) (stops p) z.sequence (omega arith) (let l = r.low in omega arith) in
      let past = sym (ready_at p (run p) z.sequence z.at x.0 (sym r.next) x.1) ∙ unready in
      let a = awaits_of (awaited p z.sequence z.at x.0) past in
      (a.spot, ap (awaits p z.sequence z.at) x.1 ∙ a.is, a.unmade)

module _ (p : Program) (g : Graph) (seqs : List Seq) (operators media : ℕ) where
  some_map : {A B : Type 0} (f : A → B) (o : Option A) (w : B) → option_map f o ≡ Some w → (x : A) × (o ≡ Some x) × (f x ≡ w)
  some_map f None w e = absurd cc
  some_map f (Some x) w e = (x, refl, same_Some (f x) w e)

  pub are_waiting : AreWaiting p g seqs operators media (waitings p (stuck p))
  are_waiting i w e =
      let z = some_map (waiting p) (slice_get (stuck p) i) w (sym (slice_get-map (waiting p) (stuck p) i) ∙ e) in
      subst (λ (w : Waiting). (y : Spot) × (w.awaits ≡ Some y) × (made (run p) y.sequence ≤ y.at)) z.2
      (at_stop p z.0 (left_is p (run p) 0 (length p.seqs) i z.0 z.1))
