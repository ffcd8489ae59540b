-- The tests of ways, cycles and critical cycles are true exactly of them.
use Rattle.std.proofs.Common.{◌≡◌, ℕ, ◌*◌, true, ◌&&◌, List, [], ◌∷◌, Option, Some, None, refl, sym, ap, ◌∙◌, eq-eqb}
use Rattle.std.specs.Prelude.{slice_get, nat_le, ◌==◌}
use Rattle.std.proofs.lemmas.Bool.{false≢true, and_parts, eqb-true, leb-true, le-leb}
use Rattle.self_timed.specs.declared.Vertex.{Vertex}
use Rattle.self_timed.specs.Acts.{Act}
use Rattle.self_timed.proofs.Reading.{any_of, any_at}
use Rattle.rates.specs.declared.table.Arc.{Arc}
use Rattle.rates.specs.Arcs.{arcs}
use Rattle.rates.specs.Rates.{Precedes, IsWayTo, IsCycle, IsCriticalCycle, begin_or, lags, length_over, same_arc, has_arc, is_way_to, is_cycle, is_critical_cycle}
use Rattle.rates.proofs.Tested.{both}

module _ (depth : ℕ) (vertices : List Vertex) (xs : List Act) where
  one_arc : (a b : Arc) → same_arc a b ≡ true → a ≡ b
  one_arc a b h =
      let p = and_parts (a.act == b.act) (a.lag == b.lag) h in
      let act = eqb-true a.act b.act p.0 in
      let lag = eqb-true a.lag b.lag p.1 in
      λ j. record { act = act j; lag = lag j }

  itself : (a : Arc) → same_arc a a ≡ true
  itself a = both (a.act == a.act) (a.lag == a.lag) (eq-eqb a.act a.act refl) (eq-eqb a.lag a.lag refl)

  has : (a : Arc) (i : ℕ) (o : Option Act) → slice_get xs i ≡ o → has_arc depth vertices xs a i o ≡ true → Precedes depth vertices xs a i
  has a i None e h = absurd (false≢true h)
  has a i (Some x) e h =
      let m = any_of (same_arc a) (arcs depth vertices xs i x) h in
      record { it = x; there = e; at = m.0; is = m.2 ∙ ap (λ (b : Arc). Some b) (sym (one_arc a m.1 m.3)) }

  had : (a : Arc) (i : ℕ) → Precedes depth vertices xs a i → has_arc depth vertices xs a i (slice_get xs i) ≡ true
  had a i p = ap (has_arc depth vertices xs a i) p.there ∙ any_at (same_arc a) (arcs depth vertices xs i p.it) p.at a p.is (itself a)

  leads : (i : ℕ) (way : List Arc) → is_way_to depth vertices xs i way ≡ true → IsWayTo depth vertices xs i way
  leads i [] h = tt
  leads i (a ∷ way) h =
      let p = and_parts (has_arc depth vertices xs a (begin_or i way) (slice_get xs (begin_or i way))) (is_way_to depth vertices xs i way) h in
      (has a (begin_or i way) (slice_get xs (begin_or i way)) refl p.0, leads i way p.1)

  led : (i : ℕ) (way : List Arc) → IsWayTo depth vertices xs i way → is_way_to depth vertices xs i way ≡ true
  led i [] h = refl
  led i (a ∷ way) h = both _ _ (had a (begin_or i way) h.0) (led i way h.1)

  pub cycle : (i : ℕ) (way : List Arc) → is_cycle depth vertices xs i way ≡ true → IsCycle depth vertices xs i way
  cycle i way h =
      let p = and_parts (begin_or i way == i) (is_way_to depth vertices xs i way && nat_le 1 (lags way)) h in
      let q = and_parts (is_way_to depth vertices xs i way) (nat_le 1 (lags way)) p.1 in
      record { begins = eqb-true (begin_or i way) i p.0; leads = leads i way q.0; later = leb-true 1 (lags way) q.1 }

  pub cycled : (i : ℕ) (way : List Arc) → IsCycle depth vertices xs i way → is_cycle depth vertices xs i way ≡ true
  cycled i way c = both _ _ (eq-eqb (begin_or i way) i c.begins) (both _ _ (led i way c.leads) (le-leb 1 (lags way) c.later))

  module _ (i : ℕ) (way : List Arc) (long : ℕ → ℕ) (ticks reactions : ℕ) where
    pub critical : is_critical_cycle depth vertices xs long ticks reactions i way ≡ true → IsCriticalCycle depth vertices xs long ticks reactions i way
    critical h =
        let p = and_parts (is_cycle depth vertices xs i way) (reactions * length_over long way == ticks * lags way) h in
        record { cycle = cycle i way p.0; rate = eqb-true (reactions * length_over long way) (ticks * lags way) p.1 }

    pub is_tested : IsCriticalCycle depth vertices xs long ticks reactions i way → is_critical_cycle depth vertices xs long ticks reactions i way ≡ true
    is_tested c = both _ _ (cycled i way c.cycle) (eq-eqb (reactions * length_over long way) (ticks * lags way) c.rate)
