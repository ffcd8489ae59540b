-- The chart, repeated, is a rate that is sustained.
use Rattle.std.proofs.Common.{◌≡◌, ℕ, zero, suc, ◌+◌, ◌*◌, ◌≤◌, true, ◌&&◌, not, take, List, [], ◌∷◌, Option, Some, None, ap, inl, inr, arith}
use Rattle.std.specs.Prelude.{slice_get, ◌-◌}
use Rattle.std.specs.List.{list_any}
use Rattle.std.proofs.lemmas.Bool.{false≢true, and_parts, eqb-true}
use Rattle.std.proofs.lemmas.Option.{same_Some}
use Rattle.std.proofs.Math.Nat.{mul-le-mul_left}
use Rattle.self_timed.specs.Graph.{Graph, len_of}
use Rattle.self_timed.specs.declared.Medium.{Medium}
use Rattle.self_timed.specs.Archi.{Architecture, stands_at}
use Rattle.self_timed.specs.declared.Schedule.{Schedule}
use Rattle.self_timed.specs.Acts.{Act, carry, run, acts, start_of, end_of, is_over, is_on, runs, copy, latest, length_of}
use Rattle.self_timed.specs.ScheduleValid.{is_valid, is_there, have_ended, lasts, is_carried}
use Rattle.self_timed.proofs.Works.{right_at}
use Rattle.self_timed.specs.Dates.{event, with_act}
use Rattle.self_timed.specs.Entries.{stated}
use Rattle.self_timed.proofs.Needs.{needs_are}
use Rattle.self_timed.proofs.Bounds.{ended_before}
use Rattle.rates.specs.declared.table.Arc.{Arc}
use Rattle.rates.specs.Arcs.{arcs}
use Rattle.rates.specs.Rates.{stated_at, Sustains}
use Rattle.rates.proofs.Arced.{to_need}

latest_at : (xs : List Act) (i : ℕ) (x : Act) → slice_get xs i ≡ Some x → end_of x ≤ latest xs
latest_at [] i x e = absurd cc
latest_at (y ∷ xs) zero x e = let z = ap end_of (same_Some y x e) in omega arith
latest_at (y ∷ xs) (suc i) x e = let z = latest_at xs i x e in omega arith

abbrev chart_end : List Act → ℕ → ℕ
chart_end xs i = with_act (slice_get xs i) end_of

end_at : (xs : List Act) (i : ℕ) (x : Act) → slice_get xs i ≡ Some x → chart_end xs i ≡ end_of x
end_at xs i x e = ap (λ (o : Option Act). with_act o end_of) e

long_at : (xs : List Act) (i : ℕ) (x : Act) → slice_get xs i ≡ Some x → stated_at xs i ≡ stated x
long_at xs i x e = ap (λ (o : Option Act). with_act o stated) e

module _ (depth : ℕ) (deep : 1 ≤ depth) (g : Graph) (a : Architecture) (ticks : ℕ → ℕ → Option ℕ) (s : Schedule) (valid : is_valid g a ticks s ≡ true) where
  -- no act ends before it starts
  in_order : (i : ℕ) (x : Act) → slice_get (acts s) i ≡ Some x → start_of x ≤ end_of x
  in_order i (carry t) e =
      let parts = and_parts (is_carried (slice_get a.media t.medium) (len_of g.vertices t.source) t
      && have_ended (is_over t.medium) (take i (acts s)) t.start) (not (is_there g a ticks (take i (acts s)) (copy t.to t.source)))
      (right_at g a ticks s valid i (carry t) e).act in
      long (slice_get a.media t.medium) (and_parts (is_carried (slice_get a.media t.medium) (len_of g.vertices t.source) t) (have_ended (is_over t.medium) (take i (acts s)) t.start) parts.0).0
    where
      long : (o : Option Medium) → is_carried o (len_of g.vertices t.source) t ≡ true → t.start ≤ t.end
      long None h = absurd (false≢true h)
      long (Some m) h = let z = eqb-true t.end (t.start + (m.fixed + len_of g.vertices t.source * m.per)) (and_parts (stands_at m t.from && stands_at m t.to) _ h).1 in omega arith
  in_order i (run d) e =
      let free_now = and_parts _ (have_ended (is_on d.operator) (take i (acts s)) d.start) (right_at g a ticks s valid i (run d) e).act in
      let new = and_parts _ (not (list_any (runs d.op) (take i (acts s)))) free_now.0 in
      long (ticks d.op d.operator) (and_parts _ (lasts (ticks d.op d.operator) d.start d.end) new.0).1
    where
      long : (o : Option ℕ) → lasts o d.start d.end ≡ true → d.start ≤ d.end
      long None h = absurd (false≢true h)
      long (Some n) h = let z = eqb-true d.end (d.start + n) h in omega arith

  follows : (i : ℕ) (x : Act) → slice_get (acts s) i ≡ Some x → (r : ℕ) (b : Arc) → slice_get (arcs depth g.vertices (acts s) i x) r
      ≡ Some b → chart_end (acts s) b.act + 1 * stated_at (acts s) i ≤ chart_end (acts s) i + b.lag * length_of s
  follows i x e r b h =
      let w = to_need depth g.vertices (acts s) b.lag i x r b h (omega arith) in
      let end = end_at (acts s) i x e in
      let long = long_at (acts s) i x e in
      elim (needs_are depth deep g.vertices (acts s) b.lag i x w.0 (event (b.lag - b.lag) b.act) w.1) [
        | inl n ↦ (let l = ended_before g a ticks s valid i x e b.act n.it n.less n.stands n.how in let z = end_at (acts s) b.act n.it n.stands in let order = in_order i x e in omega arith)
        | inr p ↦ (let less = p.less in let l = latest_at (acts s) b.act p.it p.stands in let z = end_at (acts s) b.act p.it p.stands in
            let one : 1 ≤ b.lag = omega arith in let times = mul-le-mul_left (length_of s) one in omega arith)
      ]

  pub chart_is_sustained : Sustains depth g.vertices (acts s) (stated_at (acts s)) (length_of s) 1 (λ i. with_act (slice_get (acts s) i) end_of)
  chart_is_sustained = record { fits = λ i x e. let end = end_at (acts s) i x e in let long = long_at (acts s) i x e in omega arith; follows = follows }
