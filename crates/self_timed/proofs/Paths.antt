-- What leads to an operation is what has a path to it.
use Rattle.std.proofs.Common.{◌≡◌, ℕ, zero, suc, ◌+◌, ◌<◌, ◌≤◌, Bool, true, false, ◌||◌, nat_eq, List, [], ◌∷◌, length, Option, Some, None, refl, sym, ap, inl, inr, arith, ◌∙◌}
use Rattle.std.specs.Prelude.{slice_get}
use Rattle.std.specs.List.{list_any}
use Rattle.std.proofs.lemmas.Bool.{cases_lt, eq-eqb, eqb-true, false≢true, or_cases}
use Rattle.std.proofs.lemmas.Option.{same_Some, slice_get_past}
use Rattle.sequence_build_laws.specs.declared.Vertex.{Vertex}
use Rattle.sequence_build_laws.specs.Graph.{with_vertex}
use Rattle.sequence_build_laws.specs.FlatOrder.{is_acyclic}
use Rattle.self_timed.specs.Latency.{leads_to, leads_within, reads, reads_of}
use Rattle.self_timed.specs.PathLaws.{IsPath, LeadsAlongPaths}
use Rattle.self_timed.proofs.Turning.{all_done, no_longer}

-- one that passes
one_of : (test : ℕ → Bool) (us : List ℕ) → list_any test us ≡ true → (u : ℕ) × ((k : ℕ) × (slice_get us k ≡ Some u)) × (test u ≡ true)
one_of test [] h = absurd (false≢true h)
one_of test (u ∷ us) h = elim (or_cases (test u) (list_any test us) h) [
  | inl e ↦ (u, (0, refl), e)
  | inr e ↦ (let r = one_of test us e in (r.0, (suc r.1.0, r.1.1), r.2))
]

passes : (test : ℕ → Bool) (us : List ℕ) (k u : ℕ) → slice_get us k ≡ Some u → test u ≡ true → list_any test us ≡ true
passes test [] k u e t = absurd cc
passes test (x ∷ us) zero u e t = ap (λ (b : Bool). b || list_any test us) (ap test (same_Some x u e) ∙ t)
passes test (x ∷ us) (suc k) u e t = by (test x) (passes test us k u e t)
  where
    by : (b : Bool) → list_any test us ≡ true → (b || list_any test us) ≡ true
    by true h = refl
    by false h = h

or_second : (a b : Bool) → b ≡ true → (a || b) ≡ true
or_second true b e = refl
or_second false b e = e

or_first : (a b : Bool) → a ≡ true → (a || b) ≡ true
or_first true b e = refl
or_first false b e = absurd (false≢true e)

module _ (vertices : List Vertex) (v : ℕ) where
  path_of : (n w : ℕ) → leads_within vertices n v w ≡ true → (m : ℕ) × IsPath vertices (suc m) v w
  path_of zero w h = absurd (false≢true h)
  path_of (suc n) w h =
      let r = one_of (λ u. nat_eq u v || leads_within vertices n v u) (reads vertices w) h in
      elim (or_cases (nat_eq r.0 v) (leads_within vertices n v r.0) r.2) [
        | inl e ↦ (0, (r.0, r.1, sym (eqb-true r.0 v e)))
        | inr e ↦ (let p = path_of n r.0 e in (suc p.0, (r.0, r.1, p.1)))
      ]

  leads : (n w : ℕ) → IsPath vertices (suc n) v w → leads_within vertices (suc n) v w ≡ true
  leads zero w p = passes (λ u. nat_eq u v || leads_within vertices 0 v u) (reads vertices w) p.1.0 p.0 p.1.1 (or_first (nat_eq p.0 v) (leads_within vertices 0 v p.0) (eq-eqb p.0 v (sym p.2)))
  leads (suc n) w p = passes (λ u. nat_eq u v || leads_within vertices (suc n) v u) (reads vertices w) p.1.0 p.0 p.1.1
      (or_second (nat_eq p.0 v) (leads_within vertices (suc n) v p.0) (leads n p.0 p.2))

  -- more operations lead no less far
  longer : (n m w : ℕ) → n ≤ m → leads_within vertices n v w ≡ true → leads_within vertices m v w ≡ true
  longer zero m w l h = absurd (false≢true h)
  longer (suc n) zero w l h = absurd (omega arith)
  longer (suc n) (suc m) w l h =
      let r = one_of (λ u. nat_eq u v || leads_within vertices n v u) (reads vertices w) h in
      passes (λ u. nat_eq u v || leads_within vertices m v u) (reads vertices w) r.1.0 r.0 r.1.1
      (elim (or_cases (nat_eq r.0 v) (leads_within vertices n v r.0) r.2) [
        | inl e ↦ or_first (nat_eq r.0 v) (leads_within vertices m v r.0) e
        | inr e ↦ or_second (nat_eq r.0 v) (leads_within vertices m v r.0) (longer n m r.0 (omega arith) e)
      ])

  module _ (acyclic : is_acyclic vertices ≡ true) where
    no_further : (d w : ℕ) → w < length vertices → leads_within vertices (d + length vertices) v w ≡ leads_to vertices v w
    no_further zero w l = let z : 0 + length vertices ≡ length vertices = omega arith in ap (λ (n : ℕ). leads_within vertices n v w) z
    no_further (suc d) w l =
        let z : suc d + length vertices ≡ suc (d + length vertices) = omega arith in
        ap (λ (n : ℕ). leads_within vertices n v w) z
        ∙ sym (no_longer vertices v (length vertices) (d + length vertices) w (omega arith) (all_done vertices v acyclic w l))
        ∙ no_further d w l

    -- an operation that is not there reads nothing
    is_there : (n w : ℕ) → leads_within vertices (suc n) v w ≡ true → w < length vertices
    is_there n w h = elim (cases_lt w (length vertices)) [
      | inl l ↦ l
      | inr l ↦ absurd (false≢true (sym (ap (λ (o : Option Vertex). list_any (λ u. nat_eq u v || leads_within vertices n v u) (with_vertex o [] reads_of)) (slice_get_past vertices w l)) ∙ h))
    ]

    enough : (n w : ℕ) → leads_within vertices (suc n) v w ≡ true → leads_to vertices v w ≡ true
    enough n w h =
        let l = is_there n w h in
        let more = longer (suc n) (suc n + length vertices) w (omega arith) h in
        sym (no_further (suc n) w l) ∙ more

pub leads_along_paths : LeadsAlongPaths
leads_along_paths vertices acyclic v w = (path_of vertices v (length vertices) w, λ p. enough vertices v acyclic p.0 w (leads vertices v p.0 w p.1))
