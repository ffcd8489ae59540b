-- In the chart, the greatest end of what precedes an act in the same reaction is its earliest date.
use Rattle.std.proofs.Common.{◌≡◌, ℕ, suc, ◌+◌, Bool, true, false, cond, List, [], ◌∷◌, ◌++◌, map, take, max, Option, Some, None, refl, sym, ap, arith, ◌∙◌}
use Rattle.std.specs.Prelude.{slice_get}
use Rattle.std.specs.List.{filter}
use Rattle.sequence_build_laws.specs.declared.Vertex.{Vertex}
use Rattle.sequence_build_laws.specs.Acts.{Act, end_of, latest}
use Rattle.sequence_build_laws.specs.Tight.{same_line, last_end_or, reads_from, earliest}
use Rattle.sequence_build_laws.specs.MicroSteps.{first_of}
use Rattle.sequence_build_laws.specs.Serial.{numbers_where}
use Rattle.sequence_build_laws.proofs.Lists.{get_take}
use Rattle.self_timed.specs.Dates.{Event, event, last_where, latest_of, with_act, in_line, brought}
use Rattle.syn_base.specs.Numbers.{greatest}

abbrev pub chart_end : List Act → ℕ → ℕ
chart_end xs i = with_act (slice_get xs i) end_of

pub greatest-append : (f : Event → ℕ) (es ds : List Event) → greatest (map f (es ++ ds)) ≡ max (greatest (map f es)) (greatest (map f ds))
greatest-append f [] ds = omega arith
greatest-append f (e ∷ es) ds = let z = greatest-append f es ds in omega arith

-- the ends of the acts that pass, by number: the greatest, and that of the last
greatest_end : (f : ℕ → ℕ) (p : Act → Bool) (n : ℕ) (ys : List Act) → ((i : ℕ) (y : Act) → slice_get ys i ≡ Some y → f (n + i) ≡ end_of y)
    → greatest (map (λ (e : Event). f e.act) (map (event 0) (numbers_where p n ys))) ≡ latest (filter p ys)
greatest_end f p n [] h = refl
greatest_end f p n (y ∷ ys) h = by (p y) (greatest_end f p (suc n) ys (λ i z e. let q : suc n + i ≡ n + suc i = omega arith in ap f q ∙ h (suc i) z e))
  where
    by : (b : Bool) → greatest (map (λ (e : Event). f e.act) (map (event 0) (numbers_where p (suc n) ys))) ≡ latest (filter p ys)
        → greatest (map (λ (e : Event). f e.act) (map (event 0) (cond b (n ∷ numbers_where p (suc n) ys) (numbers_where p (suc n) ys)))) ≡ latest (cond b (y ∷ filter p ys) (filter p ys))
    by true e = let q : n + 0 ≡ n = omega arith in let here = ap f (sym q) ∙ h 0 y refl in omega arith
    by false e = e

abbrev end_or : (ℕ → ℕ) → ℕ → Option ℕ → ℕ
end_or f d None = d
end_or f d (Some q) = f q

last_end : (f : ℕ → ℕ) (p : Act → Bool) (n d : ℕ) (ys : List Act) → ((i : ℕ) (y : Act) → slice_get ys i ≡ Some y → f (n + i) ≡ end_of y) → last_end_or d (filter p ys) ≡ end_or f d (last_where p n ys)
last_end f p n d [] h = refl
last_end f p n d (y ∷ ys) h = by (p y) (λ d. last_end f p (suc n) d ys (λ i z e. let q : suc n + i ≡ n + suc i = omega arith in ap f q ∙ h (suc i) z e))
  where
    here : f n ≡ end_of y
    here = let q : n + 0 ≡ n = omega arith in ap f (sym q) ∙ h 0 y refl

    first : (o : Option ℕ) → end_or f (end_of y) o ≡ end_or f d (first_of o (Some n))
    first None = sym here
    first (Some q) = refl

    none : (o : Option ℕ) → end_or f d o ≡ end_or f d (first_of o None)
    none None = refl
    none (Some q) = refl

    by : (b : Bool) → ((d : ℕ) → last_end_or d (filter p ys) ≡ end_or f d (last_where p (suc n) ys))
        → last_end_or d (cond b (y ∷ filter p ys) (filter p ys)) ≡ end_or f d (first_of (last_where p (suc n) ys) (cond b (Some n) None))
    by true r = r (end_of y) ∙ first (last_where p (suc n) ys)
    by false r = r d ∙ none (last_where p (suc n) ys)

module _ (vertices : List Vertex) (xs : List Act) where
  pub charted : (i : ℕ) (x : Act) → greatest (map (λ (e : Event). chart_end xs e.act) (in_line xs 0 i x ++ brought vertices xs 0 i x)) ≡ earliest vertices (take i xs) x
  charted i x =
      greatest-append (λ (e : Event). chart_end xs e.act) (in_line xs 0 i x) (brought vertices xs 0 i x)
      ∙ (λ j. max (line j) (greatest_end (chart_end xs) (reads_from vertices x) 0 (take i xs) ends j))
    where
      ends : (h : ℕ) (y : Act) → slice_get (take i xs) h ≡ Some y → chart_end xs (0 + h) ≡ end_of y
      ends h y e = let q : 0 + h ≡ h = omega arith in ap (chart_end xs) q ∙ ap (λ (o : Option Act). with_act o end_of) (get_take xs i h y e).1

      of : (o l : Option ℕ) → greatest (map (λ (e : Event). chart_end xs e.act) (latest_of 0 o l)) ≡ end_or (chart_end xs) 0 o
      of None l = refl
      of (Some q) l = omega arith

      line : greatest (map (λ (e : Event). chart_end xs e.act) (in_line xs 0 i x)) ≡ last_end_or 0 (filter (same_line x) (take i xs))
      line = of (last_where (same_line x) 0 (take i xs)) (last_where (same_line x) 0 xs) ∙ sym (last_end (chart_end xs) (same_line x) 0 0 (take i xs) ends)
