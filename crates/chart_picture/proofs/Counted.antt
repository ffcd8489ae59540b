-- Each act has exactly one bar.
use Rattle.std.proofs.Common.{◌≡◌, ℕ, zero, suc, ◌+◌, ◌<◌, ◌≤◌, Bool, true, false, ◌&&◌, cond, nat_eq, List, [], ◌∷◌, ◌++◌, length, Option, refl, sym, ap, arith, ◌∙◌}
use Rattle.std.specs.Prelude.{slice_get, nat_lt}
use Rattle.std.specs.List.{count_by, filter}
use Rattle.std.proofs.lemmas.Bool.{false≢true, and_parts, ltb-true, eqb-true, ne_eqb, eq-eqb}
use Rattle.std.proofs.lemmas.List.Sums.{sum_by-cons, sum_by-append}
use Rattle.syn_base.specs.Bytes.{Bytes}
use Rattle.self_timed.specs.declared.Medium.{Medium}
use Rattle.self_timed.specs.Archi.{Architecture}
use Rattle.self_timed.specs.Graph.{Graph}
use Rattle.self_timed.specs.declared.Transfer.{Transfer}
use Rattle.self_timed.specs.Acts.{Act, carry, run, acts, is_on, is_over}
use Rattle.self_timed.specs.ScheduleValid.{is_carried, is_right, are_right, are_placed}
use Rattle.chart_picture.specs.Truth.{EachHasOneBar, charted, lane_acts}
use Rattle.chart_picture.proofs.Ordered.{operator_there, medium_there}

-- a medium that carries is there
medium_low : (media : List Medium) (m n : ℕ) (t : Transfer) → is_carried (slice_get media m) n t ≡ true → m < length media
medium_low [] m n t h = absurd (false≢true h)
medium_low (x ∷ media) zero n t h = omega arith
medium_low (x ∷ media) (suc m) n t h = let r = medium_low media m n t h in omega arith

module _ (test : Act → Bool) where
  abbrev passing : Act → ℕ
  passing x = cond (test x) 1 0

  count-append : (xs ys : List Act) → count_by test (xs ++ ys) ≡ count_by test xs + count_by test ys
  count-append xs ys = sum_by-append passing xs ys

  count-cons : (x : Act) (xs : List Act) → count_by test (x ∷ xs) ≡ passing x + count_by test xs
  count-cons x xs = sum_by-cons passing x xs

  -- one act more among those of a lane
  lane_more : (lane : Act → Bool) (x : Act) (xs : List Act) → count_by test (filter lane (x ∷ xs)) ≡ cond (lane x) (passing x) 0 + count_by test (filter lane xs)
  lane_more lane x xs = by (lane x)
    where
      by : (b : Bool) → count_by test (cond b (x ∷ filter lane xs) (filter lane xs)) ≡ cond b (passing x) 0 + count_by test (filter lane xs)
      by true = count-cons x (filter lane xs)
      by false = omega arith

  module _ {A : Type 0} (lane : ℕ → Act → Bool) where
    -- how often an act that passes stands in the lanes from this number on
    abbrev stands : Act → ℕ → List A → ℕ
    stands x o [] = 0
    stands x o (n ∷ ns) = cond (lane o x) (passing x) 0 + stands x (suc o) ns

    lanes_more : (x : Act) (xs : List Act) (o : ℕ) (ns : List A) → count_by test (lane_acts lane (x ∷ xs) o ns) ≡ stands x o ns + count_by test (lane_acts lane xs o ns)
    lanes_more x xs o [] = refl
    lanes_more x xs o (n ∷ ns) =
        let all = count-append (filter (lane o) (x ∷ xs)) (lane_acts lane (x ∷ xs) (suc o) ns) in
        let here = lane_more (lane o) x xs in
        let later = lanes_more x xs (suc o) ns in
        let before = count-append (filter (lane o) xs) (lane_acts lane xs (suc o) ns) in
        omega (arith, all, here, later, before)

    never : (x : Act) (o : ℕ) (ns : List A) → ((k : ℕ) → lane k x ≡ false) → stands x o ns ≡ 0
    never x o [] h = refl
    never x o (n ∷ ns) h =
        let rest = never x (suc o) ns h in
        let none_there : cond false (passing x) 0 + stands x (suc o) ns ≡ 0 = omega (arith, rest) in
        ap (λ (b : Bool). cond b (passing x) 0 + stands x (suc o) ns) (h o) ∙ none_there

    past : (x : Act) (n o : ℕ) (ns : List A) → ((k : ℕ) → lane k x ≡ nat_eq n k) → n < o → stands x o ns ≡ 0
    past x n o [] h l = refl
    past x n o (m ∷ ns) h l =
        let rest = past x n (suc o) ns h (omega arith) in
        let other : nat_eq n o ≡ false = ne_eqb n o (λ e. omega arith) in
        let none_there : cond false (passing x) 0 + stands x (suc o) ns ≡ 0 = omega (arith, rest) in
        ap (λ (b : Bool). cond b (passing x) 0 + stands x (suc o) ns) (h o ∙ other) ∙ none_there

    once : (x : Act) (n o : ℕ) (ns : List A) → ((k : ℕ) → lane k x ≡ nat_eq n k) → o ≤ n → n < o + length ns → stands x o ns ≡ passing x
    once x n o [] h l b = absurd (omega arith)
    once x n o (m ∷ ns) h l b = by (nat_eq n o) refl (λ later. once x n (suc o) ns h later (omega arith))
      where
        by : (c : Bool) → nat_eq n o ≡ c → (suc o ≤ n → stands x (suc o) ns ≡ passing x) → cond (lane o x) (passing x) 0 + stands x (suc o) ns ≡ passing x
        by true e rest =
            let same = eqb-true n o e in
            let none = past x n (suc o) ns h (omega arith) in
            let one : cond true (passing x) 0 + stands x (suc o) ns ≡ passing x = omega (arith, none) in
            ap (λ (b : Bool). cond b (passing x) 0 + stands x (suc o) ns) (h o ∙ e) ∙ one
        by false e rest =
            let other : (n ≡ o) → ⊥ = λ s. false≢true (sym e ∙ ap (λ (z : ℕ). nat_eq n z) (sym s) ∙ self n) in
            let found = rest (omega (arith, other)) in
            let one : cond false (passing x) 0 + stands x (suc o) ns ≡ passing x = omega (arith, found) in
            ap (λ (b : Bool). cond b (passing x) 0 + stands x (suc o) ns) (h o ∙ e) ∙ one
          where
            self : (z : ℕ) → nat_eq z z ≡ true
            self z = eq-eqb z z refl

  module _ (g : Graph) (a : Architecture) (ticks : ℕ → ℕ → Option ℕ) where
    on_or_over : (before : List Act) (x : Act) → is_right g a ticks before x ≡ true
        → stands is_on x 0 a.operators + stands is_over x 0 a.media ≡ passing x
    on_or_over before (carry t) h =
        let low = medium_low a.media t.medium _ t (medium_there g a ticks before t h) in
        let none = never is_on (carry t) 0 a.operators (λ k. refl) in
        let one = once is_over (carry t) t.medium 0 a.media (λ k. refl) (omega arith) (omega arith) in
        omega (arith, none, one)
    on_or_over before (run d) h =
        let low = ltb-true d.operator (length a.operators) (operator_there g a ticks before d h) in
        let none = never is_over (run d) 0 a.media (λ k. refl) in
        let one = once is_on (run d) d.operator 0 a.operators (λ k. refl) (omega arith) (omega arith) in
        omega (arith, none, one)

    each : (before xs : List Act) → are_right g a ticks before xs ≡ true → count_by test (charted a xs) ≡ count_by test xs
    each before [] h = none a.operators a.media
      where
        lane_none : {A : Type 0} (lane : ℕ → Act → Bool) (o : ℕ) (ns : List A) → lane_acts lane [] o ns ≡ []
        lane_none lane o [] = refl
        lane_none lane o (n ∷ ns) = lane_none lane (suc o) ns

        none : (os : List Bytes) (ms : List Medium) → count_by test (lane_acts is_on [] 0 os ++ lane_acts is_over [] 0 ms) ≡ 0
        none os ms = λ j. count_by test (lane_none is_on 0 os j ++ lane_none is_over 0 ms j)
    each before (x ∷ xs) h =
        let p = and_parts (is_right g a ticks before x) (are_right g a ticks (before ++ x ∷ []) xs) h in
        let rest = each (before ++ x ∷ []) xs p.1 in
        let all = count-append (lane_acts is_on (x ∷ xs) 0 a.operators) (lane_acts is_over (x ∷ xs) 0 a.media) in
        let few = count-append (lane_acts is_on xs 0 a.operators) (lane_acts is_over xs 0 a.media) in
        let on = lanes_more is_on x xs 0 a.operators in
        let over = lanes_more is_over x xs 0 a.media in
        let here = on_or_over before x p.0 in
        let whole = count-cons x xs in
        omega (arith, rest, all, few, on, over, here, whole)

pub each_has_one_bar : EachHasOneBar
each_has_one_bar g a ticks s test valid =
    each test g a ticks [] (acts s) (and_parts (are_right g a ticks [] (acts s)) (are_placed g a ticks (acts s)) valid).0
