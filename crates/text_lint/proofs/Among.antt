-- What is among some names, once one more was added to a table.
use Rattle.std.proofs.Common.{◌≡◌, ℕ, suc, ◌+◌, ◌<◌, Bool, true, false, not, ◌||◌, List, [], ◌∷◌, ◌++◌, length, get_or, drop, map, Bor, refl, sym, ap, subst, arith, ◌∙◌, if◌then◌else◌}
use Rattle.std.specs.Str.{bytes_eq}
use Rattle.std.proofs.Math.Seq.{drop-cons}
use Rattle.std.proofs.lemmas.Slice.Eq.{bytes_eq-Decides}
use Rattle.syn_base.specs.Bytes.{Bytes}
use Rattle.algo_rules.specs.Among.{is_among}

pub or_none : (b : Bool) → (b || false) ≡ b
or_none true = refl
or_none false = refl

either : (a b c : Bool) → ((a || b) || c) ≡ (a || (b || c))
either true b c = refl
either false b c = refl

-- the last of the names
at_end : (w : Bytes) (names : List Bytes) (name : Bytes) → is_among w (names ++ name ∷ []) ≡ (is_among w names || bytes_eq w name)
at_end w [] name = or_none (bytes_eq w name)
at_end w (x ∷ names) name =
    ap (λ (b : Bool). bytes_eq w x || b) (at_end w names name) ∙ sym (either (bytes_eq w x) (is_among w names) (bytes_eq w name))

-- one that was there
again : (w : Bytes) (names : List Bytes) (name : Bytes) → is_among name names ≡ true → is_among w names ≡ (is_among w names || bytes_eq w name)
again w names name there = by (bytes_eq w name) refl
  where
    by : (b : Bool) → bytes_eq w name ≡ b → is_among w names ≡ (is_among w names || b)
    by false h = sym (or_none (is_among w names))
    by true h =
        let here : is_among w names ≡ true = subst (λ (v : Bytes). is_among v names ≡ true) (sym ((bytes_eq-Decides w name).0 h)) there in
        here ∙ sym (ap (λ (b : Bool). b || true) here)

known : (b : Bool) → false ≡ not b → b ≡ true
known true h = refl
known false h = cc

-- a name that was added, unless it was there, is among them, and so is what was
pub added : (old new : List Bytes) (name : Bytes) (r : Bool) → r ≡ not (is_among name old) → new ≡ (if r then old ++ name ∷ [] else old)
    → (w : Bytes) → is_among w new ≡ (is_among w old || bytes_eq w name)
added old new name true told after w = ap (λ (names : List Bytes). is_among w names) after ∙ at_end w old name
added old new name false told after w = ap (λ (names : List Bytes). is_among w names) after ∙ again w old name (known (is_among name old) told)

abbrev read : List (Bor (List ℕ)) → List Bytes
read names = map (λ (v : Bor (List ℕ)). v.now) names

-- the first of those that are left, whatever stands for a missing one
here : (named : List (Bor (List ℕ))) (i : ℕ) (d : Bor (List ℕ)) → i < length named → drop i named ≡ get_or named i d ∷ drop (i + 1) named
here named i d inside =
    drop-cons named i d inside
    ∙ ap (λ (k : ℕ). get_or named i d ∷ drop k named) (let e : suc i ≡ i + 1 = omega arith in e)

pub one_more : (named : List (Bor (List ℕ))) (i : ℕ) (d : Bor (List ℕ)) (old new : List Bytes) (r : Bool)
    → i < length named → r ≡ not (is_among (get_or named i d).now old) → new ≡ (if r then old ++ (get_or named i d).now ∷ [] else old)
    → (w : Bytes) → (is_among w old || is_among w (read (drop i named))) ≡ is_among w (read named)
    → (is_among w new || is_among w (read (drop (i + 1) named))) ≡ is_among w (read named)
one_more named i d old new r inside told after w before =
    let x : Bor (List ℕ) = get_or named i d in
    ap (λ (b : Bool). b || is_among w (read (drop (i + 1) named))) (added old new x.now r told after w)
    ∙ either (is_among w old) (bytes_eq w x.now) (is_among w (read (drop (i + 1) named)))
    ∙ ap (λ (xs : List (Bor (List ℕ))). is_among w old || is_among w (read xs)) (sym (here named i d inside))
    ∙ before
