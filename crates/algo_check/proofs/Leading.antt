-- Where every name is known, links lead to definitions.
use Rattle.std.proofs.Common.{◌≡◌, ℕ, zero, suc, ◌<◌, true, false, List, [], ◌∷◌, ◌++◌, length, get_or, map, Option, Some, None, refl, ap, sym, subst, ◌∙◌}
use Rattle.std.specs.Prelude.{slice_get}
use Rattle.std.specs.List.{flat_map}
use Rattle.std.proofs.lemmas.Option.{slice_get_within}
use Rattle.std.proofs.lemmas.List.{map-append}
use Rattle.syn_base.specs.Bytes.{Bytes}
use Rattle.algo_rules.specs.Refusals.{AlgoRefusal}
use Rattle.algo_rules.specs.declared.Def.{Def}
use Rattle.algo_rules.specs.declared.Body.{Body}
use Rattle.algo_rules.specs.declared.Body.TheVariants.{Sensor, Actuator, Constant, Delay, Function, Graph, Switch, Repeat}
use Rattle.algo_rules.specs.declared.Case.{Case}
use Rattle.algo_rules.specs.Links.{first_of, Mention, mentions, mentions_in, definition, unknown_by, links_of}
use Rattle.algo_check.specs.Placing.{place_of, places_of}
use Rattle.algo_check.specs.Linked.{IsLinked, AreLinked, named, EachLeads, AllLead}
use Rattle.algo_check.proofs.Found.{found}

map_at : {A B : Type 0} (f : A → B) (xs : List A) (i : ℕ) (x : A) (y : B) → slice_get xs i ≡ Some x → get_or (map f xs) i y ≡ f x
map_at f [] i x y h = cc
map_at f (z ∷ xs) zero x y h = let same : z ≡ x = cc in ap f same
map_at f (z ∷ xs) (suc i) x y h = map_at f xs i x y h

none_both : (o : Option AlgoRefusal) (os : List (Option AlgoRefusal)) → first_of (o ∷ os) ≡ None → (o ≡ None) × (first_of os ≡ None)
none_both None os h = (refl, h)
none_both (Some e) os h = cc

module _ (ds : List Def) where
  abbrev fault_of : Mention → Option AlgoRefusal
  fault_of m = unknown_by m (definition ds m.def)

  abbrev AreKnown : List Mention → Type 0
  AreKnown [] = Unit {0}
  AreKnown (m ∷ ms) = (fault_of m ≡ None) × AreKnown ms

  known_lines : (ms : List Mention) → first_of (map fault_of ms) ≡ None → AreKnown ms
  known_lines [] h = tt
  known_lines (m ∷ ms) h = let both = none_both (fault_of m) (map fault_of ms) h in (both.0, known_lines ms both.1)

  front : (xs ys : List Mention) → AreKnown (xs ++ ys) → AreKnown xs
  front [] ys h = tt
  front (x ∷ xs) ys h = (h.0, front xs ys h.1)

  back : (xs ys : List Mention) → AreKnown (xs ++ ys) → AreKnown ys
  back [] ys h = h
  back (x ∷ xs) ys h = back xs ys h.1

  known_in : (owners : List Def) (i : ℕ) (d : Def) → AreKnown (flat_map mentions owners) → slice_get owners i ≡ Some d → AreKnown (mentions d)
  known_in [] i d h at = cc
  known_in (e ∷ owners) zero d h at = let same : e ≡ d = cc in subst (λ (x : Def). AreKnown (mentions x)) same (front (mentions e) (flat_map mentions owners) h)
  known_in (e ∷ owners) (suc i) d h at = known_in owners i d (back (mentions e) (flat_map mentions owners) h) at

  known_at : (ms : List Mention) (k : ℕ) (m : Mention) → AreKnown ms → slice_get ms k ≡ Some m → fault_of m ≡ None
  known_at [] k m h at = cc
  known_at (n ∷ ms) zero m h at = let same : n ≡ m = cc in subst (λ (x : Mention). fault_of x ≡ None) same h.0
  known_at (n ∷ ms) (suc k) m h at = known_at ms k m h.1 at

  below_by : (m : Mention) (o : Option Def) → unknown_by m o ≡ None → definition ds m.def ≡ o → place_of ds m < length ds
  below_by m None h is = cc
  below_by m (Some d) h is = slice_get_within ds (place_of ds m) d (sym (found ds m.def) ∙ is)

  one_linked : (m : Mention) → fault_of m ≡ None → IsLinked ds m.def (place_of ds m)
  one_linked m h = record { below = below_by m (definition ds m.def) h refl; found = found ds m.def }

  all_linked : (ms : List Mention) → AreKnown ms → AreLinked ds (map (λ m. m.def) ms) (places_of ds ms)
  all_linked [] h = tt
  all_linked (m ∷ ms) h = (one_linked m h.0, all_linked ms h.1)

twice : {A B C : Type 0} (f : B → C) (g : A → B) (xs : List A) → map f (map g xs) ≡ map (λ x. f (g x)) xs
twice f g [] = refl
twice f g (x ∷ xs) = ap (λ ys. f (g x) ∷ ys) (twice f g xs)

abbrev case_line : Case → Mention
case_line c = record { line = c.line; def = c.def; is_reference = false }

names_are : (n : ℕ) (b : Body) → map (λ m. m.def) (mentions_in n b) ≡ named b
names_are n (Sensor len) = refl
names_are n (Actuator len) = refl
names_are n (Constant values) = refl
names_are n (Delay depth values) = refl
names_are n (Function ins outs) = refl
names_are n (Graph ins outs references edges) = twice (λ m. m.def) (λ r. record { line = r.line; def = r.def; is_reference = true }) references
names_are n (Switch on ins outs cases otherwise last) =
    map-append (λ m. m.def) (map case_line cases) (record { line = last; def = otherwise; is_reference = false } ∷ [])
    ∙ ap (λ ws. ws ++ otherwise ∷ []) (twice (λ m. m.def) case_line cases)
names_are n (Repeat copies def lines) = refl

links_at : (ds : List Def) (i : ℕ) (d : Def) → slice_get ds i ≡ Some d → get_or (links_of ds) i [] ≡ places_of ds (mentions d)
links_at ds i d at = map_at (λ e. places_of ds (mentions e)) ds i d [] at

pub each_leads : EachLeads
each_leads ds i k d m none at line =
    let known = known_in ds ds i d (known_lines ds (flat_map mentions ds) none) at in
    let place : get_or (get_or (links_of ds) i []) k 0 ≡ place_of ds m = ap (λ (ps : List ℕ). get_or ps k 0) (links_at ds i d at) ∙ map_at (place_of ds) (mentions d) k m 0 line in
    subst (λ (p : ℕ). IsLinked ds m.def p) (sym place) (one_linked ds m (known_at ds (mentions d) k m known line))

pub all_lead : AllLead
all_lead ds i d none at =
    let known = known_in ds ds i d (known_lines ds (flat_map mentions ds) none) at in
    let linked : AreLinked ds (named d.body) (places_of ds (mentions d)) =
    subst (λ (ws : List Bytes). AreLinked ds ws (places_of ds (mentions d))) (names_are d.line d.body) (all_linked ds (mentions d) known) in
    subst (λ (ps : List ℕ). AreLinked ds (named d.body) ps) (sym (links_at ds i d at)) linked
