-- What a definition passes on, from what those pass on that it names.
use Rattle.std.proofs.Common.{◌≡◌, ℕ, zero, suc, ◌+◌, ◌<◌, ◌≤◌, ◌==◌, Bool, true, false, ◌&&◌, List, [], ◌∷◌, ◌++◌, length, get_or, map, Option, Some, None, refl, sym, ap, ap₂, subst, ◌∙◌, arith}
use Rattle.std.specs.Prelude.{replicate, slice_get, slice_index_or}
use Rattle.std.specs.List.{list_all, range_with_len}
use Rattle.std.proofs.lemmas.List.{get_or_default, map-append}
use Rattle.std.proofs.lemmas.List.FromFn.{get_or-map-range_with_len, length-map-range_with_len, map-range_with_len_more}
use Rattle.syn_base.specs.Bytes.{Bytes}
use Rattle.algo_check.specs.Linked.{AreLinked, IsLinked, named}
use Rattle.algo_check.proofs.Inside.{as_many, there}
use Rattle.algo_laws.specs.Tree as tree
use Rattle.algo_laws.specs.View.{kind_view}
use Rattle.algo_laws.specs.declared.Source.{Source}
use Rattle.algo_laws.specs.declared.Def.{Def}
use Rattle.algo_laws.specs.declared.Body.{Body}
use Rattle.algo_laws.specs.declared.Body.TheVariants.{Sensor, Actuator, Constant, Delay, Function, Graph, Switch, Repeat}
use Rattle.algo_laws.specs.declared.Reference.{Reference}
use Rattle.algo_laws.specs.declared.Ports.{Ports}
use Rattle.algo_laws.specs.RuleLinks.{definition}
use Rattle.algo_laws.specs.Ports.{ports_of}
use Rattle.algo_laws.specs.Resolved.{Making, count_by, count_in, count_within, kind_by, sources_to, vertex_within}
use Rattle.algo_laws.specs.WellRead.{IsWellRead}
use Rattle.wiring_laws.specs.Definitions.{body_leads_by, leads_in, leads_within}
use Rattle.wiring_laws.specs.Wiring.{Wire, leads_by}
use Rattle.algo_resolve.specs.Plans.{Planned, plan_of, plan_view, wires_by}
use Rattle.algo_resolve.specs.Rounds.{Passed, adds_none, idle_at, leads_at, level_of, nothing, passed, passed_within, passing_view, round}
use Rattle.algo_resolve.specs.declared.passing.Passing.{Passing}
use Rattle.algo_resolve.specs.declared.plan.Plan.{Plan}
use Rattle.algo_resolve.proofs.Idle.{none-stands}
use Rattle.algo_resolve.proofs.Placed.{same_name}

mapped-at : {A B : Type 0} (f : A → B) (xs : List A) (i : ℕ) (x : A) (y : B) → slice_get xs i ≡ Some x → slice_index_or (map f xs) i y ≡ f x
mapped-at f [] i x y h = cc
mapped-at f (z ∷ xs) zero x y h = let same : z ≡ x = cc in ap f same
mapped-at f (z ∷ xs) (suc i) x y h = mapped-at f xs i x y h

module _ (ds : List Def) where
  -- by its name
  pub by-name : (n : ℕ) (w : Bytes) (d : Def) → definition ds w ≡ Some d → passed_within ds n d ≡ passed (count_within ds n w == 0) (leads_within ds n w)
  by-name zero w d at = refl
  by-name (suc n) w d at =
      ap (λ (v : Bytes). passed (count_by (count_within ds n) d.body == 0) (body_leads_by ds (leads_within ds n) (ports_of ds v) d.body)) (sym (same_name ds w d at))
      ∙ ap (λ (o : Option Def). passed (count_in (count_within ds n) o == 0) (leads_in ds (leads_within ds n) (ports_of ds w) o)) (sym at)

  module _ (n : ℕ) where
    at-place : (w : Bytes) (p : ℕ) → IsLinked ds w p → slice_index_or (round ds n) p nothing ≡ passed (count_within ds n w == 0) (leads_within ds n w)
    at-place w p l =
        let at = there ds p l.below in
        mapped-at (passed_within ds n) ds p at.0 nothing at.1 ∙ by-name n w at.0 (l.found ∙ at.1)

    all-idle : (ws : List Bytes) (ps : List ℕ) → AreLinked ds ws ps → list_all (idle_at (round ds n)) ps ≡ list_all (λ w. count_within ds n w == 0) ws
    all-idle [] [] h = refl
    all-idle [] (p ∷ ps) h = absurd h
    all-idle (w ∷ ws) [] h = absurd h
    all-idle (w ∷ ws) (p ∷ ps) h = ap₂ (λ (a b : Bool). a && b) (ap (λ (q : Passed). q.idle) (at-place w p h.0)) (all-idle ws ps h.1)

    all-lead : (ws : List Bytes) (ps : List ℕ) → AreLinked ds ws ps → map (leads_at (round ds n)) ps ≡ map (leads_within ds n) ws
    all-lead [] [] h = refl
    all-lead [] (p ∷ ps) h = absurd h
    all-lead (w ∷ ws) [] h = absurd h
    all-lead (w ∷ ws) (p ∷ ps) h = ap₂ (λ (l : List (Option ℕ)) (ls : List (List (Option ℕ))). l ∷ ls) (ap (λ (q : Passed). q.leads) (at-place w p h.0)) (all-lead ws ps h.1)

  -- the level of a body, from the sources that its plan has
  references-level : (of : Bytes → List (Option ℕ)) (s : Reference → List Source) (rs : List Reference)
      → level_of (map s rs) (map of (map (λ r. r.def) rs)) ≡ map (λ r. record { ins = s r; leads = of r.def }) rs
  references-level of s [] = refl
  references-level of s (r ∷ rs) = ap (λ (ws : List Wire). record { ins = s r; leads = of r.def } ∷ ws) (references-level of s rs)

  body-level : (make : Making) (of : Bytes → List (Option ℕ)) (own : Ports) (b : Body) → leads_by (kind_by ds make own 0 0 b) (level_of (wires_by ds b) (map of (named b))) ≡ body_leads_by ds of own b
  body-level make of own (Sensor len) = refl
  body-level make of own (Actuator len) = refl
  body-level make of own (Constant values) = refl
  body-level make of own (Delay depth values) = refl
  body-level make of own (Function ins outs) = refl
  body-level make of own (Graph ins outs references edges) =
      ap (λ (ws : List Wire). leads_by (kind_by ds make own 0 0 (Graph ins outs references edges)) ws)
      (references-level of (λ r. sources_to (ports_of ds) ins references edges (Some r.name) (ports_of ds r.def).ins) references)
  body-level make of own (Switch on ins outs cases otherwise last) = refl
  body-level make of own (Repeat copies def lines) = refl

  -- one round more
  pub one-more : (n : ℕ) (d : Def) (plan : Plan) (places : List ℕ) (last : List Passed) → IsWellRead d.body → plan_view plan ≡ plan_of ds d → AreLinked ds (named d.body) places → last ≡ round ds n
      → passed (adds_none d.body && list_all (idle_at last) places) (leads_by (kind_view plan.kind) (level_of plan.wires (map (leads_at last) places))) ≡ passed_within ds (suc n) d
  one-more n d plan places last read planned linked is =
      ap (λ (x : List Passed). passed (adds_none d.body && list_all (idle_at x) places) (leads_by (kind_view plan.kind) (level_of plan.wires (map (leads_at x) places)))) is
      ∙ ap (λ (x : Planned). passed (adds_none d.body && list_all (idle_at (round ds n)) places) (leads_by x.kind (level_of x.wires (map (leads_at (round ds n)) places)))) planned
      ∙ ap₂ passed
      (ap (λ (x : Bool). adds_none d.body && x) (all-idle n (named d.body) places linked) ∙ sym (none-stands (count_within ds n) d.body read))
      (ap (λ (x : List (List (Option ℕ))). leads_by (plan_of ds d).kind (level_of (wires_by ds d.body) x)) (all-lead n (named d.body) places linked)
      ∙ body-level (vertex_within ds 0) (leads_within ds n) (ports_of ds d.name) d.body)

-- what stands in a table of rounds
pub view-at : {A B : Type 0} (f : A → B) (xs : List A) (i : ℕ) (x : A) → get_or (map f xs) i (f x) ≡ f (get_or xs i x)
view-at f [] i x = refl
view-at f (z ∷ xs) zero x = refl
view-at f (z ∷ xs) (suc i) x = view-at f xs i x

module _ (ds : List Def) where
  pub rounds-long : (n : ℕ) (rs : List (List Passing)) → map (map passing_view) rs ≡ map (round ds) (range_with_len 0 n) → length rs ≡ n
  rounds-long n rs are = sym (as_many (map passing_view) rs) ∙ ap (λ (xs : List (List Passed)). length xs) are ∙ length-map-range_with_len (round ds) 0 n

  pub round-at : (n : ℕ) (rs : List (List Passing)) (i : ℕ) (r : List Passing) → map (map passing_view) rs
      ≡ map (round ds) (range_with_len 0 n) → i < n → r ≡ get_or rs i r → map passing_view r ≡ round ds i
  round-at n rs i r are low is =
      ap (map passing_view) is ∙ sym (view-at (map passing_view) rs i r)
      ∙ ap (λ (xs : List (List Passed)). get_or xs i (map passing_view r)) are
      ∙ get_or-map-range_with_len (round ds) 0 n i i (map passing_view r) low (omega arith)

  pub rounds-more : (n : ℕ) (rs : List (List Passing)) (r : List Passing) → map (map passing_view) rs ≡ map (round ds) (range_with_len 0 n) → map passing_view r ≡ round ds n
      → map (map passing_view) (rs ++ r ∷ []) ≡ map (round ds) (range_with_len 0 (n + 1))
  rounds-more n rs r are is =
      map-append (map passing_view) rs (r ∷ [])
      ∙ ap₂ (λ (xs : List (List Passed)) (x : List Passed). xs ++ x ∷ []) are is
      ∙ sym (map-range_with_len_more (round ds) 0 n n (omega arith))

  pub round-long : (n : ℕ) (r : List Passing) → map passing_view r ≡ round ds n → length r ≡ length ds
  round-long n r is = sym (as_many passing_view r) ∙ ap (λ (xs : List Passed). length xs) is ∙ as_many (passed_within ds n) ds

  pub passing-at : (n : ℕ) (r : List Passing) (p : ℕ) (d : Def) (x : Passing) → map passing_view r ≡ round ds n → slice_get ds p ≡ Some d → x ≡ get_or r p x → passing_view x ≡ passed_within ds n d
  passing-at n r p d x are at is =
      ap passing_view is ∙ sym (view-at passing_view r p x)
      ∙ ap (λ (xs : List Passed). get_or xs p (passing_view x)) are
      ∙ mapped-at (passed_within ds n) ds p d (passing_view x) at

-- what is known at a place of a round
module _ (them : List Passing) (p : ℕ) where
  in-view : (x : Passing) → p < length them → x ≡ get_or them p x → passing_view x ≡ slice_index_or (map passing_view them) p nothing
  in-view x low is =
      ap passing_view is ∙ sym (view-at passing_view them p x)
      ∙ get_or_default (map passing_view them) p (passing_view x) nothing (omega (arith, low, as_many passing_view them))

  pub idle-there : (x : Passing) → p < length them → x ≡ get_or them p x → x.idle ≡ idle_at (map passing_view them) p
  idle-there x low is = ap (λ (q : Passed). q.idle) (in-view x low is)

  pub leads-there : (x : Passing) → p < length them → x ≡ get_or them p x → x.leads ≡ leads_at (map passing_view them) p
  leads-there x low is = ap (λ (q : Passed). q.leads) (in-view x low is)

past-view : (them : List Passing) (p : ℕ) → length them ≤ p → slice_index_or (map passing_view them) p nothing ≡ nothing
past-view [] p h = refl
past-view (x ∷ them) zero h = absurd (omega (arith, h))
past-view (x ∷ them) (suc p) h = past-view them p (omega (arith, h))

pub idle-nowhere : (them : List Passing) (p : ℕ) → length them ≤ p → false ≡ idle_at (map passing_view them) p
idle-nowhere them p h = sym (ap (λ (q : Passed). q.idle) (past-view them p h))

pub leads-nowhere : (them : List Passing) (p : ℕ) → length them ≤ p → [] ≡ leads_at (map passing_view them) p
leads-nowhere them p h = sym (ap (λ (q : Passed). q.leads) (past-view them p h))

-- the round before the first definition is followed
none-followed : (ds xs : List Def) → replicate (length xs) (passed true []) ≡ map (passed_within ds 0) xs
none-followed ds [] = refl
none-followed ds (d ∷ xs) = ap (λ (ps : List Passed). passed true [] ∷ ps) (none-followed ds xs)

pub first-round : (ds : List Def) → replicate (length ds) (passed true []) ≡ round ds 0
first-round ds = none-followed ds ds
