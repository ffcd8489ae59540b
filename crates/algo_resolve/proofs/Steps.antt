-- One vertex more.
use Rattle.std.proofs.Common.{◌≡◌, ℕ, zero, suc, ◌+◌, ◌-◌, ◌<◌, ◌≤◌, List, [], ◌∷◌, ◌++◌, length, get_or, drop, map, Some, ap, sym, subst, ◌∙◌, append-nil, arith}
use Rattle.std.specs.Prelude.{slice_get}
use Rattle.std.proofs.Math.Numerals.{suc-eq-add-one}
use Rattle.std.proofs.lemmas.List.{drop_all}
use Rattle.std.proofs.lemmas.List.FromFn.{length-map-range_with_len, map-range_with_len_more}
use Rattle.body_lang.specs.declared.expression.Port.{Port}
use Rattle.syn_base.specs.Bytes.{Bytes}
use Rattle.algo_check.proofs.Fresh.{from_here}
use Rattle.algo_laws.specs.declared.Source.{Source}
use Rattle.algo_laws.specs.declared.Source.TheVariants.{Own}
use Rattle.algo_laws.specs.declared.Part.{Part}
use Rattle.algo_laws.specs.declared.Part.TheVariants.{Named, Numbered}
use Rattle.algo_laws.specs.Tree as tree
use Rattle.algo_laws.specs.View.{view}
use Rattle.algo_laws.specs.declared.Vertex.{Vertex}
use Rattle.algo_laws.specs.declared.Def.{Def}
use Rattle.algo_laws.specs.declared.Reference.{Reference}
use Rattle.algo_laws.specs.declared.Edge.{Edge}
use Rattle.algo_laws.specs.RuleLinks.{definition}
use Rattle.algo_laws.specs.Placed.{ArePlaced, IsPlaced}
use Rattle.algo_laws.specs.Ports.{ports_of}
use Rattle.algo_laws.specs.Resolved.{Making, actuator_count, cases_from, owns, references_from, sensor_count, sources_to}
use Rattle.algo_laws.specs.declared.Ports.{Ports}
use Rattle.algo_resolve.specs.declared.build.Seat.{Seat}

-- one vertex after those that are made
pub pushed : {A B : Type 0} (f : A → B) (xs : List A) (x : A) (y : B) (rest : List B) → f x ≡ y → map f (xs ++ x ∷ []) ++ rest ≡ map f xs ++ (y ∷ rest)
pushed f [] x y rest is = ap (λ z. z ∷ rest) is
pushed f (z ∷ xs) x y rest is = ap (λ zs. f z ∷ zs) (pushed f xs x y rest is)

-- one own input more
pub owns_more : (first number : ℕ) → first ≤ number → owns first (number - first) ++ Own number ∷ [] ≡ owns first (number + 1 - first)
owns_more first number low =
    let more : number + 1 - first ≡ number - first + 1 = omega (arith, low) in
    sym (ap (owns first) more ∙ map-range_with_len_more (λ n. Own n) first (number - first) number (omega (arith, low)))

-- the rest of a list of names from one on
name_here : (ws : List Bytes) (i : ℕ) (w : Bytes) → slice_get ws i ≡ Some w → drop i ws ≡ w ∷ drop (i + 1) ws
name_here [] i w at = cc
name_here (x ∷ ws) zero w at = let same : x ≡ w = cc in ap (λ (y : Bytes). y ∷ ws) same
name_here (x ∷ ws) (suc i) w at = let next : suc (i + 1) ≡ suc i + 1 = omega arith in name_here ws i w at ∙ ap (λ (k : ℕ). w ∷ drop k (x ∷ ws)) next

-- the definition of a name among several that stand at places
pub named_at : (ds : List Def) (table : List Ports) (ws : List Bytes) (ps : List ℕ) (i : ℕ) (w : Bytes) → ArePlaced ds table ws ps → slice_get ws i ≡ Some w → IsPlaced ds table w (get_or ps i 0)
named_at ds table [] ps i w h at = cc
named_at ds table (x ∷ ws) [] i w h at = absurd h
named_at ds table (x ∷ ws) (p ∷ ps) zero w h at = let same : x ≡ w = cc in subst (λ (y : Bytes). IsPlaced ds table y p) same h.0
named_at ds table (x ∷ ws) (p ∷ ps) (suc i) w h at = named_at ds table ws ps i w h.1 at

-- where a case or the body of a repetition stands
abbrev pub inner_at : ℕ → List Source → Seat
inner_at i ss = record { part = Numbered i; ins = ss; sensor = 0; actuator = 0 }

-- the only list among several
pub only_wire : (wires : List (List Source)) (wire ws : List Source) → wires ≡ ws ∷ [] → wire ≡ get_or wires 0 wire → wire ≡ ws
only_wire wires wire ws planned here = here ∙ ap (λ (xs : List (List Source)). get_or xs 0 wire) planned

-- as many own inputs as there are
pub owns_long : (first n : ℕ) (ss : List Source) → ss ≡ owns first n → length ss ≡ n
owns_long first n ss is =
    ap (λ (xs : List Source). length xs) is ∙ length-map-range_with_len (λ (k : ℕ). Own k) first n

pub owns_itself : (first n : ℕ) (ss : List Source) → ss ≡ owns first n → ss ≡ owns first (length ss)
owns_itself first n ss is = is ∙ ap (owns first) (sym (owns_long first n ss is))

module _ (ds : List Def) where
  pub first_place : (table : List Ports) (w : Bytes) (ps : List ℕ) → ArePlaced ds table (w ∷ []) ps → IsPlaced ds table w (get_or ps 0 0)
  first_place table w [] h = absurd h
  first_place table w (p ∷ ps) h = h.0

  -- the vertex of the body of a repetition, which is alone
  pub one_copy : (make : Making) (w : Bytes) (wires : List (List Source)) (wire ins : List Source) (seat : Seat) (v : Vertex) (us : List Vertex)
      → wires ≡ owns 0 (length (ports_of ds w).ins) ∷ [] → wire ≡ get_or wires 0 wire → ins ≡ wire → seat ≡ inner_at 0 ins
      → view v ≡ make seat.part w seat.ins seat.sensor seat.actuator → us ≡ v ∷ []
      → map view us ≡ make (Numbered 0) w (owns 0 (length (ports_of ds w).ins)) 0 0 ∷ []
  one_copy make w wires wire ins seat v us planned here same sits made alone =
      ap (λ (vs : List Vertex). map view vs) alone
      ∙ ap (λ (u : tree.Vertex). u ∷ [])
      (made
      ∙ ap (λ (s : Seat). make s.part w s.ins s.sensor s.actuator) sits
      ∙ ap (λ (ss : List Source). make (Numbered 0) w ss 0 0) (same ∙ only_wire wires wire (owns 0 (length (ports_of ds w).ins)) planned here))

  module _ (make : Making) where
    pub next_reference : (ins : List Port) (all : List Reference) (edges : List Edge) (rs : List Reference) (i : ℕ) (r : Reference) (s a t b : ℕ)
        → i < length rs → r ≡ get_or rs i r → t ≡ s + sensor_count (definition ds r.def) → b ≡ a + actuator_count (definition ds r.def)
        → references_from ds make ins all edges s a (drop i rs)
        ≡ make (Named r.name) r.def (sources_to (ports_of ds) ins all edges (Some r.name) (ports_of ds r.def).ins) s a ∷ references_from ds make ins all edges t b (drop (i + 1) rs)
    next_reference ins all edges rs i r s a t b low is sensors actuators =
        let v = make (Named r.name) r.def (sources_to (ports_of ds) ins all edges (Some r.name) (ports_of ds r.def).ins) s a in
        ap (references_from ds make ins all edges s a) (from_here rs i r low is)
        ∙ ap (λ (k : ℕ). v ∷ references_from ds make ins all edges k (a + actuator_count (definition ds r.def)) (drop (i + 1) rs)) (sym sensors)
        ∙ ap (λ (k : ℕ). v ∷ references_from ds make ins all edges t k (drop (i + 1) rs)) (sym actuators)

    -- the vertex of the next reference, after those that are made
    pub one_reference : (ins : List Port) (all : List Reference) (edges : List Edge) (rs : List Reference) (i : ℕ) (r : Reference)
        (s a t b : ℕ) (us : List Vertex) (v : Vertex) (whole : List tree.Vertex)
        → i < length rs → r ≡ get_or rs i r → t ≡ s + sensor_count (definition ds r.def) → b ≡ a + actuator_count (definition ds r.def)
        → view v ≡ make (Named r.name) r.def (sources_to (ports_of ds) ins all edges (Some r.name) (ports_of ds r.def).ins) s a
        → map view us ++ references_from ds make ins all edges s a (drop i rs) ≡ whole
        → map view (us ++ v ∷ []) ++ references_from ds make ins all edges t b (drop (i + 1) rs) ≡ whole
    one_reference ins all edges rs i r s a t b us v whole low is sensors actuators made before =
        pushed view us v (make (Named r.name) r.def (sources_to (ports_of ds) ins all edges (Some r.name) (ports_of ds r.def).ins) s a)
        (references_from ds make ins all edges t b (drop (i + 1) rs)) made
        ∙ ap (λ (ws : List tree.Vertex). map view us ++ ws) (sym (next_reference ins all edges rs i r s a t b low is sensors actuators))
        ∙ before

    -- the vertex of the next case, after those that are made
    pub one_case : (ins : ℕ) (ws : List Bytes) (i : ℕ) (w : Bytes) (seat : Seat) (us : List Vertex) (v : Vertex) (whole : List tree.Vertex)
        → slice_get ws i ≡ Some w → seat ≡ inner_at i (owns 1 ins)
        → view v ≡ make seat.part w seat.ins seat.sensor seat.actuator
        → map view us ++ cases_from ds make ins i (drop i ws) ≡ whole
        → map view (us ++ v ∷ []) ++ cases_from ds make ins (i + 1) (drop (i + 1) ws) ≡ whole
    one_case ins ws i w seat us v whole at sits made before =
        pushed view us v (make (Numbered i) w (owns 1 ins) 0 0) (cases_from ds make ins (i + 1) (drop (i + 1) ws))
        (made ∙ ap (λ (s : Seat). make s.part w s.ins s.sensor s.actuator) sits)
        ∙ ap (λ (k : ℕ). map view us ++ (make (Numbered i) w (owns 1 ins) 0 0 ∷ cases_from ds make ins k (drop (i + 1) ws))) (sym (suc-eq-add-one i))
        ∙ ap (λ (xs : List Bytes). map view us ++ cases_from ds make ins i xs) (sym (name_here ws i w at))
        ∙ before

    -- all cases are made
    pub all_cases : (ins : ℕ) (ws : List Bytes) (i : ℕ) (us : List Vertex) (whole : List tree.Vertex)
        → length ws ≤ i → map view us ++ cases_from ds make ins i (drop i ws) ≡ whole → map view us ≡ whole
    all_cases ins ws i us whole past before =
        sym (append-nil (map view us))
        ∙ ap (λ (xs : List Bytes). map view us ++ cases_from ds make ins i xs) (sym (drop_all i ws past))
        ∙ before
