-- A graph whose checks have no fault has no cycle, and its references are told apart.
use Rattle.std.proofs.Common.{
  ◌≡◌,
  ℕ,
  zero,
  suc,
  ◌+◌,
  ◌<◌,
  Bool,
  true,
  false,
  not,
  cond,
  ◌&&◌,
  List,
  [],
  ◌∷◌,
  map,
  length,
  Option,
  Some,
  None,
  ◌⊎◌,
  inl,
  inr,
  refl,
  ap,
  sym,
  subst,
  arith,
  if◌then◌else◌,
}
use Rattle.std.specs.Prelude.{◌==◌, slice_get}
use Rattle.std.specs.Str.{bytes_eq}
use Rattle.std.specs.List.{list_any}
use Rattle.std.proofs.lemmas.Slice.Eq.{bytes_eq-Decides}
use Rattle.level_meaning.specs.declared.source.Source.{Source}
use Rattle.level_meaning.specs.declared.part.Part.{Part}
use Rattle.level_meaning.specs.declared.part.Part.TheVariants.{Named}
use Rattle.level_meaning.specs.Level.{Node}
use Rattle.level_meaning.specs.Order.{IsAcyclic}
use Rattle.level_meaning.specs.Cycles.{IsOf, IsAmong, IsGuarding, Asks, Reaches, asks, goes, ReachesNoneItself, AllInRange}
use Rattle.level_meaning.specs.Parts.{IsApart, HasDistinctParts}
use Rattle.level_meaning.proofs.CyclesLemmas.{acyclic-from_reaching}
use Rattle.syn_base.specs.Bytes.{Bytes}
use Rattle.algo_rules.specs.declared.Port.{Port}
use Rattle.algo_rules.specs.Tree.{Vertices}
use Rattle.algo_rules.specs.View.{vertices_of}
use Rattle.algo_rules.specs.Meaning.{node, nodes, asked_by}
use Rattle.algo_rules.specs.Well.{IsNewName, AreDistinctNames}
use Rattle.algo_rules.specs.declared.Def.{Def}
use Rattle.algo_rules.specs.declared.Body.{Body}
use Rattle.algo_rules.specs.declared.Body.TheVariants.{Sensor, Actuator, Constant, Delay, Function, Graph, Switch, Repeat}
use Rattle.algo_rules.specs.declared.Reference.{Reference}
use Rattle.algo_rules.specs.declared.Edge.{Edge}
use Rattle.algo_rules.specs.declared.End.{End}
use Rattle.algo_rules.specs.ReferenceLinks.{Links, from, leads_within, reaches_itself}
use Rattle.algo_rules.proofs.Enough.{enough}
use Rattle.algo_rules.specs.Links.{definition}
use Rattle.algo_rules.specs.Ports.{ports_of}
use Rattle.algo_rules.specs.Graphs.{same_owner, same_end, port_len, ports_at, givers, is_delay, place, source_of, leads_to, sources, dependences, names_of, cycle_by, cycle_fault}
use Rattle.algo_rules.specs.declared.ports.Ports.{Ports}
use Rattle.algo_rules.specs.Resolved.{Making, vertex_within, vertex_by, references_from, source_from, source_to, sources_to, kind_by, sensor_count, actuator_count}
use Rattle.algo_laws.proofs.Firsts.{Each}
use Rattle.algo_laws.proofs.Standing.{both}
use Rattle.algo_laws.proofs.Anywhere.{neither, not_both, nor_second, or_left, or_right, any_left, any_right, is_at, any_at}
use Rattle.algo_laws.proofs.Bodies.{same_number}
use Rattle.algo_laws.proofs.Ranks.{map_at}
use Rattle.algo_laws.proofs.Joined.{owner_is, Joins}

some_same : {A : Type 0} (x y : A) → Some x ≡ Some y → x ≡ y
some_same x y h = cc

-- what is asked for: nothing by a delay, else all sources
abbrev AskedIs : Option Def → List Source → List Source → Type 0
AskedIs o ins asked = (asked ≡ []) ⊎ ((is_delay o ≡ false) × (asked ≡ ins))

module _ (ds : List Def) (make : Making) where
  asked_body : (own : Ports) (s a : ℕ) (ins : List Source) (b : Body) (d : Def) → d.body ≡ b
      → AskedIs (Some (record { name = d.name; line = d.line; body = b })) ins (asked_by (kind_by ds make own s a b) ins)
  asked_body own s a ins (Sensor len) d e = inr (refl, refl)
  asked_body own s a ins (Actuator len) d e = inr (refl, refl)
  asked_body own s a ins (Constant values) d e = inr (refl, refl)
  asked_body own s a ins (Delay depth values) d e = inl refl
  asked_body own s a ins (Function is os) d e = inr (refl, refl)
  asked_body own s a ins (Graph is os references edges) d e = inr (refl, refl)
  asked_body own s a ins (Switch on is os cases otherwise last) d e = inr (refl, refl)
  asked_body own s a ins (Repeat copies def lines) d e = inr (refl, refl)

  -- the node of a vertex
  record IsNode (o : Option Def) (part : Part) (ins : List Source) (c : Node) : Type 0 where
    part_is : c.part ≡ part
    unguarded : c.guards ≡ []
    asked_is : AskedIs o ins c.asked

  node_by : (part : Part) (w : Bytes) (ins : List Source) (s a : ℕ) (o : Option Def) → IsNode o part ins (node (vertex_by ds make part w ins s a o))
  node_by part w ins s a None = record { part_is = refl; unguarded = refl; asked_is = inr (refl, refl) }
  node_by part w ins s a (Some d) = record { part_is = refl; unguarded = refl; asked_is = asked_body (ports_of ds w) s a ins d.body d refl }

module _ (ds : List Def) (n : ℕ) (own : Ports) (all : List Reference) (edges : List Edge) where
  abbrev fed : Reference → List Source
  fed r = sources_to (ports_of ds) own.ins all edges (Some r.name) (ports_of ds r.def).ins

  abbrev made : ℕ → ℕ → List Reference → Vertices
  made s a rs = vertices_of (references_from ds (vertex_within ds (suc n)) own.ins all edges s a rs)

  abbrev IsNodeOf : Reference → Node → Type 0
  IsNodeOf r c = IsNode ds (vertex_within ds n) (definition ds r.def) (Named r.name) (fed r) c

  node_at : (s a : ℕ) (rs : List Reference) (k : ℕ) (c : Node) → slice_get (nodes (made s a rs)) k ≡ Some c → (r : Reference) × ((slice_get rs k ≡ Some r) × IsNodeOf r c)
  node_at s a [] k c h = cc
  node_at s a (r ∷ rs) zero c h =
      let same = some_same (node (vertex_within ds (suc n) (Named r.name) r.def (fed r) s a)) c h in
      (r, (refl, subst (λ (x : Node). IsNodeOf r x) same (node_by ds (vertex_within ds n) (Named r.name) r.def (fed r) s a (definition ds r.def))))
  node_at s a (r ∷ rs) (suc k) c h = node_at (s + sensor_count (definition ds r.def)) (a + actuator_count (definition ds r.def)) rs k c h

  as_many : (s a : ℕ) (rs : List Reference) → length (nodes (made s a rs)) ≡ length rs
  as_many s a [] = refl
  as_many s a (r ∷ rs) = ap suc (as_many (s + sensor_count (definition ds r.def)) (a + actuator_count (definition ds r.def)) rs)

  apart : (w : Bytes) (s a : ℕ) (rs : List Reference) → IsNewName w (map (λ r. r.name) rs) → IsApart (Named w) (nodes (made s a rs))
  apart w s a [] h = tt
  apart w s a (r ∷ rs) h =
      let is = node_by ds (vertex_within ds n) (Named r.name) r.def (fed r) s a (definition ds r.def) in
      (rw is.part_is h.0, apart w (s + sensor_count (definition ds r.def)) (a + actuator_count (definition ds r.def)) rs h.1)

  pub distinct_parts : (s a : ℕ) (rs : List Reference) → AreDistinctNames (map (λ r. r.name) rs) → HasDistinctParts (nodes (made s a rs))
  distinct_parts s a [] h = tt
  distinct_parts s a (r ∷ rs) h =
      let is = node_by ds (vertex_within ds n) (Named r.name) r.def (fed r) s a (definition ds r.def) in
      let s' = s + sensor_count (definition ds r.def) in
      let a' = a + actuator_count (definition ds r.def) in
      (subst (λ (p : Part). IsApart p (nodes (made s' a' rs))) (sym is.part_is) (apart r.name s' a' rs h.0), distinct_parts s' a' rs h.1)

  abbrev level : List Node
  level = nodes (made 0 0 all)

  -- the reference at a place asks for what its edges bring
  abbrev IsAsking : ℕ → Type 0
  IsAsking k = (r : Reference) × ((slice_get all k ≡ Some r) × (is_delay (definition ds r.def) ≡ false))

  abbrev AsksFor : ℕ → ℕ → Type 0
  AsksFor k q = (r : Reference) × (((slice_get all k ≡ Some r) × (is_delay (definition ds r.def) ≡ false)) × IsAmong q (fed r))

  asks_by : (q : ℕ) (c : Node) (r : Reference) → IsNodeOf r c → IsGuarding q c.guards ⊎ IsAmong q c.asked → (is_delay (definition ds r.def) ≡ false) × IsAmong q (fed r)
  asks_by q c r is (inl g) = absurd (subst (IsGuarding q) is.unguarded g)
  asks_by q c r is (inr h) = by is.asked_is
    where
      by : AskedIs (definition ds r.def) (fed r) c.asked → (is_delay (definition ds r.def) ≡ false) × IsAmong q (fed r)
      by (inl none) = absurd (subst (IsAmong q) none h)
      by (inr some) = (some.0, subst (IsAmong q) some.1 h)

  asks_for : (k q : ℕ) → Asks level k q → AsksFor k q
  asks_for k q h =
      let at = node_at 0 0 all k h.at h.is in
      let is = asks_by q h.at at.0 at.1.1 h.by in
      (at.0, ((at.1.0, is.0), is.1))

  first_asks : (k q : ℕ) → Reaches level k q → IsAsking k
  first_asks k q (asks h) = let is = asks_for k q h in (is.0, is.1.0)
  first_asks k q (goes {q = m} h rest) = let is = asks_for k m h in (is.0, is.1.0)

  -- where a source leads, an edge comes from there
  there : (rs : List Reference) (s w : Bytes) (m : ℕ) → port_len (ports_at (ports_of ds) rs s).outs w ≡ Some m → place rs s < length rs
  there [] s w m h = cc
  there (r ∷ rs) s w m h = by (λ k. there rs s w m k) (bytes_eq s r.name) h
    where
      by : (port_len (ports_at (ports_of ds) rs s).outs w ≡ Some m → place rs s < length rs) → (b : Bool) → port_len (if b then ports_of ds r.def else ports_at (ports_of ds) rs s).outs w ≡ Some m
          → cond (not b) (1 + place rs s) 0 < length (r ∷ rs)
      by rest true k = omega arith
      by rest false k = omega (arith, rest k)

  from_below : (q : ℕ) (o : Option Bytes) (p : Bytes) (m : ℕ) → port_len (givers (ports_of ds) own all o) p ≡ Some m → IsOf q (source_from (ports_of ds) own.ins all o p) → q < length all
  from_below q None p m h k = absurd k
  from_below q (Some s) p m h k = subst (λ (j : ℕ). j < length all) k (there all s p m h)

  source_below : (q : ℕ) (es : List Edge) → Each (Joins (ports_of ds) own all) es → (e : End) → IsOf q (source_to (ports_of ds) own.ins all es e) → q < length all
  source_below q [] h e k = absurd k
  source_below q (f ∷ fs) h e k = by (λ j. source_below q fs h.1 e j) (same_end f.to e) k
    where
      by : (IsOf q (source_to (ports_of ds) own.ins all fs e) → q < length all) → (b : Bool)
          → IsOf q (if b then source_from (ports_of ds) own.ins all f.from.owner f.from.port else source_to (ports_of ds) own.ins all fs e) → q < length all
      by rest true j = from_below q f.from.owner f.from.port h.0.0 h.0.1.0 j
      by rest false j = rest j

  among_below : (q : ℕ) → Each (Joins (ports_of ds) own all) edges → (w : Bytes) (ps : List Port) → IsAmong q (sources_to (ports_of ds) own.ins all edges (Some w) ps) → q < length all
  among_below q h w [] k = absurd k
  among_below q h w (p ∷ ps) (inl k) = source_below q edges h (record { owner = Some w; port = p.name }) k
  among_below q h w (p ∷ ps) (inr k) = among_below q h w ps k

  in_range : Each (Joins (ports_of ds) own all) edges → AllInRange level
  in_range h k q j =
      let is = asks_for k q j in
      subst (λ (m : ℕ). q < m) (sym (as_many 0 0 all)) (among_below q h is.0.name (ports_of ds is.0.def).ins is.1.1)

  -- dependences
  abbrev delayed : Bytes → Reference → Bool
  delayed s r = bytes_eq s r.name && is_delay (definition ds r.def)

  new_undelayed : (s : Bytes) (rs : List Reference) → IsNewName s (map (λ r. r.name) rs) → list_any (delayed s) rs ≡ false
  new_undelayed s [] h = refl
  new_undelayed s (r ∷ rs) h = neither (delayed s r) (list_any (delayed s) rs) (not_both (bytes_eq s r.name) (is_delay (definition ds r.def)) h.0) (new_undelayed s rs h.1)

  undelayed : (s : Bytes) (r : Reference) (rs : List Reference) → AreDistinctNames (map (λ r. r.name) rs) → slice_get rs (place rs s)
      ≡ Some r → is_delay (definition ds r.def) ≡ false → list_any (delayed s) rs ≡ false
  undelayed s r [] h at k = refl
  undelayed s r (x ∷ rs) h at k = by (λ j. undelayed s r rs h.1 j k) (bytes_eq s x.name) refl at
    where
      by : (slice_get rs (place rs s) ≡ Some r → list_any (delayed s) rs ≡ false) → (b : Bool) → bytes_eq s x.name ≡ b → slice_get (x ∷ rs) (cond (not b) (1 + place rs s) 0) ≡ Some r
          → list_any (delayed s) (x ∷ rs) ≡ false
      by rest true e j =
          let same : r ≡ x = cc in
          let name : s ≡ x.name = (bytes_eq-Decides s x.name).0 e in
          neither (delayed s x) (list_any (delayed s) rs) (nor_second (bytes_eq s x.name) (is_delay (definition ds x.def)) (subst (λ (y : Reference). is_delay (definition ds y.def) ≡ false) same k))
          (new_undelayed s rs (subst (λ (v : Bytes). IsNewName v (map (λ r. r.name) rs)) (sym name) h.0))
      by rest false e j =
          let next : 1 + place rs s ≡ suc (place rs s) = omega arith in
          neither (delayed s x) (list_any (delayed s) rs) (not_both (bytes_eq s x.name) (is_delay (definition ds x.def)) e) (rest (subst (λ (p : ℕ). slice_get (x ∷ rs) p ≡ Some r) next j))

  one_source : (q : ℕ) (r : Reference) → slice_get all q ≡ Some r → is_delay (definition ds r.def) ≡ false → AreDistinctNames (map (λ r. r.name) all)
      → (o : Option Bytes) (p : Bytes) → IsOf q (source_from (ports_of ds) own.ins all o p) → list_any (is_at q) (source_of ds all o) ≡ true
  one_source q r at k h None p is = absurd is
  one_source q r at k h (Some s) p is =
      by (list_any (delayed s) all) (undelayed s r all h (subst (λ (j : ℕ). slice_get all j ≡ Some r) (sym is) at) k)
    where
      by : (b : Bool) → b ≡ false → list_any (is_at q) (if b then [] else place all s ∷ []) ≡ true
      by true e = cc
      by false e = or_left (place all s == q) false (same_number (place all s) q is)

  brought : (q : ℕ) (r : Reference) → slice_get all q ≡ Some r → is_delay (definition ds r.def) ≡ false → AreDistinctNames (map (λ r. r.name) all)
      → (es : List Edge) (w p : Bytes) → IsOf q (source_to (ports_of ds) own.ins all es (record { owner = Some w; port = p })) → list_any (is_at q) (sources ds all es w) ≡ true
  brought q r at k h [] w p is = absurd is
  brought q r at k h (f ∷ fs) w p is = by (same_end f.to (record { owner = Some w; port = p })) refl is (λ j. brought q r at k h fs w p j)
    where
      here : (o : Option Bytes) → o ≡ Some w → (if leads_to ds all w o then source_of ds all f.from.owner else []) ≡ source_of ds all f.from.owner
      here None e = cc
      here (Some v) e =
          let same : w ≡ v = cc in
          let test : bytes_eq w v ≡ true = (bytes_eq-Decides w v).1 same in rw test refl

      by : (b : Bool) → same_end f.to (record { owner = Some w; port = p }) ≡ b
          → IsOf q (if b then source_from (ports_of ds) own.ins all f.from.owner f.from.port else source_to (ports_of ds) own.ins all fs (record { owner = Some w; port = p }))
          → (IsOf q (source_to (ports_of ds) own.ins all fs (record { owner = Some w; port = p })) → list_any (is_at q) (sources ds all fs w) ≡ true)
          → list_any (is_at q) (sources ds all (f ∷ fs) w) ≡ true
      by true e j rest =
          let two = both (same_owner f.to.owner (Some w)) (bytes_eq f.to.port p) e in
          let is_here = here f.to.owner (owner_is f.to.owner (Some w) two.0) in
          any_left (is_at q) (if leads_to ds all w f.to.owner then source_of ds all f.from.owner else []) (sources ds all fs w)
          (subst (λ (xs : List ℕ). list_any (is_at q) xs ≡ true) (sym is_here) (one_source q r at k h f.from.owner f.from.port j))
      by false e j rest = any_right (is_at q) (if leads_to ds all w f.to.owner then source_of ds all f.from.owner else []) (sources ds all fs w) (rest j)

  among_brought : (q : ℕ) (r : Reference) → slice_get all q ≡ Some r → is_delay (definition ds r.def) ≡ false → AreDistinctNames (map (λ r. r.name) all)
      → (w : Bytes) (ps : List Port) → IsAmong q (sources_to (ports_of ds) own.ins all edges (Some w) ps) → list_any (is_at q) (sources ds all edges w) ≡ true
  among_brought q r at k h w [] is = absurd is
  among_brought q r at k h w (p ∷ ps) (inl is) = brought q r at k h edges w p.name is
  among_brought q r at k h w (p ∷ ps) (inr is) = among_brought q r at k h w ps is

  abbrev links : Links
  links = dependences ds all edges

  depends : AreDistinctNames (map (λ r. r.name) all) → (k q : ℕ) → Asks level k q → IsAsking q → list_any (is_at q) (from links k) ≡ true
  depends h k q j asking =
      let is = asks_for k q j in
      let at : from links k ≡ sources ds all edges is.0.name = map_at (λ r. sources ds all edges r.name) all k is.0 [] is.1.0.0 in
      subst (λ (xs : List ℕ). list_any (is_at q) xs ≡ true) (sym at) (among_brought q asking.0 asking.1.0 asking.1.1 h is.0.name (ports_of ds is.0.def).ins is.1.1)

  led : AreDistinctNames (map (λ r. r.name) all) → (k q : ℕ) → Reaches level k q → IsAsking q → (m : ℕ) × (leads_within links m k q ≡ true)
  led h k q (asks j) asking = (zero, depends h k q j asking)
  led h k q (goes {q = i} j rest) asking =
      let further = led h i q rest asking in (
        suc further.0,
        or_right (leads_within links further.0 k q) (list_any (λ c. leads_within links further.0 c q) (from links k))
            (any_at i (λ c. leads_within links further.0 c q) (from links k) further.1 (depends h k i j (first_asks i q rest))),
      )

  names_none : (i : ℕ) (rs : List Reference) (k : ℕ) (r : Reference) → names_of ds all links i rs ≡ [] → slice_get rs k ≡ Some r → reaches_itself links (i + k) ≡ false
  names_none i [] k r h at = cc
  names_none i (x ∷ rs) k r h at = by (reaches_itself links i) refl h k at (λ j m. names_none (suc i) rs j r m)
    where
      by : (b : Bool) → reaches_itself links i ≡ b → (if b then x.name ∷ names_of ds all links (suc i) rs else names_of ds all links (suc i) rs) ≡ []
          → (k : ℕ) → slice_get (x ∷ rs) k ≡ Some r
          → ((j : ℕ) → names_of ds all links (suc i) rs ≡ [] → slice_get rs j ≡ Some r → reaches_itself links (suc i + j) ≡ false)
          → reaches_itself links (i + k) ≡ false
      by true e m k at rest = cc
      by false e m zero at rest = let same : i ≡ i + zero = omega arith in subst (λ (j : ℕ). reaches_itself links j ≡ false) same e
      by false e m (suc k) at rest = let same : suc i + k ≡ i + suc k = omega arith in subst (λ (j : ℕ). reaches_itself links j ≡ false) same (rest k m at)

  none_by : (line : ℕ) (names : List Bytes) → cycle_by ds all line names ≡ None → names ≡ []
  none_by line [] h = refl
  none_by line (x ∷ xs) h = cc

  none_itself : (line : ℕ) → AreDistinctNames (map (λ r. r.name) all) → cycle_fault ds all line edges ≡ None → ReachesNoneItself level
  none_itself line h none k j =
      let asking = first_asks k k j in
      let way = led h k k j asking in
      let itself : reaches_itself links k ≡ true = enough links k way.0 k way.1 in
      let not_itself = names_none 0 all k asking.0 (none_by line (names_of ds all links 0 all) none) asking.1.0 in
      let same : 0 + k ≡ k = omega arith in
      let no : reaches_itself links k ≡ false = subst (λ (j : ℕ). reaches_itself links j ≡ false) same not_itself in
      cc

  pub acyclic : (line : ℕ) → Each (Joins (ports_of ds) own all) edges → AreDistinctNames (map (λ r. r.name) all) → cycle_fault ds all line edges ≡ None → IsAcyclic level
  acyclic line joined h none = acyclic-from_reaching level (in_range joined) (none_itself line h none)
