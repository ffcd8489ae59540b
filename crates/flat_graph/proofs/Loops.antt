-- The rounds do all operations exactly where none depends on itself.
use Rattle.std.proofs.Common.{◌≡◌, ℕ, zero, suc, ◌<◌, Bool, true, false, ◌&&◌, List, [], ◌∷◌, map, length, refl, sym, ap, subst, arith, zero-add, ◌∙◌, ◌⊎◌, inl, inr}
use Rattle.std.specs.Prelude.{slice_get, slice_index_or, Option, None, Some, Contains, option_map}
use Rattle.std.specs.List.{list_all, range_with_len}
use Rattle.std.proofs.lemmas.Bool.{false≢true}
use Rattle.std.proofs.lemmas.Option.{slice_get_within, slice_get-map}
use Rattle.std.proofs.lemmas.List.{length-map}
use Rattle.std.proofs.lemmas.List.FromFn.{get_or-range_with_len, length-range_with_len}
use Rattle.std.proofs.lemmas.List.Sums.{AllPass-from_list_all, list_all-from_AllPass}
use Rattle.level_meaning.specs.declared.part.Part.TheVariants.{Numbered}
use Rattle.level_meaning.specs.declared.source.Source.TheVariants.{Of}
use Rattle.level_meaning.specs.Level.{Node, with_node}
use Rattle.level_meaning.specs.Order.{sources_ready, is_ready, settled}
use Rattle.level_meaning.specs.Cycles.{IsAmong, IsGuarding, Asks, Reaches, asks, goes, AllInRange}
use Rattle.level_meaning.proofs.CyclesLemmas.{acyclic-from_reaching}
use Rattle.flat_graph.specs.declared.vertex.Vertex.{Vertex}
use Rattle.flat_graph.specs.Graph.{with_vertex}
use Rattle.flat_graph.specs.Order.{depends_on, is_done, is_acyclic}
use Rattle.flat_graph.specs.Cycles.{DependsOn, LeadsTo, at_once, through, RoundsFindCycles}

-- in range, each is done
done_of : (vertices : List Vertex) → is_acyclic vertices ≡ true → (v : ℕ) → v < length vertices → is_done vertices (length vertices) v ≡ true
done_of vertices h v l =
    let n = length vertices in
    let in_range : v < length (range_with_len 0 n) = omega (arith, length-range_with_len 0 n) in
    let place : slice_index_or (range_with_len 0 n) v 0 ≡ v = get_or-range_with_len 0 n v 0 l ∙ zero-add v in
    subst (λ (k : ℕ). is_done vertices n k ≡ true) place (AllPass-from_list_all (is_done vertices n) (range_with_len 0 n) h v 0 in_range)

of_done : (vertices : List Vertex) → ((v : ℕ) → v < length vertices → is_done vertices (length vertices) v ≡ true) → is_acyclic vertices ≡ true
of_done vertices h =
    let n = length vertices in
    list_all-from_AllPass (is_done vertices n) (range_with_len 0 n) (λ k d l.
    let lt : k < n = omega (arith, l, length-range_with_len 0 n) in
    let place : slice_index_or (range_with_len 0 n) k d ≡ k = get_or-range_with_len 0 n k d lt ∙ zero-add k in
    subst (λ (v : ℕ). is_done vertices n v ≡ true) (sym place) (h k lt))

module _ (vertices : List Vertex) where
  -- what a done operation depends on was done a round before
  done_before : (rounds v u : ℕ) → is_done vertices (suc rounds) v ≡ true → DependsOn vertices v u → is_done vertices rounds u ≡ true
  done_before rounds v u h d =
      let all : list_all (is_done vertices rounds) (depends_on d.at) ≡ true =
      subst (λ (o : Option Vertex). with_vertex o false (λ x. list_all (is_done vertices rounds) (depends_on x)) ≡ true) d.is h in
      let here = AllPass-from_list_all (is_done vertices rounds) (depends_on d.at) all d.among.0 u d.among.1 in
      subst (λ (k : ℕ). is_done vertices rounds k ≡ true) d.among.2 here

  further : {v u w : ℕ} → LeadsTo vertices v u → DependsOn vertices u w → LeadsTo vertices v w
  further (at_once d) e = through d (at_once e)
  further (through d rest) e = through d (further rest e)

  first_step : {v w : ℕ} → LeadsTo vertices v w → (u : ℕ) × DependsOn vertices v u × ((u ≡ w) ⊎ LeadsTo vertices u w)
  first_step (at_once {u = u} d) = (u, d, inl refl)
  first_step (through {u = u} d rest) = (u, d, inr rest)

  -- what is done leads not to itself
  none_done : (rounds v : ℕ) → is_done vertices rounds v ≡ true → LeadsTo vertices v v → ⊥
  none_done zero v h loop = false≢true h
  none_done (suc rounds) v h loop =
      let s = first_step loop in
      none_done rounds s.0 (done_before rounds v s.0 h s.1) (elim s.2 [ inl same ↦ subst (λ (k : ℕ). LeadsTo vertices k k) (sym same) loop | inr rest ↦ further rest s.1 ])

  starts_there : {v w : ℕ} → LeadsTo vertices v w → v < length vertices
  starts_there {v} loop = let d = (first_step loop).1 in slice_get_within vertices v d.at d.is

-- An operation as a node that asks for what the operation depends on.
abbrev dependence : Vertex → Node
dependence x = record {
  part = Numbered 0;
  ins = [];
  asked = map (λ u. Of u 0) (depends_on x);
  guards = [];
  outs = [];
  does = record { outputs = λ row st ins. []; next = λ row st ins. st; initial = λ q. [] };
}

all_ready : (done : ℕ → Bool) (f : ℕ → Bool) → ((u : ℕ) → done u ≡ f u) → (us : List ℕ) → sources_ready done (map (λ u. Of u 0) us) ≡ list_all f us
all_ready done f same [] = refl
all_ready done f same (u ∷ us) = λ i. same u i && all_ready done f same us i

module _ (vertices : List Vertex) where
  abbrev nodes : List Node
  nodes = map dependence vertices

  settled_is : (rounds v : ℕ) → settled (map dependence vertices) rounds v ≡ is_done vertices rounds v
  settled_is zero v = refl
  settled_is (suc rounds) v = ap (λ (o : Option Node). with_node o false (is_ready (settled (map dependence vertices) rounds)))
      (slice_get-map dependence vertices v) ∙ by (slice_get vertices v) (λ u. settled_is rounds u)
    where
      by : (o : Option Vertex) → ((u : ℕ) → settled (map dependence vertices) rounds u ≡ is_done vertices rounds u)
          → with_node (option_map dependence o) false (is_ready (settled (map dependence vertices) rounds)) ≡ with_vertex o false (λ x. list_all (is_done vertices rounds) (depends_on x))
      by None same = refl
      by (Some x) same = all_ready (settled (map dependence vertices) rounds) (is_done vertices rounds) same (depends_on x)

  among_is : (q : ℕ) (us : List ℕ) → IsAmong q (map (λ u. Of u 0) us) → Contains us q
  among_is q [] h = absurd h
  among_is q (u ∷ us) (inl here) = (0, omega arith, here)
  among_is q (u ∷ us) (inr later) = let r = among_is q us later in (suc r.0, omega (arith, r.1), r.2)

  depends_of : (v u : ℕ) → Asks (map dependence vertices) v u → DependsOn vertices v u
  depends_of v u a = by (slice_get vertices v) refl (sym (slice_get-map dependence vertices v) ∙ a.is)
    where
      by : (o : Option Vertex) → slice_get vertices v ≡ o → option_map dependence o ≡ Some a.at → DependsOn vertices v u
      by None e h = absurd (cc)
      by (Some x) e h =
          let same : dependence x ≡ a.at = cc in
          let by_asked : IsGuarding u (dependence x).guards ⊎ IsAmong u (dependence x).asked =
          subst (λ (n : Node). IsGuarding u n.guards ⊎ IsAmong u n.asked) (sym same) a.by in
          elim by_asked [
            | inl guard ↦ absurd guard
            | inr among ↦ record { at = x; is = e; among = among_is u (depends_on x) among }
          ]

  leads_of : {v u : ℕ} → Reaches (map dependence vertices) v u → LeadsTo vertices v u
  leads_of (asks {r = v} {q = u} a) = at_once (depends_of v u a)
  leads_of (goes {r = v} {q = u} a rest) = through (depends_of v u a) (leads_of rest)

pub rounds_find_cycles : RoundsFindCycles
rounds_find_cycles vertices there = (
  λ h v loop. none_done vertices (length vertices) v (done_of vertices h v (starts_there vertices loop)) loop,
  λ none. of_done vertices (λ v l.
      let long = length-map vertices dependence in
      let ranged : AllInRange (map dependence vertices) = λ r q a. let t = there r q (depends_of vertices r q a) in omega (arith, t, long) in
      let settles = acyclic-from_reaching (map dependence vertices) ranged (λ r loop. none r (leads_of vertices loop)) v (omega (arith, l, long)) in
      sym (settled_is vertices (length vertices) v) ∙ subst (λ (n : ℕ). settled (map dependence vertices) n v ≡ true) long settles),
)
