-- More fuel changes no value of a node that is settled.
use Rattle.std.proofs.Common.{◌≡◌, ℕ, zero, suc, ◌<◌, ◌≤◌, List, [], ◌∷◌, length, map, Bool, true, false, ◌&&◌, slice_get, Option, Some, None, refl, sym, ap, ◌∙◌, arith}
use Rattle.std.proofs.lemmas.Bool.{false≢true}
use Rattle.level_meaning.specs.declared.source.Source.{Source}
use Rattle.level_meaning.specs.declared.source.Source.TheVariants.{Own, Of}
use Rattle.level_meaning.specs.declared.source.Guard.{Guard}
use Rattle.level_meaning.specs.Level.{State, Node, source_value, all_hold, node_outputs, with_node, out, level_value, below}
use Rattle.level_meaning.specs.Order.{source_ready, sources_ready, guards_ready, is_ready, settled, IsAcyclic, FuelIsEnough}
use Rattle.syn_base.specs.Vectors.{Vector, Values, vector_at}

-- both looks agree at each source that is ready
abbrev pub Agree : (ℕ → Bool) → (Source → Vector) → (Source → Vector) → Type 0
Agree done f g = (s : Source) → source_ready done s ≡ true → f s ≡ g s

pub and-left : (a b : Bool) → (a && b) ≡ true → a ≡ true
and-left true b h = refl
and-left false b h = h

pub and-right : (a b : Bool) → (a && b) ≡ true → b ≡ true
and-right true b h = h
and-right false b h = absurd (false≢true h)

pub same_sources : (done : ℕ → Bool) (f g : Source → Vector) → Agree done f g → (ss : List Source) → sources_ready done ss ≡ true → map f ss ≡ map g ss
same_sources done f g same [] h = refl
same_sources done f g same (s ∷ ss) h =
    let here = same s (and-left (source_ready done s) (sources_ready done ss) h) in
    let later = same_sources done f g same ss (and-right (source_ready done s) (sources_ready done ss) h) in
    rw (here, later)

pub same_guards : (done : ℕ → Bool) (f g : Source → Vector) → Agree done f g → (gs : List Guard) → guards_ready done gs ≡ true → all_hold f gs ≡ all_hold g gs
same_guards done f g same [] h = refl
same_guards done f g same (c ∷ gs) h =
    let here = same c.source (and-left (source_ready done c.source) (guards_ready done gs) h) in
    let later = same_guards done f g same gs (and-right (source_ready done c.source) (guards_ready done gs) h) in
    rw (here, later)

pub same_outputs : (done : ℕ → Bool) (f g : Source → Vector) → Agree done f g → (row : Values) (st : State) (c : Node) → is_ready done c ≡ true → node_outputs row st f c ≡ node_outputs row st g c
same_outputs done f g same row st c h =
    let first = guards_ready done c.guards in
    let second = sources_ready done c.asked in
    let guards = same_guards done f g same c.guards (and-left first second h) in
    let sources = same_sources done f g same c.asked (and-right first second h) in
    rw (guards, sources)

module _ (cs : List Node) (row : Values) (st : State) (ins : Values) where
  agree_by : (done : ℕ → Bool) (f g : ℕ → Values) → ((r : ℕ) → done r ≡ true → f r ≡ g r) → Agree done (source_value ins f) (source_value ins g)
  agree_by done f g same (Own k) h = refl
  agree_by done f g same (Of r p) h = ap (λ vs. vector_at vs p) (same r h)

  at_node : (o : Option Node) (done : ℕ → Bool) (f g : ℕ → Values) → ((r : ℕ) → done r ≡ true → f r ≡ g r) → with_node o false (is_ready done) ≡ true
      → with_node o [] (λ c. node_outputs row (below c.part st) (source_value ins f) c) ≡ with_node o [] (λ c. node_outputs row (below c.part st) (source_value ins g) c)
  at_node None done f g same h = refl
  at_node (Some c) done f g same h = same_outputs done _ _ (agree_by done f g same) row (below c.part st) c h

  pub more_fuel : (k fuel r : ℕ) → settled cs k r ≡ true → k ≤ fuel → out cs row st ins fuel r ≡ out cs row st ins k r
  more_fuel zero fuel r h le = absurd (false≢true h)
  more_fuel (suc k) zero r h le = absurd (omega arith)
  more_fuel (suc k) (suc fuel) r h le =
      let below : k ≤ fuel = omega arith in
      at_node (slice_get cs r) (settled cs k) _ _ (λ q e. more_fuel k fuel q e below) h

  -- a table that meets the equation of each node is the level's
  pub unique : (expected : ℕ → Values) → ((r : ℕ) → with_node (slice_get cs r) [] (λ c. node_outputs row (below c.part st) (source_value ins expected) c) ≡ expected r)
      → (k fuel r : ℕ) → settled cs k r ≡ true → k ≤ fuel → out cs row st ins fuel r ≡ expected r
  unique expected meets zero fuel r h le = absurd (false≢true h)
  unique expected meets (suc k) zero r h le = absurd (omega arith)
  unique expected meets (suc k) (suc fuel) r h le =
      let below : k ≤ fuel = omega arith in
      at_node (slice_get cs r) (settled cs k) _ _ (λ q e. unique expected meets k fuel q e below) h ∙ meets r

pub fuel_is_enough : (cs : List Node) → IsAcyclic cs → FuelIsEnough cs
fuel_is_enough cs h row st ins r more lt le = more_fuel cs row st ins (length cs) more r (h r lt) (omega arith)

pub in_range : (cs : List Node) (r : ℕ) (c : Node) → slice_get cs r ≡ Some c → r < length cs
in_range [] r c h = cc
in_range (d ∷ cs) zero c h = omega arith
in_range (d ∷ cs) (suc r) c h = let k = in_range cs r c h in omega (arith, k)

-- with as much fuel as there are nodes, a value is that of its node at such values
pub out_is : (cs : List Node) → IsAcyclic cs → (row : Values) (st : State) (ins : Values) (r : ℕ) (c : Node) → slice_get cs r ≡ Some c
    → out cs row st ins (length cs) r ≡ node_outputs row (below c.part st) (level_value cs row st ins) c
out_is cs h row st ins r c is =
    let lt : r < length cs = in_range cs r c is in
    sym (more_fuel cs row st ins (length cs) (suc (length cs)) r (h r lt) (omega arith)) ∙ rw is
