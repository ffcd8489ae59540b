-- In the tree of accepted definitions names stand where names are asked for: in its parts, as its definitions, and as the ports of
-- which flattening makes vertices.
use Rattle.std.proofs.Common.{◌≡◌, ℕ, zero, suc, ◌+◌, ◌≤◌, Bool, true, false, List, [], ◌∷◌, ◌++◌, map, length, Option, Some, None, refl, sym, subst, arith, if◌then◌else◌}
use Rattle.std.specs.List.{flat_map}
use Rattle.std.specs.Str.{bytes_eq}
use Rattle.level_meaning.specs.declared.source.Source.{Source}
use Rattle.level_meaning.specs.declared.part.Part.{Part}
use Rattle.level_meaning.specs.declared.part.Part.TheVariants.{Named, Numbered}
use Rattle.level_meaning.specs.declared.frontier.Feed.{Feed}
use Rattle.level_meaning.specs.declared.frontier.Feed.TheVariants as feed
use Rattle.level_meaning.specs.declared.frontier.Give.{Give}
use Rattle.syn_base.specs.Bytes.{Bytes}
use Rattle.algo_rules.specs.declared.Port.{Port}
use Rattle.algo_rules.specs.Tree as tree
use Rattle.algo_rules.specs.View.{vertices_of}
use Rattle.algo_rules.specs.Well.{fork_names, join_names}
use Rattle.algo_rules.proofs.Texts.{name_word}
use Rattle.algo_rules.specs.Named.{IsPartNamed, AreNames, IsKindNamed, IsNamed, AllNamed, HasNames}
use Rattle.algo_rules.specs.declared.Def.{Def}
use Rattle.algo_rules.specs.declared.Body.{Body}
use Rattle.algo_rules.specs.declared.Body.TheVariants.{Sensor, Actuator, Constant, Delay, Function, Graph, Switch, Repeat}
use Rattle.algo_rules.specs.declared.Reference.{Reference}
use Rattle.algo_rules.specs.declared.Edge.{Edge}
use Rattle.algo_rules.specs.declared.Frontier.{Frontier}
use Rattle.algo_rules.specs.declared.Frontier.TheVariants.{Fork, Diffuse, Iterate, Join}
use Rattle.algo_rules.specs.declared.FrontierLine.{FrontierLine}
use Rattle.algo_rules.specs.Outer.{outer_names, all_outer}
use Rattle.algo_rules.specs.Links.{mentions_in, definition}
use Rattle.algo_rules.specs.Ports.{ports_of, len_of, number_of}
use Rattle.algo_rules.specs.declared.ports.Ports.{Ports}
use Rattle.algo_rules.specs.Resolved.{refusal, tree_of, feed_by, first_feed, feed_of, give_by, vertex_within, vertex_by, references_from, cases_from, sources_to, owns, kind_by, inner_by, sensor_count, actuator_count}
use Rattle.algo_rules.specs.WellRead.{IsName, IsWellRead, AreWellRead}
use Rattle.algo_laws.specs.Depths.{rank}
use Rattle.algo_laws.proofs.Firsts.{Each, each_all, each_append}
use Rattle.algo_laws.proofs.Standing.{definition_by, named}
use Rattle.algo_laws.proofs.Ends.{reference_line}
use Rattle.algo_laws.proofs.Refused.{has_none, main_is_graph}
use Rattle.algo_laws.proofs.Accepted.{IsLower, Accepted, accepted}
use Rattle.algo_laws.proofs.Typing.{lower_cases, lower_lines}
use Rattle.algo_laws.proofs.Trees.{main, main_by}

-- the name of a definition that is there is a name
known_name : (ds : List Def) → AreWellRead ds → (w : Bytes) (d : Def) → definition ds w ≡ Some d → IsName w
known_name ds read w d e = subst IsName (sym (named ds w d e)) (definition_by (λ x. IsName x.name) ds w d (each_all (λ x. IsName x.name) ds read.named) e)

port_names_named : (ps : List Port) → Each (λ p. IsName p.name) ps → AreNames (map (λ p. p.name) ps)
port_names_named [] h = tt
port_names_named (p ∷ ps) h = (name_word p.name h.0, port_names_named ps h.1)

-- a fork line of this name, if it is a fork line
abbrev IsFeedNamed : Feed → Type 0
IsFeedNamed (feed.Fork name k len) = IsName name
IsFeedNamed (feed.Diffuse k) = Unit {0}
IsFeedNamed (feed.Iterate k y) = Unit {0}

put_front : (f : Feed) (fs : List Feed) → IsFeedNamed f → AreNames (fork_names fs) → AreNames (fork_names (f ∷ fs))
put_front (feed.Fork name k len) fs h names = (name_word name h, names)
put_front (feed.Diffuse k) fs h names = names
put_front (feed.Iterate k y) fs h names = names

-- the lines of a repetition
module _ (inner own : Ports) where
  abbrev fed : List FrontierLine → Bytes → Feed
  fed ls w = feed_of inner own ls w

  abbrev gives : List FrontierLine → List Give
  gives ls = flat_map (λ l. give_by inner own l.frontier) ls

  feed_named : (ls : List FrontierLine) → Each IsName (all_outer ls) → (w : Bytes) → IsFeedNamed (fed ls w)
  feed_named [] h w = tt
  feed_named (l ∷ ls) h w = let two = each_append IsName (outer_names l.frontier) (all_outer ls) h in by l.frontier two.0 (feed_named ls two.1 w)
    where
      one : (b : Bool) (f : Feed) → IsFeedNamed f → IsFeedNamed (fed ls w) → IsFeedNamed (first_feed inner own (if b then Some f else None) (fed ls w))
      one true f k rest = k
      one false f k rest = rest

      by : (f : Frontier) → Each IsName (outer_names f) → IsFeedNamed (fed ls w) → IsFeedNamed (first_feed inner own (feed_by inner own w f) (fed ls w))
      by (Fork p x) k rest = one (bytes_eq w x) (feed.Fork p (number_of own.ins p) (len_of inner.ins x)) k.0 rest
      by (Diffuse p x) k rest = one (bytes_eq w x) (feed.Diffuse (number_of own.ins p)) tt rest
      by (Iterate p x y q) k rest = one (bytes_eq w x) (feed.Iterate (number_of own.ins p) (number_of inner.outs y)) tt rest
      by (Join y q) k rest = rest

  forks_named : (ls : List FrontierLine) → Each IsName (all_outer ls) → (ps : List Port) → AreNames (fork_names (map (λ p. fed ls p.name) ps))
  forks_named ls h [] = tt
  forks_named ls h (p ∷ ps) = put_front (fed ls p.name) (map (λ q. fed ls q.name) ps) (feed_named ls h p.name) (forks_named ls h ps)

  joins_named : (ls : List FrontierLine) → Each IsName (all_outer ls) → AreNames (join_names (gives ls))
  joins_named [] h = tt
  joins_named (l ∷ ls) h = let two = each_append IsName (outer_names l.frontier) (all_outer ls) h in by l.frontier two.0 (joins_named ls two.1)
    where
      by : (f : Frontier) → Each IsName (outer_names f) → AreNames (join_names (gives ls)) → AreNames (join_names (give_by inner own f ++ gives ls))
      by (Fork p x) k rest = rest
      by (Diffuse p x) k rest = rest
      by (Iterate p x y q) k rest = rest
      by (Join y q) k rest = (name_word q k.0, rest)

module _ (ds : List Def) (n : ℕ) where
  -- what is made of definitions that are not too deep has names
  abbrev pub MakesNamed : Type 0
  MakesNamed = (part : Part) (w : Bytes) (d : Def) (ins : List Source) (s a : ℕ) → IsPartNamed part → definition ds w ≡ Some d → rank ds w ≤ n → IsNamed (vertex_within ds n part w ins s a)

  cases_named : MakesNamed → (ins c : ℕ) (ws : List Bytes) → Each (IsLower ds (suc n)) ws → AllNamed (vertices_of (cases_from ds (vertex_within ds n) ins c ws))
  cases_named ih ins c [] h = tt
  cases_named ih ins c (w ∷ ws) h = (ih (Numbered c) w h.0.0.0 (owns 1 ins) 0 0 tt h.0.0.1 (omega (arith, h.0.1)), cases_named ih ins (suc c) ws h.1)

  references_named : MakesNamed → (ins : List Port) (all : List Reference) (edges : List Edge) (s a : ℕ) (rs : List Reference) → Each (λ m. IsLower ds (suc n) m.def) (map reference_line rs)
      → Each (λ r. IsName r.name) rs → AllNamed (vertices_of (references_from ds (vertex_within ds n) ins all edges s a rs))
  references_named ih ins all edges s a [] h names = tt
  references_named ih ins all edges s a (r ∷ rs) h names = (
    ih (Named r.name) r.def h.0.0.0 (sources_to (ports_of ds) ins all edges (Some r.name) (ports_of ds r.def).ins) s a (name_word r.name names.0) h.0.0.1 (omega (arith, h.0.1)),
    references_named ih ins all edges (s + sensor_count (definition ds r.def)) (a + actuator_count (definition ds r.def)) rs h.1 names.1,
  )

  named_body : MakesNamed → (own : Ports) (s a line : ℕ) (b : Body) → IsWellRead b → Each (λ m. IsLower ds (suc n) m.def) (mentions_in line b)
      → IsKindNamed (kind_by ds (vertex_within ds n) own s a b) × AllNamed (vertices_of (inner_by ds (vertex_within ds n) b))
  named_body ih own s a line (Sensor len) read h = (tt, tt)
  named_body ih own s a line (Actuator len) read h = (tt, tt)
  named_body ih own s a line (Constant values) read h = (tt, tt)
  named_body ih own s a line (Delay depth values) read h = (tt, tt)
  named_body ih own s a line (Function is os) read h = (tt, tt)
  named_body ih own s a line (Graph is os references edges) read h = (tt, references_named ih is references edges 0 0 references h (each_all (λ r. IsName r.name) references read.named))
  named_body ih own s a line (Switch on is os cases otherwise last) read h = (
    port_names_named os (each_all (λ p. IsName p.name) os read.outputs.named),
    cases_named ih (length is) 0 (map (λ c. c.def) cases ++ otherwise ∷ []) (lower_cases ds (suc n) last otherwise cases h),
  )
  named_body ih own s a line (Repeat copies def lines) read h =
      let names = each_all IsName (all_outer lines) read.named in (
        (forks_named (ports_of ds def) own lines names (ports_of ds def).ins, joins_named (ports_of ds def) own lines names),
        (ih (Numbered 0) def h.0.0.0 (owns 0 (length (ports_of ds def).ins)) 0 0 tt h.0.0.1 (omega (arith, h.0.1)), tt),
      )

named_of : (ds : List Def) → AreWellRead ds → (acc : Accepted ds) (n : ℕ) → MakesNamed ds n
    → (part : Part) (w : Bytes) (d : Def) (ins : List Source) (s a : ℕ) (o : Option Def) → IsPartNamed part → o ≡ Some d → definition ds w
    ≡ Some d → rank ds w ≤ suc n
    → IsNamed (vertex_by ds (vertex_within ds n) part w ins s a o)
named_of ds read acc n ih part w d ins s a None name is e le = cc
named_of ds read acc n ih part w d ins s a (Some x) name is e le =
    let same : d ≡ x = cc in
    let body = named_body ds n ih (ports_of ds w) s a d.line d.body (acc.well_read w d e) (lower_lines ds acc (suc n) w d e le) in
    subst (λ (y : Def). IsNamed (vertex_by ds (vertex_within ds n) part w ins s a (Some y))) same
    (record { part = name; definition = known_name ds read w d e; kind = body.0 }, body.1)

named_within : (ds : List Def) → AreWellRead ds → (acc : Accepted ds) (n : ℕ) → MakesNamed ds n
named_within ds read acc zero part w d ins s a name e le = absurd (omega (arith, acc.ranked.positive w d e))
named_within ds read acc (suc n) part w d ins s a name e le =
    named_of ds read acc n (λ p v x i j k h. named_within ds read acc n p v x i j k h) part w d ins s a (definition ds w) name e e le

inside : (u : tree.Vertex) → IsNamed u → HasNames u
inside (tree.vertex l us) h = h.1

pub have_names : (ds : List Def) → AreWellRead ds → refusal ds ≡ None → HasNames (tree_of ds)
have_names ds read no_refusal =
    let none = has_none ds no_refusal in
    let acc = accepted ds read none in
    let is = main_by ds (definition ds main) refl (main_is_graph ds none) in
    inside (vertex_within ds 8 (Named main) main [] 0 0) (named_within ds read acc 8 (Named main) main is.0 [] 0 0 refl is.1.0 (acc.ranked.most main is.0 is.1.0))
