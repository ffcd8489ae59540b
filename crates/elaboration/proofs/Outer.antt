-- The outputs of what may be marked have distinct names.
use Rattle.std.proofs.Common.{◌≡◌, ℕ, true, List, [], ◌∷◌, ◌++◌}
use Rattle.std.specs.List.{flat_map}
use Rattle.syn_base.specs.Bytes.{Bytes}
use Rattle.algo_laws.specs.declared.Port.{Port}
use Rattle.algo_laws.specs.Well.{IsNewName, AreDistinctNames}
use Rattle.algo_laws.specs.Named.{AreNames}
use Rattle.algo_laws.proofs.Texts.{name_word}
use Rattle.algo_laws.specs.declared.Body.{Body}
use Rattle.algo_laws.specs.declared.Body.TheVariants.{Sensor, Actuator, Constant, Delay, Function, Graph, Switch, Repeat}
use Rattle.algo_laws.specs.declared.Frontier.{Frontier}
use Rattle.algo_laws.specs.declared.Frontier.TheVariants.{Fork, Diffuse, Iterate, Join}
use Rattle.algo_laws.specs.declared.FrontierLine.{FrontierLine}
use Rattle.algo_laws.specs.Outer.{outer_names, all_outer}
use Rattle.algo_laws.specs.RuleLinks.{may_be_inner}
use Rattle.algo_laws.specs.Ports.{ports_by, outer_outs}
use Rattle.algo_laws.specs.declared.Ports.{Ports}
use Rattle.algo_laws.specs.WellRead.{IsName, IsWellRead, port_names, ports_in}
use Rattle.algo_laws.proofs.Firsts.{Each, each_all, each_append}
use Rattle.algo_laws.proofs.Lengths.{distinct_append}

pub record AreApart (ps : List Port) : Type 0 where
  pub distinct : AreDistinctNames (port_names ps)
  pub words : AreNames (port_names ps)

named : (ps : List Port) → Each (λ p. IsName p.name) ps → AreNames (port_names ps)
named [] h = tt
named (p ∷ ps) h = (name_word p.name h.0, named ps h.1)

module _ (copies : ℕ) (inner : Ports) where
  abbrev given : List FrontierLine → List Port
  given ls = flat_map (λ l. outer_outs copies inner l.frontier) ls

  given_new : (v : Bytes) (ls : List FrontierLine) → IsNewName v (all_outer ls) → IsNewName v (port_names (given ls))
  given_new v [] h = tt
  given_new v (l ∷ ls) h = by l.frontier h (λ k. given_new v ls k)
    where
      by : (f : Frontier) → IsNewName v (outer_names f ++ all_outer ls) → (IsNewName v (all_outer ls) → IsNewName v (port_names (given ls)))
          → IsNewName v (port_names (outer_outs copies inner f ++ given ls))
      by (Fork p x) k rest = rest k.1
      by (Diffuse p x) k rest = rest k.1
      by (Iterate p x y q) k rest = (k.1.0, rest k.1.1)
      by (Join y q) k rest = (k.0, rest k.1)

  given_distinct : (ls : List FrontierLine) → AreDistinctNames (all_outer ls) → AreDistinctNames (port_names (given ls))
  given_distinct [] h = tt
  given_distinct (l ∷ ls) h = by l.frontier h (λ k. given_distinct ls k)
    where
      by : (f : Frontier) → AreDistinctNames (outer_names f ++ all_outer ls) → (AreDistinctNames (all_outer ls) → AreDistinctNames (port_names (given ls)))
          → AreDistinctNames (port_names (outer_outs copies inner f ++ given ls))
      by (Fork p x) k rest = rest k.1
      by (Diffuse p x) k rest = rest k.1
      by (Iterate p x y q) k rest = (given_new q ls k.1.0, rest k.1.1)
      by (Join y q) k rest = (given_new q ls k.0, rest k.1)

  given_named : (ls : List FrontierLine) → Each IsName (all_outer ls) → AreNames (port_names (given ls))
  given_named [] h = tt
  given_named (l ∷ ls) h = let two = each_append IsName (outer_names l.frontier) (all_outer ls) h in by l.frontier two.0 (given_named ls two.1)
    where
      by : (f : Frontier) → Each IsName (outer_names f) → AreNames (port_names (given ls)) → AreNames (port_names (outer_outs copies inner f ++ given ls))
      by (Fork p x) k rest = rest
      by (Diffuse p x) k rest = rest
      by (Iterate p x y q) k rest = (name_word q k.1.0, rest)
      by (Join y q) k rest = (name_word q k.0, rest)

pub outs_apart : (of : Bytes → Ports) (b : Body) → IsWellRead b → may_be_inner b ≡ true → AreApart (ports_by of b).outs
outs_apart of (Function ins outs) read h = record {
  distinct = (distinct_append (port_names ins) (port_names (ports_in outs)) read.distinct).1;
  words = named (ports_in outs) (each_all (λ p. IsName p.name) (ports_in outs) read.outputs.named);
}
outs_apart of (Graph ins outs references edges) read h = record {
  distinct = (distinct_append (port_names ins) (port_names outs) read.distinct).1;
  words = named outs (each_all (λ p. IsName p.name) outs read.outputs.named);
}
outs_apart of (Switch on ins outs cases otherwise last) read h = record {
  distinct = (distinct_append (port_names ins) (port_names outs) read.distinct.1).1;
  words = named outs (each_all (λ p. IsName p.name) outs read.outputs.named);
}
outs_apart of (Repeat copies def lines) read h = record {
  distinct = given_distinct copies (of def) lines read.distinct;
  words = given_named copies (of def) lines (each_all IsName (all_outer lines) read.named);
}
outs_apart of (Sensor n) read h = cc
outs_apart of (Actuator n) read h = cc
outs_apart of (Constant values) read h = cc
outs_apart of (Delay depth values) read h = cc
