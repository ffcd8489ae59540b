-- What is known of each definition of a text without a refusal.
use Rattle.std.proofs.Common.{◌≡◌, ℕ, zero, suc, ◌<◌, ◌≤◌, List, [], ◌∷◌, Option, Some, None, refl, ap, subst, ◌∙◌, arith}
use Rattle.syn_base.specs.Bytes.{Bytes}
use Rattle.algo_rules.specs.declared.Def.{Def}
use Rattle.algo_rules.specs.declared.Body.{Body}
use Rattle.algo_rules.specs.declared.Body.TheVariants.{Sensor, Actuator, Constant, Delay, Function, Graph, Switch, Repeat}
use Rattle.algo_rules.specs.Links.{Mention, mentions, mentions_in, definition, unknown, recursive, too_deep}
use Rattle.algo_rules.specs.Ports.{ports_by, ports_in, ports_within, ports_of, outer_ports}
use Rattle.algo_rules.specs.declared.ports.Ports.{Ports}
use Rattle.algo_rules.specs.Resolved.{body_fault}
use Rattle.algo_rules.specs.WellRead.{IsWellRead, AreWellRead}
use Rattle.algo_laws.proofs.Firsts.{Each, all_of, each_all}
use Rattle.algo_laws.proofs.Standing.{definition_by, all_stand}
use Rattle.algo_laws.proofs.Ends.{AllStand}
use Rattle.algo_laws.specs.Depths.{rank, NamedAreLessDeep, PortsFollowFromBodies}
use Rattle.algo_laws.proofs.Ranks.{IsKnown, all_known, all_lower, positive, not_deep}
use Rattle.algo_laws.proofs.Bodies.{all_passed}
use Rattle.algo_laws.proofs.Refused.{HasNone}

-- a name of a definition that is less deep
abbrev pub IsLower : List Def → ℕ → Bytes → Type 0
IsLower ds n w = IsKnown ds w × (rank ds w < n)

-- What depths say.
pub record Ranked (ds : List Def) : Type 0 where
  pub lower : (w : Bytes) (d : Def) → definition ds w ≡ Some d → Each (λ m. IsLower ds (rank ds w) m.def) (mentions d)
  pub positive : (w : Bytes) (d : Def) → definition ds w ≡ Some d → 0 < rank ds w
  pub most : (w : Bytes) (d : Def) → definition ds w ≡ Some d → rank ds w ≤ 8

pub record Accepted (ds : List Def) : Type 0 where
  pub well_read : (w : Bytes) (d : Def) → definition ds w ≡ Some d → IsWellRead d.body
  pub passed : (w : Bytes) (d : Def) → definition ds w ≡ Some d → body_fault ds d.line d.body ≡ None
  pub stand : AllStand ds
  pub ranked : Ranked ds

pub each_both : {A : Type 0} (P Q : A → Type 0) (xs : List A) → Each P xs → Each Q xs → Each (λ x. P x × Q x) xs
each_both P Q [] h k = tt
each_both P Q (x ∷ xs) h k = ((h.0, k.0), each_both P Q xs h.1 k.1)

pub ranked : (ds : List Def) → unknown ds ≡ None → recursive ds ≡ None → too_deep ds ≡ None → Ranked ds
ranked ds known ends few = record {
  lower = λ w d e. each_both (λ m. IsKnown ds m.def) (λ m. rank ds m.def < rank ds w) (mentions d) (all_known ds known w d e) (all_lower ds known ends w d e);
  positive = λ w d e. positive ds known ends w d e;
  most = λ w d e. not_deep ds few w d e;
}

pub accepted : (ds : List Def) → AreWellRead ds → HasNone ds → Accepted ds
accepted ds read none = record {
  well_read = λ w d e. definition_by (λ x. IsWellRead x.body) ds w d (each_all (λ x. IsWellRead x.body) ds read.bodies) e;
  passed = λ w d e. all_passed ds none.unknown none.recursive none.too_deep none.bodies w d e;
  stand = all_stand ds none.misplaced;
  ranked = ranked ds none.unknown none.recursive none.too_deep;
}

-- a body has the same ports by two tables that agree on what it names
same_by : (f g : Bytes → Ports) (n : ℕ) (b : Body) → Each (λ m. f m.def ≡ g m.def) (mentions_in n b) → ports_by f b ≡ ports_by g b
same_by f g n (Sensor len) h = refl
same_by f g n (Actuator len) h = refl
same_by f g n (Constant values) h = refl
same_by f g n (Delay depth values) h = refl
same_by f g n (Function ins outs) h = refl
same_by f g n (Graph ins outs references edges) h = refl
same_by f g n (Switch on ins outs cases otherwise last) h = refl
same_by f g n (Repeat copies def lines) h = ap (λ (p : Ports). outer_ports copies p lines) h.0

same_in : (f g : Bytes → Ports) (o : Option Def) (d : Def) → o ≡ Some d → Each (λ m. f m.def ≡ g m.def) (mentions d) → ports_in f o ≡ ports_in g o
same_in f g None d e h = cc
same_in f g (Some x) d e h = let same : d ≡ x = cc in same_by f g x.line x.body (subst (λ (y : Def). Each (λ m. f m.def ≡ g m.def) (mentions y)) same h)

each_steady : (ds : List Def) (n m : ℕ) → m ≤ suc n → ((w : Bytes) (d : Def) → definition ds w ≡ Some d → rank ds w ≤ n → ports_within ds n w ≡ ports_within ds (suc n) w)
    → (ms : List Mention) → Each (λ x. IsLower ds m x.def) ms → Each (λ x. ports_within ds n x.def ≡ ports_within ds (suc n) x.def) ms
each_steady ds n m le ih [] h = tt
each_steady ds n m le ih (x ∷ ms) h = (ih x.def h.0.0.0 h.0.0.1 (omega (arith, h.0.1)), each_steady ds n m le ih ms h.1)

-- no round beyond the depth changes the ports
steady : (ds : List Def) → Ranked ds → (n : ℕ) (w : Bytes) (d : Def) → definition ds w ≡ Some d → rank ds w ≤ n → ports_within ds n w ≡ ports_within ds (suc n) w
steady ds a zero w d e le = absurd (omega (arith, a.positive w d e))
steady ds a (suc n) w d e le =
    same_in (ports_within ds n) (ports_within ds (suc n)) (definition ds w) d e (each_steady ds n (rank ds w) le (λ v x f k. steady ds a n v x f k) (mentions d) (a.lower w d e))

-- The ports of a definition are those of its body.
pub own_ports : (ds : List Def) → Ranked ds → (w : Bytes) (d : Def) → definition ds w ≡ Some d → ports_of ds w ≡ ports_by (ports_of ds) d.body
own_ports ds a w d e = steady ds a 8 w d e (a.most w d e) ∙ ap (ports_in (ports_of ds)) e

pub ports_follow : PortsFollowFromBodies
ports_follow ds known ends few w d e = own_ports ds (ranked ds known ends few) w d e

pub less_deep : NamedAreLessDeep
less_deep ds known ends w d e = all_of (λ m. rank ds m.def < rank ds w) (mentions d) (all_lower ds known ends w d e)
