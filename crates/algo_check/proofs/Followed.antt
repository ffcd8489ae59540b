-- Ports that are followed further than a definition is deep are the same.
use Rattle.std.proofs.Common.{◌≡◌, ℕ, zero, suc, ◌≤◌, List, [], ◌∷◌, map, Some, None, refl, ap, sym, ◌∙◌, arith}
use Rattle.std.specs.Prelude.{slice_get}
use Rattle.std.proofs.Math.Nat.{le-max_left}
use Rattle.syn_base.specs.Bytes.{Bytes}
use Rattle.algo_rules.specs.declared.Def.{Def}
use Rattle.algo_rules.specs.declared.Body.{Body}
use Rattle.algo_rules.specs.declared.Body.TheVariants.{Sensor, Actuator, Constant, Delay, Function, Graph, Switch, Repeat}
use Rattle.algo_rules.specs.ReferenceLinks.{first_recursive}
use Rattle.algo_rules.specs.Links.{definition, unknown, links_of}
use Rattle.algo_rules.specs.Ports.{outer_ports, ports_by, ports_in, ports_of, ports_within}
use Rattle.algo_rules.specs.declared.ports.Ports.{Ports}
use Rattle.algo_check.specs.Linked.{AreLinked, IsLinked, named}
use Rattle.algo_check.proofs.Leading.{all_lead}
use Rattle.algo_check.proofs.Inside.{there}
use Rattle.algo_check.proofs.Stands.{deep, row, one_more}
use Rattle.syn_base.specs.Numbers.{greatest}

module _ (ds : List Def) where
  -- the same ports for all that is named, and for what is not deeper than that
  same_body : (f g : Bytes → Ports) (n : ℕ) (b : Body) (ps : List ℕ) → AreLinked ds (named b) ps → greatest (map (deep ds) ps) ≤ n
      → ((k : ℕ) (v : Bytes) → IsLinked ds v k → deep ds k ≤ n → f v ≡ g v) → ports_by f b ≡ ports_by g b
  same_body f g n (Sensor len) ps at low same = refl
  same_body f g n (Actuator len) ps at low same = refl
  same_body f g n (Constant values) ps at low same = refl
  same_body f g n (Delay depth values) ps at low same = refl
  same_body f g n (Function ins outs) ps at low same = refl
  same_body f g n (Graph ins outs references edges) ps at low same = refl
  same_body f g n (Switch on ins outs cases otherwise last) ps at low same = refl
  same_body f g n (Repeat copies def lines) [] at low same = absurd at
  same_body f g n (Repeat copies def lines) (p ∷ ps) at low same =
      ap (λ (q : Ports). outer_ports copies q lines) (same p def at.0 (omega (arith, low, le-max_left (deep ds p) (greatest (map (deep ds) ps)))))

  module _ (none : unknown ds ≡ None) (ends : first_recursive (links_of ds) ≡ None) where
    follow : (f g : Bytes → Ports) (n i : ℕ) (w : Bytes) (d : Def) → IsLinked ds w i → slice_get ds i ≡ Some d → deep ds i ≤ suc n
        → ((k : ℕ) (v : Bytes) → IsLinked ds v k → deep ds k ≤ n → f v ≡ g v) → ports_in f (definition ds w) ≡ ports_by g d.body
    follow f g n i w d at is low same =
        ap (ports_in f) (at.found ∙ is)
        ∙ same_body f g n d.body (row ds i) (all_lead ds i d none is) (omega (arith, low, one_more ds none ends i at.below)) same

    pub enough : (n i : ℕ) (w : Bytes) → IsLinked ds w i → deep ds i ≤ n → ports_within ds n w ≡ ports_within ds (suc n) w
    enough zero i w at low = absurd (omega (arith, low, one_more ds none ends i at.below))
    enough (suc n) i w at low =
        let d = there ds i at.below in
        follow (ports_within ds n) (ports_within ds (suc n)) n i w d.0 at d.1 low (enough n)
        ∙ ap (ports_in (ports_within ds (suc n))) (sym (at.found ∙ d.1))

    -- the ports of the definition that stands here
    pub ports_are : (i : ℕ) (w : Bytes) (d : Def) → IsLinked ds w i → slice_get ds i ≡ Some d → deep ds i ≤ 8 → ports_of ds w ≡ ports_by (ports_of ds) d.body
    ports_are i w d at is low = follow (ports_within ds 7) (ports_within ds 8) 7 i w d at is low (enough 7)
