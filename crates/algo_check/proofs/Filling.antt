-- A table that is filled place by place.
use Rattle.std.proofs.Common.{◌≡◌, ℕ, ◌+◌, ◌<◌, ◌≤◌, List, length, get_or, set, ap, sym, subst, ◌∙◌, arith, ◌⊎◌, inl, inr}
use Rattle.std.proofs.Math.Nat.{eq-or-lt_of_le}
use Rattle.std.proofs.lemmas.List.{get_or-set_same, get_or-set_other, length-set}
use Rattle.std.proofs.lemmas.List.Elements.{All-set}
use Rattle.syn_base.specs.Bytes.{Bytes}
use Rattle.algo_check.specs.Linked.{IsLinked}
use Rattle.algo_rules.specs.declared.Def.{Def}
use Rattle.algo_rules.specs.Ports.{no_ports, ports_of}
use Rattle.algo_rules.specs.declared.ports.Ports.{Ports}
use Rattle.algo_check.specs.Tables.{IsSmall, IsTable, IsFilling, HasPorts}
use Rattle.algo_check.proofs.Stands.{deep}

less_or_same : (a b : ℕ) → a < b + 1 → (a ≡ b) ⊎ (a < b)
less_or_same a b h = eq-or-lt_of_le (omega (arith, h))

module _ (ds : List Def) (n : ℕ) where
  pub start : (table : List Ports) → IsTable ds n table → IsFilling ds n 0 table
  start table t = record { below = t; here = λ k low. absurd (omega (arith, low)) }

  -- a definition of another depth
  pub passed_over : (i : ℕ) (table : List Ports) → (deep ds i ≡ n → ⊥) → IsFilling ds n i table → IsFilling ds n (i + 1) table
  passed_over i table other f = record { below = f.below; here = here }
    where
      here : (k : ℕ) → k < i + 1 → k < length ds → deep ds k ≡ n → HasPorts ds table k
      here k low inside is = by (less_or_same k i low)
        where
          by : (k ≡ i) ⊎ (k < i) → HasPorts ds table k
          by (inr less) = f.here k less inside is
          by (inl same) = absurd (other (ap (deep ds) (sym same) ∙ is))

  pub done : (i : ℕ) (table : List Ports) → length ds ≤ i → IsFilling ds n i table → IsTable ds (n + 1) table
  done i table all f = record { rows = f.below.rows; small = f.below.small; ports = ports }
    where
      ports : (k : ℕ) → k < length ds → deep ds k < n + 1 → HasPorts ds table k
      ports k inside low = by (less_or_same (deep ds k) n low)
        where
          by : (deep ds k ≡ n) ⊎ (deep ds k < n) → HasPorts ds table k
          by (inr less) = f.below.ports k inside less
          by (inl same) = f.here k (omega (arith, inside, all)) inside same

  -- one of this depth, whose ports are put down
  module _ (i : ℕ) (table : List Ports) (p : Ports) (inside : i < length ds) (is : deep ds i ≡ n) (f : IsFilling ds n i table)
      (small : IsSmall p) (ports : (w : Bytes) → IsLinked ds w i → p ≡ ports_of ds w) where
    other : (k : ℕ) → (k ≡ i → ⊥) → HasPorts ds table k → HasPorts ds (set table i p) k
    other k differs h w at = get_or-set_other table i k p no_ports differs ∙ h w at

    pub put : IsFilling ds n (i + 1) (set table i p)
    put = record {
      below = record {
        rows = length-set table i p ∙ f.below.rows;
        small = All-set IsSmall table i p small f.below.small;
        ports = λ k low less. other k (λ same. omega (arith, ap (deep ds) same, is, less)) (f.below.ports k low less);
      };
      here = here;
    }
      where
        here : (k : ℕ) → k < i + 1 → k < length ds → deep ds k ≡ n → HasPorts ds (set table i p) k
        here k low within at = by (less_or_same k i low)
          where
            by : (k ≡ i) ⊎ (k < i) → HasPorts ds (set table i p) k
            by (inr less) = other k (λ same. omega (arith, same, less)) (f.here k less within at)
            by (inl same) = λ w linked. ap (λ (j : ℕ). get_or (set table i p) j no_ports) same
                ∙ get_or-set_same table i p no_ports (omega (arith, inside, f.below.rows)) ∙ ports w (at_here same w linked)
              where
                at_here : k ≡ i → (w : Bytes) → IsLinked ds w k → IsLinked ds w i
                at_here e w h = subst (λ (j : ℕ). IsLinked ds w j) e h
