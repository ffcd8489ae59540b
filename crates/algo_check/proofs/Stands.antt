-- What a definition names stands in the table, since it is less deep.
use Rattle.std.proofs.Common.{◌≡◌, ℕ, suc, ◌<◌, ◌≤◌, List, [], ◌∷◌, length, get_or, map, Some, None, arith}
use Rattle.std.specs.Prelude.{slice_get}
use Rattle.std.proofs.Math.Nat.{le-max_left, le-max_right}
use Rattle.syn_base.specs.Bytes.{Bytes}
use Rattle.algo_rules.specs.declared.Def.{Def}
use Rattle.algo_rules.specs.ReferenceLinks.{depth, first_recursive}
use Rattle.algo_rules.proofs.Enough.{one_deeper}
use Rattle.algo_rules.specs.Links.{unknown, links_of}
use Rattle.algo_rules.specs.Placed.{ArePlaced}
use Rattle.algo_rules.specs.declared.ports.Ports.{Ports}
use Rattle.algo_check.specs.Linked.{AreLinked, named}
use Rattle.algo_check.proofs.Leading.{all_lead}
use Rattle.algo_check.specs.Tables.{IsTable}
use Rattle.algo_check.proofs.Inside.{links_inside, links_count}
use Rattle.syn_base.specs.Numbers.{greatest}

module _ (ds : List Def) where
  abbrev pub row : ℕ → List ℕ
  row i = get_or (links_of ds) i []

  abbrev pub deep : ℕ → ℕ
  deep i = depth (links_of ds) i

  pub placed_all : (n : ℕ) (table : List Ports) → IsTable ds n table → (ws : List Bytes) (ps : List ℕ) → AreLinked ds ws ps → greatest (map deep ps) < n → ArePlaced ds table ws ps
  placed_all n table t [] [] h low = tt
  placed_all n table t [] (p ∷ ps) h low = h
  placed_all n table t (w ∷ ws) [] h low = h
  placed_all n table t (w ∷ ws) (p ∷ ps) h low =
      let left : deep p < n = omega (arith, low, le-max_left (deep p) (greatest (map deep ps))) in
      let right : greatest (map deep ps) < n = omega (arith, low, le-max_right (deep p) (greatest (map deep ps))) in (
        record {
          below = h.0.below;
          in_table = omega (arith, t.rows, h.0.below);
          found = h.0.found;
          ports = t.ports p h.0.below left w h.0;
        },
        placed_all n table t ws ps h.1 right,
      )

  module _ (none : unknown ds ≡ None) (ends : first_recursive (links_of ds) ≡ None) where
    pub one_more : (i : ℕ) → i < length ds → deep i ≡ suc (greatest (map deep (row i)))
    one_more i low = one_deeper (links_of ds) (links_inside ds none) ends i (omega (arith, low, links_count ds))

    pub placed : (i : ℕ) (d : Def) (n : ℕ) (table : List Ports) → slice_get ds i ≡ Some d → i < length ds → deep i ≤ n → IsTable ds n table → ArePlaced ds table (named d.body) (row i)
    placed i d n table at low upto t = placed_all n table t (named d.body) (row i) (all_lead ds i d none at) (omega (arith, one_more i low, upto))
