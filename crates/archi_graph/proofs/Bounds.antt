-- At valid media stand operators alone.
use Rattle.std.proofs.Common.{◌≡◌, ℕ, ◌≤◌, true, ◌&&◌, List, length, arith}
use Rattle.std.specs.Prelude.{nat_le, nat_lt, slice_index_or}
use Rattle.std.specs.List.{list_all}
use Rattle.std.proofs.lemmas.Bool.{and_parts, ltb-true}
use Rattle.std.proofs.lemmas.List.Sums.{AllPass-from_list_all}
use Rattle.archi_graph.specs.declared.medium.Medium.{Medium}
use Rattle.archi_graph.specs.Archi.{is_medium, may_stand, ascends_from}
use Rattle.archi_graph.specs.Routes.{AreOperators}

pub stands_below : (n : ℕ) (m : Medium) → is_medium n m ≡ true → list_all (λ o. nat_lt o n) m.stands ≡ true
stands_below n m e =
    let ticks = and_parts _ (nat_le m.per 1000000) e in
    let fixed = and_parts _ (nat_le m.fixed 1000000) ticks.0 in
    (and_parts (may_stand m.kind (length m.stands) && ascends_from 0 m.stands) (list_all (λ o. nat_lt o n) m.stands) fixed.0).1

pub operators_below : (n bound : ℕ) (media : List Medium) → n ≤ bound → list_all (is_medium n) media ≡ true → AreOperators bound media
operators_below n bound media h e k m l j o l' =
    let valid : is_medium n (slice_index_or media k m) ≡ true = AllPass-from_list_all (is_medium n) media e k m l in
    let below = ltb-true _ n (AllPass-from_list_all (λ o. nat_lt o n) (slice_index_or media k m).stands (stands_below n (slice_index_or media k m) valid) j o l') in
    omega (arith, below)
