-- The definition at a place of leveled definitions: its depth, and what it names.
use Rattle.std.proofs.Common.{◌≡◌, ℕ, ◌<◌, List, [], length, get_or, Some, ap, sym, subst, ◌∙◌, arith}
use Rattle.std.specs.Prelude.{slice_get}
use Rattle.std.proofs.lemmas.List.{get_or_default}
use Rattle.std.proofs.lemmas.Option.{slice_get-get_or, get_or_from_slice_get}
use Rattle.algo_rules.specs.declared.Def.{Def}
use Rattle.algo_rules.specs.ReferenceLinks.{Links}
use Rattle.algo_rules.specs.Placed.{ArePlaced}
use Rattle.algo_rules.specs.declared.ports.Ports.{Ports}
use Rattle.algo_check.specs.Linked.{named}
use Rattle.algo_check.specs.Leveled.{AreLeveled}
use Rattle.algo_check.specs.Tables.{IsTable}
use Rattle.algo_check.proofs.Inside.{links_count}
use Rattle.algo_check.proofs.Stands.{deep, row, placed}
use Rattle.algo_check.proofs.ByDepth.{deep_at}
use Rattle.algo_check.proofs.Own.{depths_count}

-- what a list has at a place
pub found_at : {A : Type 0} (xs : List A) (i : ℕ) (x : A) → i < length xs → x ≡ get_or xs i x → slice_get xs i ≡ Some x
found_at xs i x low is = slice_get-get_or xs i x low ∙ ap Some (sym is)

pub is_found : {A : Type 0} (xs : List A) (i : ℕ) (x y : A) → slice_get xs i ≡ Some x → y ≡ get_or xs i y → x ≡ y
is_found xs i x y at is = sym (get_or_from_slice_get xs i x y at) ∙ sym is

module _ (ds : List Def) (links : Links) (levels : List ℕ) (l : AreLeveled ds links levels) where
  pub levels_count : length levels ≡ length ds
  levels_count = ap (λ (ns : List ℕ). length ns) l.deep ∙ depths_count ds

  module _ (i : ℕ) (low : i < length ds) where
    pub level_is : get_or levels i 0 ≡ deep ds i
    level_is = ap (λ (ns : List ℕ). get_or ns i 0) l.deep ∙ deep_at ds i low

    pub row_is : (r : List ℕ) → i < length links → r ≡ get_or links i r → r ≡ row ds i
    row_is r few is = is ∙ get_or_default links i r [] few ∙ ap (λ (ls : Links). get_or ls i []) l.linked

    -- the same of a row that was taken from all of them
    pub row_there : (all : Links) (r s : List ℕ) → all ≡ links → r ≡ get_or all i r → s ≡ r → s ≡ row ds i
    row_there all r s are is same =
        let few : i < length links = omega (arith, links_count ds, ap (λ (ls : Links). length ls) l.linked, low) in
        same ∙ row_is r few (is ∙ ap (λ (ls : Links). get_or ls i r) are)

    pub stands : (n : ℕ) (table : List Ports) (d : Def) (r : List ℕ) → get_or levels i 0 ≡ n → IsTable ds n table → d ≡ get_or ds i d → i
        < length links → r ≡ get_or links i r → ArePlaced ds table (named d.body) r
    stands n table d r at t is few row_at =
        subst (λ (ps : List ℕ). ArePlaced ds table (named d.body) ps) (sym (row_is r few row_at))
        (placed ds l.known l.ends i d n table (found_at ds i d low is) low (omega (arith, at, level_is)) t)
