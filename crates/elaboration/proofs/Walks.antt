-- The references of a definition, one after the other.
use Rattle.std.proofs.Common.{◌≡◌, ℕ, ◌+◌, ◌<◌, Bool, true, false, List, [], ◌∷◌, length, get_or, drop, map, None, refl, ap, sym, subst, ◌∙◌, if◌then◌else◌}
use Rattle.std.specs.Prelude.{slice_get}
use Rattle.std.proofs.lemmas.List.{get_or-map}
use Rattle.syn_base.specs.Bytes.{Bytes}
use Rattle.algo_laws.specs.Refusals.{AlgoError}
use Rattle.algo_check.specs.Placing.{places_of}
use Rattle.algo_check.proofs.Firsts.{one_told}
use Rattle.algo_check.proofs.Fresh.{from_here}
use Rattle.algo_check.proofs.Found.{found}
use Rattle.algo_laws.specs.declared.Def.{Def}
use Rattle.algo_laws.specs.declared.Reference.{Reference}
use Rattle.algo_laws.specs.declared.Edge.{Edge}
use Rattle.algo_laws.specs.declared.Body.{Body}
use Rattle.algo_laws.specs.declared.Body.TheVariants.{Graph}
use Rattle.algo_laws.specs.declared.Port.{Port}
use Rattle.algo_laws.specs.declared.AlgoCause.TheVariants.{BadEvery}
use Rattle.algo_laws.specs.RuleLinks.{fault, first_of, definition, mentions_in}
use Rattle.algo_laws.specs.Returned.{Tells}
use Rattle.elaboration.specs.Marking.{may_stand, bad_by}
use Rattle.elaboration.specs.Walked.{place_of, places_in, bad_in}

module _ (ds : List Def) (owner : Bytes) (rs : List Reference) (places : List ℕ) (k : ℕ) (r : Reference)
    (placed : places ≡ places_in ds rs) (h : k < length rs) (is : r ≡ get_or rs k r)
    (before : bad_in ds owner rs ≡ bad_in ds owner (drop k rs)) where
  place_is : get_or places k 0 ≡ place_of ds r
  place_is = ap (λ (ps : List ℕ). get_or ps k 0) placed ∙ get_or-map (place_of ds) rs k r 0 h ∙ ap (place_of ds) (sym is)

  same_standing : may_stand owner r (slice_get ds (get_or places k 0)) ≡ may_stand owner r (definition ds r.def)
  same_standing = ap (λ (p : ℕ). may_stand owner r (slice_get ds p)) place_is ∙ ap (may_stand owner r) (sym (found ds r.def))

  line : bad_in ds owner rs ≡ first_of (bad_by ds owner r ∷ map (bad_by ds owner) (drop (k + 1) rs))
  line = before ∙ ap (λ xs. bad_in ds owner xs) (from_here rs k r h is)

  fault_by : (b : Bool) → may_stand owner r (slice_get ds (get_or places k 0)) ≡ b → (if b then None else fault r.line (BadEvery r.name)) ≡ bad_by ds owner r
  fault_by b e = ap (λ (c : Bool). if c then None else fault r.line (BadEvery r.name)) (sym e ∙ same_standing)

  pub line_stops : (e : AlgoError) → false ≡ may_stand owner r (slice_get ds (get_or places k 0)) → Tells e (fault r.line (BadEvery r.name)) → Tells e (bad_in ds owner rs)
  line_stops e stands t = subst (λ o. Tells e o) (sym line) (one_told e _ _ (subst (λ o. Tells e o) (fault_by false (sym stands)) t))

  pub line_goes : true ≡ may_stand owner r (slice_get ds (get_or places k 0)) → bad_in ds owner rs ≡ bad_in ds owner (drop (k + 1) rs)
  line_goes stands = line ∙ ap (λ o. first_of (o ∷ map (bad_by ds owner) (drop (k + 1) rs))) (sym (fault_by true (sym stands)))

-- the places of a graph's lines are those of its references
pub graph_places : (ds : List Def) (rs : List Reference) → places_of ds (map (λ r. record { line = r.line; def = r.def; is_reference = true }) rs) ≡ places_in ds rs
graph_places ds [] = refl
graph_places ds (r ∷ rs) = ap (λ ps. place_of ds r ∷ ps) (graph_places ds rs)

pub def_places : (ds : List Def) (line : ℕ) (b : Body) (ins outs : List Port) (rs rs' : List Reference) (edges : List Edge) (places : List ℕ) → b ≡ Graph ins outs rs edges → rs' ≡ rs
    → places ≡ places_of ds (mentions_in line b) → places ≡ places_in ds rs'
def_places ds line b ins outs rs rs' edges places is same placed =
    placed ∙ ap (λ x. places_of ds (mentions_in line x)) is ∙ graph_places ds rs ∙ ap (places_in ds) (sym same)
