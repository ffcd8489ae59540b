-- The canonical text does not depend on the numbers of lines.
use Rattle.std.proofs.Common.{◌≡◌, ℕ, List, [], ◌∷◌, ◌++◌, map, refl, ap, ap₂, sym, ◌∙◌, codes}
use Rattle.algo_text.specs.declared.definition.Def.{Def}
use Rattle.algo_text.specs.declared.definition.Defs.{Defs}
use Rattle.algo_text.specs.declared.definition.Body.{Body}
use Rattle.algo_text.specs.declared.definition.Body.TheVariants.{Sensor, Actuator, Constant, Delay, Function, Graph, Switch, Repeat}
use Rattle.syn_base.specs.Bytes.{Bytes}
use Rattle.algo_print.specs.Canonical.{
  port_words,
  reference_words,
  edge_words,
  case_words,
  frontier_words,
  end_words,
  otherwise_lines,
  body_lines,
  definition_lines,
  version_words,
  text_of,
  canonical_text,
}
use Rattle.algo_print.specs.ReadBack.{bare, bare_body, bare_reference, bare_edge, bare_case, bare_frontier}
use Rattle.algo_print.proofs.State.{Lines}
use Rattle.text_lines.specs.Text.{count_text}

same_lines : {A : Type 0} (f : A → List Bytes) (g : A → A) (xs : List A) → ((x : A) → f (g x) ≡ f x) → map f (map g xs) ≡ map f xs
same_lines f g [] each = refl
same_lines f g (x ∷ xs) each = ap₂ (λ (l : List Bytes) (ls : Lines). l ∷ ls) (each x) (same_lines f g xs each)

bare_lines : (version : ℕ) (name : Bytes) (body : Body) → body_lines version name (bare_body body) ≡ body_lines version name body
bare_lines version name (Sensor len) = refl
bare_lines version name (Actuator len) = refl
bare_lines version name (Constant values) = refl
bare_lines version name (Delay depth values) = refl
bare_lines version name (Function ins outs) = refl
bare_lines version name (Graph ins outs references edges) =
    ap₂ (λ (rs es : Lines). (codes "graph" ∷ name ∷ []) ∷ ((map (port_words (codes "in")) ins ++ (map (port_words (codes "out")) outs ++ (rs ++ es))) ++ end_words ∷ []))
    (same_lines reference_words bare_reference references (λ r. refl)) (same_lines edge_words bare_edge edges (λ e. refl))
bare_lines version name (Switch on ins outs cases otherwise line) =
    ap (λ (cs : Lines). (codes "switch" ∷ name ∷ []) ∷ (((codes "on" ∷ on ∷ []) ∷ (map (port_words (codes "in")) ins ++ (map (port_words (codes "out")) outs ++ cs))) ++ otherwise_lines otherwise))
    (same_lines case_words bare_case cases (λ c. refl))
bare_lines version name (Repeat copies def lines) =
    ap (λ (ls : Lines). (codes "repeat" ∷ name ∷ count_text copies ∷ def ∷ []) ∷ (ls ++ end_words ∷ [])) (same_lines frontier_words bare_frontier lines (λ l. refl))

bare_definitions : (version : ℕ) (defs : List Def) → definition_lines version (map bare defs) ≡ definition_lines version defs
bare_definitions version [] = refl
bare_definitions version (d ∷ ds) = ap₂ (λ (ls ms : Lines). ls ++ ms) (bare_lines version d.name d.body) (bare_definitions version ds)

pub same_text : (defs others : Defs) → defs.version ≡ others.version → map bare defs.defs ≡ map bare others.defs → canonical_text defs ≡ canonical_text others
same_text defs others version same =
    ap (λ (ls : Lines). text_of (version_words defs.version ∷ ls))
    (sym (bare_definitions defs.version defs.defs) ∙ ap (λ (ds : List Def). definition_lines defs.version ds) same ∙ bare_definitions defs.version others.defs)
    ∙ ap (λ (v : ℕ). text_of (version_words v ∷ definition_lines v others.defs)) version
