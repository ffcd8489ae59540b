-- The names that are named are those of the lines which the checks of an algorithm look at.
use Rattle.std.proofs.Common.{◌≡◌, ℕ, true, false, List, [], ◌∷◌, ◌++◌, map, refl, sym, ap, ◌∙◌}
use Rattle.std.specs.List.{flat_map}
use Rattle.std.proofs.lemmas.List.{map-append}
use Rattle.std.proofs.lemmas.List.Concat.{flat_map-cons}
use Rattle.syn_base.specs.Bytes.{Bytes}
use Rattle.algo_rules.specs.declared.Def.{Def}
use Rattle.algo_rules.specs.declared.Body.{Body}
use Rattle.algo_rules.specs.declared.Body.TheVariants.{Sensor, Actuator, Constant, Delay, Function, Graph, Switch, Repeat}
use Rattle.algo_rules.specs.declared.Case.{Case}
use Rattle.algo_rules.specs.declared.Reference.{Reference}
use Rattle.algo_rules.specs.Links.{Mention, mentions, mentions_in}
use Rattle.text_lint.specs.Named.{named_in}
use Rattle.algo_check.specs.Linked.{named}

abbrev names_in : List Mention → List Bytes
names_in ms = map (λ m. m.def) ms

of_references : (rs : List Reference) → names_in (map (λ r. record { line = r.line; def = r.def; is_reference = true }) rs) ≡ map (λ r. r.def) rs
of_references [] = refl
of_references (r ∷ rs) = ap (λ (ws : List Bytes). r.def ∷ ws) (of_references rs)

of_cases : (cs : List Case) → names_in (map (λ c. record { line = c.line; def = c.def; is_reference = false }) cs) ≡ map (λ c. c.def) cs
of_cases [] = refl
of_cases (c ∷ cs) = ap (λ (ws : List Bytes). c.def ∷ ws) (of_cases cs)

of_body : (n : ℕ) (b : Body) → names_in (mentions_in n b) ≡ named b
of_body n (Sensor len) = refl
of_body n (Actuator len) = refl
of_body n (Constant values) = refl
of_body n (Delay depth values) = refl
of_body n (Function ins outs) = refl
of_body n (Graph ins outs references edges) = of_references references
of_body n (Switch on ins outs cases otherwise last) =
    map-append (λ (m : Mention). m.def) (map (λ c. record { line = c.line; def = c.def; is_reference = false }) cases) (record { line = last; def = otherwise; is_reference = false } ∷ [])
    ∙ ap (λ (ws : List Bytes). ws ++ otherwise ∷ []) (of_cases cases)
of_body n (Repeat copies def lines) = refl

pub mentioned : (ds : List Def) → names_in (flat_map mentions ds) ≡ named_in ds
mentioned [] = refl
mentioned (d ∷ ds) =
    ap names_in (flat_map-cons mentions d ds) ∙ map-append (λ (m : Mention). m.def) (mentions d) (flat_map mentions ds)
    ∙ ap (λ (ws : List Bytes). ws ++ names_in (flat_map mentions ds)) (of_body d.line d.body) ∙ ap (λ (ws : List Bytes). named d.body ++ ws) (mentioned ds)
    ∙ sym (flat_map-cons (λ (e : Def). named e.body) d ds)
