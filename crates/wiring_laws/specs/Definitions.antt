-- Where the outputs of a definition lead, from the definitions alone: each is asked for once, however often it is used.
use Rattle.std.specs.Prelude.{ℕ, zero, suc, List, [], map, flat_map, Option, Some, None}
use Rattle.algo_rules.specs.declared.Def.{Def}
use Rattle.algo_rules.specs.declared.Body.{Body}
use Rattle.algo_rules.specs.declared.Body.TheVariants.{Graph, Repeat}
use Rattle.syn_base.specs.Bytes.{Bytes}
use Rattle.algo_rules.specs.declared.ports.Ports.{Ports}
use Rattle.algo_rules.specs.Links.{definition}
use Rattle.algo_rules.specs.Ports.{ports_of}
use Rattle.algo_rules.specs.Resolved.{feed_of, give_by, sources_to}
use Rattle.wiring_laws.specs.Wiring.{lead, give_lead}

-- Where the outputs of a body with these ports lead, from where those of the definitions that it names lead. A switch
-- that is no operation has no output, and what is no graph, switch or repetition is an operation.
abbrev pub body_leads_by : List Def → (Bytes → List (Option ℕ)) → Ports → Body → List (Option ℕ)
body_leads_by ds of own (Graph ins outs references edges) =
    map
    (lead (map (λ r. record {
      ins = sources_to (ports_of ds) ins references edges (Some r.name) (ports_of ds r.def).ins;
      leads = of r.def;
    }) references))
    (sources_to (ports_of ds) ins references edges None outs)
body_leads_by ds of own (Repeat copies def lines) =
    map
    (give_lead copies (map (λ p. feed_of (ports_of ds def) own lines p.name) (ports_of ds def).ins) (of def))
    (flat_map (λ l. give_by (ports_of ds def) own l.frontier) lines)
body_leads_by ds of own _ = []

-- Where the outputs of a definition with these ports lead; there are none if there is no definition.
abbrev pub leads_in : List Def → (Bytes → List (Option ℕ)) → Ports → Option Def → List (Option ℕ)
leads_in ds of own None = []
leads_in ds of own (Some d) = body_leads_by ds of own d.body

-- Where the outputs of the definition of a name lead, if all that is more than n definitions deep has no output.
abbrev pub leads_within : List Def → ℕ → Bytes → List (Option ℕ)
leads_within ds zero w = []
leads_within ds (suc n) w = leads_in ds (leads_within ds n) (ports_of ds w) (definition ds w)
