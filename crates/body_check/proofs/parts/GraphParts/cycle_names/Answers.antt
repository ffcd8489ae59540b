use Rattle.std.proofs.Common.{◌≡◌, ℕ, Bool, List, length, map, ◌∙◌, ap, subst}
use Rattle.std.specs.Prelude.{IfOk}
use Rattle.std.specs.List.{range_with_len}
use Rattle.std.proofs.lemmas.List.{length-map}
use Rattle.std.proofs.lemmas.List.FromFn.{length-map-range_with_len}
use Rattle.syn_base.specs.Bytes.{Bytes}
use Rattle.algo_rules.specs.ReferenceLinks.{Links, reaches_itself}
use Rattle.algo_rules.specs.Graphs.{dependences, sources}
use Rattle.body_check.specs.Cycles.{flagged}
use Rattle.body_check.proofs.Depends.{names_are}
use Rattle.body_check.proofs.parts.GraphParts.cycle_names.Goals as goal

pub flagged-requires : goal.flagged-requires
flagged-requires c =
    ap (λ (fs : List Bool). length fs) (c.as_slice.ensures.value ∙ c.in_ok-flags.ensures)
    ∙ length-map-range_with_len (reaches_itself (dependences c.args.self.now.defs.now c.args.self.now.references.now c.args.self.now.edges.now)) 0 _
    ∙ length-map c.args.self.now.references.now (λ r. sources c.args.self.now.defs.now c.args.self.now.references.now c.args.self.now.edges.now r.name)

pub returns : goal.returns
returns c =
    let ds = c.args.self.now.defs.now in
    let rs = c.args.self.now.references.now in
    let links : Links = dependences ds rs c.args.self.now.edges.now in
    let all : length links ≡ length rs = length-map rs (λ r. sources ds rs c.args.self.now.edges.now r.name) in
    let flags : c.as_slice.result.now ≡ map (reaches_itself links) (range_with_len 0 (length rs)) =
    c.as_slice.ensures.value ∙ c.in_ok-flags.ensures ∙ ap (λ (n : ℕ). map (reaches_itself links) (range_with_len 0 n)) all in
    subst (λ (ns : List Bytes). IfOk c.flagged.result (λ names. names.items ≡ ns)) (ap (λ (fs : List Bool). flagged fs rs) flags ∙ names_are ds rs links 0 rs) c.flagged.ensures
