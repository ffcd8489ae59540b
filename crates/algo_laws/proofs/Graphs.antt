-- Lines of graphs.
use Rattle.std.proofs.Common.{◌≡◌, ℕ, ◌==◌, not, true, Ok, List, [], ◌∷◌, ◌++◌, length, map, refl, arith, subst, codes, ◌<◌}
use Rattle.std.proofs.lemmas.List.{map-append, length-append}
use Rattle.std.proofs.lemmas.List.Elements.{All-push}
use Rattle.syn_base.specs.Bytes.{Bytes}
use Rattle.syn_base.specs.declared.limits.LimitKind.TheVariants as limits
use Rattle.syn_base.specs.Limits.{bound_of}
use Rattle.algo_rules.specs.declared.Port.{Port}
use Rattle.algo_rules.specs.declared.Def.{Def}
use Rattle.algo_rules.specs.declared.Reference.{Reference}
use Rattle.algo_rules.specs.declared.Body.TheVariants.{Graph}
use Rattle.algo_rules.specs.Words.{end_of}
use Rattle.algo_rules.specs.Blocks.{Block, in_line, out_line, reference_line, edge_line}
use Rattle.algo_rules.specs.Text.{in_graph, Reading, graph_line}
use Rattle.algo_rules.proofs.Checks.{either, fewer, found, never, passed, same_ok}
use Rattle.algo_rules.proofs.References.{ReferenceRead, reference_read}
use Rattle.algo_rules.specs.WellRead.{IsName, port_names, IsGraph}
use Rattle.algo_laws.proofs.GivenOnce.{new_beside, new_both}
use Rattle.algo_laws.proofs.AddedPorts.{ports_with, input_put, output_put, put_between, put_behind, InAdded, in_added, OutAdded, out_added}
use Rattle.algo_laws.proofs.Kept.{Kept, IsKept, Goes, reading, line_kept, end_kept}
use Rattle.text_lines.specs.Text.{word, begins}

input_goes : (b after : Block) → IsGraph b.ins b.outs b.references → InAdded b after → Goes in_graph b after
input_goes b after o a =
    let p : Port = a.port in
    subst (λ (c : Block). Goes in_graph b c) a.is (
      refl,
      record {
        inputs = ports_with b.ins p o.inputs a.few a.named a.sized;
        outputs = o.outputs;
        distinct = put_between (port_names b.ins) (port_names b.outs) _ p.name (input_put b.ins p (port_names b.outs)) a.new.ins a.new.outs o.distinct;
        few = o.few;
        named = o.named;
        once = o.once;
      },
    )

output_goes : (b after : Block) → IsGraph b.ins b.outs b.references → OutAdded b after → Goes in_graph b after
output_goes b after o a =
    let p : Port = a.port in
    subst (λ (c : Block). Goes in_graph b c) a.is (
      refl,
      record {
        inputs = o.inputs;
        outputs = ports_with b.outs p o.outputs a.few a.named a.sized;
        distinct = put_behind (port_names b.ins ++ port_names b.outs) _ p.name (output_put (port_names b.ins) b.outs p)
            (new_both p.name (port_names b.ins) (port_names b.outs) a.new.ins a.new.outs) o.distinct;
        few = o.few;
        named = o.named;
        once = o.once;
      },
    )

reference_goes : (version : ℕ) (b after : Block) (n : ℕ) (ws : List Bytes) → IsGraph b.ins b.outs b.references → reference_line version b n ws ≡ Ok after → Goes in_graph b after
reference_goes version b after n ws o h =
    let x : ReferenceRead version b n ws after = reference_read version b n ws after h in
    let w : Bytes = word ws 1 in
    let new : Reference = record { name = w; def = word ws 2; every = x.every; line = n } in
    let names : List Bytes = map (λ r. r.name) b.references in
    let size : length b.references < bound_of limits.References = fewer (bound_of limits.References) (length b.references) x.few in
    subst (λ (c : Block). Goes in_graph b c) x.after_is (
      refl,
      record {
        inputs = o.inputs;
        outputs = o.outputs;
        distinct = o.distinct;
        few = omega (arith, length-append b.references (new ∷ []));
        named = All-push (λ (r : Reference). IsName r.name) b.references new o.named x.named;
        once = put_behind names _ w (map-append (λ (r : Reference). r.name) b.references (new ∷ [])) (new_beside w names x.free) o.once;
      },
    )

edge_goes : (b after : Block) (n : ℕ) (ws : List Bytes) → IsGraph b.ins b.outs b.references → edge_line b n ws ≡ Ok after → Goes in_graph b after
edge_goes b after n ws o h =
    let form = passed (not (length ws == 3)) _ _ after h in
    let from = found (end_of (word ws 1)) _ _ after form.1 in
    let to = found (end_of (word ws 2)) _ _ after from.2 in
    subst (λ (c : Block). Goes in_graph b c) (same_ok _ after to.2) (refl, o)

module _ (version : ℕ) (names : List Bytes) (defs : List Def) (b : Block) (kept : Kept in_graph names defs b) where
  pub graph_kept : (n : ℕ) (ws : List Bytes) (r : Reading) → graph_line (reading in_graph version names defs b) n ws ≡ Ok r → IsKept r
  graph_kept n ws r h =
      either (begins ws (codes "in")) _ _ r h (line_kept in_graph version names defs b kept (in_line b n ws) r (λ after e. input_goes b after kept.well (in_added b n ws after e))) (λ h1.
      either (begins ws (codes "out")) _ _ r h1 (line_kept in_graph version names defs b kept (out_line b n ws) r (λ after e. output_goes b after kept.well (out_added b n ws after e))) (λ h2.
      either (begins ws (codes "ref")) _ _ r h2 (line_kept in_graph version names defs b kept (reference_line version b n ws) r (λ after e. reference_goes version b after n ws kept.well e)) (λ h3.
      either (begins ws (codes "edge")) _ _ r h3 (line_kept in_graph version names defs b kept (edge_line b n ws) r (λ after e. edge_goes b after n ws kept.well e)) (λ h4.
      either (begins ws (codes "end")) _ _ r h4 (end_kept in_graph version names defs b kept refl true (Graph b.ins b.outs b.references b.edges) n ws r (λ e. kept.well)) (λ h5. never _ r h5)))))
