-- Lines of functions.
use Rattle.std.proofs.Common.{◌≡◌, ℕ, true, nat_lt, Ok, List, [], ◌∷◌, ◌++◌, length, refl, sym, ap, ◌∙◌, subst, codes, ◌<◌}
use Rattle.std.specs.Prelude.{All}
use Rattle.std.proofs.lemmas.List.{map-append, length-map}
use Rattle.std.proofs.lemmas.List.Elements.{All-nil, All-push}
use Rattle.syn_base.specs.Bytes.{Bytes}
use Rattle.syn_base.specs.declared.limits.LimitKind.TheVariants.{Ports}
use Rattle.syn_base.specs.Limits.{bound_of}
use Rattle.algo_rules.specs.declared.Port.{Port}
use Rattle.algo_rules.specs.Expr.{PortsBelow}
use Rattle.algo_rules.specs.declared.Def.{Def}
use Rattle.algo_rules.specs.declared.Output.{Output}
use Rattle.algo_rules.specs.declared.Body.TheVariants.{Function}
use Rattle.algo_rules.specs.Blocks.{Block, in_line, result_line}
use Rattle.algo_rules.specs.Text.{in_function, Reading, function_line}
use Rattle.algo_rules.proofs.Checks.{either, never}
use Rattle.algo_rules.specs.WellRead.{port_names, ArePorts, ports_in, IsFunction}
use Rattle.algo_laws.proofs.Checks.{above_none}
use Rattle.algo_laws.proofs.GivenOnce.{new_both}
use Rattle.algo_laws.proofs.AddedPorts.{ports_with, input_put, output_put, put_between, put_behind, InAdded, in_added, ResultAdded, result_added}
use Rattle.algo_laws.proofs.Kept.{IsOpenFunction, Kept, IsKept, Goes, reading, line_kept, end_kept}
use Rattle.text_lines.specs.Text.{begins}

input_goes : (b after : Block) → IsOpenFunction b → InAdded b after → Goes in_function b after
input_goes b after o a =
    let p : Port = a.port in
    let outs : List Bytes = port_names (ports_in b.results) in
    subst (λ (c : Block). Goes in_function b c) a.is (
      refl,
      record {
        inputs = ports_with b.ins p o.inputs a.few a.named a.sized;
        outputs = o.outputs;
        distinct = put_between (port_names b.ins) outs _ p.name (input_put b.ins p outs) a.new.ins a.new.results o.distinct;
        formulas = subst (λ (l : List Output). All (λ r. PortsBelow (length (b.ins ++ p ∷ [])) r.formula) l) (sym (o.none_yet a.at))
            (All-nil (λ (r : Output). PortsBelow (length (b.ins ++ p ∷ [])) r.formula));
        none_yet = o.none_yet;
      },
    )

output_goes : (b after : Block) → IsOpenFunction b → ResultAdded b after → Goes in_function b after
output_goes b after o a =
    let p : Port = a.port in
    let result : Output = record { port = p; formula = a.formula } in
    let ports : ports_in (b.results ++ result ∷ []) ≡ ports_in b.results ++ p ∷ [] = map-append (λ (r : Output). r.port) b.results (result ∷ []) in
    let before : List Bytes = port_names b.ins ++ port_names (ports_in b.results) in
    subst (λ (c : Block). Goes in_function b c) a.is (
      refl,
      record {
        inputs = o.inputs;
        outputs = subst (λ (l : List Port). ArePorts l) (sym ports)
            (ports_with (ports_in b.results) p o.outputs
            (subst (λ (m : ℕ). m < bound_of Ports) (sym (length-map b.results (λ (r : Output). r.port))) a.few) a.named a.sized);
        distinct = put_behind before _ p.name (ap (λ (l : List Port). port_names b.ins ++ port_names l) ports ∙ output_put (port_names b.ins) (ports_in b.results) p)
            (new_both p.name (port_names b.ins) (port_names (ports_in b.results)) a.new.ins a.new.results) o.distinct;
        formulas = All-push (λ (r : Output). PortsBelow (length b.ins) r.formula) b.results result o.formulas a.below;
        none_yet = λ e. cc;
      },
    )

module _ (version : ℕ) (names : List Bytes) (defs : List Def) (b : Block) (kept : Kept in_function names defs b) where
  whole : (nat_lt 0 (length b.results)) ≡ true → IsFunction b.ins b.results
  whole some = record { inputs = kept.well.inputs; outputs = kept.well.outputs; some = above_none (length b.results) some; distinct = kept.well.distinct; formulas = kept.well.formulas }

  pub function_kept : (n : ℕ) (ws : List Bytes) (code : Bytes) (r : Reading) → function_line (reading in_function version names defs b) n ws code ≡ Ok r → IsKept r
  function_kept n ws code r h =
      either (begins ws (codes "in")) _ _ r h (line_kept in_function version names defs b kept (in_line b n ws) r (λ after e. input_goes b after kept.well (in_added b n ws after e))) (λ h1.
      either (begins ws (codes "out")) _ _ r h1
      (line_kept in_function version names defs b kept (result_line b n code) r
      (λ after e. output_goes b after kept.well (result_added b n code after e))) (λ h2.
      either (begins ws (codes "end")) _ _ r h2 (end_kept in_function version names defs b kept refl (nat_lt 0 (length b.results)) (Function b.ins b.results) n ws r whole) (λ h3. never _ r h3)))
