-- One port more, and one formula.
use Rattle.std.proofs.Common.{
  ◌≡◌,
  ℕ,
  ◌+◌,
  not,
  ◌||◌,
  ◌==◌,
  true,
  false,
  Option,
  Some,
  None,
  Ok,
  List,
  [],
  ◌∷◌,
  ◌++◌,
  length,
  map,
  take,
  drop,
  position,
  refl,
  arith,
  sym,
  ap,
  ◌∙◌,
  subst,
  append-nil,
  append_assoc,
  bytes_eq,
  ◌<◌,
}
use Rattle.std.proofs.lemmas.List.{map-append, length-append, length-map}
use Rattle.std.proofs.lemmas.List.Elements.{All-nil, All-push}
use Rattle.text_lines.specs.Text.{words_of}
use Rattle.body_text.proofs.CanonicalPorts.{known, numbers_below}
use Rattle.syn_base.specs.Bytes.{Bytes}
use Rattle.text_lines.specs.Refusals.{and_then}
use Rattle.syn_base.specs.declared.limits.LimitKind.TheVariants.{Ports}
use Rattle.syn_base.specs.Limits.{bound_of}
use Rattle.algo_rules.specs.declared.Port.{Port}
use Rattle.algo_rules.specs.Expr.{Expr, PortsBelow}
use Rattle.algo_rules.specs.Typed.{IsLength}
use Rattle.algo_rules.specs.Well.{IsNewName, AreDistinctNames}
use Rattle.algo_rules.specs.declared.Output.{Output}
use Rattle.algo_rules.specs.Formulas.{formula_of}
use Rattle.algo_rules.specs.Outer.{all_outer}
use Rattle.algo_rules.specs.Blocks.{Block, is_taken, in_line, with_in, out_line, with_out, is_equals, result_words, result_at, result_line, with_result}
use Rattle.algo_rules.proofs.Checks.{neither, never, not_false, passed, read, same_ok}
use Rattle.algo_rules.specs.declared.Part.TheVariants.{Inputs, Outputs}
use Rattle.algo_rules.specs.Parts.{admits}
use Rattle.algo_rules.specs.Grammatical.{IsFormula}
use Rattle.algo_rules.proofs.Judged.{formula_law}
use Rattle.algo_rules.specs.WellRead.{IsName, port_names, ArePorts, ports_in}
use Rattle.algo_laws.proofs.Checks.{port_read}
use Rattle.algo_laws.proofs.GivenOnce.{new_beside, new_first, new_second, new_both, distinct_with}

pub no_ports : ArePorts []
no_ports = record { few = omega arith; named = All-nil (λ p. IsName p.name); sized = All-nil (λ p. IsLength p.len) }

pub ports_with : (ps : List Port) (p : Port) → ArePorts ps → length ps < bound_of Ports → IsName p.name → IsLength p.len → ArePorts (ps ++ p ∷ [])
ports_with ps p h few named sized = record {
  few = omega (arith, length-append ps (p ∷ []));
  named = All-push (λ q. IsName q.name) ps p h.named named;
  sized = All-push (λ q. IsLength q.len) ps p h.sized sized;
}

pub input_put : (ps : List Port) (p : Port) (ys : List Bytes) → port_names (ps ++ p ∷ []) ++ ys ≡ port_names ps ++ p.name ∷ ys
input_put ps p ys = ap (λ (l : List Bytes). l ++ ys) (map-append (λ q. q.name) ps (p ∷ [])) ∙ append_assoc (port_names ps) (p.name ∷ []) ys

pub output_put : (xs : List Bytes) (ps : List Port) (p : Port) → xs ++ port_names (ps ++ p ∷ []) ≡ (xs ++ port_names ps) ++ p.name ∷ []
output_put xs ps p = ap (λ (l : List Bytes). xs ++ l) (map-append (λ q. q.name) ps (p ∷ [])) ∙ sym (append_assoc xs (port_names ps) (p.name ∷ []))

-- a new name between others, or after them
pub put_between : (xs ys after : List Bytes) (w : Bytes) → after ≡ xs ++ w ∷ ys → IsNewName w xs → IsNewName w ys → AreDistinctNames (xs ++ ys) → AreDistinctNames after
put_between xs ys after w is first second h = subst (λ (l : List Bytes). AreDistinctNames l) (sym is) (distinct_with w xs ys (new_both w xs ys first second) h)

pub put_behind : (xs after : List Bytes) (w : Bytes) → after ≡ xs ++ w ∷ [] → IsNewName w xs → AreDistinctNames xs → AreDistinctNames after
put_behind xs after w is new h = put_between xs [] after w is new tt (subst (λ (l : List Bytes). AreDistinctNames l) (sym (append-nil xs)) h)

pub result_names : (rs : List Output) → map (λ o. o.port.name) rs ≡ port_names (ports_in rs)
result_names [] = refl
result_names (o ∷ rs) = ap (λ (l : List Bytes). o.port.name ∷ l) (result_names rs)

-- a name that no port of the block has
pub record IsFree (w : Bytes) (b : Block) : Type 0 where
  pub on : bytes_eq w b.on ≡ false
  pub ins : IsNewName w (port_names b.ins)
  pub results : IsNewName w (port_names (ports_in b.results))
  pub outs : IsNewName w (port_names b.outs)

pub free : (w : Bytes) (b : Block) → is_taken b w ≡ false → IsFree w b
free w b h =
    let results : List Bytes = map (λ o. o.port.name) b.results in
    let behind : List Bytes = port_names b.outs ++ all_outer b.frontier in
    let all = new_beside w (b.on ∷ (port_names b.ins ++ (results ++ behind))) h in
    let second = new_second w (port_names b.ins) (results ++ behind) all.1 in
    record {
      on = all.0;
      ins = new_first w (port_names b.ins) (results ++ behind) all.1;
      results = subst (λ (l : List Bytes). IsNewName w l) (result_names b.results) (new_first w results behind second);
      outs = new_first w (port_names b.outs) (all_outer b.frontier) (new_second w results behind second);
    }

-- An accepted line of an input.
pub record InAdded (b after : Block) : Type 0 where
  pub port : Port
  pub at : admits b.part Inputs ≡ true
  pub named : IsName port.name
  pub sized : IsLength port.len
  pub few : length b.ins < bound_of Ports
  pub new : IsFree port.name b
  pub is : record b { ins = b.ins ++ port ∷ [] } ≡ after

pub in_added : (b : Block) (n : ℕ) (ws : List Bytes) (after : Block) → in_line b n ws ≡ Ok after → InAdded b after
in_added b n ws after h =
    let form = passed (not (length ws == 3) || not (admits b.part Inputs)) _ _ after h in
    let p = port_read n (length b.ins) ws (with_in b n) after form.1 in
    let last = passed (is_taken b p.port.name) _ _ after p.then in
    record {
      port = p.port;
      at = not_false (admits b.part Inputs) (neither (not (length ws == 3)) (not (admits b.part Inputs)) form.0).1;
      named = p.named;
      sized = p.sized;
      few = p.few;
      new = free p.port.name b last.0;
      is = same_ok _ after last.1;
    }

-- An accepted line of an output of a graph or a switch.
pub record OutAdded (b after : Block) : Type 0 where
  pub port : Port
  pub at : admits b.part Outputs ≡ true
  pub named : IsName port.name
  pub sized : IsLength port.len
  pub few : length b.outs < bound_of Ports
  pub new : IsFree port.name b
  pub is : record b { part = Outputs; outs = b.outs ++ port ∷ [] } ≡ after

pub out_added : (b : Block) (n : ℕ) (ws : List Bytes) (after : Block) → out_line b n ws ≡ Ok after → OutAdded b after
out_added b n ws after h =
    let form = passed (not (length ws == 3) || not (admits b.part Outputs)) _ _ after h in
    let p = port_read n (length b.outs) ws (with_out b n) after form.1 in
    let last = passed (is_taken b p.port.name) _ _ after p.then in
    record {
      port = p.port;
      at = not_false (admits b.part Outputs) (neither (not (length ws == 3)) (not (admits b.part Outputs)) form.0).1;
      named = p.named;
      sized = p.sized;
      few = p.few;
      new = free p.port.name b last.0;
      is = same_ok _ after last.1;
    }

-- a formula names ports that there are
module _ (n : ℕ) (ports : List Bytes) (text : Bytes) (e : Expr) where
  formula_below : formula_of n ports text ≡ Ok e → PortsBelow (length ports) e
  formula_below h =
      let is : IsFormula ports text n (Ok e) = (formula_law n ports text (Ok e)).0 h in
      subst (λ (x : Expr). PortsBelow (length ports) x) is.is (numbers_below ports is.tree (known ports is.tree is.known))

-- An accepted line of an output of a function.
pub record ResultAdded (b after : Block) : Type 0 where
  pub port : Port
  pub formula : Expr
  pub named : IsName port.name
  pub sized : IsLength port.len
  pub few : length b.results < bound_of Ports
  pub new : IsFree port.name b
  pub below : PortsBelow (length b.ins) formula
  pub is : record b { part = Outputs; results = b.results ++ record { port = port; formula = formula } ∷ [] } ≡ after

words_added : (b : Block) (n : ℕ) (ws : List Bytes) (text : Bytes) (after : Block) → result_words b n ws text ≡ Ok after → ResultAdded b after
words_added b n ws text after h =
    let names : List Bytes = map (λ i. i.name) b.ins in
    let form = passed (not (length ws == 3) || not (admits b.part Outputs)) _ _ after h in
    let p = port_read n (length b.results) ws (λ q. and_then (formula_of n names text) (with_result b n q)) after form.1 in
    let body = read (formula_of n names text) (with_result b n p.port) after p.then in
    let last = passed (is_taken b p.port.name) _ _ after body.2 in
    record {
      port = p.port;
      formula = body.0;
      named = p.named;
      sized = p.sized;
      few = p.few;
      new = free p.port.name b last.0;
      below = subst (λ (m : ℕ). PortsBelow m body.0) (length-map b.ins (λ i. i.name)) (formula_below n names text body.0 body.1);
      is = same_ok _ after last.1;
    }

at_added : (b : Block) (n : ℕ) (code : Bytes) (o : Option ℕ) (after : Block) → result_at b n code o ≡ Ok after → ResultAdded b after
at_added b n code None after h = never _ after h
at_added b n code (Some at) after h = words_added b n (words_of (take at code)) (drop (at + 1) code) after h

pub result_added : (b : Block) (n : ℕ) (code : Bytes) (after : Block) → result_line b n code ≡ Ok after → ResultAdded b after
result_added b n code after h = at_added b n code (position is_equals code) after h
