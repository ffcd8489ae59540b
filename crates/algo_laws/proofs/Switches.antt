-- Lines of switches.
use Rattle.std.proofs.Common.{◌≡◌, ℕ, ◌==◌, not, ◌||◌, true, false, Ok, List, [], ◌∷◌, ◌++◌, length, refl, arith, sym, ap, ap₂, subst, codes, ◌<◌, ◌+◌, Bool}
use Rattle.std.proofs.lemmas.List.{length-append}
use Rattle.syn_base.specs.Name.{is_name}
use Rattle.syn_base.specs.Bytes.{Bytes}
use Rattle.syn_base.specs.declared.limits.LimitKind.TheVariants as limits
use Rattle.syn_base.specs.Limits.{bound_of}
use Rattle.text_lines.specs.Refusals.{is_above}
use Rattle.algo_rules.specs.declared.Port.{Port}
use Rattle.algo_rules.specs.Well.{AreDistinctNames}
use Rattle.algo_rules.specs.declared.Def.{Def}
use Rattle.algo_rules.specs.declared.Case.{Case}
use Rattle.algo_rules.specs.declared.Body.TheVariants.{Switch}
use Rattle.algo_rules.specs.Words.{number_of}
use Rattle.algo_rules.specs.Blocks.{Block, in_line, out_line, on_line, case_line, otherwise_line}
use Rattle.algo_rules.specs.Text.{in_switch, Reading, switch_line}
use Rattle.algo_rules.proofs.Checks.{either, fewer, found, held, neither, never, not_false, passed, same_ok}
use Rattle.algo_rules.specs.declared.Part.TheVariants.{Conditioning, Inputs, Outputs, Cases}
use Rattle.algo_rules.specs.declared.Part.{Part}
use Rattle.algo_rules.specs.Parts.{admits, is_conditioning, is_whole}
use Rattle.algo_rules.specs.WellRead.{port_names, IsSwitch}
use Rattle.algo_laws.proofs.GivenOnce.{new_both}
use Rattle.algo_laws.proofs.AddedPorts.{ports_with, input_put, output_put, put_between, put_behind, InAdded, in_added, OutAdded, out_added}
use Rattle.algo_laws.proofs.Kept.{IsOpenSwitch, Kept, IsKept, Goes, reading, line_kept, end_kept}
use Rattle.text_lines.specs.Text.{word, begins}

-- after the line `on`
begun : (p next : Part) → admits p next ≡ true → is_conditioning p ≡ false
begun Conditioning next h = cc
begun _ next h = refl

whole_begun : (p : Part) → is_whole p ≡ true → is_conditioning p ≡ false
whole_begun Conditioning h = cc
whole_begun _ h = refl

both : {P : Type 0} (t : Bool) → t ≡ false → t ≡ true → P
both t h e = cc

on_goes : (b after : Block) (n : ℕ) (ws : List Bytes) → IsOpenSwitch b → on_line b n ws ≡ Ok after → Goes in_switch b after
on_goes b after n ws o h =
    let w : Bytes = word ws 1 in
    let form = passed (not (length ws == 2) || not (is_conditioning b.part)) _ _ after h in
    let first : is_conditioning b.part ≡ true = not_false (is_conditioning b.part) (neither (not (length ws == 2)) (not (is_conditioning b.part)) form.0).1 in
    let named = held (is_name w) _ _ after form.1 in
    let none : port_names b.ins ++ port_names b.outs ≡ [] = ap₂ (λ (i p : List Port). port_names i ++ port_names p) (o.no_inputs first) (o.no_outputs first) in
    subst (λ (c : Block). Goes in_switch b c) (same_ok _ after named.1) (
      refl,
      record {
        named = λ e. named.0;
        inputs = o.inputs;
        outputs = o.outputs;
        distinct = subst (λ (l : List Bytes). AreDistinctNames (w ∷ l)) (sym none) (tt, tt);
        few = o.few;
        no_inputs = λ e. cc;
        no_outputs = λ e. cc;
      },
    )

input_goes : (b after : Block) → IsOpenSwitch b → InAdded b after → Goes in_switch b after
input_goes b after o a =
    let p : Port = a.port in
    let later : is_conditioning b.part ≡ false = begun b.part Inputs a.at in
    subst (λ (c : Block). Goes in_switch b c) a.is (
      refl,
      record {
        named = o.named;
        inputs = ports_with b.ins p o.inputs a.few a.named a.sized;
        outputs = o.outputs;
        distinct = put_between (b.on ∷ port_names b.ins) (port_names b.outs) _ p.name
            (ap (λ (l : List Bytes). b.on ∷ l) (input_put b.ins p (port_names b.outs))) (a.new.on, a.new.ins) a.new.outs o.distinct;
        few = o.few;
        no_inputs = λ e. both (is_conditioning b.part) later e;
        no_outputs = λ e. both (is_conditioning b.part) later e;
      },
    )

output_goes : (b after : Block) → IsOpenSwitch b → OutAdded b after → Goes in_switch b after
output_goes b after o a =
    let p : Port = a.port in
    let names : List Bytes = b.on ∷ (port_names b.ins ++ port_names b.outs) in
    subst (λ (c : Block). Goes in_switch b c) a.is (
      refl,
      record {
        named = λ e. o.named (begun b.part Outputs a.at);
        inputs = o.inputs;
        outputs = ports_with b.outs p o.outputs a.few a.named a.sized;
        distinct = put_behind names _ p.name (ap (λ (l : List Bytes). b.on ∷ l) (output_put (port_names b.ins) b.outs p))
            (a.new.on, new_both p.name (port_names b.ins) (port_names b.outs) a.new.ins a.new.outs) o.distinct;
        few = o.few;
        no_inputs = λ e. cc;
        no_outputs = λ e. cc;
      },
    )

case_goes : (b after : Block) (n : ℕ) (ws : List Bytes) → IsOpenSwitch b → case_line b n ws ≡ Ok after → Goes in_switch b after
case_goes b after n ws o h =
    let form = passed (not (length ws == 3) || not (admits b.part Cases)) _ _ after h in
    let later : is_conditioning b.part ≡ false = begun b.part Cases (not_false (admits b.part Cases) (neither (not (length ws == 3)) (not (admits b.part Cases)) form.0).1) in
    let named = held (is_name (word ws 2)) _ _ after form.1 in
    let value = found (number_of (word ws 1)) _ _ after named.1 in
    let few = passed (is_above limits.Cases (length b.cases + 1)) _ _ after value.2 in
    let size : length b.cases < bound_of limits.Cases = fewer (bound_of limits.Cases) (length b.cases) few.0 in
    let new : Case = record { value = value.0; def = word ws 2; line = n } in
    subst (λ (c : Block). Goes in_switch b c) (same_ok _ after few.1) (
      refl,
      record {
        named = λ e. o.named later;
        inputs = o.inputs;
        outputs = o.outputs;
        distinct = o.distinct;
        few = omega (arith, length-append b.cases (new ∷ []));
        no_inputs = λ e. cc;
        no_outputs = λ e. cc;
      },
    )

otherwise_goes : (b after : Block) (n : ℕ) (ws : List Bytes) → IsOpenSwitch b → otherwise_line b n ws ≡ Ok after → Goes in_switch b after
otherwise_goes b after n ws o h =
    let form = passed (not (length ws == 2) || not (admits b.part Cases)) _ _ after h in
    let later : is_conditioning b.part ≡ false = begun b.part Cases (not_false (admits b.part Cases) (neither (not (length ws == 2)) (not (admits b.part Cases)) form.0).1) in
    let named = held (is_name (word ws 1)) _ _ after form.1 in
    subst (λ (c : Block). Goes in_switch b c) (same_ok _ after named.1) (
      refl,
      record {
        named = λ e. o.named later;
        inputs = o.inputs;
        outputs = o.outputs;
        distinct = o.distinct;
        few = o.few;
        no_inputs = λ e. cc;
        no_outputs = λ e. cc;
      },
    )

module _ (version : ℕ) (names : List Bytes) (defs : List Def) (b : Block) (kept : Kept in_switch names defs b) where
  whole : is_whole b.part ≡ true → IsSwitch b.on b.ins b.outs b.cases
  whole last = record { named = kept.well.named (whole_begun b.part last); inputs = kept.well.inputs; outputs = kept.well.outputs; distinct = kept.well.distinct; few = kept.well.few }

  pub switch_kept : (n : ℕ) (ws : List Bytes) (r : Reading) → switch_line (reading in_switch version names defs b) n ws ≡ Ok r → IsKept r
  switch_kept n ws r h =
      either (begins ws (codes "on")) _ _ r h (line_kept in_switch version names defs b kept (on_line b n ws) r (λ after e. on_goes b after n ws kept.well e)) (λ h1.
      either (begins ws (codes "in")) _ _ r h1 (line_kept in_switch version names defs b kept (in_line b n ws) r (λ after e. input_goes b after kept.well (in_added b n ws after e))) (λ h2.
      either (begins ws (codes "out")) _ _ r h2 (line_kept in_switch version names defs b kept (out_line b n ws) r (λ after e. output_goes b after kept.well (out_added b n ws after e))) (λ h3.
      either (begins ws (codes "case")) _ _ r h3 (line_kept in_switch version names defs b kept (case_line b n ws) r (λ after e. case_goes b after n ws kept.well e)) (λ h4.
      either (begins ws (codes "otherwise")) _ _ r h4 (line_kept in_switch version names defs b kept (otherwise_line b n ws) r (λ after e. otherwise_goes b after n ws kept.well e)) (λ h5.
      either (begins ws (codes "end")) _ _ r h5
      (end_kept in_switch version names defs b kept refl (is_whole b.part)
      (Switch b.on b.ins b.outs b.cases b.otherwise b.otherwise_line) n ws r whole) (λ h6. never _ r h6))))))
