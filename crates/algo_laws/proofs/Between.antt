-- Lines between definitions.
use Rattle.std.proofs.Common.{◌≡◌, ℕ, zero, suc, ◌*◌, ◌/◌, ◌%◌, ◌≤◌, ◌==◌, not, ◌||◌, nat_lt, Ok, List, [], ◌∷◌, ◌++◌, length, drop, refl, arith, sym, ap, ◌∙◌, subst, append-nil, bytes_eq, codes, ℤ}
use Rattle.std.proofs.lemmas.List.{length-drop}
use Rattle.std.proofs.Math.Nat.{div-add-mod, div-one}
use Rattle.std.proofs.lemmas.List.Elements.{All-nil, All-push}
use Rattle.syn_base.specs.Name.{is_name}
use Rattle.syn_base.specs.Bytes.{Bytes}
use Rattle.syn_base.specs.declared.limits.LimitKind.TheVariants.{PortLength, Copies}
use Rattle.syn_base.specs.declared.limits.LimitKind.TheVariants as limits
use Rattle.syn_base.specs.Limits.{bound_of}
use Rattle.text_lines.specs.Refusals.{is_above}
use Rattle.algo_rules.specs.Expr.{PortsBelow}
use Rattle.algo_rules.specs.Typed.{IsLength}
use Rattle.algo_rules.specs.declared.Def.{Def}
use Rattle.algo_rules.specs.declared.Output.{Output}
use Rattle.algo_rules.specs.declared.Reference.{Reference}
use Rattle.algo_rules.specs.declared.Body.{Body}
use Rattle.algo_rules.specs.declared.Body.TheVariants.{Sensor, Actuator, Constant, Delay}
use Rattle.algo_rules.specs.Among.{is_among}
use Rattle.algo_rules.specs.Words.{number_of, count_of}
use Rattle.algo_rules.specs.Blocks.{Block, new_block}
use Rattle.algo_rules.specs.Text.{
  Stage,
  between,
  in_function,
  in_graph,
  in_switch,
  in_repeat,
  Reading,
  numbers_of,
  defined,
  end_line,
  values_line,
  deep_delay,
  deep_line,
  delay_line,
  opened,
  opening_line,
  repeat_line,
  between_line,
  first_part,
}
use Rattle.algo_rules.proofs.Checks.{at_most, either, equal, found, held, neither, never, not_false, passed, read, same_ok}
use Rattle.algo_rules.specs.declared.Part.TheVariants.{Conditioning, Inputs}
use Rattle.algo_rules.specs.WellRead.{IsName, IsWellRead}
use Rattle.algo_laws.proofs.Checks.{count_positive}
use Rattle.algo_laws.proofs.GivenOnce.{new_beside, distinct_behind}
use Rattle.algo_laws.proofs.AddedPorts.{no_ports}
use Rattle.algo_laws.proofs.Kept.{IsOpen, open_name, names_of, Kept, IsKept, reading, names_with}
use Rattle.text_lines.specs.Text.{word, begins}

numbers_length : (n : ℕ) (ws : List Bytes) (vs : List ℤ) → numbers_of n ws ≡ Ok vs → length vs ≡ length ws
numbers_length n [] vs h = ap length (sym (same_ok [] vs h))
numbers_length n (w ∷ ws) vs h =
    let first = found (number_of w) _ _ vs h in
    let rest = read (numbers_of n ws) _ vs first.2 in
    ap length (sym (same_ok (first.0 ∷ rest.0) vs rest.2)) ∙ ap (λ i. suc i) (numbers_length n ws rest.0 rest.1)

some_each : (depth len n : ℕ) → 1 ≤ n → n ≡ depth * len → 1 ≤ len
some_each depth zero n filled cut = absurd (omega (arith, filled, cut))
some_each depth (suc len) n filled cut = omega arith

-- values in groups that a line accepts
delay_well : (n depth : ℕ) (vs : List ℤ) (body : Body) → 1 ≤ depth → 1 ≤ length vs → deep_delay n depth vs ≡ Ok body → IsWellRead body
delay_well n depth vs body some filled h =
    let few = passed (is_above limits.Delay depth) _ _ body h in
    let whole = passed (not (length vs % depth == 0)) _ _ body few.1 in
    let short = passed (is_above PortLength (length vs / depth)) _ _ body whole.1 in
    let none : length vs % depth ≡ 0 = equal (length vs % depth) 0 (not_false (length vs % depth == 0) whole.0) in
    let cut : length vs ≡ depth * (length vs / depth) = omega (arith, none, div-add-mod (length vs) depth) in
    subst (λ (c : Body). IsWellRead c) (same_ok (Delay depth vs) body short.1) (record {
      some = some;
      most = at_most (bound_of limits.Delay) depth few.0;
      whole = cut;
      sized = (some_each depth (length vs / depth) (length vs) filled cut, at_most (bound_of PortLength) (length vs / depth) short.0);
    })

-- one group is all values
one_well : (vs : List ℤ) → IsLength (length vs) → IsWellRead (Delay 1 vs)
one_well vs is =
    let whole : length vs / 1 ≡ length vs = div-one (length vs) in
    record { some = omega arith; most = omega arith; whole = omega (arith, whole); sized = subst IsLength (sym whole) is }

module _ (version : ℕ) (names : List Bytes) (defs : List Def) (b : Block) (kept : Kept between names defs b) where
  abbrev here : Reading
  here = reading between version names defs b

  names_are : names ≡ names_of defs
  names_are = kept.names_are ∙ append-nil (names_of defs)

  -- a definition of one line
  defined_kept : (n : ℕ) (w : Bytes) (body : Body) (r : Reading) → IsName w → IsWellRead body → defined here n w body ≡ Ok r → IsKept r
  defined_kept n w body r named well h =
      let d : Def = record { name = w; line = n; body = body } in
      let new = passed (is_among w names) _ _ r h in
      subst (λ (q : Reading). IsKept q) (same_ok _ r new.1) (record {
        names_are = ap (λ (l : List Bytes). l ++ w ∷ []) names_are ∙ names_with defs d;
        named = All-push IsName names w kept.named named;
        once = distinct_behind w names (new_beside w names new.0) kept.once;
        bodies = All-push (λ (e : Def). IsWellRead e.body) defs d kept.bodies well;
        well = tt;
      })

  -- a block that is opened
  opened_kept : (s : Stage) (n : ℕ) (c : Block) (r : Reading) → open_name s c ≡ c.name ∷ [] → IsOpen s c → IsName c.name → opened s here n c ≡ Ok r → IsKept r
  opened_kept s n c r name_is well named h =
      let new = passed (is_among c.name names) _ _ r h in
      subst (λ (q : Reading). IsKept q) (same_ok _ r new.1) (record {
        names_are = ap (λ (l : List Bytes). l ++ c.name ∷ []) names_are ∙ ap (λ (l : List Bytes). names_of defs ++ l) (sym name_is);
        named = All-push IsName names c.name kept.named named;
        once = distinct_behind c.name names (new_beside c.name names new.0) kept.once;
        bodies = kept.bodies;
        well = well;
      })

  end_kept : (body : ℕ → Body) (n : ℕ) (ws : List Bytes) (r : Reading) → ((len : ℕ) → IsLength len → IsWellRead (body len)) → end_line body here n ws ≡ Ok r → IsKept r
  end_kept body n ws r well h =
      let form = passed (not (length ws == 3)) _ _ r h in
      let named = held (is_name (word ws 1)) _ _ r form.1 in
      let counted = found (count_of (word ws 2)) _ _ r named.1 in
      let low = passed (is_above PortLength counted.0) _ _ r counted.2 in
      defined_kept n (word ws 1) (body counted.0) r named.0 (well counted.0 (count_positive (word ws 2) counted.0 counted.1, at_most (bound_of PortLength) counted.0 low.0)) low.1

  values_kept : (body : List ℤ → Body) (n : ℕ) (ws : List Bytes) (r : Reading) → ((vs : List ℤ) → IsLength (length vs) → IsWellRead (body vs)) → values_line body here n ws ≡ Ok r → IsKept r
  values_kept body n ws r well h =
      let form = passed (nat_lt (length ws) 4 || not (bytes_eq (word ws 2) (codes "="))) _ _ r h in
      let long : 4 ≤ length ws = at_most (length ws) 4 (neither (nat_lt (length ws) 4) _ form.0).0 in
      let named = held (is_name (word ws 1)) _ _ r form.1 in
      let all = read (numbers_of n (drop 3 ws)) _ r named.1 in
      let low = passed (is_above PortLength (length all.0)) _ _ r all.2 in
      let some : 1 ≤ length all.0 = omega (arith, numbers_length n (drop 3 ws) all.0 all.1, length-drop 3 ws) in
      defined_kept n (word ws 1) (body all.0) r named.0 (well all.0 (some, at_most (bound_of PortLength) (length all.0) low.0)) low.1

  -- the depth divides the number of values, and leaves a length
  deep_kept : (n : ℕ) (ws : List Bytes) (r : Reading) → deep_line here n ws ≡ Ok r → IsKept r
  deep_kept n ws r h =
      let form = passed (nat_lt (length ws) 5 || not (bytes_eq (word ws 3) (codes "="))) _ _ r h in
      let long : 5 ≤ length ws = at_most (length ws) 5 (neither (nat_lt (length ws) 5) _ form.0).0 in
      let named = held (is_name (word ws 1)) _ _ r form.1 in
      let counted = found (count_of (word ws 2)) _ _ r named.1 in
      let all = read (numbers_of n (drop 4 ws)) _ r counted.2 in
      let body = read (deep_delay n counted.0 all.0) _ r all.2 in
      let some : 1 ≤ length all.0 = omega (arith, numbers_length n (drop 4 ws) all.0 all.1, length-drop 4 ws) in
      defined_kept n (word ws 1) body.0 r named.0 (delay_well n counted.0 all.0 body.0 (count_positive (word ws 2) counted.0 counted.1) some body.1) body.2

  delay_kept : (n : ℕ) (ws : List Bytes) (r : Reading) → delay_line here n ws ≡ Ok r → IsKept r
  delay_kept n ws r h = either (version == 1) _ _ r h (values_kept (Delay 1) n ws r (λ vs is. one_well vs is)) (deep_kept n ws r)

  opening_kept : (s : Stage) (n : ℕ) (ws : List Bytes) (r : Reading) → ((w : Bytes) → open_name s (new_block (first_part s) w n) ≡ w ∷ [])
      → ((w : Bytes) → IsOpen s (new_block (first_part s) w n)) → opening_line s here n ws ≡ Ok r → IsKept r
  opening_kept s n ws r name_is well h =
      let form = passed (not (length ws == 2)) _ _ r h in
      let named = held (is_name (word ws 1)) _ _ r form.1 in
      opened_kept s n (new_block (first_part s) (word ws 1) n) r (name_is (word ws 1)) (well (word ws 1)) named.0 named.1

  repeat_kept : (n : ℕ) (ws : List Bytes) (r : Reading) → repeat_line here n ws ≡ Ok r → IsKept r
  repeat_kept n ws r h =
      let form = passed (not (length ws == 4)) _ _ r h in
      let named = held (is_name (word ws 1)) _ _ r form.1 in
      let def = held (is_name (word ws 3)) _ _ r named.1 in
      let counted = found (count_of (word ws 2)) _ _ r def.1 in
      let low = passed (is_above Copies counted.0) _ _ r counted.2 in
      opened_kept in_repeat n (record (new_block Inputs (word ws 1) n) { copies = counted.0; def = word ws 3 }) r refl
      (record { some = count_positive (word ws 2) counted.0 counted.1; most = at_most (bound_of Copies) counted.0 low.0; few = omega arith; named = All-nil IsName; distinct = tt }) named.0 low.1

  new_function : (n : ℕ) (w : Bytes) → IsOpen in_function (new_block Inputs w n)
  new_function n w = record { inputs = no_ports; outputs = no_ports; distinct = tt; formulas = All-nil (λ (o : Output). PortsBelow 0 o.formula); none_yet = λ e. refl }

  new_graph : (n : ℕ) (w : Bytes) → IsOpen in_graph (new_block Inputs w n)
  new_graph n w = record { inputs = no_ports; outputs = no_ports; distinct = tt; few = omega arith; named = All-nil (λ (r : Reference). IsName r.name); once = tt }

  new_switch : (n : ℕ) (w : Bytes) → IsOpen in_switch (new_block Conditioning w n)
  new_switch n w = record { named = λ e. cc; inputs = no_ports; outputs = no_ports; distinct = (tt, tt); few = omega arith; no_inputs = λ e. refl; no_outputs = λ e. refl }

  pub between_kept : (n : ℕ) (ws : List Bytes) (r : Reading) → between_line here n ws ≡ Ok r → IsKept r
  between_kept n ws r h =
      either (begins ws (codes "sensor")) _ _ r h (end_kept Sensor n ws r (λ len is. is)) (λ h1.
      either (begins ws (codes "actuator")) _ _ r h1 (end_kept Actuator n ws r (λ len is. is)) (λ h2.
      either (begins ws (codes "constant")) _ _ r h2 (values_kept Constant n ws r (λ vs is. is)) (λ h3.
      either (begins ws (codes "delay")) _ _ r h3 (delay_kept n ws r) (λ h4.
      either (begins ws (codes "function")) _ _ r h4 (opening_kept in_function n ws r (λ w. refl) (new_function n)) (λ h5.
      either (begins ws (codes "graph")) _ _ r h5 (opening_kept in_graph n ws r (λ w. refl) (new_graph n)) (λ h6.
      either (begins ws (codes "switch")) _ _ r h6 (opening_kept in_switch n ws r (λ w. refl) (new_switch n)) (λ h7.
      either (begins ws (codes "repeat")) _ _ r h7 (repeat_kept n ws r) (λ h8. never _ r h8))))))))
