-- Marks stand in version 3 alone, and their numbers are from 1 to 16.
use Rattle.std.proofs.Common.{
  ◌≡◌,
  ℕ,
  ◌+◌,
  ◌≤◌,
  ◌==◌,
  ◌||◌,
  not,
  nat_lt,
  nat_le,
  Bool,
  true,
  false,
  cond,
  Option,
  Some,
  None,
  Result,
  Ok,
  Err,
  List,
  [],
  ◌∷◌,
  ◌++◌,
  length,
  drop,
  refl,
  sym,
  ap,
  arith,
  subst,
  codes,
  bytes_eq,
  ℤ,
  ◌%◌,
  ◌/◌,
}
use Rattle.std.specs.Prelude.{All}
use Rattle.std.proofs.lemmas.List.Elements.{All-nil, All-push}
use Rattle.syn_base.specs.Name.{is_name}
use Rattle.syn_base.specs.declared.limits.LimitKind.TheVariants.{PortLength, Copies}
use Rattle.syn_base.specs.declared.limits.LimitKind.TheVariants as limits
use Rattle.text_lines.specs.Text.{lines_of, words_of, code_of, foreign_place, word, begins}
use Rattle.syn_base.specs.Bytes.{Bytes}
use Rattle.text_lines.specs.Refusals.{is_above}
use Rattle.algo_rules.specs.Refusals.{AlgoRefusal}
use Rattle.algo_rules.specs.declared.Def.{Def}
use Rattle.algo_rules.specs.declared.Defs.{Defs}
use Rattle.algo_rules.specs.declared.Body.{Body}
use Rattle.algo_rules.specs.declared.Body.TheVariants.{Sensor, Actuator, Constant, Delay, Function, Graph, Switch, Repeat}
use Rattle.algo_rules.specs.declared.Reference.{Reference}
use Rattle.algo_rules.specs.Among.{is_among}
use Rattle.algo_rules.specs.Words.{count_of, period_by, end_of}
use Rattle.algo_rules.specs.Parts.{is_whole}
use Rattle.algo_rules.specs.declared.Part.TheVariants.{Inputs}
use Rattle.algo_rules.specs.Blocks.{Block, new_block, in_line, out_line, result_line, reference_line, edge_line, on_line, case_line, otherwise_line, fork_line, diffuse_line, iterate_line, join_line}
use Rattle.algo_rules.specs.Text.{
  first_part,
  Stage,
  before_version,
  between,
  in_function,
  in_graph,
  in_switch,
  in_repeat,
  Reading,
  start,
  defined,
  end_line,
  values_line,
  deep_delay,
  deep_line,
  delay_line,
  opened,
  opening_line,
  repeat_line,
  between_line,
  in_block,
  block_end,
  function_line,
  graph_line,
  switch_line,
  frontier_line,
  version_of,
  version_line,
  numbers_of,
  by_stage,
  line_by,
  next_line,
  at_end,
  rest_of,
  definitions_of,
}
use Rattle.algo_rules.proofs.Checks.{either, equal, found, held, never, passed, read, same_ok}
use Rattle.algo_rules.proofs.References.{IsMark, ReferenceRead, reference_read}
use Rattle.algo_laws.specs.Periods.{IsPeriod, references_of, HasPeriods}
use Rattle.algo_laws.proofs.Checks.{count_positive}
use Rattle.algo_laws.proofs.AddedPorts.{InAdded, in_added, OutAdded, out_added}
use Rattle.algo_laws.proofs.Kept.{reading}

abbrev Bodies : ℕ → List Def → Type 0
Bodies version defs = All (λ d. HasPeriods version d.body) defs

abbrev OpenMarks : Stage → ℕ → List Def → Block → Type 0
OpenMarks before_version version defs b = defs ≡ []
OpenMarks between version defs b = Unit {0}
OpenMarks in_function version defs b = Unit {0}
OpenMarks in_graph version defs b = All (λ r. IsPeriod version r.every) b.references
OpenMarks in_switch version defs b = Unit {0}
OpenMarks in_repeat version defs b = Unit {0}

-- what was read so far
record Marked (s : Stage) (version : ℕ) (defs : List Def) (b : Block) : Type 0 where
  bodies : Bodies version defs
  still : OpenMarks s version defs b

abbrev AreMarked : Reading → Type 0
AreMarked r = Marked r.stage r.version r.defs r.block

at_most_16 : (n : ℕ) → nat_le n 16 ≡ true → n ≤ 16
at_most_16 n h = grind arith

period_kept : (m n : ℕ) (c : Bool) → nat_le m 16 ≡ c → 1 ≤ m → cond c (Some m) None ≡ Some n → (1 ≤ n) × (n ≤ 16)
period_kept m n true most some h =
    let same : m ≡ n = cc in
    let low : m ≤ 16 = at_most_16 m most in
    subst (λ (k : ℕ). (1 ≤ k) × (k ≤ 16)) same (some, low)
period_kept m n false most some h = cc

period_by_count : (w : Bytes) (n : ℕ) (o : Option ℕ) → count_of w ≡ o → period_by o ≡ Some n → (1 ≤ n) × (n ≤ 16)
period_by_count w n (Some m) counted h = period_kept m n (nat_le m 16) refl (count_positive w m counted) h
period_by_count w n None counted h = cc

mark_kept : (version : ℕ) (ws : List Bytes) (every : Option ℕ) → IsMark version ws every → IsPeriod version every
mark_kept version ws None h = tt
mark_kept version ws (Some n) h =
    let low = period_by_count (word ws 4) n (count_of (word ws 4)) refl h.1 in
    (equal version 3 h.0, low.0, low.1)

-- a definition without references
unmarked : (version : ℕ) (body : Body) → references_of body ≡ [] → HasPeriods version body
unmarked version body none = subst (λ (rs : List Reference). All (λ r. IsPeriod version r.every) rs) (sym none) (All-nil (λ (r : Reference). IsPeriod version r.every))

one_more : (version : ℕ) (defs : List Def) (d : Def) → Bodies version defs → HasPeriods version d.body → Bodies version (defs ++ d ∷ [])
one_more version defs d all one = All-push (λ (e : Def). HasPeriods version e.body) defs d all one

delay_unmarked : (n depth : ℕ) (vs : List ℤ) (body : Body) → deep_delay n depth vs ≡ Ok body → references_of body ≡ []
delay_unmarked n depth vs body h =
    let few = passed (is_above limits.Delay depth) _ _ body h in
    let whole = passed (not (length vs % depth == 0)) _ _ body few.1 in
    let short = passed (is_above PortLength (length vs / depth)) _ _ body whole.1 in
    ap references_of (sym (same_ok (Delay depth vs) body short.1))

module _ (version : ℕ) (names : List Bytes) (defs : List Def) (b : Block) (bodies : Bodies version defs) where
  abbrev here : Reading
  here = reading between version names defs b

  defined_marked : (n : ℕ) (w : Bytes) (body : Body) (r : Reading) → references_of body ≡ [] → defined here n w body ≡ Ok r → AreMarked r
  defined_marked n w body r none h =
      let new = passed (is_among w names) _ _ r h in
      subst (λ (q : Reading). AreMarked q) (same_ok _ r new.1)
      (record { bodies = one_more version defs (record { name = w; line = n; body = body }) bodies (unmarked version body none); still = tt })

  opened_marked : (s : Stage) (n : ℕ) (c : Block) (r : Reading) → OpenMarks s version defs c → opened s here n c ≡ Ok r → AreMarked r
  opened_marked s n c r marks h =
      let new = passed (is_among c.name names) _ _ r h in
      subst (λ (q : Reading). AreMarked q) (same_ok _ r new.1) (record { bodies = bodies; still = marks })

  end_marked : (body : ℕ → Body) (n : ℕ) (ws : List Bytes) (r : Reading) → ((len : ℕ) → references_of (body len) ≡ []) → end_line body here n ws ≡ Ok r → AreMarked r
  end_marked body n ws r none h =
      let form = passed (not (length ws == 3)) _ _ r h in
      let named = held (is_name (word ws 1)) _ _ r form.1 in
      let counted = found (count_of (word ws 2)) _ _ r named.1 in
      let low = passed (is_above PortLength counted.0) _ _ r counted.2 in
      defined_marked n (word ws 1) (body counted.0) r (none counted.0) low.1

  values_marked : (body : List ℤ → Body) (n : ℕ) (ws : List Bytes) (r : Reading) → ((vs : List ℤ) → references_of (body vs) ≡ []) → values_line body here n ws ≡ Ok r → AreMarked r
  values_marked body n ws r none h =
      let form = passed (nat_lt (length ws) 4 || not (bytes_eq (word ws 2) (codes "="))) _ _ r h in
      let named = held (is_name (word ws 1)) _ _ r form.1 in
      let all = read (numbers_of n (drop 3 ws)) _ r named.1 in
      let low = passed (is_above PortLength (length all.0)) _ _ r all.2 in
      defined_marked n (word ws 1) (body all.0) r (none all.0) low.1

  deep_marked : (n : ℕ) (ws : List Bytes) (r : Reading) → deep_line here n ws ≡ Ok r → AreMarked r
  deep_marked n ws r h =
      let form = passed (nat_lt (length ws) 5 || not (bytes_eq (word ws 3) (codes "="))) _ _ r h in
      let named = held (is_name (word ws 1)) _ _ r form.1 in
      let counted = found (count_of (word ws 2)) _ _ r named.1 in
      let all = read (numbers_of n (drop 4 ws)) _ r counted.2 in
      let body = read (deep_delay n counted.0 all.0) _ r all.2 in
      defined_marked n (word ws 1) body.0 r (delay_unmarked n counted.0 all.0 body.0 body.1) body.2

  delay_marked : (n : ℕ) (ws : List Bytes) (r : Reading) → delay_line here n ws ≡ Ok r → AreMarked r
  delay_marked n ws r h = either (version == 1) _ _ r h (values_marked (Delay 1) n ws r (λ vs. refl)) (deep_marked n ws r)

  opening_marked : (s : Stage) (n : ℕ) (ws : List Bytes) (r : Reading) → ((w : Bytes) → OpenMarks s version defs (new_block (first_part s) w n)) → opening_line s here n ws ≡ Ok r → AreMarked r
  opening_marked s n ws r marks h =
      let form = passed (not (length ws == 2)) _ _ r h in
      let named = held (is_name (word ws 1)) _ _ r form.1 in
      opened_marked s n (new_block (first_part s) (word ws 1) n) r (marks (word ws 1)) named.1

  repeat_marked : (n : ℕ) (ws : List Bytes) (r : Reading) → repeat_line here n ws ≡ Ok r → AreMarked r
  repeat_marked n ws r h =
      let form = passed (not (length ws == 4)) _ _ r h in
      let named = held (is_name (word ws 1)) _ _ r form.1 in
      let def = held (is_name (word ws 3)) _ _ r named.1 in
      let counted = found (count_of (word ws 2)) _ _ r def.1 in
      let low = passed (is_above Copies counted.0) _ _ r counted.2 in
      opened_marked in_repeat n (record (new_block Inputs (word ws 1) n) { copies = counted.0; def = word ws 3 }) r tt low.1

  between_marked : (n : ℕ) (ws : List Bytes) (r : Reading) → between_line here n ws ≡ Ok r → AreMarked r
  between_marked n ws r h =
      either (begins ws (codes "sensor")) _ _ r h (end_marked Sensor n ws r (λ len. refl)) (λ h1.
      either (begins ws (codes "actuator")) _ _ r h1 (end_marked Actuator n ws r (λ len. refl)) (λ h2.
      either (begins ws (codes "constant")) _ _ r h2 (values_marked Constant n ws r (λ vs. refl)) (λ h3.
      either (begins ws (codes "delay")) _ _ r h3 (delay_marked n ws r) (λ h4.
      either (begins ws (codes "function")) _ _ r h4 (opening_marked in_function n ws r (λ w. tt)) (λ h5.
      either (begins ws (codes "graph")) _ _ r h5 (opening_marked in_graph n ws r (λ w. All-nil (λ (q : Reference). IsPeriod version q.every))) (λ h6.
      either (begins ws (codes "switch")) _ _ r h6 (opening_marked in_switch n ws r (λ w. tt)) (λ h7.
      either (begins ws (codes "repeat")) _ _ r h7 (repeat_marked n ws r) (λ h8. never _ r h8))))))))

  -- a line of the open block, and the line that ends it
  block_marked : (s : Stage) (x : Result Block AlgoRefusal) (r : Reading) → ((after : Block) → x ≡ Ok after → OpenMarks s version defs after)
      → in_block (reading s version names defs b) x ≡ Ok r → AreMarked r
  block_marked s (Ok after) r marks h = subst (λ (q : Reading). AreMarked q) (same_ok (reading s version names defs after) r h) (record { bodies = bodies; still = marks after refl })
  block_marked s (Err e) r marks h = never e r h

  closed_marked : (s : Stage) (whole : Bool) (body : Body) (n : ℕ) (ws : List Bytes) (r : Reading) → HasPeriods version body
      → block_end whole body (reading s version names defs b) n ws ≡ Ok r → AreMarked r
  closed_marked s whole body n ws r marks h =
      let form = passed (not (length ws == 1) || not whole) _ _ r h in
      subst (λ (q : Reading). AreMarked q) (same_ok _ r form.1)
      (record { bodies = one_more version defs (record { name = b.name; line = b.line; body = body }) bodies marks; still = tt })

  function_marked : (n : ℕ) (ws : List Bytes) (code : Bytes) (r : Reading) → function_line (reading in_function version names defs b) n ws code ≡ Ok r → AreMarked r
  function_marked n ws code r h =
      either (begins ws (codes "in")) _ _ r h (block_marked in_function (in_line b n ws) r (λ after e. tt)) (λ h1.
      either (begins ws (codes "out")) _ _ r h1 (block_marked in_function (result_line b n code) r (λ after e. tt)) (λ h2.
      either (begins ws (codes "end")) _ _ r h2
      (closed_marked in_function (nat_lt 0 (length b.results)) (Function b.ins b.results) n ws r
      (unmarked version (Function b.ins b.results) refl)) (λ h3. never _ r h3)))

  switch_marked : (n : ℕ) (ws : List Bytes) (r : Reading) → switch_line (reading in_switch version names defs b) n ws ≡ Ok r → AreMarked r
  switch_marked n ws r h =
      either (begins ws (codes "on")) _ _ r h (block_marked in_switch (on_line b n ws) r (λ after e. tt)) (λ h1.
      either (begins ws (codes "in")) _ _ r h1 (block_marked in_switch (in_line b n ws) r (λ after e. tt)) (λ h2.
      either (begins ws (codes "out")) _ _ r h2 (block_marked in_switch (out_line b n ws) r (λ after e. tt)) (λ h3.
      either (begins ws (codes "case")) _ _ r h3 (block_marked in_switch (case_line b n ws) r (λ after e. tt)) (λ h4.
      either (begins ws (codes "otherwise")) _ _ r h4 (block_marked in_switch (otherwise_line b n ws) r (λ after e. tt)) (λ h5.
      either (begins ws (codes "end")) _ _ r h5 (closed_marked in_switch (is_whole b.part) (Switch b.on b.ins b.outs b.cases b.otherwise b.otherwise_line) n ws r
      (unmarked version (Switch b.on b.ins b.outs b.cases b.otherwise b.otherwise_line) refl)) (λ h6. never _ r h6))))))

  frontier_marked : (n : ℕ) (ws : List Bytes) (r : Reading) → frontier_line (reading in_repeat version names defs b) n ws ≡ Ok r → AreMarked r
  frontier_marked n ws r h =
      either (begins ws (codes "fork")) _ _ r h (block_marked in_repeat (fork_line b n ws) r (λ after e. tt)) (λ h1.
      either (begins ws (codes "diffuse")) _ _ r h1 (block_marked in_repeat (diffuse_line b n ws) r (λ after e. tt)) (λ h2.
      either (begins ws (codes "iterate")) _ _ r h2 (block_marked in_repeat (iterate_line b n ws) r (λ after e. tt)) (λ h3.
      either (begins ws (codes "join")) _ _ r h3 (block_marked in_repeat (join_line b n ws) r (λ after e. tt)) (λ h4.
      either (begins ws (codes "end")) _ _ r h4
      (closed_marked in_repeat true (Repeat b.copies b.def b.frontier) n ws r
      (unmarked version (Repeat b.copies b.def b.frontier) refl)) (λ h5. never _ r h5)))))

  version_marked : defs ≡ [] → (n : ℕ) (ws : List Bytes) (r : Reading) → version_line (reading before_version version names defs b) n ws ≡ Ok r → AreMarked r
  version_marked none n ws r h =
      let form = passed (not (length ws == 2) || not (begins ws (codes "algorithm"))) _ _ r h in
      let some = found (version_of (word ws 1)) _ _ r form.1 in
      subst (λ (q : Reading). AreMarked q) (same_ok _ r some.2)
      (record { bodies = subst (λ (ds : List Def). Bodies some.0 ds) (sym none) (All-nil (λ (d : Def). HasPeriods some.0 d.body)); still = tt })

  -- lines of a graph
  module _ (marks : All (λ r. IsPeriod version r.every) b.references) where
    abbrev Still : List Reference → Type 0
    Still rs = All (λ r. IsPeriod version r.every) rs

    same_marks : (after : Block) → b.references ≡ after.references → Still after.references
    same_marks after is = subst (λ (rs : List Reference). Still rs) is marks

    input_marks : (n : ℕ) (ws : List Bytes) (after : Block) → in_line b n ws ≡ Ok after → Still after.references
    input_marks n ws after h = let a : InAdded b after = in_added b n ws after h in same_marks after (ap (λ (c : Block). c.references) a.is)

    output_marks : (n : ℕ) (ws : List Bytes) (after : Block) → out_line b n ws ≡ Ok after → Still after.references
    output_marks n ws after h = let a : OutAdded b after = out_added b n ws after h in same_marks after (ap (λ (c : Block). c.references) a.is)

    reference_marks : (n : ℕ) (ws : List Bytes) (after : Block) → reference_line version b n ws ≡ Ok after → Still after.references
    reference_marks n ws after h =
        let x : ReferenceRead version b n ws after = reference_read version b n ws after h in
        let new : Reference = record { name = word ws 1; def = word ws 2; every = x.every; line = n } in
        subst (λ (rs : List Reference). Still rs) (ap (λ (c : Block). c.references) x.after_is)
        (All-push (λ (r : Reference). IsPeriod version r.every) b.references new marks (mark_kept version ws x.every x.mark))

    edge_marks : (n : ℕ) (ws : List Bytes) (after : Block) → edge_line b n ws ≡ Ok after → Still after.references
    edge_marks n ws after h =
        let form = passed (not (length ws == 3)) _ _ after h in
        let from = found (end_of (word ws 1)) _ _ after form.1 in
        let to = found (end_of (word ws 2)) _ _ after from.2 in
        same_marks after (ap (λ (c : Block). c.references) (same_ok _ after to.2))

    graph_marked : (n : ℕ) (ws : List Bytes) (r : Reading) → graph_line (reading in_graph version names defs b) n ws ≡ Ok r → AreMarked r
    graph_marked n ws r h =
        either (begins ws (codes "in")) _ _ r h (block_marked in_graph (in_line b n ws) r (input_marks n ws)) (λ h1.
        either (begins ws (codes "out")) _ _ r h1 (block_marked in_graph (out_line b n ws) r (output_marks n ws)) (λ h2.
        either (begins ws (codes "ref")) _ _ r h2 (block_marked in_graph (reference_line version b n ws) r (reference_marks n ws)) (λ h3.
        either (begins ws (codes "edge")) _ _ r h3 (block_marked in_graph (edge_line b n ws) r (edge_marks n ws)) (λ h4.
        either (begins ws (codes "end")) _ _ r h4 (closed_marked in_graph true (Graph b.ins b.outs b.references b.edges) n ws r marks) (λ h5. never _ r h5)))))

words_marked : (s : Stage) (version : ℕ) (names : List Bytes) (defs : List Def) (b : Block) → Marked s version defs b → (n : ℕ) (ws : List Bytes) (code : Bytes) (r : Reading)
    → by_stage s (reading s version names defs b) n ws code ≡ Ok r → AreMarked r
words_marked before_version version names defs b m n ws code r h = version_marked version names defs b m.bodies m.still n ws r h
words_marked between version names defs b m n ws code r h = between_marked version names defs b m.bodies n ws r h
words_marked in_function version names defs b m n ws code r h = function_marked version names defs b m.bodies n ws code r h
words_marked in_graph version names defs b m n ws code r h = graph_marked version names defs b m.bodies m.still n ws r h
words_marked in_switch version names defs b m n ws code r h = switch_marked version names defs b m.bodies n ws r h
words_marked in_repeat version names defs b m n ws code r h = frontier_marked version names defs b m.bodies n ws r h

line_marked : (r after : Reading) (n : ℕ) (line : Bytes) (o : Option ℕ) → AreMarked r → line_by r n line o ≡ Ok after → AreMarked after
line_marked r after n line (Some place) m h = never _ after h
line_marked r after n line None m h =
    either (length (words_of (code_of line)) == 0) _ _ after h (λ g. subst (λ (q : Reading). AreMarked q) (same_ok r after g) m)
    (words_marked r.stage r.version r.names r.defs r.block m n (words_of (code_of line)) (code_of line) after)

abbrev HavePeriods : Defs → Type 0
HavePeriods ds = All (λ d. HasPeriods ds.version d.body) ds.defs

end_marks : (s : Stage) (version : ℕ) (defs : List Def) (ds : Defs) (b : Block) (n : ℕ) → Marked s version defs b → at_end s (record { version = version; defs = defs }) n ≡ Ok ds → HavePeriods ds
end_marks before_version version defs ds b n m h = never _ ds h
end_marks in_function version defs ds b n m h = never _ ds h
end_marks in_graph version defs ds b n m h = never _ ds h
end_marks in_switch version defs ds b n m h = never _ ds h
end_marks in_repeat version defs ds b n m h = never _ ds h
end_marks between version defs ds b n m h = subst (λ (es : Defs). HavePeriods es) (same_ok (record { version = version; defs = defs }) ds h) m.bodies

rest_marked : (lines : List Bytes) (r : Reading) (n : ℕ) (ds : Defs) → AreMarked r → rest_of r n lines ≡ Ok ds → HavePeriods ds
rest_marked [] r n ds m h = end_marks r.stage r.version r.defs ds r.block n m h
rest_marked (line ∷ lines) r n ds m h =
    let one = read (next_line r n line) (λ after. rest_of after (n + 1) lines) ds h in
    rest_marked lines one.0 (n + 1) ds (line_marked r one.0 n line (foreign_place line) m one.1) one.2

pub accepted_marked : (text : Bytes) (ds : Defs) → definitions_of text ≡ Ok ds → HavePeriods ds
accepted_marked text ds h = rest_marked (lines_of text) start 1 ds (record { bodies = All-nil (λ (d : Def). HasPeriods 0 d.body); still = refl }) h
