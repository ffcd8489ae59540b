-- Each line adds at most one definition.
use Rattle.std.proofs.Common.{
  ◌≡◌,
  ℕ,
  ◌+◌,
  ◌≤◌,
  ◌==◌,
  Bool,
  not,
  ◌||◌,
  nat_lt,
  true,
  Option,
  Some,
  None,
  Result,
  Ok,
  Err,
  List,
  [],
  ◌∷◌,
  ◌++◌,
  length,
  drop,
  ap,
  arith,
  subst,
  length-append,
  codes,
  bytes_eq,
  ℤ,
}
use Rattle.syn_base.specs.Name.{is_name}
use Rattle.text_lines.specs.Text.{lines_of, words_of, code_of, foreign_place, word, begins}
use Rattle.syn_base.specs.Bytes.{Bytes}
use Rattle.syn_base.specs.declared.limits.LimitKind.TheVariants.{PortLength, Copies}
use Rattle.text_lines.specs.Refusals.{is_above}
use Rattle.algo_rules.specs.Refusals.{AlgoRefusal}
use Rattle.algo_rules.specs.declared.Def.{Def}
use Rattle.algo_rules.specs.declared.Defs.{Defs}
use Rattle.algo_rules.specs.declared.Body.{Body}
use Rattle.algo_rules.specs.declared.Body.TheVariants.{Sensor, Actuator, Constant, Delay, Function, Graph, Switch, Repeat}
use Rattle.algo_rules.specs.Among.{is_among}
use Rattle.algo_rules.specs.Words.{count_of}
use Rattle.algo_rules.specs.Parts.{is_whole}
use Rattle.algo_rules.specs.declared.Part.TheVariants.{Inputs}
use Rattle.algo_rules.specs.Blocks.{Block, new_block, in_line, out_line, result_line, reference_line, edge_line, on_line, case_line, otherwise_line, fork_line, diffuse_line, iterate_line, join_line}
use Rattle.algo_rules.specs.Text.{
  first_part,
  Stage,
  before_version,
  between,
  in_function,
  in_graph,
  in_switch,
  in_repeat,
  Reading,
  start,
  defined,
  end_line,
  values_line,
  deep_delay,
  deep_line,
  delay_line,
  opened,
  opening_line,
  repeat_line,
  between_line,
  in_block,
  block_end,
  function_line,
  graph_line,
  switch_line,
  frontier_line,
  version_of,
  version_line,
  numbers_of,
  by_stage,
  line_by,
  next_line,
  at_end,
  defs_in,
  rest_of,
  definitions_of,
}
use Rattle.algo_rules.proofs.Checks.{passed, held, found, read, either, never, same_ok}

-- what was read after a line has at most one definition more
abbrev Grows : Reading → Reading → Type 0
Grows r q = length q.defs ≤ length r.defs + 1

module _ (r : Reading) where
  same_grows : (q after : Reading) → length q.defs ≤ length r.defs + 1 → q ≡ after → Grows r after
  same_grows q after few is = subst (λ (x : Reading). Grows r x) is few

  as_many : length r.defs ≤ length r.defs + 1
  as_many = omega arith

  one_more : (d : Def) → length (r.defs ++ d ∷ []) ≤ length r.defs + 1
  one_more d = omega (arith, length-append r.defs (d ∷ []))

  defined_grows : (n : ℕ) (w : Bytes) (body : Body) (q : Reading) → defined r n w body ≡ Ok q → Grows r q
  defined_grows n w body q h =
      let new = passed (is_among w r.names) _ _ q h in
      same_grows _ q (one_more (record { name = w; line = n; body = body })) (same_ok _ q new.1)

  opened_grows : (s : Stage) (n : ℕ) (b : Block) (q : Reading) → opened s r n b ≡ Ok q → Grows r q
  opened_grows s n b q h = let new = passed (is_among b.name r.names) _ _ q h in same_grows _ q as_many (same_ok _ q new.1)

  end_grows : (body : ℕ → Body) (n : ℕ) (ws : List Bytes) (q : Reading) → end_line body r n ws ≡ Ok q → Grows r q
  end_grows body n ws q h =
      let form = passed (not (length ws == 3)) _ _ q h in
      let named = held (is_name (word ws 1)) _ _ q form.1 in
      let counted = found (count_of (word ws 2)) _ _ q named.1 in
      let low = passed (is_above PortLength counted.0) _ _ q counted.2 in
      defined_grows n (word ws 1) (body counted.0) q low.1

  values_grows : (body : List ℤ → Body) (n : ℕ) (ws : List Bytes) (q : Reading) → values_line body r n ws ≡ Ok q → Grows r q
  values_grows body n ws q h =
      let form = passed (nat_lt (length ws) 4 || not (bytes_eq (word ws 2) (codes "="))) _ _ q h in
      let named = held (is_name (word ws 1)) _ _ q form.1 in
      let all = read (numbers_of n (drop 3 ws)) _ q named.1 in
      let low = passed (is_above PortLength (length all.0)) _ _ q all.2 in
      defined_grows n (word ws 1) (body all.0) q low.1

  deep_grows : (n : ℕ) (ws : List Bytes) (q : Reading) → deep_line r n ws ≡ Ok q → Grows r q
  deep_grows n ws q h =
      let form = passed (nat_lt (length ws) 5 || not (bytes_eq (word ws 3) (codes "="))) _ _ q h in
      let named = held (is_name (word ws 1)) _ _ q form.1 in
      let counted = found (count_of (word ws 2)) _ _ q named.1 in
      let all = read (numbers_of n (drop 4 ws)) _ q counted.2 in
      let body = read (deep_delay n counted.0 all.0) _ q all.2 in
      defined_grows n (word ws 1) body.0 q body.2

  delay_grows : (n : ℕ) (ws : List Bytes) (q : Reading) → delay_line r n ws ≡ Ok q → Grows r q
  delay_grows n ws q h = either (r.version == 1) _ _ q h (values_grows (Delay 1) n ws q) (deep_grows n ws q)

  opening_grows : (s : Stage) (n : ℕ) (ws : List Bytes) (q : Reading) → opening_line s r n ws ≡ Ok q → Grows r q
  opening_grows s n ws q h =
      let form = passed (not (length ws == 2)) _ _ q h in
      let named = held (is_name (word ws 1)) _ _ q form.1 in
      opened_grows s n (new_block (first_part s) (word ws 1) n) q named.1

  repeat_grows : (n : ℕ) (ws : List Bytes) (q : Reading) → repeat_line r n ws ≡ Ok q → Grows r q
  repeat_grows n ws q h =
      let form = passed (not (length ws == 4)) _ _ q h in
      let named = held (is_name (word ws 1)) _ _ q form.1 in
      let def = held (is_name (word ws 3)) _ _ q named.1 in
      let counted = found (count_of (word ws 2)) _ _ q def.1 in
      let low = passed (is_above Copies counted.0) _ _ q counted.2 in
      opened_grows in_repeat n (record (new_block Inputs (word ws 1) n) { copies = counted.0; def = word ws 3 }) q low.1

  between_grows : (n : ℕ) (ws : List Bytes) (q : Reading) → between_line r n ws ≡ Ok q → Grows r q
  between_grows n ws q h =
      either (begins ws (codes "sensor")) _ _ q h (end_grows Sensor n ws q) (λ h1.
      either (begins ws (codes "actuator")) _ _ q h1 (end_grows Actuator n ws q) (λ h2.
      either (begins ws (codes "constant")) _ _ q h2 (values_grows Constant n ws q) (λ h3.
      either (begins ws (codes "delay")) _ _ q h3 (delay_grows n ws q) (λ h4.
      either (begins ws (codes "function")) _ _ q h4 (opening_grows in_function n ws q) (λ h5.
      either (begins ws (codes "graph")) _ _ q h5 (opening_grows in_graph n ws q) (λ h6.
      either (begins ws (codes "switch")) _ _ q h6 (opening_grows in_switch n ws q) (λ h7.
      either (begins ws (codes "repeat")) _ _ q h7 (repeat_grows n ws q) (λ h8. never _ q h8))))))))

  -- a line of the open block adds none, and its end one
  block_grows : (b : Result Block AlgoRefusal) (q : Reading) → in_block r b ≡ Ok q → Grows r q
  block_grows (Ok b) q h = same_grows _ q as_many (same_ok _ q h)
  block_grows (Err e) q h = never _ q h

  closed_grows : (whole : Bool) (body : Body) (n : ℕ) (ws : List Bytes) (q : Reading) → block_end whole body r n ws ≡ Ok q → Grows r q
  closed_grows whole body n ws q h =
      let form = passed (not (length ws == 1) || not whole) _ _ q h in
      same_grows _ q (one_more (record { name = r.block.name; line = r.block.line; body = body })) (same_ok _ q form.1)

  function_grows : (n : ℕ) (ws : List Bytes) (code : Bytes) (q : Reading) → function_line r n ws code ≡ Ok q → Grows r q
  function_grows n ws code q h =
      either (begins ws (codes "in")) _ _ q h (block_grows (in_line r.block n ws) q) (λ h1.
      either (begins ws (codes "out")) _ _ q h1 (block_grows (result_line r.block n code) q) (λ h2.
      either (begins ws (codes "end")) _ _ q h2 (closed_grows (nat_lt 0 (length r.block.results)) (Function r.block.ins r.block.results) n ws q) (λ h3. never _ q h3)))

  graph_grows : (n : ℕ) (ws : List Bytes) (q : Reading) → graph_line r n ws ≡ Ok q → Grows r q
  graph_grows n ws q h =
      either (begins ws (codes "in")) _ _ q h (block_grows (in_line r.block n ws) q) (λ h1.
      either (begins ws (codes "out")) _ _ q h1 (block_grows (out_line r.block n ws) q) (λ h2.
      either (begins ws (codes "ref")) _ _ q h2 (block_grows (reference_line r.version r.block n ws) q) (λ h3.
      either (begins ws (codes "edge")) _ _ q h3 (block_grows (edge_line r.block n ws) q) (λ h4.
      either (begins ws (codes "end")) _ _ q h4 (closed_grows true (Graph r.block.ins r.block.outs r.block.references r.block.edges) n ws q) (λ h5. never _ q h5)))))

  switch_grows : (n : ℕ) (ws : List Bytes) (q : Reading) → switch_line r n ws ≡ Ok q → Grows r q
  switch_grows n ws q h =
      either (begins ws (codes "on")) _ _ q h (block_grows (on_line r.block n ws) q) (λ h1.
      either (begins ws (codes "in")) _ _ q h1 (block_grows (in_line r.block n ws) q) (λ h2.
      either (begins ws (codes "out")) _ _ q h2 (block_grows (out_line r.block n ws) q) (λ h3.
      either (begins ws (codes "case")) _ _ q h3 (block_grows (case_line r.block n ws) q) (λ h4.
      either (begins ws (codes "otherwise")) _ _ q h4 (block_grows (otherwise_line r.block n ws) q) (λ h5.
      either (begins ws (codes "end")) _ _ q h5
      (closed_grows (is_whole r.block.part)
      (Switch r.block.on r.block.ins r.block.outs r.block.cases r.block.otherwise r.block.otherwise_line) n ws q) (λ h6. never _ q h6))))))

  frontier_grows : (n : ℕ) (ws : List Bytes) (q : Reading) → frontier_line r n ws ≡ Ok q → Grows r q
  frontier_grows n ws q h =
      either (begins ws (codes "fork")) _ _ q h (block_grows (fork_line r.block n ws) q) (λ h1.
      either (begins ws (codes "diffuse")) _ _ q h1 (block_grows (diffuse_line r.block n ws) q) (λ h2.
      either (begins ws (codes "iterate")) _ _ q h2 (block_grows (iterate_line r.block n ws) q) (λ h3.
      either (begins ws (codes "join")) _ _ q h3 (block_grows (join_line r.block n ws) q) (λ h4.
      either (begins ws (codes "end")) _ _ q h4 (closed_grows true (Repeat r.block.copies r.block.def r.block.frontier) n ws q) (λ h5. never _ q h5)))))

  version_grows : (n : ℕ) (ws : List Bytes) (q : Reading) → version_line r n ws ≡ Ok q → Grows r q
  version_grows n ws q h =
      let form = passed (not (length ws == 2) || not (begins ws (codes "algorithm"))) _ _ q h in
      let some = found (version_of (word ws 1)) _ _ q form.1 in
      same_grows _ q as_many (same_ok _ q some.2)

  words_grow : (s : Stage) (n : ℕ) (ws : List Bytes) (code : Bytes) (q : Reading) → by_stage s r n ws code ≡ Ok q → Grows r q
  words_grow before_version n ws code q h = version_grows n ws q h
  words_grow between n ws code q h = between_grows n ws q h
  words_grow in_function n ws code q h = function_grows n ws code q h
  words_grow in_graph n ws code q h = graph_grows n ws q h
  words_grow in_switch n ws code q h = switch_grows n ws q h
  words_grow in_repeat n ws code q h = frontier_grows n ws q h

  line_grows : (n : ℕ) (line : Bytes) (o : Option ℕ) (q : Reading) → line_by r n line o ≡ Ok q → Grows r q
  line_grows n line (Some place) q h = never _ q h
  line_grows n line None q h =
      either (length (words_of (code_of line)) == 0) _ _ q h (λ g. same_grows r q as_many (same_ok r q g))
      (words_grow r.stage n (words_of (code_of line)) (code_of line) q)

end_few : (s : Stage) (defs ds : Defs) (n : ℕ) → at_end s defs n ≡ Ok ds → length ds.defs ≤ length defs.defs
end_few between defs ds n h = let same = ap (λ (es : Defs). length es.defs) (same_ok defs ds h) in omega (arith, same)
end_few before_version defs ds n h = never _ ds h
end_few in_function defs ds n h = never _ ds h
end_few in_graph defs ds n h = never _ ds h
end_few in_switch defs ds n h = never _ ds h
end_few in_repeat defs ds n h = never _ ds h

rest_few : (lines : List Bytes) (r : Reading) (n : ℕ) (ds : Defs) → rest_of r n lines ≡ Ok ds → length ds.defs ≤ length r.defs + length lines
rest_few [] r n ds h = omega (arith, end_few r.stage (defs_in r) ds n h)
rest_few (line ∷ lines) r n ds h =
    let one = read (next_line r n line) (λ after. rest_of after (n + 1) lines) ds h in
    omega (arith, line_grows r n line (foreign_place line) one.0 one.1, rest_few lines one.0 (n + 1) ds one.2)

pub accepted_few : (text : Bytes) (ds : Defs) → definitions_of text ≡ Ok ds → length ds.defs ≤ length (lines_of text)
accepted_few text ds h = omega (arith, rest_few (lines_of text) start 1 ds h)
