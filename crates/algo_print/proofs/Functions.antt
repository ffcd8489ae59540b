-- Lines of functions add canonical lines.
use Rattle.std.proofs.Common.{
  ◌≡◌,
  ℕ,
  ◌+◌,
  ◌≤◌,
  ◌==◌,
  not,
  ◌||◌,
  true,
  nat_lt,
  List,
  [],
  ◌∷◌,
  ◌++◌,
  length,
  map,
  take,
  drop,
  position,
  Option,
  Some,
  None,
  Ok,
  refl,
  ap,
  ap₂,
  sym,
  ◌∙◌,
  subst,
  codes,
  append_assoc,
  append-nil,
}
use Rattle.std.specs.Prelude.{All}
use Rattle.std.specs.List.{list_all}
use Rattle.std.proofs.lemmas.List.{map-append, take_at, drop_at, length-append}
use Rattle.std.proofs.lemmas.List.Elements.{All-append, All-cons, All-nil}
use Rattle.syn_base.specs.Name.{is_name_byte}
use Rattle.text_lines.specs.Text.{words_of, word, begins, count_text}
use Rattle.body_text.specs.Tokens.{Token, tokens}
use Rattle.body_text.specs.Reads.{IsBody}
use Rattle.body_text.specs.Canonical.{canonical, IsRead}
use Rattle.body_text.proofs.CanonicalTokens.{without_places}
use Rattle.body_text.proofs.CanonicalReads.{reads_back}
use Rattle.algo_text.specs.Expr.{Expr}
use Rattle.algo_text.specs.declared.definition.Def.{Def}
use Rattle.algo_text.specs.declared.definition.Output.{Output}
use Rattle.algo_text.specs.declared.definition.Body.TheVariants.{Function}
use Rattle.syn_base.specs.Bytes.{Bytes}
use Rattle.algo_text.specs.Formulas.{formula_of}
use Rattle.algo_text.specs.Blocks.{Block, in_line, is_taken, is_equals, result_words, result_at, result_line, with_result}
use Rattle.algo_text.specs.Text.{in_function, Reading, in_block, block_end, function_line}
use Rattle.text_lines.specs.Refusals.{and_then}
use Rattle.algo_text.proofs.Checks.{either, neither, never, not_false, passed, passes, read, reads, same_ok}
use Rattle.algo_text.specs.declared.part.Part.TheVariants.{Outputs}
use Rattle.algo_text.specs.Parts.{admits}
use Rattle.syn_base.specs.declared.limits.LimitKind.TheVariants.{Tokens}
use Rattle.syn_base.specs.Limits.{bound_of}
use Rattle.algo_text.specs.Grammatical.{IsFormula}
use Rattle.algo_text.proofs.Judged.{formula_law}
use Rattle.algo_text.proofs.Grammars.{body_formula}
use Rattle.algo_print.specs.Canonical.{spaced, joined, port_words, output_words, function_lines}
use Rattle.algo_print.proofs.Pieces as pieces
use Rattle.algo_print.proofs.Pieces.{is_word, are_words, and_true, joins, words_then, first_stands}
use Rattle.algo_print.proofs.Spelled.{name_word, name_bytes, count_word, count_bytes, name_byte_no_equals, expression_word}
use Rattle.algo_print.proofs.State.{Lines, FunctionOrder, Numbered, numbered_block, numbered, AreSame, Adds}
use Rattle.algo_print.proofs.BlockLines.{in_front, behind, IntoBlock, into_block, alike, block_adds, end_adds, port_read, port_again, taken_same, InRead, in_read}

-- an expression that a line has is what its text is
formula_body : (n : ℕ) (names : List Bytes) (text : Bytes) (e : Expr) → formula_of n names text ≡ Ok e → IsBody names text e
formula_body n names text e h = let is : IsFormula names text n (Ok e) = (formula_law n names text (Ok e)).0 h in is

-- a blank in front of an expression says nothing
behind_blank : (names : List Bytes) (text : Bytes) (e : Expr) → IsBody names text e → IsBody names (32 ∷ text) e
behind_blank names text e h =
    let same : tokens (32 ∷ text) ≡ tokens text = without_places 0 0 (32 ∷ text) ∙ sym (without_places 0 0 text) in
    record {
      few = subst (λ (ts : List Token). length ts ≤ bound_of Tokens) (sym same) h.few;
      tree = h.tree;
      grammar = (h.grammar.0, same ∙ h.grammar.1);
      known = h.known;
      is = h.is;
    }

-- the bytes of an output's line before its `=`
abbrev output_front : Bytes → Bytes → Bytes
output_front w len = codes "out" ++ (spaced (w ∷ len ∷ []) ++ 32 ∷ [])

front_is : (w len e : Bytes) → joined (codes "out" ∷ w ∷ len ∷ codes "=" ∷ e ∷ []) ≡ output_front w len ++ 61 ∷ 32 ∷ e
front_is w len e = simp (append_assoc, append-nil) refl

no_equals : (w len : Bytes) → list_all is_name_byte w ≡ true → list_all is_name_byte len ≡ true → list_all (λ b. not (is_equals b)) (output_front w len) ≡ true
no_equals w len h g =
    let each : (v : Bytes) → list_all is_name_byte v ≡ true → list_all (λ b. not (is_equals b)) v ≡ true = λ v f. pieces.passes is_name_byte (λ b. not (is_equals b)) name_byte_no_equals v f in
    joins (λ b. not (is_equals b)) (w ++ 32 ∷ (len ++ [])) (32 ∷ [])
    (joins (λ b. not (is_equals b)) w (32 ∷ (len ++ [])) (each w h) (joins (λ b. not (is_equals b)) len [] (each len g) refl)) refl

drop_behind : (front rest : Bytes) (b : ℕ) → drop (length front + 1) (front ++ b ∷ rest) ≡ rest
drop_behind front rest b =
    ap (drop (length front + 1)) (sym (append_assoc front (b ∷ []) rest)) ∙ drop_at (front ++ b ∷ []) rest (length front + 1) (length-append front (b ∷ []))

-- An output's line is cut at its `=`.
cut_line : (b : Block) (m : ℕ) (w len e : Bytes) → is_word w ≡ true → is_word len ≡ true → list_all is_name_byte w ≡ true → list_all is_name_byte len ≡ true
    → result_line b m (joined (codes "out" ∷ w ∷ len ∷ codes "=" ∷ e ∷ [])) ≡ result_words b m (codes "out" ∷ w ∷ len ∷ []) (32 ∷ e)
cut_line b m w len e w_word len_word h g =
    let front : Bytes = output_front w len in
    let code : Bytes = front ++ 61 ∷ 32 ∷ e in
    ap (λ (c : Bytes). result_at b m c (position is_equals c)) (front_is w len e)
    ∙ ap (result_at b m code) (first_stands is_equals front (32 ∷ e) 61 (no_equals w len h g) refl)
    ∙ ap₂ (λ (t d : Bytes). result_words b m (words_of t) d) (take_at front (61 ∷ 32 ∷ e) (length front) refl) (drop_behind front (32 ∷ e) 61)
    ∙ ap (λ (ws : List Bytes). result_words b m ws (32 ∷ e)) (words_then (codes "out") (w ∷ len ∷ []) [] (and_true (is_word w) _ w_word (and_true (is_word len) true len_word refl)))

abbrev with_output : Block → Output → Block
with_output b o = record b { part = Outputs; results = b.results ++ o ∷ [] }

-- a line of an output that is accepted, and accepted again
record ResultRead (b after : Block) : Type 0 where
  output : Output
  at : admits b.part Outputs ≡ true
  printable : IsRead (map (λ p. p.name) b.ins) output.formula
  after_is : with_output b output ≡ after
  plain : are_words (output_words b.ins output) ≡ true
  again : (k : Numbered) (defs : List Def) (m : ℕ) → AreSame k defs b → result_line (numbered_block k b) m (joined (output_words b.ins output)) ≡ Ok (numbered_block k (with_output b output))

found_at : (b : Block) (n : ℕ) (code : Bytes) (o : Option ℕ) (after : Block) → result_at b n code o ≡ Ok after → (ws : List Bytes) × ((text : Bytes) × (result_words b n ws text ≡ Ok after))
found_at b n code None after h = cc
found_at b n code (Some at) after h = (words_of (take at code), (drop (at + 1) code, h))

result_read : (b : Block) (n : ℕ) (code : Bytes) (after : Block) → result_line b n code ≡ Ok after → ResultRead b after
result_read b n code after h =
    let line = found_at b n code (position is_equals code) after h in
    let ws : List Bytes = line.0 in
    let text : Bytes = line.1.0 in
    let names : List Bytes = map (λ p. p.name) b.ins in
    let w : Bytes = word ws 1 in
    let form = passed (not (length ws == 3) || not (admits b.part Outputs)) _ _ after line.1.1 in
    let order = neither (not (length ws == 3)) (not (admits b.part Outputs)) form.0 in
    let p = port_read n (length b.results) ws (λ q. and_then (formula_of n names text) (with_result b n q)) after form.1 in
    let formula = read (formula_of n names text) _ after p.then in
    let e : Expr = formula.0 in
    let free = passed (is_taken b w) _ _ after formula.2 in
    let is : IsRead names e = (text, formula_body n names text e formula.1) in
    let o : Output = record { port = record { name = w; len = p.len }; formula = e } in
    record {
      output = o;
      at = not_false (admits b.part Outputs) order.1;
      printable = is;
      after_is = same_ok _ after free.1;
      plain = and_true (is_word w) _ (name_word w p.named)
          (and_true (is_word (count_text p.len)) _ (count_word p.len p.low) (and_true (is_word (canonical names e)) true (expression_word names e is) refl));
      again = λ k defs m same.
          cut_line (numbered_block k b) m w (count_text p.len) (canonical names e) (name_word w p.named) (count_word p.len p.low) (name_bytes w p.named) (count_bytes p.len p.low)
          ∙ passes _ _ _ _ order.1
          (port_again m (length b.results) p.len (codes "out") w (λ q. and_then (formula_of m names (32 ∷ canonical names e)) (with_result (numbered_block k b) m q)) _ p.named p.few p.some p.low
          (reads _ _ _ e (body_formula m names (32 ∷ canonical names e) e (behind_blank names (canonical names e) e (reads_back names e is)))
          (passes _ _ _ _ (taken_same k defs b w same ∙ free.0) refl)));
    }

more_printable : (names : List Bytes) (os : List Output) (o : Output) → IsRead names o.formula → All (λ x. IsRead names x.formula) os → All (λ x. IsRead names x.formula) (os ++ o ∷ [])
more_printable names os o is are = All-append (λ x. IsRead names x.formula) os (o ∷ []) are (All-cons (λ x. IsRead names x.formula) o [] is (All-nil (λ x. IsRead names x.formula)))

none_printable : (names : List Bytes) (os : List Output) → os ≡ [] → All (λ x. IsRead names x.formula) os
none_printable names os none = subst (λ (l : List Output). All (λ x. IsRead names x.formula) l) (sym none) (All-nil (λ x. IsRead names x.formula))

module _ (k : Numbered) (version : ℕ) (names : List Bytes) (defs : List Def) (b : Block) (same : AreSame k defs b) (order : FunctionOrder b) where
  abbrev here : Reading
  here = record { stage = in_function; version = version; names = names; defs = defs; block = b }

  input_step : (n : ℕ) (ws : List Bytes) (r : Reading) → in_block here (in_line b n ws) ≡ Ok r → Adds k in_function version names defs b r
  input_step n ws r h =
      let into : IntoBlock here (in_line b n ws) r = into_block here (in_line b n ws) r h in
      let i : InRead b into.block = in_read b n ws into.block into.is in
      let none : b.results ≡ [] = order.no_results i.at in
      let c : Block = record b { ins = b.ins ++ i.port ∷ [] } in
      let lines : function_lines c.ins b.results ≡ function_lines b.ins b.results ++ port_words (codes "in") i.port ∷ [] =
      ap (λ (os : List Output). function_lines c.ins os) none ∙ in_front (port_words (codes "in")) b.ins i.port [] refl
      ∙ ap (λ (os : List Output). function_lines b.ins os ++ port_words (codes "in") i.port ∷ []) (sym none) in
      subst (λ (x : Reading). Adds k in_function version names defs b x) (ap (λ (x : Block). record here { block = x }) i.after_is ∙ into.after_is)
      (block_adds k in_function version names defs b same (λ x. refl) c (port_words (codes "in") i.port) (λ m. k) (i.plain (codes "in") refl) refl
      (ap (λ (ls : Lines). (codes "function" ∷ b.name ∷ []) ∷ ls) lines)
      (λ m. ap (in_block (numbered k here)) (i.again k defs m (codes "in") same))
      (λ m. alike k defs b c same refl refl refl refl)
      (record { no_results = λ e. none; printable = none_printable _ b.results none }))

  output_step : (n : ℕ) (code : Bytes) (r : Reading) → in_block here (result_line b n code) ≡ Ok r → Adds k in_function version names defs b r
  output_step n code r h =
      let into : IntoBlock here (result_line b n code) r = into_block here (result_line b n code) r h in
      let i : ResultRead b into.block = result_read b n code into.block into.is in
      let c : Block = with_output b i.output in
      subst (λ (x : Reading). Adds k in_function version names defs b x) (ap (λ (x : Block). record here { block = x }) i.after_is ∙ into.after_is)
      (block_adds k in_function version names defs b same (λ x. refl) c (output_words b.ins i.output) (λ m. k) i.plain refl
      (ap (λ (ls : Lines). (codes "function" ∷ b.name ∷ []) ∷ ls)
      (behind (map (port_words (codes "in")) b.ins) (map (output_words b.ins) b.results) _ (output_words b.ins i.output) (map-append (output_words b.ins) b.results (i.output ∷ []))))
      (λ m. ap (in_block (numbered k here)) (i.again k defs m same))
      (λ m. alike k defs b c same refl refl refl refl)
      (record { no_results = λ e. cc; printable = more_printable _ b.results i.output i.printable order.printable }))

  function_end : (n : ℕ) (ws : List Bytes) (r : Reading) → block_end (nat_lt 0 (length b.results)) (Function b.ins b.results) here n ws ≡ Ok r → Adds k in_function version names defs b r
  function_end n ws r h =
      let form = passed (not (length ws == 1) || not (nat_lt 0 (length b.results))) _ _ r h in
      let whole = neither (not (length ws == 1)) (not (nat_lt 0 (length b.results))) form.0 in
      subst (λ (x : Reading). Adds k in_function version names defs b x) (same_ok _ r form.1)
      (end_adds k in_function version names defs b same (λ x. refl) (Function b.ins b.results) (Function b.ins b.results) refl refl order.printable
      (λ m. passes _ _ _ _ whole.1 refl))

  pub function_step : (n : ℕ) (ws : List Bytes) (code : Bytes) (r : Reading) → function_line here n ws code ≡ Ok r → Adds k in_function version names defs b r
  function_step n ws code r h =
      either (begins ws (codes "in")) _ _ r h (input_step n ws r) (λ h1.
      either (begins ws (codes "out")) _ _ r h1 (output_step n code r) (λ h2.
      either (begins ws (codes "end")) _ _ r h2 (function_end n ws r) (λ h3. never _ r h3)))
