-- Lines of switches add canonical lines.
use Rattle.std.proofs.Common.{◌≡◌, ℕ, ◌<◌, ◌≤◌, ◌==◌, not, ◌||◌, true, false, List, [], ◌∷◌, ◌++◌, length, map, Some, Result, Ok, refl, arith, ap, sym, ◌∙◌, subst, codes, ℤ, append_assoc, ◌+◌}
use Rattle.std.specs.Fmt.{signed_decimal}
use Rattle.std.proofs.lemmas.List.{map-append}
use Rattle.syn_base.specs.Name.{is_name}
use Rattle.algo_text.specs.declared.Port.{Port}
use Rattle.algo_text.specs.declared.definition.Def.{Def}
use Rattle.algo_text.specs.declared.definition.Body.TheVariants.{Switch}
use Rattle.algo_text.specs.declared.definition.Case.{Case}
use Rattle.syn_base.specs.Bytes.{Bytes}
use Rattle.algo_text.specs.Words.{number_of}
use Rattle.algo_text.specs.Blocks.{Block, in_line, out_line, on_line, case_line, otherwise_line}
use Rattle.algo_text.specs.Text.{in_switch, Reading, in_block, block_end, switch_line}
use Rattle.algo_text.proofs.Checks.{either, finds, found, held, holds, neither, never, not_false, passed, passes, same_ok}
use Rattle.algo_text.specs.declared.part.Part.TheVariants.{Conditioning, Inputs, Outputs, Edges, Cases, Whole}
use Rattle.algo_text.specs.declared.part.Part.{Part}
use Rattle.algo_text.specs.Parts.{rank, admits, is_conditioning, is_whole}
use Rattle.algo_text.proofs.Parts.{admitted}
use Rattle.syn_base.specs.declared.limits.LimitKind.TheVariants as limits
use Rattle.text_lines.specs.Refusals.{is_above}
use Rattle.algo_print.specs.Canonical.{port_words, case_words, switch_lines, end_words}
use Rattle.algo_print.specs.ReadBack.{bare_case}
use Rattle.algo_print.proofs.Pieces.{is_word, and_true}
use Rattle.algo_print.proofs.Fits.{number_fits}
use Rattle.algo_print.proofs.Spelled.{name_word, number_word, number_back}
use Rattle.algo_print.proofs.State.{Lines, open_switch, SwitchOrder, Numbered, numbered, AreSame, Adds, more, same_length}
use Rattle.algo_print.proofs.BlockLines.{in_front, behind, no_lines, key_words, IntoBlock, into_block, alike, block_adds, end_adds, InRead, in_read, OutRead, out_read}
use Rattle.text_lines.specs.Text.{word, begins}
use Rattle.algo_text.specs.Refusals.{AlgoRefusal}

-- the lines of an open switch, by its part
before_on : (part : Part) (on : Bytes) (lines : Lines) (otherwise : Bytes) → is_conditioning part ≡ true → open_switch part on lines otherwise ≡ []
before_on Conditioning on lines otherwise h = refl
before_on _ on lines otherwise h = cc

behind_on : (part : Part) (on : Bytes) (lines : Lines) (otherwise : Bytes) → admits part Cases ≡ true → open_switch part on lines otherwise ≡ (codes "on" ∷ on ∷ []) ∷ lines
behind_on Conditioning on lines otherwise h = cc
behind_on Edges on lines otherwise h = cc
behind_on Whole on lines otherwise h = cc
behind_on _ on lines otherwise h = refl

-- where an input or an output may stand a case may
inputs_cases : (part : Part) → admits part Inputs ≡ true → admits part Cases ≡ true
inputs_cases Inputs h = refl
inputs_cases _ h = cc

outputs_cases : (part : Part) → admits part Outputs ≡ true → admits part Cases ≡ true
outputs_cases Inputs h = refl
outputs_cases Outputs h = refl
outputs_cases _ h = cc

conditioning_is : (part : Part) → is_conditioning part ≡ true → rank part ≡ 0
conditioning_is Conditioning h = refl
conditioning_is _ h = cc

whole_is : (part : Part) → is_whole part ≡ true → Whole ≡ part
whole_is Whole h = refl
whole_is _ h = cc

module _ (k : Numbered) (version : ℕ) (names : List Bytes) (defs : List Def) (b : Block) (same : AreSame k defs b) (order : SwitchOrder b) where
  abbrev here : Reading
  here = record { stage = in_switch; version = version; names = names; defs = defs; block = b }

  abbrev there : Reading
  there = numbered k here

  -- the lines of each kind
  abbrev inputs : Lines
  inputs = map (port_words (codes "in")) b.ins

  abbrev outputs : Lines
  outputs = map (port_words (codes "out")) b.outs

  abbrev cases : Lines
  cases = map case_words b.cases

  abbrev first : List Bytes
  first = codes "switch" ∷ b.name ∷ []

  abbrev on_words : List Bytes
  on_words = codes "on" ∷ b.on ∷ []

  no_case_lines : rank b.part < rank Cases → cases ≡ []
  no_case_lines low = ap (λ (l : List Case). map case_words l) (order.no_cases low)

  no_output_lines : rank b.part < rank Outputs → outputs ++ cases ≡ []
  no_output_lines low = no_lines outputs cases (ap (λ (l : List Port). map (port_words (codes "out")) l) (order.no_outs low)) (no_case_lines (omega arith))

  no_input_lines : rank b.part < rank Inputs → inputs ++ (outputs ++ cases) ≡ []
  no_input_lines low = no_lines inputs (outputs ++ cases) (ap (λ (l : List Port). map (port_words (codes "in")) l) (order.no_ins low)) (no_output_lines (omega arith))

  from : (x : Result Block AlgoRefusal) (r : Reading) (c : Block) (into : IntoBlock here x r) → c ≡ into.block
      → Adds k in_switch version names defs b (record here { block = c }) → Adds k in_switch version names defs b r
  from x r c into is adds = subst (λ (q : Reading). Adds k in_switch version names defs b q) (ap (λ (d : Block). record here { block = d }) is ∙ into.after_is) adds

  on_adds : (n : ℕ) (w : Bytes) → is_name w ≡ true → is_conditioning b.part ≡ true → Adds k in_switch version names defs b (record here { block = record b { part = Inputs; on = w } })
  on_adds n w named zero =
      let low : rank b.part ≡ 0 = conditioning_is b.part zero in
      let c : Block = record b { part = Inputs; on = w } in
      block_adds k in_switch version names defs b same (λ x. refl) c (codes "on" ∷ w ∷ []) (λ m. k) (and_true (is_word w) true (name_word w named) refl) refl
      (ap (λ (ls : Lines). first ∷ (codes "on" ∷ w ∷ []) ∷ ls) (no_input_lines (omega arith))
      ∙ ap (λ (ls : Lines). first ∷ (ls ++ (codes "on" ∷ w ∷ []) ∷ [])) (sym (before_on b.part b.on (inputs ++ (outputs ++ cases)) b.otherwise zero)))
      (λ m. ap (in_block there) (passes _ _ _ _ (ap not zero) (holds _ _ _ _ named refl)))
      (λ m. alike k defs b c same refl refl refl refl)
      (record { no_ins = λ l. order.no_ins (omega arith); no_outs = λ l. order.no_outs (omega arith); no_cases = λ l. order.no_cases (omega arith) })

  on_step : (n : ℕ) (ws : List Bytes) (r : Reading) → in_block here (on_line b n ws) ≡ Ok r → Adds k in_switch version names defs b r
  on_step n ws r h =
      let into : IntoBlock here (on_line b n ws) r = into_block here (on_line b n ws) r h in
      let form = passed (not (length ws == 2) || not (is_conditioning b.part)) _ _ into.block into.is in
      let zero : is_conditioning b.part ≡ true = not_false (is_conditioning b.part) (neither (not (length ws == 2)) (not (is_conditioning b.part)) form.0).1 in
      let named = held (is_name (word ws 1)) _ _ into.block form.1 in
      from (on_line b n ws) r _ into (same_ok _ into.block named.1) (on_adds n (word ws 1) named.0 zero)

  -- a line more after the one with `on`
  one_more : (part : Part) (rest : Lines) (ws : List Bytes) → admits b.part Cases ≡ true → admits part Cases ≡ true → rest ≡ (inputs ++ (outputs ++ cases)) ++ ws ∷ []
      → first ∷ open_switch part b.on rest b.otherwise ≡ (first ∷ open_switch b.part b.on (inputs ++ (outputs ++ cases)) b.otherwise) ++ ws ∷ []
  one_more part rest ws now then is =
      ap (λ (ls : Lines). first ∷ ls) (behind_on part b.on rest b.otherwise then ∙ ap (λ (ls : Lines). on_words ∷ ls) is)
      ∙ ap (λ (ls : Lines). first ∷ (ls ++ ws ∷ [])) (sym (behind_on b.part b.on (inputs ++ (outputs ++ cases)) b.otherwise now))

  input_step : (n : ℕ) (ws : List Bytes) (r : Reading) → in_block here (in_line b n ws) ≡ Ok r → Adds k in_switch version names defs b r
  input_step n ws r h =
      let into : IntoBlock here (in_line b n ws) r = into_block here (in_line b n ws) r h in
      let i : InRead b into.block = in_read b n ws into.block into.is in
      let c : Block = record b { ins = b.ins ++ i.port ∷ [] } in
      let at = admitted b.part Inputs i.at in
      let now : admits b.part Cases ≡ true = inputs_cases b.part i.at in
      from (in_line b n ws) r c into i.after_is
      (block_adds k in_switch version names defs b same (λ x. refl) c (port_words (codes "in") i.port) (λ m. k) (i.plain (codes "in") refl) refl
      (one_more b.part _ (port_words (codes "in") i.port) now now (in_front (port_words (codes "in")) b.ins i.port _ (no_output_lines (omega arith))))
      (λ m. ap (in_block there) (i.again k defs m (codes "in") same))
      (λ m. alike k defs b c same refl refl refl refl)
      (record { no_ins = λ low. absurd (omega (arith, low)); no_outs = order.no_outs; no_cases = order.no_cases }))

  output_step : (n : ℕ) (ws : List Bytes) (r : Reading) → in_block here (out_line b n ws) ≡ Ok r → Adds k in_switch version names defs b r
  output_step n ws r h =
      let into : IntoBlock here (out_line b n ws) r = into_block here (out_line b n ws) r h in
      let i : OutRead b into.block = out_read b n ws into.block into.is in
      let c : Block = record b { part = Outputs; outs = b.outs ++ i.port ∷ [] } in
      let high : rank b.part ≤ rank Outputs = (admitted b.part Outputs i.at).1 in
      from (out_line b n ws) r c into i.after_is
      (block_adds k in_switch version names defs b same (λ x. refl) c (port_words (codes "out") i.port) (λ m. k) (i.plain (codes "out") refl) refl
      (one_more Outputs _ (port_words (codes "out") i.port) (outputs_cases b.part i.at) refl
      (behind inputs _ _ (port_words (codes "out") i.port) (in_front (port_words (codes "out")) b.outs i.port _ (no_case_lines (omega arith)))))
      (λ m. ap (in_block there) (i.again k defs m (codes "out") same))
      (λ m. alike k defs b c same refl refl refl refl)
      (record { no_ins = λ l. absurd (omega (arith, l)); no_outs = λ l. absurd (omega (arith, l)); no_cases = λ l. order.no_cases (omega arith) }))

  abbrev with_case : Case → Block
  with_case x = record b { part = Cases; cases = b.cases ++ x ∷ [] }

  case_adds : (n : ℕ) (w def : Bytes) (v : ℤ) → number_of w ≡ Some v → is_name def ≡ true → admits b.part Cases ≡ true → is_above limits.Cases (length b.cases + 1) ≡ false
      → Adds k in_switch version names defs b (record here { block = with_case (record { value = v; def = def; line = n }) })
  case_adds n w def v number named now few =
      let at : ℕ → Case = λ m. record { value = v; def = def; line = m } in
      block_adds k in_switch version names defs b same (λ x. refl) (with_case (at n)) (case_words (at n)) (λ m. record k { cases = k.cases ++ at m ∷ [] })
      (key_words (codes "case") (signed_decimal v) def refl (number_word v (number_fits w v number)) (name_word def named)) refl
      (one_more Cases _ (case_words (at n)) now refl
      (behind inputs _ _ (case_words (at n)) (behind outputs cases _ (case_words (at n)) (map-append case_words b.cases (at n ∷ [])))))
      (λ m. ap (in_block there) (passes _ _ _ _ (ap not now)
      (holds _ _ _ _ named (finds _ _ _ _ v (number_back w v number)
      (passes _ _ _ _ (ap (λ (m : ℕ). is_above limits.Cases (m + 1)) (same_length bare_case k.cases b.cases same.cases_same) ∙ few) refl)))))
      (λ m. record {
        defs_same = same.defs_same;
        references_same = same.references_same;
        edges_same = same.edges_same;
        cases_same = more bare_case k.cases b.cases (at m) (at n) same.cases_same refl;
        frontier_same = same.frontier_same;
      })
      (record { no_ins = λ l. absurd (omega (arith, l)); no_outs = λ l. absurd (omega (arith, l)); no_cases = λ l. absurd (omega (arith, l)) })

  case_step : (n : ℕ) (ws : List Bytes) (r : Reading) → in_block here (case_line b n ws) ≡ Ok r → Adds k in_switch version names defs b r
  case_step n ws r h =
      let into : IntoBlock here (case_line b n ws) r = into_block here (case_line b n ws) r h in
      let form = passed (not (length ws == 3) || not (admits b.part Cases)) _ _ into.block into.is in
      let now : admits b.part Cases ≡ true = not_false (admits b.part Cases) (neither (not (length ws == 3)) (not (admits b.part Cases)) form.0).1 in
      let named = held (is_name (word ws 2)) _ _ into.block form.1 in
      let number = found (number_of (word ws 1)) _ _ into.block named.1 in
      let few = passed (is_above limits.Cases (length b.cases + 1)) _ _ into.block number.2 in
      from (case_line b n ws) r _ into (same_ok _ into.block few.1) (case_adds n (word ws 1) (word ws 2) number.0 number.1 named.0 now few.0)

  otherwise_adds : (n : ℕ) (w : Bytes) → is_name w ≡ true → admits b.part Cases ≡ true
      → Adds k in_switch version names defs b (record here { block = record b { part = Whole; otherwise = w; otherwise_line = n } })
  otherwise_adds n w named now =
      let c : Block = record b { part = Whole; otherwise = w; otherwise_line = n } in
      block_adds k in_switch version names defs b same (λ x. refl) c (codes "otherwise" ∷ w ∷ []) (λ m. record k { otherwise_line = m }) (and_true (is_word w) true (name_word w named) refl) refl
      (ap (λ (ls : Lines). first ∷ (ls ++ (codes "otherwise" ∷ w ∷ []) ∷ [])) (sym (behind_on b.part b.on (inputs ++ (outputs ++ cases)) b.otherwise now)))
      (λ m. ap (in_block there) (passes _ _ _ _ (ap not now) (holds _ _ _ _ named refl)))
      (λ m. record { defs_same = same.defs_same; references_same = same.references_same; edges_same = same.edges_same; cases_same = same.cases_same; frontier_same = same.frontier_same })
      (record { no_ins = λ l. absurd (omega (arith, l)); no_outs = λ l. absurd (omega (arith, l)); no_cases = λ l. absurd (omega (arith, l)) })

  otherwise_step : (n : ℕ) (ws : List Bytes) (r : Reading) → in_block here (otherwise_line b n ws) ≡ Ok r → Adds k in_switch version names defs b r
  otherwise_step n ws r h =
      let into : IntoBlock here (otherwise_line b n ws) r = into_block here (otherwise_line b n ws) r h in
      let form = passed (not (length ws == 2) || not (admits b.part Cases)) _ _ into.block into.is in
      let now : admits b.part Cases ≡ true = not_false (admits b.part Cases) (neither (not (length ws == 2)) (not (admits b.part Cases)) form.0).1 in
      let named = held (is_name (word ws 1)) _ _ into.block form.1 in
      from (otherwise_line b n ws) r _ into (same_ok _ into.block named.1) (otherwise_adds n (word ws 1) named.0 now)

  -- the last lines of a switch that is whole
  whole_lines : is_whole b.part ≡ true → first ∷ (switch_lines b.on b.ins b.outs b.cases ++ (codes "otherwise" ∷ b.otherwise ∷ []) ∷ end_words ∷ [])
      ≡ (first ∷ open_switch b.part b.on (inputs ++ (outputs ++ cases)) b.otherwise) ++ end_words ∷ []
  whole_lines last =
      ap (λ (ls : Lines). first ∷ ls) (sym (append_assoc (switch_lines b.on b.ins b.outs b.cases) ((codes "otherwise" ∷ b.otherwise ∷ []) ∷ []) (end_words ∷ [])))
      ∙ ap (λ (p : Part). (first ∷ open_switch p b.on (inputs ++ (outputs ++ cases)) b.otherwise) ++ end_words ∷ []) (whole_is b.part last)

  switch_end : (n : ℕ) (ws : List Bytes) (r : Reading)
      → block_end (is_whole b.part) (Switch b.on b.ins b.outs b.cases b.otherwise b.otherwise_line) here n ws ≡ Ok r → Adds k in_switch version names defs b r
  switch_end n ws r h =
      let form = passed (not (length ws == 1) || not (is_whole b.part)) _ _ r h in
      let whole = neither (not (length ws == 1)) (not (is_whole b.part)) form.0 in
      subst (λ (x : Reading). Adds k in_switch version names defs b x) (same_ok _ r form.1)
      (end_adds k in_switch version names defs b same (λ x. refl) (Switch b.on b.ins b.outs b.cases b.otherwise b.otherwise_line) (Switch b.on b.ins b.outs k.cases b.otherwise k.otherwise_line)
      (whole_lines (not_false (is_whole b.part) whole.1))
      (ap (λ (cs : List Case). Switch b.on b.ins b.outs cs b.otherwise 0) same.cases_same) tt
      (λ m. passes _ _ _ _ whole.1 refl))

  pub switch_step : (n : ℕ) (ws : List Bytes) (r : Reading) → switch_line here n ws ≡ Ok r → Adds k in_switch version names defs b r
  switch_step n ws r h =
      either (begins ws (codes "on")) _ _ r h (on_step n ws r) (λ h1.
      either (begins ws (codes "in")) _ _ r h1 (input_step n ws r) (λ h2.
      either (begins ws (codes "out")) _ _ r h2 (output_step n ws r) (λ h3.
      either (begins ws (codes "case")) _ _ r h3 (case_step n ws r) (λ h4.
      either (begins ws (codes "otherwise")) _ _ r h4 (otherwise_step n ws r) (λ h5.
      either (begins ws (codes "end")) _ _ r h5 (switch_end n ws r) (λ h6. never _ r h6))))))
