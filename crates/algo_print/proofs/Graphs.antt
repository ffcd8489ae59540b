-- Lines of graphs add canonical lines.
use Rattle.std.proofs.Common.{
  ◌≡◌,
  ℕ,
  ◌<◌,
  ◌≤◌,
  ◌==◌,
  Bool,
  not,
  ◌&&◌,
  ◌||◌,
  true,
  false,
  cond,
  List,
  [],
  ◌∷◌,
  ◌++◌,
  length,
  map,
  Option,
  Some,
  None,
  Result,
  Ok,
  refl,
  arith,
  ap,
  ap₂,
  ◌∙◌,
  subst,
  codes,
  ◌+◌,
}
use Rattle.std.proofs.lemmas.List.{map-append}
use Rattle.syn_base.specs.Name.{is_name}
use Rattle.algo_text.specs.declared.Port.{Port}
use Rattle.algo_text.specs.declared.definition.Def.{Def}
use Rattle.algo_text.specs.declared.definition.Body.TheVariants.{Graph}
use Rattle.algo_text.specs.declared.definition.End.{End}
use Rattle.algo_text.specs.declared.definition.Edge.{Edge}
use Rattle.algo_text.specs.declared.definition.Reference.{Reference}
use Rattle.syn_base.specs.Bytes.{Bytes}
use Rattle.algo_text.specs.Among.{is_among}
use Rattle.algo_text.specs.Words.{period_of, end_of, end_word}
use Rattle.algo_text.specs.Blocks.{Block, in_line, out_line, reference_of, with_reference, plain_line, marked_line, reference_line, edge_line}
use Rattle.algo_text.specs.Text.{in_graph, Reading, in_block, block_end, graph_line}
use Rattle.algo_text.proofs.Checks.{either, finds, found, holds, never, passed, passes, reads, same_ok}
use Rattle.algo_text.proofs.References.{IsMark, ReferenceRead, reference_read}
use Rattle.algo_text.specs.declared.part.Part.TheVariants.{Inputs, Outputs, References, Edges}
use Rattle.algo_text.specs.Parts.{rank, admits}
use Rattle.algo_text.proofs.Parts.{admitted}
use Rattle.syn_base.specs.declared.limits.LimitKind.TheVariants as limits
use Rattle.algo_print.specs.Canonical.{port_words, reference_words, edge_words}
use Rattle.text_lines.specs.Refusals.{is_above}
use Rattle.algo_print.specs.ReadBack.{bare_reference, bare_edge}
use Rattle.algo_print.proofs.Pieces.{is_word, are_words, and_true}
use Rattle.algo_print.proofs.Spelled.{name_word, count_word, PeriodRead, period_read}
use Rattle.algo_print.proofs.Ends.{end_read, end_again}
use Rattle.algo_print.proofs.State.{Lines, GraphOrder, Numbered, numbered_block, numbered, AreSame, Adds, more, same_length, same_names}
use Rattle.algo_print.proofs.BlockLines.{in_front, behind, no_lines, key_words, IntoBlock, into_block, alike, block_adds, end_adds, InRead, in_read, OutRead, out_read}
use Rattle.text_lines.specs.Text.{word, begins, count_text}
use Rattle.algo_text.specs.Refusals.{AlgoRefusal}

and_false : (t : Bool) → (t && false) ≡ false
and_false true = refl
and_false false = refl

module _ (k : Numbered) (version : ℕ) (names : List Bytes) (defs : List Def) (b : Block) (same : AreSame k defs b) (order : GraphOrder b) where
  abbrev here : Reading
  here = record { stage = in_graph; version = version; names = names; defs = defs; block = b }

  abbrev there : Reading
  there = numbered k here

  -- the lines of each kind
  abbrev inputs : Lines
  inputs = map (port_words (codes "in")) b.ins

  abbrev outputs : Lines
  outputs = map (port_words (codes "out")) b.outs

  abbrev references : Lines
  references = map reference_words b.references

  abbrev edges : Lines
  edges = map edge_words b.edges

  no_edge_lines : rank b.part < rank Edges → edges ≡ []
  no_edge_lines low = ap (λ (l : List Edge). map edge_words l) (order.no_edges low)

  no_reference_lines : rank b.part < rank References → references ++ edges ≡ []
  no_reference_lines low = no_lines references edges (ap (λ (l : List Reference). map reference_words l) (order.no_references low)) (no_edge_lines (omega arith))

  no_output_lines : rank b.part < rank Outputs → outputs ++ (references ++ edges) ≡ []
  no_output_lines low = no_lines outputs (references ++ edges) (ap (λ (l : List Port). map (port_words (codes "out")) l) (order.no_outs low)) (no_reference_lines (omega arith))

  -- a line makes this block of the open one
  from : (x : Result Block AlgoRefusal) (r : Reading) (c : Block) (into : IntoBlock here x r) → c ≡ into.block
      → Adds k in_graph version names defs b (record here { block = c }) → Adds k in_graph version names defs b r
  from x r c into is adds = subst (λ (q : Reading). Adds k in_graph version names defs b q) (ap (λ (d : Block). record here { block = d }) is ∙ into.after_is) adds

  input_step : (n : ℕ) (ws : List Bytes) (r : Reading) → in_block here (in_line b n ws) ≡ Ok r → Adds k in_graph version names defs b r
  input_step n ws r h =
      let into : IntoBlock here (in_line b n ws) r = into_block here (in_line b n ws) r h in
      let i : InRead b into.block = in_read b n ws into.block into.is in
      let c : Block = record b { ins = b.ins ++ i.port ∷ [] } in
      let low : rank b.part ≤ rank Inputs = (admitted b.part Inputs i.at).1 in
      from (in_line b n ws) r c into i.after_is
      (block_adds k in_graph version names defs b same (λ x. refl) c (port_words (codes "in") i.port) (λ m. k) (i.plain (codes "in") refl) refl
      (ap (λ (ls : Lines). (codes "graph" ∷ b.name ∷ []) ∷ ls) (in_front (port_words (codes "in")) b.ins i.port _ (no_output_lines (omega arith))))
      (λ m. ap (in_block there) (i.again k defs m (codes "in") same))
      (λ m. alike k defs b c same refl refl refl refl)
      (record { no_outs = order.no_outs; no_references = order.no_references; no_edges = order.no_edges }))

  output_step : (n : ℕ) (ws : List Bytes) (r : Reading) → in_block here (out_line b n ws) ≡ Ok r → Adds k in_graph version names defs b r
  output_step n ws r h =
      let into : IntoBlock here (out_line b n ws) r = into_block here (out_line b n ws) r h in
      let i : OutRead b into.block = out_read b n ws into.block into.is in
      let c : Block = record b { part = Outputs; outs = b.outs ++ i.port ∷ [] } in
      let high : rank b.part ≤ rank Outputs = (admitted b.part Outputs i.at).1 in
      from (out_line b n ws) r c into i.after_is
      (block_adds k in_graph version names defs b same (λ x. refl) c (port_words (codes "out") i.port) (λ m. k) (i.plain (codes "out") refl) refl
      (ap (λ (ls : Lines). (codes "graph" ∷ b.name ∷ []) ∷ ls)
      (behind inputs _ _ (port_words (codes "out") i.port) (in_front (port_words (codes "out")) b.outs i.port _ (no_reference_lines (omega arith)))))
      (λ m. ap (in_block there) (i.again k defs m (codes "out") same))
      (λ m. alike k defs b c same refl refl refl refl)
      (record { no_outs = λ low. absurd (omega (arith, low)); no_references = λ low. order.no_references (omega arith); no_edges = λ low. order.no_edges (omega arith) }))

  -- a reference in the line with number m
  abbrev referred : Bytes → Bytes → Option ℕ → ℕ → Reference
  referred w def every m = record { name = w; def = def; every = every; line = m }

  abbrev with_one : Reference → Block
  with_one x = record b { part = References; references = b.references ++ x ∷ [] }

  -- the same with other numbers of lines
  abbrev numbered_one : Reference → Block
  numbered_one x = record (numbered_block k b) { part = References; references = k.references ++ x ∷ [] }

  -- the line of a reference says what its first part and its mark say
  abbrev IsReferred : Bytes → Bytes → Option ℕ → Type 0
  IsReferred w def every = (m : ℕ) (c : Block) → with_reference (numbered_block k b) (referred w def every m) ≡ Ok c
      → reference_line version (numbered_block k b) m (reference_words (referred w def every m)) ≡ Ok c

  reference_adds : (n : ℕ) (w def : Bytes) (every : Option ℕ) → admits b.part References ≡ true
      → is_above limits.References (length b.references + 1) ≡ false → is_among w (map (λ x. x.name) b.references) ≡ false
      → are_words (reference_words (referred w def every n)) ≡ true → (length (reference_words (referred w def every n)) == 0) ≡ false → IsReferred w def every
      → Adds k in_graph version names defs b (record here { block = with_one (referred w def every n) })
  reference_adds n w def every admits_it few free plain some says =
      let at : ℕ → Reference = referred w def every in
      let high : rank b.part ≤ rank References = (admitted b.part References admits_it).1 in
      block_adds k in_graph version names defs b same (λ x. refl) (with_one (at n)) (reference_words (at n)) (λ m. record k { references = k.references ++ at m ∷ [] })
      plain some
      (ap (λ (ls : Lines). (codes "graph" ∷ b.name ∷ []) ∷ ls)
      (behind inputs _ _ (reference_words (at n)) (behind outputs _ _ (reference_words (at n)) (in_front reference_words b.references (at n) edges (no_edge_lines (omega arith))))))
      (λ m. ap (in_block there) (says m (numbered_one (at m))
      (passes _ _ _ _ (ap (λ (m : ℕ). is_above limits.References (m + 1)) (same_length bare_reference k.references b.references same.references_same) ∙ few)
      (passes _ _ _ _ (ap (is_among w) (same_names k.references b.references same.references_same) ∙ free) refl))))
      (λ m. record {
        defs_same = same.defs_same;
        references_same = more bare_reference k.references b.references (at m) (at n) same.references_same refl;
        edges_same = same.edges_same;
        cases_same = same.cases_same;
        frontier_same = same.frontier_same;
      })
      (record { no_outs = λ low. absurd (omega (arith, low)); no_references = λ low. absurd (omega (arith, low)); no_edges = λ low. order.no_edges (omega arith) })

  -- the names of a line are read again
  names_again : (m : ℕ) (w def : Bytes) (more : List Bytes) → is_name w ≡ true → is_name def ≡ true → reference_of m (codes "ref" ∷ w ∷ def ∷ more) ≡ Ok (referred w def None m)
  names_again m w def more named known = holds _ _ _ _ named (holds _ _ _ _ known refl)

  plain_again : (w def : Bytes) → is_name w ≡ true → is_name def ≡ true → admits b.part References ≡ true → IsReferred w def None
  plain_again w def named known admits_it m c put =
      let ws : List Bytes = codes "ref" ∷ w ∷ def ∷ [] in
      ap (λ (t : Bool). cond t (marked_line (numbered_block k b) m ws) (plain_line (numbered_block k b) m ws)) (and_false (version == 3))
      ∙ passes _ _ _ _ (ap not admits_it) (reads _ _ _ (referred w def None m) (names_again m w def [] named known) put)

  marked_again : (w def : Bytes) (n : ℕ) → is_name w ≡ true → is_name def ≡ true → admits b.part References ≡ true → (version == 3) ≡ true
      → period_of (count_text n) ≡ Some n → IsReferred w def (Some n)
  marked_again w def n named known admits_it third period m c put =
      let ws : List Bytes = codes "ref" ∷ w ∷ def ∷ codes "every" ∷ count_text n ∷ [] in
      ap (λ (t : Bool). cond t (marked_line (numbered_block k b) m ws) (plain_line (numbered_block k b) m ws)) (and_true (version == 3) true third refl)
      ∙ passes _ _ _ _ (ap not admits_it) (reads _ _ _ (referred w def None m) (names_again m w def (codes "every" ∷ count_text n ∷ []) named known) (finds _ _ _ _ n period put))

  reference_made : (n : ℕ) (ws : List Bytes) (every : Option ℕ) → IsMark version ws every → admits b.part References ≡ true → is_name (word ws 1) ≡ true → is_name (word ws 2) ≡ true
      → is_above limits.References (length b.references + 1) ≡ false → is_among (word ws 1) (map (λ x. x.name) b.references) ≡ false
      → Adds k in_graph version names defs b (record here { block = with_one (referred (word ws 1) (word ws 2) every n) })
  reference_made n ws None mark admits_it named known few free =
      reference_adds n (word ws 1) (word ws 2) None admits_it few free
      (key_words (codes "ref") (word ws 1) (word ws 2) refl (name_word (word ws 1) named) (name_word (word ws 2) known)) refl
      (plain_again (word ws 1) (word ws 2) named known admits_it)
  reference_made n ws (Some period) mark admits_it named known few free =
      let back : PeriodRead period = period_read (word ws 4) period mark.1 in
      reference_adds n (word ws 1) (word ws 2) (Some period) admits_it few free
      (and_true (is_word (word ws 1)) _ (name_word (word ws 1) named)
      (and_true (is_word (word ws 2)) _ (name_word (word ws 2) known) (and_true (is_word (count_text period)) true (count_word period back.low) refl)))
      refl (marked_again (word ws 1) (word ws 2) period named known admits_it mark.0 back.again)

  reference_step : (n : ℕ) (ws : List Bytes) (r : Reading) → in_block here (reference_line version b n ws) ≡ Ok r → Adds k in_graph version names defs b r
  reference_step n ws r h =
      let into : IntoBlock here (reference_line version b n ws) r = into_block here (reference_line version b n ws) r h in
      let x : ReferenceRead version b n ws into.block = reference_read version b n ws into.block into.is in
      from (reference_line version b n ws) r _ into x.after_is (reference_made n ws x.every x.mark x.at x.named x.known x.few x.free)

  abbrev with_edge : Edge → Block
  with_edge x = record b { part = Edges; edges = b.edges ++ x ∷ [] }

  edge_adds : (n : ℕ) (v w : Bytes) (from_end to_end : End) → end_of v ≡ Some from_end → end_of w ≡ Some to_end
      → Adds k in_graph version names defs b (record here { block = with_edge (record { from = from_end; to = to_end; line = n }) })
  edge_adds n v w from_end to_end first second =
      let at : ℕ → Edge = λ m. record { from = from_end; to = to_end; line = m } in
      block_adds k in_graph version names defs b same (λ x. refl) (with_edge (at n)) (edge_words (at n)) (λ m. record k { edges = k.edges ++ at m ∷ [] })
      (key_words (codes "edge") (end_word from_end) (end_word to_end) refl ((end_read v from_end first).plain) ((end_read w to_end second).plain)) refl
      (ap (λ (ls : Lines). (codes "graph" ∷ b.name ∷ []) ∷ ls)
      (behind inputs _ _ (edge_words (at n)) (behind outputs _ _ (edge_words (at n)) (behind references edges _ (edge_words (at n)) (map-append edge_words b.edges (at n ∷ []))))))
      (λ m. ap (in_block there) (finds _ _ _ _ from_end (end_again v from_end first) (finds _ _ _ _ to_end (end_again w to_end second) refl)))
      (λ m. record {
        defs_same = same.defs_same;
        references_same = same.references_same;
        edges_same = more bare_edge k.edges b.edges (at m) (at n) same.edges_same refl;
        cases_same = same.cases_same;
        frontier_same = same.frontier_same;
      })
      (record { no_outs = λ low. absurd (omega (arith, low)); no_references = λ low. absurd (omega (arith, low)); no_edges = λ low. absurd (omega (arith, low)) })

  edge_step : (n : ℕ) (ws : List Bytes) (r : Reading) → in_block here (edge_line b n ws) ≡ Ok r → Adds k in_graph version names defs b r
  edge_step n ws r h =
      let into : IntoBlock here (edge_line b n ws) r = into_block here (edge_line b n ws) r h in
      let form = passed (not (length ws == 3)) _ _ into.block into.is in
      let first = found (end_of (word ws 1)) _ _ into.block form.1 in
      let second = found (end_of (word ws 2)) _ _ into.block first.2 in
      from (edge_line b n ws) r _ into (same_ok _ into.block second.2) (edge_adds n (word ws 1) (word ws 2) first.0 second.0 first.1 second.1)

  graph_end : (n : ℕ) (ws : List Bytes) (r : Reading) → block_end true (Graph b.ins b.outs b.references b.edges) here n ws ≡ Ok r → Adds k in_graph version names defs b r
  graph_end n ws r h =
      let form = passed (not (length ws == 1) || not true) _ _ r h in
      subst (λ (x : Reading). Adds k in_graph version names defs b x) (same_ok _ r form.1)
      (end_adds k in_graph version names defs b same (λ x. refl) (Graph b.ins b.outs b.references b.edges) (Graph b.ins b.outs k.references k.edges) refl
      (ap₂ (λ (rs : List Reference) (es : List Edge). Graph b.ins b.outs rs es) same.references_same same.edges_same) tt
      (λ m. refl))

  pub graph_step : (n : ℕ) (ws : List Bytes) (r : Reading) → graph_line here n ws ≡ Ok r → Adds k in_graph version names defs b r
  graph_step n ws r h =
      either (begins ws (codes "in")) _ _ r h (input_step n ws r) (λ h1.
      either (begins ws (codes "out")) _ _ r h1 (output_step n ws r) (λ h2.
      either (begins ws (codes "ref")) _ _ r h2 (reference_step n ws r) (λ h3.
      either (begins ws (codes "edge")) _ _ r h3 (edge_step n ws r) (λ h4.
      either (begins ws (codes "end")) _ _ r h4 (graph_end n ws r) (λ h5. never _ r h5)))))
