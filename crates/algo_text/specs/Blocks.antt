-- What the lines of a block say, each kind of line by itself: the block with it, or the line's first refusal. The
-- checks of a line stand in their order: its form, names, numbers, limits, the expression, names given before.
use Rattle.std.specs.Prelude.{
  ℕ,
  ◌+◌,
  Bool,
  not,
  ◌==◌,
  ◌&&◌,
  ◌||◌,
  List,
  [],
  ◌∷◌,
  ◌++◌,
  length,
  map,
  position,
  take,
  drop,
  Option,
  Some,
  None,
  Result,
  Ok,
  Err,
  if◌then◌else◌,
  codes,
}
use Rattle.std.specs.Str.{bytes_eq}
use Rattle.text_lines.specs.Text.{words_of, word}
use Rattle.text_lines.specs.Refusals.{above, and_then, if_all_pass, is_above, refused, with_some}
use Rattle.syn_base.specs.Name.{is_name}
use Rattle.syn_base.specs.declared.limits.LimitKind.TheVariants.{PortLength, Ports, Cases, References}
use Rattle.body_lang.specs.declared.expression.Port.{Port}
use Rattle.body_lang.specs.Expr.{Expr}
use Rattle.algo_text.specs.declared.definition.Output.{Output}
use Rattle.algo_text.specs.declared.definition.Reference.{Reference}
use Rattle.algo_text.specs.declared.definition.Edge.{Edge}
use Rattle.algo_text.specs.declared.definition.Case.{Case}
use Rattle.algo_text.specs.declared.definition.Frontier.{Frontier}
use Rattle.algo_text.specs.declared.definition.Frontier.TheVariants.{Fork, Diffuse, Iterate, Join}
use Rattle.algo_text.specs.declared.definition.FrontierLine.{FrontierLine}
use Rattle.algo_text.specs.declared.fault.AlgoCause.TheVariants.{BadLine, BadName, BadNumber, DuplicateName}
use Rattle.syn_base.specs.Bytes.{Bytes}
use Rattle.algo_text.specs.Refusals.{AlgoRefusal}
use Rattle.algo_text.specs.Among.{is_among}
use Rattle.algo_text.specs.Outer.{outer_names, all_outer}
use Rattle.algo_text.specs.declared.part.Part.{Part}
use Rattle.algo_text.specs.declared.part.Part.TheVariants as parts
use Rattle.algo_text.specs.Parts.{admits, is_conditioning}
use Rattle.algo_text.specs.Words.{number_of, count_of, period_of, end_of}
use Rattle.algo_text.specs.Formulas.{formula_of}

-- The open block, with all that any kind of block may have. `part` is the part in which its last line stands.
pub record Block : Type 0 where
  pub name : Bytes
  pub line : ℕ
  pub part : Part
  -- Of a switch.
  pub on : Bytes
  pub ins : List Port
  -- Of a function, and of a graph or switch.
  pub results : List Output
  pub outs : List Port
  pub references : List Reference
  pub edges : List Edge
  pub cases : List Case
  pub otherwise : Bytes
  pub otherwise_line : ℕ
  -- Of a repetition.
  pub copies : ℕ
  pub def : Bytes
  pub frontier : List FrontierLine

-- A block without lines, which begins with this part.
abbrev pub new_block : Part → Bytes → ℕ → Block
new_block first name line = record {
  name = name;
  line = line;
  part = first;
  on = [];
  ins = [];
  results = [];
  outs = [];
  references = [];
  edges = [];
  cases = [];
  otherwise = [];
  otherwise_line = 0;
  copies = 0;
  def = [];
  frontier = [];
}

-- The names that ports of the block have: `on`, inputs, outputs and outer names together.
abbrev pub port_names : Block → List Bytes
port_names block = block.on ∷
    (map (λ p. p.name) block.ins ++
    (map (λ o. o.port.name) block.results ++
    (map (λ p. p.name) block.outs ++ all_outer block.frontier)))

-- A port of the block, its conditioning input included, has this name already.
abbrev pub is_taken : Block → Bytes → Bool
is_taken block w = is_among w (port_names block)

-- What follows, or the refusal of the first of these words that is no name.
abbrev pub all_names : {A : Type 0} → ℕ → List Bytes → Result A AlgoRefusal → Result A AlgoRefusal
all_names line words go = if_all_pass is_name (λ w. refused line (BadName w)) words go

-- P LEN after `in` or `out`, where this many such lines stand before.
abbrev pub port_line : ℕ → ℕ → List Bytes → (Port → Result Block AlgoRefusal) → Result Block AlgoRefusal
port_line line before words go = all_names line (word words 1 ∷ [])
    (with_some (count_of (word words 2)) (refused line (BadNumber (word words 2))) (λ len.
    if is_above Ports (before + 1) then above Ports (before + 1) else
    if is_above PortLength len then above PortLength len else
    go (record { name = word words 1; len = len })))

-- The block with this port after its other inputs, or the refusal of the line if a port of the
-- block has this name already.
abbrev pub with_in : Block → ℕ → Port → Result Block AlgoRefusal
with_in block line port =
    if is_taken block port.name then refused line (DuplicateName port.name) else
    Ok (record block { ins = block.ins ++ port ∷ [] })

-- A line `in P LEN`.
abbrev pub in_line : Block → ℕ → List Bytes → Result Block AlgoRefusal
in_line block line words =
    if not (length words == 3) || not (admits block.part parts.Inputs) then refused line BadLine else
    port_line line (length block.ins) words (with_in block line)

-- The block of a graph or a switch with this port after its other outputs, or the refusal of the
-- line if a port of the block has this name already.
abbrev pub with_out : Block → ℕ → Port → Result Block AlgoRefusal
with_out block line port =
    if is_taken block port.name then refused line (DuplicateName port.name) else
    Ok (record block { part = parts.Outputs; outs = block.outs ++ port ∷ [] })

-- A line `out P LEN` of a graph or a switch.
abbrev pub out_line : Block → ℕ → List Bytes → Result Block AlgoRefusal
out_line block line words =
    if not (length words == 3) || not (admits block.part parts.Outputs) then refused line BadLine else
    port_line line (length block.outs) words (with_out block line)

-- The block of a function with this port and its expression after the other outputs, or the refusal
-- of the line if a port of the block has this name already.
abbrev pub with_result : Block → ℕ → Port → Expr → Result Block AlgoRefusal
with_result block line port formula =
    if is_taken block port.name then refused line (DuplicateName port.name) else
    Ok (record block {
      part = parts.Outputs;
      results = block.results ++ record { port = port; formula = formula } ∷ [];
    })

-- A line `out P LEN = EXPRESSION` of a function: the words before the first `=`, and the bytes after it.
abbrev pub result_words : Block → ℕ → List Bytes → Bytes → Result Block AlgoRefusal
result_words block line words text =
    if not (length words == 3) || not (admits block.part parts.Outputs) then refused line BadLine else
    port_line line (length block.results) words (λ port.
    and_then (formula_of line (map (λ i. i.name) block.ins) text) (with_result block line port))

-- The byte is the sign `=`.
abbrev pub is_equals : ℕ → Bool
is_equals b = b == 61

-- A line `out` of a function, given the place of its first `=`. A line without one is refused.
abbrev pub result_at : Block → ℕ → Bytes → Option ℕ → Result Block AlgoRefusal
result_at block line code None = refused line BadLine
result_at block line code (Some at) = result_words block line (words_of (take at code)) (drop (at + 1) code)

-- A line `out P LEN = EXPRESSION` of a function, given without its comment.
abbrev pub result_line : Block → ℕ → Bytes → Result Block AlgoRefusal
result_line block line code = result_at block line code (position is_equals code)

-- The reference that R DEF after `ref` gives.
abbrev pub reference_of : ℕ → List Bytes → Result Reference AlgoRefusal
reference_of line words = all_names line (word words 1 ∷ word words 2 ∷ [])
    (Ok (record { name = word words 1; def = word words 2; every = None; line = line }))

-- The block with one reference more, of a name that none has.
abbrev pub with_reference : Block → Reference → Result Block AlgoRefusal
with_reference block reference =
    if is_above References (length block.references + 1) then above References (length block.references + 1) else
    if is_among reference.name (map (λ r. r.name) block.references)
    then refused reference.line (DuplicateName reference.name) else
    Ok (record block { part = parts.References; references = block.references ++ reference ∷ [] })

-- A line `ref R DEF`.
abbrev pub plain_line : Block → ℕ → List Bytes → Result Block AlgoRefusal
plain_line block line words =
    if not (length words == 3) || not (admits block.part parts.References) then refused line BadLine else
    and_then (reference_of line words) (with_reference block)

-- A line `ref R DEF every N`, of five words.
abbrev pub marked_line : Block → ℕ → List Bytes → Result Block AlgoRefusal
marked_line block line words =
    if not (bytes_eq (word words 3) (codes "every")) || not (admits block.part parts.References)
    then refused line BadLine else
    and_then (reference_of line words) (λ reference.
    with_some (period_of (word words 4)) (refused line (BadNumber (word words 4))) (λ every.
    with_reference block (record reference { every = Some every })))

-- A line `ref`, whose reference may have a mark in version 3.
abbrev pub reference_line : ℕ → Block → ℕ → List Bytes → Result Block AlgoRefusal
reference_line version block line words =
    if version == 3 && length words == 5 then marked_line block line words else plain_line block line words

-- A line `edge FROM TO`.
abbrev pub edge_line : Block → ℕ → List Bytes → Result Block AlgoRefusal
edge_line block line words =
    if not (length words == 3) then refused line BadLine else
    with_some (end_of (word words 1)) (refused line (BadName (word words 1))) (λ from.
    with_some (end_of (word words 2)) (refused line (BadName (word words 2))) (λ to.
    Ok (record block {
      part = parts.Edges;
      edges = block.edges ++ record { from = from; to = to; line = line } ∷ [];
    })))

-- A line `on P`, the first of a switch.
abbrev pub on_line : Block → ℕ → List Bytes → Result Block AlgoRefusal
on_line block line words =
    if not (length words == 2) || not (is_conditioning block.part) then refused line BadLine else
    all_names line (word words 1 ∷ []) (Ok (record block { part = parts.Inputs; on = word words 1 }))

-- A line `case VALUE DEF`.
abbrev pub case_line : Block → ℕ → List Bytes → Result Block AlgoRefusal
case_line block line words =
    if not (length words == 3) || not (admits block.part parts.Cases) then refused line BadLine else
    all_names line (word words 2 ∷ [])
    (with_some (number_of (word words 1)) (refused line (BadNumber (word words 1))) (λ value.
    if is_above Cases (length block.cases + 1) then above Cases (length block.cases + 1) else
    Ok (record block {
      part = parts.Cases;
      cases = block.cases ++ record { value = value; def = word words 2; line = line } ∷ [];
    })))

-- A line `otherwise DEF`, the last of a switch, which stands where a case may stand.
abbrev pub otherwise_line : Block → ℕ → List Bytes → Result Block AlgoRefusal
otherwise_line block line words =
    if not (length words == 2) || not (admits block.part parts.Cases) then refused line BadLine else
    all_names line (word words 1 ∷ [])
    (Ok (record block { part = parts.Whole; otherwise = word words 1; otherwise_line = line }))

-- The block with one frontier line more, whose outer ports no line has.
abbrev pub with_frontier : Block → ℕ → Frontier → Result Block AlgoRefusal
with_frontier block line frontier =
    if is_above Ports (length block.frontier + 1) then above Ports (length block.frontier + 1) else
    first_taken (outer_names frontier) block.frontier
  where
    -- The names are given in order, each beside those before it.
    first_taken : List Bytes → List FrontierLine → Result Block AlgoRefusal
    first_taken [] lines =
        Ok (record block { frontier = block.frontier ++ record { frontier = frontier; line = line } ∷ [] })
    first_taken (w ∷ words) lines =
        if is_among w (all_outer lines) then refused line (DuplicateName w) else
        first_taken words (record { frontier = Join [] w; line = line } ∷ lines)

-- A line `fork P X`.
abbrev pub fork_line : Block → ℕ → List Bytes → Result Block AlgoRefusal
fork_line block line words =
    if not (length words == 3) then refused line BadLine else
    all_names line (drop 1 words) (with_frontier block line (Fork (word words 1) (word words 2)))

-- A line `diffuse P X`.
abbrev pub diffuse_line : Block → ℕ → List Bytes → Result Block AlgoRefusal
diffuse_line block line words =
    if not (length words == 3) then refused line BadLine else
    all_names line (drop 1 words) (with_frontier block line (Diffuse (word words 1) (word words 2)))

-- A line `iterate P X Y Q`.
abbrev pub iterate_line : Block → ℕ → List Bytes → Result Block AlgoRefusal
iterate_line block line words =
    if not (length words == 5) then refused line BadLine else
    all_names line (drop 1 words)
    (with_frontier block line (Iterate (word words 1) (word words 2) (word words 3) (word words 4)))

-- A line `join Y Q`.
abbrev pub join_line : Block → ℕ → List Bytes → Result Block AlgoRefusal
join_line block line words =
    if not (length words == 3) then refused line BadLine else
    all_names line (drop 1 words) (with_frontier block line (Join (word words 1) (word words 2)))
