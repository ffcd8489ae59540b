-- Lines of an open block add canonical lines: what all kinds of blocks share.
use Rattle.std.proofs.Common.{◌≡◌, ℕ, ◌==◌, not, ◌||◌, true, false, List, [], ◌∷◌, ◌++◌, length, map, Result, Ok, Err, refl, ap, ap₂, sym, ◌∙◌, append_assoc, append-nil, ◌+◌}
use Rattle.std.proofs.lemmas.List.{map-append}
use Rattle.syn_base.specs.Name.{is_name}
use Rattle.algo_text.specs.declared.Port.{Port}
use Rattle.algo_text.specs.declared.definition.Def.{Def}
use Rattle.algo_text.specs.declared.definition.Body.{Body}
use Rattle.algo_text.specs.declared.definition.Reference.{Reference}
use Rattle.algo_text.specs.declared.definition.Edge.{Edge}
use Rattle.algo_text.specs.declared.definition.Case.{Case}
use Rattle.algo_text.specs.declared.definition.FrontierLine.{FrontierLine}
use Rattle.syn_base.specs.Bytes.{Bytes}
use Rattle.algo_text.specs.Among.{is_among}
use Rattle.algo_text.specs.Words.{count_of}
use Rattle.algo_text.specs.Blocks.{Block, is_taken, port_line, in_line, with_in, out_line, with_out}
use Rattle.algo_text.specs.Text.{Stage, between, Reading, in_block, by_stage}
use Rattle.algo_text.proofs.Checks.{finds, found, held, holds, neither, not_false, passed, passes, same_ok}
use Rattle.algo_text.specs.declared.part.Part.TheVariants.{Inputs, Outputs}
use Rattle.algo_text.specs.Parts.{admits}
use Rattle.syn_base.specs.declared.limits.LimitKind.TheVariants as limits
use Rattle.algo_print.specs.Canonical.{joined, port_words, body_lines, definition_lines, version_words, end_words, IsPrintable}
use Rattle.text_lines.specs.Refusals.{is_above}
use Rattle.algo_print.specs.ReadBack.{bare, bare_body, bare_reference, bare_edge, bare_case, bare_frontier}
use Rattle.algo_print.proofs.Pieces.{is_word, are_words, and_true}
use Rattle.algo_print.proofs.Spelled.{name_word, count_back, count_word, count_positive}
use Rattle.algo_print.proofs.State.{Lines, open_lines, lines_at, Numbered, numbered_block, numbered, AreSame, Adds, IsOrdered, definitions_joined, more, same_outer}
use Rattle.algo_print.proofs.Between.{one_printable}
use Rattle.text_lines.specs.Text.{word, count_text}
use Rattle.algo_text.specs.Refusals.{AlgoRefusal}

-- a list of lines with one more in front of nothing, and after others
pub in_front : {A : Type 0} (f : A → List Bytes) (xs : List A) (x : A) (rest : Lines) → rest ≡ [] → map f (xs ++ x ∷ []) ++ rest ≡ (map f xs ++ rest) ++ f x ∷ []
in_front f xs x rest none =
    ap (λ (r : Lines). map f (xs ++ x ∷ []) ++ r) none ∙ append-nil (map f (xs ++ x ∷ [])) ∙ map-append f xs (x ∷ [])
    ∙ ap (λ (l : Lines). l ++ f x ∷ []) (sym (append-nil (map f xs)) ∙ ap (λ (r : Lines). map f xs ++ r) (sym none))

pub behind : (front rest all : Lines) (ws : List Bytes) → all ≡ rest ++ ws ∷ [] → front ++ all ≡ (front ++ rest) ++ ws ∷ []
behind front rest all ws is = ap (λ (l : Lines). front ++ l) is ∙ sym (append_assoc front rest (ws ∷ []))

pub no_lines : (xs ys : Lines) → xs ≡ [] → ys ≡ [] → xs ++ ys ≡ []
no_lines xs ys h g = ap₂ (λ (l m : Lines). l ++ m) h g

pub key_words : (key w v : Bytes) → is_word key ≡ true → is_word w ≡ true → is_word v ≡ true → are_words (key ∷ w ∷ v ∷ []) ≡ true
key_words key w v h g f = and_true (is_word key) _ h (and_true (is_word w) _ g (and_true (is_word v) true f refl))

-- A block with the same lists that hold numbers of lines.
pub alike : (k : Numbered) (defs : List Def) (b c : Block) → AreSame k defs b → b.references ≡ c.references → b.edges ≡ c.edges → b.cases ≡ c.cases → b.frontier ≡ c.frontier → AreSame k defs c
alike k defs b c same rs es cs fs = record {
  defs_same = same.defs_same;
  references_same = same.references_same ∙ ap (λ (l : List Reference). map bare_reference l) rs;
  edges_same = same.edges_same ∙ ap (λ (l : List Edge). map bare_edge l) es;
  cases_same = same.cases_same ∙ ap (λ (l : List Case). map bare_case l) cs;
  frontier_same = same.frontier_same ∙ ap (λ (l : List FrontierLine). map bare_frontier l) fs;
}

-- what is read into the block
pub record IntoBlock (r : Reading) (x : Result Block AlgoRefusal) (after : Reading) : Type 0 where
  pub block : Block
  pub is : x ≡ Ok block
  pub after_is : record r { block = block } ≡ after

pub into_block : (r : Reading) (x : Result Block AlgoRefusal) (after : Reading) → in_block r x ≡ Ok after → IntoBlock r x after
into_block r (Ok b) after h = record { block = b; is = refl; after_is = same_ok _ after h }
into_block r (Err e) after h = cc

module _ (k : Numbered) (s : Stage) (version : ℕ) (names : List Bytes) (defs : List Def) (b : Block) (same : AreSame k defs b)
    (open_is : (c : Block) → lines_at s version defs c ≡ version_words version ∷ (definition_lines version defs ++ open_lines s c)) where
  -- a line of the block, by the block that it makes
  pub block_adds : (c : Block) (ws : List Bytes) (next : ℕ → Numbered) → are_words ws ≡ true → (length ws == 0) ≡ false
      → open_lines s c ≡ open_lines s b ++ ws ∷ []
      → ((m : ℕ) → by_stage s (numbered k (record { stage = s; version = version; names = names; defs = defs; block = b })) m ws
      (joined ws) ≡ Ok (numbered (next m) (record { stage = s; version = version; names = names; defs = defs; block = c })))
      → ((m : ℕ) → AreSame (next m) defs c) → IsOrdered s defs c
      → Adds k s version names defs b (record { stage = s; version = version; names = names; defs = defs; block = c })
  block_adds c ws next plain some lines again alike ordered = record {
    words = ws;
    plain = plain;
    some = some;
    lines = open_is c ∙ ap (λ (ls : Lines). version_words version ∷ ls)
        (behind (definition_lines version defs) (open_lines s b) (open_lines s c) ws lines) ∙ ap (λ (ls : Lines). ls ++ ws ∷ []) (sym (open_is b));
    next = next;
    reads = again;
    same = alike;
    ordered = ordered;
    printable = λ p. p;
  }

  definitions_with : (body : Body) → body_lines version b.name body ≡ open_lines s b ++ end_words ∷ []
      → definition_lines version (defs ++ record { name = b.name; line = b.line; body = body } ∷ []) ≡ (definition_lines version defs ++ open_lines s b) ++ end_words ∷ []
  definitions_with body lines =
      definitions_joined version defs (record { name = b.name; line = b.line; body = body } ∷ [])
      ∙ ap (λ (ls : Lines). definition_lines version defs ++ ls) (append-nil (body_lines version b.name body))
      ∙ behind (definition_lines version defs) (open_lines s b) (body_lines version b.name body) end_words lines

  -- the line that ends the block
  pub end_adds : (body : Body) (renumbered : Body) → body_lines version b.name body ≡ open_lines s b ++ end_words ∷ [] → bare_body renumbered ≡ bare_body body → IsPrintable body
      → ((m : ℕ) → by_stage s (numbered k (record { stage = s; version = version; names = names; defs = defs; block = b })) m end_words (joined end_words)
      ≡ Ok (record { stage = between; version = version; names = names; defs = k.defs ++ record { name = b.name; line = k.line; body = renumbered } ∷ []; block = numbered_block k b }))
      → Adds k s version names defs b (record { stage = between; version = version; names = names; defs = defs ++ record { name = b.name; line = b.line; body = body } ∷ []; block = b })
  end_adds body renumbered lines alike printable again = record {
    words = end_words;
    plain = refl;
    some = refl;
    lines = ap (λ (ls : Lines). version_words version ∷ ls) (definitions_with body lines) ∙ ap (λ (ls : Lines). ls ++ end_words ∷ []) (sym (open_is b));
    next = λ m. record k { defs = k.defs ++ record { name = b.name; line = k.line; body = renumbered } ∷ [] };
    reads = again;
    same = λ m. record {
      defs_same = more bare k.defs defs (record { name = b.name; line = k.line; body = renumbered }) (record { name = b.name; line = b.line; body = body }) same.defs_same
          (ap (λ (x : Body). record { name = b.name; line = 0; body = x }) alike);
      references_same = same.references_same;
      edges_same = same.edges_same;
      cases_same = same.cases_same;
      frontier_same = same.frontier_same;
    };
    ordered = tt;
    printable = one_printable defs (record { name = b.name; line = b.line; body = body }) printable;
  }

-- a line of a port that is accepted
pub record PortRead (before : ℕ) (ws : List Bytes) (go : Port → Result Block AlgoRefusal) (after : Block) : Type 0 where
  pub len : ℕ
  pub named : is_name (word ws 1) ≡ true
  pub few : is_above limits.Ports (before + 1) ≡ false
  pub some : (len == 0) ≡ false
  pub low : is_above limits.PortLength len ≡ false
  pub then : go (record { name = word ws 1; len = len }) ≡ Ok after

pub port_read : (n before : ℕ) (ws : List Bytes) (go : Port → Result Block AlgoRefusal) (after : Block) → port_line n before ws go ≡ Ok after → PortRead before ws go after
port_read n before ws go after h =
    let named = held (is_name (word ws 1)) _ _ after h in
    let counted = found (count_of (word ws 2)) _ _ after named.1 in
    let few = passed (is_above limits.Ports (before + 1)) _ _ after counted.2 in
    let low = passed (is_above limits.PortLength counted.0) _ _ after few.1 in
    record { len = counted.0; named = named.0; few = few.0; some = count_positive (word ws 2) counted.0 counted.1; low = low.0; then = low.1 }

pub port_again : (m before len : ℕ) (key w : Bytes) (go : Port → Result Block AlgoRefusal) (after : Block) → is_name w ≡ true
    → is_above limits.Ports (before + 1) ≡ false → (len == 0) ≡ false → is_above limits.PortLength len ≡ false
    → go (record { name = w; len = len }) ≡ Ok after → port_line m before (key ∷ w ∷ count_text len ∷ []) go ≡ Ok after
port_again m before len key w go after named few some low then =
    holds _ _ _ _ named (finds _ _ _ _ len (count_back len some low) (passes _ _ _ _ few (passes _ _ _ _ low then)))

-- names that are taken do not depend on numbers of lines
pub taken_same : (k : Numbered) (defs : List Def) (b : Block) (w : Bytes) → AreSame k defs b → is_taken (numbered_block k b) w ≡ is_taken b w
taken_same k defs b w same =
    ap (λ (ns : List Bytes). is_among w
    (b.on ∷ (map (λ p. p.name) b.ins ++ (map (λ o. o.port.name) b.results ++ (map (λ p. p.name) b.outs ++ ns)))))
    (same_outer k.frontier b.frontier same.frontier_same)

-- a line of an input that is accepted, and accepted again
pub record InRead (b after : Block) : Type 0 where
  pub port : Port
  pub at : admits b.part Inputs ≡ true
  pub after_is : record b { ins = b.ins ++ port ∷ [] } ≡ after
  pub plain : (key : Bytes) → is_word key ≡ true → are_words (port_words key port) ≡ true
  pub again : (k : Numbered) (defs : List Def) (m : ℕ) (key : Bytes) → AreSame k defs b
      → in_line (numbered_block k b) m (port_words key port) ≡ Ok (numbered_block k (record b { ins = b.ins ++ port ∷ [] }))

pub in_read : (b : Block) (n : ℕ) (ws : List Bytes) (after : Block) → in_line b n ws ≡ Ok after → InRead b after
in_read b n ws after h =
    let w : Bytes = word ws 1 in
    let form = passed (not (length ws == 3) || not (admits b.part Inputs)) _ _ after h in
    let at : admits b.part Inputs ≡ true = not_false (admits b.part Inputs) (neither (not (length ws == 3)) (not (admits b.part Inputs)) form.0).1 in
    let p = port_read n (length b.ins) ws (with_in b n) after form.1 in
    let free = passed (is_taken b w) _ _ after p.then in
    record {
      port = record { name = w; len = p.len };
      at = at;
      after_is = same_ok _ after free.1;
      plain = λ key word. key_words key w (count_text p.len) word (name_word w p.named) (count_word p.len p.low);
      again = λ k defs m key same. passes _ _ _ _ (ap not at)
          (port_again m (length b.ins) p.len key w (with_in (numbered_block k b) m) _ p.named p.few p.some p.low (passes _ _ _ _ (taken_same k defs b w same ∙ free.0) refl));
    }

pub record OutRead (b after : Block) : Type 0 where
  pub port : Port
  pub at : admits b.part Outputs ≡ true
  pub after_is : record b { part = Outputs; outs = b.outs ++ port ∷ [] } ≡ after
  pub plain : (key : Bytes) → is_word key ≡ true → are_words (port_words key port) ≡ true
  pub again : (k : Numbered) (defs : List Def) (m : ℕ) (key : Bytes) → AreSame k defs b
      → out_line (numbered_block k b) m (port_words key port) ≡ Ok (numbered_block k (record b { part = Outputs; outs = b.outs ++ port ∷ [] }))

pub out_read : (b : Block) (n : ℕ) (ws : List Bytes) (after : Block) → out_line b n ws ≡ Ok after → OutRead b after
out_read b n ws after h =
    let w : Bytes = word ws 1 in
    let form = passed (not (length ws == 3) || not (admits b.part Outputs)) _ _ after h in
    let at : admits b.part Outputs ≡ true = not_false (admits b.part Outputs) (neither (not (length ws == 3)) (not (admits b.part Outputs)) form.0).1 in
    let p = port_read n (length b.outs) ws (with_out b n) after form.1 in
    let free = passed (is_taken b w) _ _ after p.then in
    record {
      port = record { name = w; len = p.len };
      at = at;
      after_is = same_ok _ after free.1;
      plain = λ key word. key_words key w (count_text p.len) word (name_word w p.named) (count_word p.len p.low);
      again = λ k defs m key same. passes _ _ _ _ (ap not at)
          (port_again m (length b.outs) p.len key w (with_out (numbered_block k b) m) _ p.named p.few p.some p.low (passes _ _ _ _ (taken_same k defs b w same ∙ free.0) refl));
    }
