-- Lines between definitions add canonical lines.
use Rattle.std.proofs.Common.{
  ◌≡◌,
  ℕ,
  ◌==◌,
  ◌/◌,
  ◌%◌,
  Bool,
  not,
  ◌||◌,
  true,
  false,
  cond,
  sym,
  nat_lt,
  List,
  [],
  ◌∷◌,
  ◌++◌,
  length,
  map,
  drop,
  Ok,
  refl,
  arith,
  ap,
  ◌∙◌,
  ◌≤◌,
  suc,
  subst,
  codes,
  length-drop,
  ℤ,
}
use Rattle.std.specs.Str.{bytes_eq}
use Rattle.std.specs.Fmt.{signed_decimal}
use Rattle.std.proofs.lemmas.List.{length-map}
use Rattle.std.proofs.lemmas.List.Elements.{All-append, All-cons, All-nil}
use Rattle.syn_base.specs.Name.{is_name}
use Rattle.algo_text.specs.declared.definition.Def.{Def}
use Rattle.algo_text.specs.declared.definition.Body.{Body}
use Rattle.algo_text.specs.declared.definition.Body.TheVariants.{Sensor, Actuator, Constant, Delay}
use Rattle.syn_base.specs.Bytes.{Bytes}
use Rattle.algo_text.specs.Among.{is_among}
use Rattle.algo_text.specs.Words.{count_of, number_of}
use Rattle.algo_text.specs.Blocks.{Block, new_block}
use Rattle.algo_text.specs.Text.{
  Stage,
  between,
  in_function,
  in_graph,
  in_switch,
  in_repeat,
  Reading,
  end_line,
  numbers_of,
  values_line,
  deep_delay,
  deep_line,
  delay_line,
  opening_line,
  repeat_line,
  between_line,
  first_part,
}
use Rattle.algo_text.proofs.Checks.{either, finds, found, held, holds, neither, never, passed, passes, read, reads, same_ok}
use Rattle.syn_base.specs.declared.limits.LimitKind.TheVariants.{PortLength, Copies}
use Rattle.syn_base.specs.declared.limits.LimitKind.TheVariants as limits
use Rattle.algo_print.specs.Canonical.{value_words, delay_words, body_lines, definition_lines, version_words, IsPrintable, ArePrintable}
use Rattle.text_lines.specs.Refusals.{is_above}
use Rattle.algo_print.specs.ReadBack.{bare}
use Rattle.algo_print.proofs.Pieces.{is_word, are_words, and_true}
use Rattle.algo_print.proofs.Fits.{number_fits}
use Rattle.algo_print.proofs.Spelled.{name_word, number_word, number_back, count_back, count_word, count_positive}
use Rattle.algo_print.proofs.State.{Lines, lines_at, Numbered, numbered, AreSame, Adds, IsOrdered, definitions_joined, more}
use Rattle.text_lines.specs.Text.{word, begins, count_text}

-- one definition more, of these lines
pub definition_added : (version : ℕ) (defs : List Def) (d : Def) (ws : List Bytes) → body_lines version d.name d.body ≡ ws ∷ []
    → definition_lines version (defs ++ d ∷ []) ≡ definition_lines version defs ++ ws ∷ []
definition_added version defs d ws one = definitions_joined version defs (d ∷ []) ∙ ap (λ (ls : Lines). definition_lines version defs ++ (ls ++ [])) one

pub one_printable : (defs : List Def) (d : Def) → IsPrintable d.body → ArePrintable defs → ArePrintable (defs ++ d ∷ [])
one_printable defs d is are = All-append (λ (e : Def). IsPrintable e.body) defs (d ∷ []) are (All-cons (λ (e : Def). IsPrintable e.body) d [] is (All-nil (λ (e : Def). IsPrintable e.body)))

abbrev pub defined_at : Bytes → Body → ℕ → Def
defined_at w body n = record { name = w; line = n; body = body }

-- between definitions of a text of this version, with these names and definitions
abbrev pub open_at : ℕ → List Bytes → List Def → Block → Reading
open_at version names defs b = record { stage = between; version = version; names = names; defs = defs; block = b }

module _ (k : Numbered) (version : ℕ) (names : List Bytes) (defs : List Def) (b : Block) (same : AreSame k defs b) where
  abbrev here : Reading
  here = open_at version names defs b

  abbrev there : Reading
  there = numbered k here

  one_line : (w : Bytes) (n : ℕ) (body : Body) (ws : List Bytes) → body_lines version w body ≡ ws ∷ [] → are_words ws ≡ true → (length ws == 0) ≡ false → IsPrintable body
      → ((m : ℕ) → between_line there m ws ≡ Ok (record there { names = names ++ w ∷ []; defs = k.defs ++ defined_at w body m ∷ [] }))
      → Adds k between version names defs b (open_at version (names ++ w ∷ []) (defs ++ defined_at w body n ∷ []) b)
  one_line w n body ws one plain some printable again = record {
    words = ws;
    plain = plain;
    some = some;
    lines = ap (λ (ls : Lines). version_words version ∷ ls) (definition_added version defs (defined_at w body n) ws one);
    next = λ m. record k { defs = k.defs ++ defined_at w body m ∷ [] };
    reads = again;
    same = λ m. record {
      defs_same = more bare k.defs defs (defined_at w body m) (defined_at w body n) same.defs_same refl;
      references_same = same.references_same;
      edges_same = same.edges_same;
      cases_same = same.cases_same;
      frontier_same = same.frontier_same;
    };
    ordered = tt;
    printable = one_printable defs (defined_at w body n) printable;
  }

  end_step : (key : Bytes) (kind : ℕ → Body) (n : ℕ) (ws : List Bytes) (r : Reading) → is_word key ≡ true
      → ((w : Bytes) (len : ℕ) → body_lines version w (kind len) ≡ (key ∷ w ∷ count_text len ∷ []) ∷ []) → ((len : ℕ) → IsPrintable (kind len))
      → ((m : ℕ) (w v : Bytes) → between_line there m (key ∷ w ∷ v ∷ []) ≡ end_line kind there m (key ∷ w ∷ v ∷ []))
      → end_line kind here n ws ≡ Ok r → Adds k between version names defs b r
  end_step key kind n ws r key_word one printable key_line h =
      let w : Bytes = word ws 1 in
      let form = passed (not (length ws == 3)) _ _ r h in
      let named = held (is_name w) _ _ r form.1 in
      let counted = found (count_of (word ws 2)) _ _ r named.1 in
      let len : ℕ = counted.0 in
      let low = passed (is_above PortLength len) _ _ r counted.2 in
      let new = passed (is_among w names) _ _ r low.1 in
      let some : (len == 0) ≡ false = count_positive (word ws 2) len counted.1 in
      let words : List Bytes = key ∷ w ∷ count_text len ∷ [] in
      subst (λ (x : Reading). Adds k between version names defs b x) (same_ok _ r new.1)
      (one_line w n (kind len) words (one w len)
      (and_true (is_word key) _ key_word (and_true (is_word w) _ (name_word w named.0) (and_true (is_word (count_text len)) true (count_word len low.0) refl)))
      refl (printable len)
      (λ m. key_line m w (count_text len) ∙ holds _ _ _ _ named.0 (finds _ _ _ _ len (count_back len some low.0) (passes _ _ _ _ low.0 (passes _ _ _ _ new.0 refl)))))

-- numbers that words are, again from their shortest form
record AreRead (m : ℕ) (ws : List Bytes) (vs : List ℤ) : Type 0 where
  again : numbers_of m (map signed_decimal vs) ≡ Ok vs
  plain : are_words (map signed_decimal vs) ≡ true
  length_same : length vs ≡ length ws

numbers_read : (n m : ℕ) (ws : List Bytes) (vs : List ℤ) → numbers_of n ws ≡ Ok vs → AreRead m ws vs
numbers_read n m [] vs h = let none : [] ≡ vs = same_ok [] vs h in subst (λ (us : List ℤ). AreRead m [] us) none (record { again = refl; plain = refl; length_same = refl })
numbers_read n m (w ∷ ws) vs h =
    let first = found (number_of w) _ _ vs h in
    let v : ℤ = first.0 in
    let rest = read (numbers_of n ws) _ vs first.2 in
    let us : List ℤ = rest.0 in
    let more : AreRead m ws us = numbers_read n m ws us rest.1 in
    subst (λ (all : List ℤ). AreRead m (w ∷ ws) all) (same_ok (v ∷ us) vs rest.2)
    (record {
      again = finds _ _ _ _ v (number_back w v first.1) (reads _ _ _ us more.again refl);
      plain = and_true (is_word (signed_decimal v)) _ (number_word v (number_fits w v first.1)) more.plain;
      length_same = ap (λ i. suc i) more.length_same;
    })

-- a delay of these groups, which is accepted at every line
record DeepRead (depth : ℕ) (vs : List ℤ) (body : Body) : Type 0 where
  low : is_above limits.Delay depth ≡ false
  body_is : Delay depth vs ≡ body
  again : (m : ℕ) → deep_delay m depth vs ≡ Ok (Delay depth vs)

deep_read : (n depth : ℕ) (vs : List ℤ) (body : Body) → deep_delay n depth vs ≡ Ok body → DeepRead depth vs body
deep_read n depth vs body h =
    let few = passed (is_above limits.Delay depth) _ _ body h in
    let whole = passed (not (length vs % depth == 0)) _ _ body few.1 in
    let short = passed (is_above PortLength (length vs / depth)) _ _ body whole.1 in
    record {
      low = few.0;
      body_is = same_ok _ body short.1;
      again = λ m. passes _ _ _ _ few.0 (passes _ _ _ _ whole.0 (passes _ _ _ _ short.0 refl));
    }

within_64 : (n : ℕ) → nat_lt 16 n ≡ false → nat_lt 64 n ≡ false
within_64 n h = grind arith

not_less : (m n : ℕ) → n ≤ m → nat_lt m n ≡ false
not_less m n h = grind arith

less_false : (m n : ℕ) → nat_lt m n ≡ false → n ≤ m
less_false m n h = grind arith

not_none : (n : ℕ) → 4 ≤ n → (n == 0) ≡ false
not_none n h = grind arith

neither_holds : (p q : Bool) → p ≡ false → q ≡ false → (p || q) ≡ false
neither_holds p q h g = rw (h, g) refl

module _ (k : Numbered) (version : ℕ) (names : List Bytes) (defs : List Def) (b : Block) (same : AreSame k defs b) where
  values_step : (key : Bytes) (kind : List ℤ → Body) (n : ℕ) (ws : List Bytes) (r : Reading) → is_word key ≡ true
      → ((w : Bytes) (vs : List ℤ) → body_lines version w (kind vs) ≡ value_words key w vs ∷ []) → ((vs : List ℤ) → IsPrintable (kind vs))
      → ((m : ℕ) (w : Bytes) (vs : List Bytes) → between_line (numbered k (open_at version names defs b)) m (key ∷ w ∷ codes "=" ∷ vs)
      ≡ values_line kind (numbered k (open_at version names defs b)) m (key ∷ w ∷ codes "=" ∷ vs))
      → values_line kind (open_at version names defs b) n ws ≡ Ok r → Adds k between version names defs b r
  values_step key kind n ws r key_word one printable key_line h =
      let w : Bytes = word ws 1 in
      let form = passed (nat_lt (length ws) 4 || not (bytes_eq (word ws 2) (codes "="))) _ _ r h in
      let long : 4 ≤ length ws = less_false (length ws) 4 (neither (nat_lt (length ws) 4) _ form.0).0 in
      let named = held (is_name w) _ _ r form.1 in
      let all = read (numbers_of n (drop 3 ws)) _ r named.1 in
      let vs : List ℤ = all.0 in
      let low = passed (is_above PortLength (length vs)) _ _ r all.2 in
      let new = passed (is_among w names) _ _ r low.1 in
      let are : (m : ℕ) → AreRead m (drop 3 ws) vs = λ m. numbers_read n m (drop 3 ws) vs all.1 in
      let some : 1 ≤ length vs = omega (arith, (are 0).length_same, length-drop 3 ws) in
      let count_is : length (map signed_decimal vs) ≡ length vs = length-map vs signed_decimal in
      let size : 4 ≤ length (value_words key w vs) = omega arith in
      subst (λ (x : Reading). Adds k between version names defs b x) (same_ok _ r new.1)
      (one_line k version names defs b same w n (kind vs) (value_words key w vs) (one w vs)
      (and_true (is_word key) _ key_word (and_true (is_word w) _ (name_word w named.0) ((are 0).plain)))
      (not_none (length (value_words key w vs)) size) (printable vs)
      (λ m. key_line m w (map signed_decimal vs)
      ∙ passes _ _ _ _ (neither_holds (nat_lt (length (value_words key w vs)) 4) false (not_less _ 4 size) refl)
      (holds _ _ _ _ named.0 (reads _ _ _ vs ((are m).again) (passes _ _ _ _ low.0 (passes _ _ _ _ new.0 refl))))))

  deep_step : (n : ℕ) (ws : List Bytes) (r : Reading) → (version == 1) ≡ false → deep_line (open_at version names defs b) n ws ≡ Ok r → Adds k between version names defs b r
  deep_step n ws r second h =
      let w : Bytes = word ws 1 in
      let form = passed (nat_lt (length ws) 5 || not (bytes_eq (word ws 3) (codes "="))) _ _ r h in
      let named = held (is_name w) _ _ r form.1 in
      let counted = found (count_of (word ws 2)) _ _ r named.1 in
      let depth : ℕ = counted.0 in
      let all = read (numbers_of n (drop 4 ws)) _ r counted.2 in
      let vs : List ℤ = all.0 in
      let body = read (deep_delay n depth vs) _ r all.2 in
      let deep : DeepRead depth vs body.0 = deep_read n depth vs body.0 body.1 in
      let new = passed (is_among w names) _ _ r body.2 in
      let are : (m : ℕ) → AreRead m (drop 4 ws) vs = λ m. numbers_read n m (drop 4 ws) vs all.1 in
      let some : (depth == 0) ≡ false = count_positive (word ws 2) depth counted.1 in
      let long : 5 ≤ length ws = less_false (length ws) 5 (neither (nat_lt (length ws) 5) _ form.0).0 in
      let low : nat_lt 64 depth ≡ false = within_64 depth deep.low in
      let count_is : length (map signed_decimal vs) ≡ length vs = length-map vs signed_decimal in
      let words : List Bytes = codes "delay" ∷ w ∷ count_text depth ∷ codes "=" ∷ map signed_decimal vs in
      let size : 5 ≤ length words = omega (arith, (are 0).length_same, length-drop 4 ws) in
      let line_is : delay_words version w depth vs ≡ words = ap (λ (t : Bool). cond t (value_words (codes "delay") w vs) words) second in
      subst (λ (x : Reading). Adds k between version names defs b x)
      (ap (λ (d : Body). record (open_at version names defs b) { names = names ++ w ∷ []; defs = defs ++ defined_at w d n ∷ [] }) deep.body_is ∙ same_ok _ r new.1)
      (one_line k version names defs b same w n (Delay depth vs) words (ap (λ (l : List Bytes). l ∷ []) line_is)
      (and_true (is_word w) _ (name_word w named.0) (and_true (is_word (count_text depth)) _ (count_word depth low) ((are 0).plain)))
      (not_none (length words) (omega arith)) tt
      (λ m. ap (λ (t : Bool). cond t (values_line (Delay 1) (numbered k (open_at version names defs b)) m words) (deep_line (numbered k (open_at version names defs b)) m words)) second
      ∙ passes _ _ _ _ (neither_holds (nat_lt (length words) 5) false (not_less _ 5 size) refl)
      (holds _ _ _ _ named.0 (finds _ _ _ _ depth (count_back depth some low)
      (reads _ _ _ vs ((are m).again) (reads _ _ _ (Delay depth vs) (deep.again m) (passes _ _ _ _ new.0 refl)))))))

  delay_step : (t : Bool) (n : ℕ) (ws : List Bytes) (r : Reading) → (version == 1) ≡ t → delay_line (open_at version names defs b) n ws ≡ Ok r → Adds k between version names defs b r
  delay_step true n ws r first h =
      values_step (codes "delay") (Delay 1) n ws r refl
      (λ w vs. ap (λ (t : Bool). cond t (value_words (codes "delay") w vs) (codes "delay" ∷ w ∷ count_text 1 ∷ codes "=" ∷ map signed_decimal vs) ∷ []) first) (λ vs. tt)
      (λ m w vs. ap (λ (t : Bool). cond t
      (values_line (Delay 1) (numbered k (open_at version names defs b)) m (codes "delay" ∷ w ∷ codes "=" ∷ vs))
      (deep_line (numbered k (open_at version names defs b)) m (codes "delay" ∷ w ∷ codes "=" ∷ vs))) first)
      (sym (ap (λ (t : Bool). cond t (values_line (Delay 1) (open_at version names defs b) n ws) (deep_line (open_at version names defs b) n ws)) first) ∙ h)
  delay_step false n ws r second h =
      deep_step n ws r second (sym (ap (λ (t : Bool). cond t (values_line (Delay 1) (open_at version names defs b) n ws) (deep_line (open_at version names defs b) n ws)) second) ∙ h)

  -- the numbers of lines of a block that a line with number m opens
  abbrev fresh : ℕ → Numbered
  fresh m = record { defs = k.defs; line = m; references = []; edges = []; cases = []; otherwise_line = 0; frontier = [] }

  abbrev opened_here : Stage → Bytes → Block → Reading
  opened_here s w c = record { stage = s; version = version; names = names ++ w ∷ []; defs = defs; block = c }

  -- a block that was opened has no lines yet
  opened_with : (s : Stage) (w : Bytes) (n : ℕ) (copies : ℕ) (def : Bytes) (ws : List Bytes) → are_words ws ≡ true → (length ws == 0) ≡ false
      → lines_at s version defs (record (new_block (first_part s) w n) { copies = copies; def = def }) ≡ version_words version
      ∷ (definition_lines version defs ++ ws ∷ []) → IsOrdered s defs (record (new_block (first_part s) w n) { copies = copies; def = def })
      → ((m : ℕ) → between_line (numbered k (open_at version names defs b)) m ws ≡ Ok (numbered (fresh m) (opened_here s w (record (new_block (first_part s) w n) { copies = copies; def = def }))))
      → Adds k between version names defs b (opened_here s w (record (new_block (first_part s) w n) { copies = copies; def = def }))
  opened_with s w n copies def ws plain some lines ordered again = record {
    words = ws;
    plain = plain;
    some = some;
    lines = lines;
    next = fresh;
    reads = again;
    same = λ m. record { defs_same = same.defs_same; references_same = refl; edges_same = refl; cases_same = refl; frontier_same = refl };
    ordered = ordered;
    printable = λ p. p;
  }

  opening_step : (key : Bytes) (s : Stage) (n : ℕ) (ws : List Bytes) (r : Reading) → is_word key ≡ true
      → ((w : Bytes) → lines_at s version defs (new_block (first_part s) w n) ≡ version_words version
      ∷ (definition_lines version defs ++ (key ∷ w ∷ []) ∷ [])) → ((w : Bytes) → IsOrdered s defs (new_block (first_part s) w n))
      → ((m : ℕ) (w : Bytes) → between_line (numbered k (open_at version names defs b)) m (key ∷ w ∷ []) ≡ opening_line s (numbered k (open_at version names defs b)) m (key ∷ w ∷ []))
      → opening_line s (open_at version names defs b) n ws ≡ Ok r → Adds k between version names defs b r
  opening_step key s n ws r key_word lines ordered key_line h =
      let w : Bytes = word ws 1 in
      let form = passed (not (length ws == 2)) _ _ r h in
      let named = held (is_name w) _ _ r form.1 in
      let new = passed (is_among w names) _ _ r named.1 in
      subst (λ (x : Reading). Adds k between version names defs b x) (same_ok _ r new.1)
      (opened_with s w n 0 [] (key ∷ w ∷ []) (and_true (is_word key) _ key_word (and_true (is_word w) true (name_word w named.0) refl)) refl (lines w) (ordered w)
      (λ m. key_line m w ∙ holds _ _ _ _ named.0 (passes _ _ _ _ new.0 refl)))

  repeat_step : (n : ℕ) (ws : List Bytes) (r : Reading) → repeat_line (open_at version names defs b) n ws ≡ Ok r → Adds k between version names defs b r
  repeat_step n ws r h =
      let w : Bytes = word ws 1 in
      let def : Bytes = word ws 3 in
      let form = passed (not (length ws == 4)) _ _ r h in
      let named = held (is_name w) _ _ r form.1 in
      let known = held (is_name def) _ _ r named.1 in
      let counted = found (count_of (word ws 2)) _ _ r known.1 in
      let copies : ℕ = counted.0 in
      let low = passed (is_above Copies copies) _ _ r counted.2 in
      let new = passed (is_among w names) _ _ r low.1 in
      let some : (copies == 0) ≡ false = count_positive (word ws 2) copies counted.1 in
      subst (λ (x : Reading). Adds k between version names defs b x) (same_ok _ r new.1)
      (opened_with in_repeat w n copies def (codes "repeat" ∷ w ∷ count_text copies ∷ def ∷ [])
      (and_true (is_word w) _ (name_word w named.0) (and_true (is_word (count_text copies)) _ (count_word copies low.0) (and_true (is_word def) true (name_word def known.0) refl)))
      refl refl tt
      (λ m. holds _ _ _ _ named.0 (holds _ _ _ _ known.0 (finds _ _ _ _ copies (count_back copies some low.0) (passes _ _ _ _ low.0 (passes _ _ _ _ new.0 refl))))))

  pub between_step : (n : ℕ) (ws : List Bytes) (r : Reading) → between_line (open_at version names defs b) n ws ≡ Ok r → Adds k between version names defs b r
  between_step n ws r h =
      either (begins ws (codes "sensor")) _ _ r h (end_step k version names defs b same (codes "sensor") Sensor n ws r refl (λ w len. refl) (λ len. tt) (λ m w v. refl)) (λ h1.
      either (begins ws (codes "actuator")) _ _ r h1 (end_step k version names defs b same (codes "actuator") Actuator n ws r refl (λ w len. refl) (λ len. tt) (λ m w v. refl)) (λ h2.
      either (begins ws (codes "constant")) _ _ r h2 (values_step (codes "constant") Constant n ws r refl (λ w vs. refl) (λ vs. tt) (λ m w vs. refl)) (λ h3.
      either (begins ws (codes "delay")) _ _ r h3 (delay_step (version == 1) n ws r refl) (λ h4.
      either (begins ws (codes "function")) _ _ r h4
      (opening_step (codes "function") in_function n ws r refl (λ w. refl)
      (λ w. record { no_results = λ e. refl; printable = All-nil _ }) (λ m w. refl)) (λ h5.
      either (begins ws (codes "graph")) _ _ r h5
      (opening_step (codes "graph") in_graph n ws r refl (λ w. refl)
      (λ w. record { no_outs = λ e. refl; no_references = λ e. refl; no_edges = λ e. refl }) (λ m w. refl)) (λ h6.
      either (begins ws (codes "switch")) _ _ r h6
      (opening_step (codes "switch") in_switch n ws r refl (λ w. refl)
      (λ w. record { no_ins = λ e. refl; no_outs = λ e. refl; no_cases = λ e. refl }) (λ m w. refl)) (λ h7.
      either (begins ws (codes "repeat")) _ _ r h7 (repeat_step n ws r) (λ h8. never _ r h8))))))))
