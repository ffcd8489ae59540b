-- One step of the reader: from what its calls answer to what it answers.
use Rattle.std.proofs.Common.{
  ◌≡◌,
  ℕ,
  suc,
  ◌+◌,
  ◌-◌,
  ◌<◌,
  false,
  true,
  Bool,
  cond,
  not,
  ◌||◌,
  Option,
  Some,
  None,
  Result,
  Ok,
  Err,
  ℤ,
  List,
  [],
  ◌∷◌,
  ◌++◌,
  length,
  drop,
  refl,
  arith,
  ap,
  ap₂,
  sym,
  ◌∙◌,
  subst,
  nat_lt,
  if◌then◌else◌,
}
use Rattle.std.specs.Option.{option_or}
use Rattle.std.specs.List.{list_any, position_or_len}
use Rattle.std.specs.Str.{bytes_eq}
use Rattle.std.proofs.lemmas.List.{drop-drop, length-map, length-append, length-drop}
use Rattle.syn_base.specs.declared.arithmetic.Op.{Op}
use Rattle.body_lang.specs.Expr.{view}
use Rattle.body_lang.specs.Expr as numbered
use Rattle.body_text.specs.declared.token.Placed as declared
use Rattle.body_text.specs.declared.token.Mark.{Mark}
use Rattle.body_text.specs.declared.token.Mark.TheVariants.{OpenRound, CloseRound, OpenSquare, Comma}
use Rattle.body_text.specs.declared.read.Read.{Read}
use Rattle.body_text.specs.declared.read.Stop.{Stop}
use Rattle.body_text.specs.declared.read.Stop.TheVariants.{At, OutOfMemory}
use Rattle.syn_base.specs.Bytes.{Bytes}
use Rattle.body_text.specs.Tokens.{Token, number, name}
use Rattle.body_text.specs.Grammar.{Written, literal, element, sum_over, negation, apply, select, written}
use Rattle.body_text.specs.Ports.{Naming, is_port, port_number, first_unknown, namings}
use Rattle.body_text.specs.declared.word.Word.{Word}
use Rattle.body_text.specs.Words.{form_of}
use Rattle.body_text.specs.Parse.{
  Parse,
  good,
  stops,
  andthen,
  behind,
  begins,
  first_token,
  ended,
  element_of,
  sum_of,
  apply_of,
  select_of,
  named,
  opened,
  arguments_of,
  index_of,
  parse,
  expression_of,
  alone,
}
use Rattle.body_text.specs.Answers.{tokens_of, behind_of, IsRead, Answers, LacksMemory, Makes}

-- what an answer with a value was read from
pub record Good (names : List Bytes) (ps : List declared.Placed) (from more : ℕ) (p : Parse) (r : Read) : Type 0 where
  pub tree : Written
  pub rest : List Token
  pub is : p ≡ good tree rest
  pub read : IsRead names ps from more tree rest r

pub good_of : (names : List Bytes) (ps : List declared.Placed) (from more : ℕ) (p : Parse) (r : Read) → Answers names ps from more p (Ok r) → Good names ps from more p r
good_of names ps from more (good w rest) r h = record { tree = w; rest = rest; is = refl; read = h }
good_of names ps from more (stops rest) r h = absurd h

pub good_at : (names : List Bytes) (ps : List declared.Placed) (from more : ℕ) (p : Parse) (r : Read) → Good names ps from more p r → Answers names ps from more p (Ok r)
good_at names ps from more p r g = subst (λ (q : Parse). Answers names ps from more q (Ok r)) (sym g.is) g.read

-- Where a mark begins what is after, there is a token.
begins_some : (m : Mark) (ts : List Token) → begins m ts ≡ true → 0 < length ts
begins_some m [] h = cc
begins_some m (t ∷ ts) h = omega arith

length_behind : (i : ℕ) (ps : List declared.Placed) → length (behind_of i ps) ≡ length ps - i
length_behind i ps = simp (length-drop, length-map) refl

pub begins_within : (m : Mark) (i : ℕ) (ps : List declared.Placed) → begins m (behind_of i ps) ≡ true → i < length ps
begins_within m i ps h = omega (arith, begins_some m (behind_of i ps) h, length_behind i ps)

pub one_behind : (i : ℕ) (ps : List declared.Placed) → drop 1 (behind_of i ps) ≡ behind_of (i + 1) ps
one_behind i ps = drop-drop 1 i (tokens_of ps)

-- a mark after an expression
pub ended_step : (names : List Bytes) (ps : List declared.Placed) (start : ℕ) (p : Parse) (m : Mark) (r s : Read)
    → Answers names ps start 0 p (Ok r) → begins m (behind_of r.next ps) ≡ true
    → s.value ≡ r.value → s.next ≡ r.next + 1 → s.unknown ≡ r.unknown
    → Answers names ps start 1 (andthen p (λ w rest. behind m rest (λ more. good w more))) (Ok s)
ended_step names ps start p m r s h mark value next unknown =
    let g : Good names ps start 0 p r = good_of names ps start 0 p r h in
    let here : begins m g.rest ≡ true = ap (begins m) (sym g.read.left) ∙ mark in
    good_at names ps start 1 _ s (record {
      tree = g.tree;
      rest = drop 1 g.rest;
      is = ap (λ (q : Parse). andthen q (λ w rest. behind m rest (λ more. good w more))) g.is ∙ ap (λ (b : Bool). cond b (good g.tree (drop 1 g.rest)) (stops g.rest)) here;
      read = record {
        value = ap view value ∙ g.read.value;
        unknown = unknown ∙ g.read.unknown;
        next = omega (arith, next, g.read.next);
        within = omega (arith, next, begins_within m r.next ps mark);
        left = ap (λ (k : ℕ). behind_of k ps) next ∙ sym (one_behind r.next ps) ∙ ap (drop 1) g.read.left;
      };
    })

-- the first port that is none, in two parts
unknown_there : (b : Bool) (at : ℕ) (o p : Option ℕ) → cond b (option_or o p) (Some at) ≡ option_or (cond b o (Some at)) p
unknown_there true at o p = refl
unknown_there false at o p = refl

pub unknown_both : (names : List Bytes) (ns ms : List Naming) → first_unknown names (ns ++ ms) ≡ option_or (first_unknown names ns) (first_unknown names ms)
unknown_both names [] ms = refl
unknown_both names (n ∷ ns) ms = rw (unknown_both names ns ms) (unknown_there (is_port names n.port) n.token (first_unknown names ns) (first_unknown names ms))

-- a name is a port's where the number that is found is below their number
pub is_port_below : (names : List Bytes) (p : Bytes) → is_port names p ≡ nat_lt (port_number names p) (length names)
is_port_below [] p = refl
is_port_below (n ∷ ns) p = step (bytes_eq p n) (list_any (bytes_eq p) ns) (position_or_len (bytes_eq p) ns) (length ns) (is_port_below ns p) where
  step : (b c : Bool) (k n : ℕ) → c ≡ nat_lt k n → (b || c) ≡ nat_lt (cond (not b) (1 + k) 0) (suc n)
  step true c k n h = grind arith
  step false c k n h = grind (arith, h)

length_apply : (op : Op) (a b : Written) → length (written (apply op a b)) ≡ length (written a) + length (written b) + 4
length_apply op a b = simp length-append (omega arith)

length_select : (c a b : Written) → length (written (select c a b)) ≡ length (written c) + length (written a) + length (written b) + 5
length_select c a b = simp length-append (omega arith)

length_element : (p : Bytes) (e : Written) → length (written (element p e)) ≡ length (written e) + 3
length_element p e = simp length-append (omega arith)

pub apply_step : (names : List Bytes) (ps : List declared.Placed) (start : ℕ) (op : Op) (read : List Token → Parse) (ts : List Token) (a b r : Read)
    → Answers names ps (start + 2) 1 (ended read Comma ts) (Ok a)
    → Answers names ps a.next 1 (ended read CloseRound (behind_of a.next ps)) (Ok b)
    → view r.value ≡ numbered.apply op (view a.value) (view b.value) → r.next ≡ b.next → r.unknown ≡ option_or a.unknown b.unknown
    → Answers names ps start 0 (apply_of read op ts) (Ok r)
apply_step names ps start op read ts a b r ha hb value next unknown =
    let g : Good names ps (start + 2) 1 (ended read Comma ts) a = good_of names ps (start + 2) 1 _ a ha in
    let h : Good names ps a.next 1 (ended read CloseRound (behind_of a.next ps)) b = good_of names ps a.next 1 _ b hb in
    let second : ℕ → Option ℕ = λ n. first_unknown names (namings n h.tree) in
    good_at names ps start 0 _ r (record {
      tree = apply op g.tree h.tree;
      rest = h.rest;
      is = ap (λ (p : Parse). andthen p (λ a rest. andthen (ended read CloseRound rest) (λ b last. good (apply op a b) last))) g.is
          ∙ ap (λ (xs : List Token). andthen (ended read CloseRound xs) (λ b last. good (apply op g.tree b) last)) (sym g.read.left)
          ∙ ap (λ (p : Parse). andthen p (λ b last. good (apply op g.tree b) last)) h.is;
      read = record {
        value = value ∙ ap₂ (numbered.apply op) g.read.value h.read.value;
        unknown = unknown ∙ ap₂ option_or g.read.unknown (h.read.unknown ∙ ap second (omega (arith, g.read.next)))
            ∙ sym (unknown_both names (namings (start + 2) g.tree) (namings (start + 3 + length (written g.tree)) h.tree));
        next = omega (arith, next, g.read.next, h.read.next, length_apply op g.tree h.tree);
        within = omega (arith, next, h.read.within);
        left = ap (λ (k : ℕ). behind_of k ps) next ∙ h.read.left;
      };
    })

pub element_step : (names : List Bytes) (ps : List declared.Placed) (start k : ℕ) (port : Bytes) (p : Parse) (e r : Read) (o : Option ℕ)
    → Answers names ps (start + 2) 1 p (Ok e)
    → k ≡ port_number names port → o ≡ (if nat_lt k (length names) then None else Some start)
    → view r.value ≡ numbered.element k (view e.value) → r.next ≡ e.next → r.unknown ≡ option_or o e.unknown
    → Answers names ps start 0 (andthen p (λ e rest. good (element port e) rest)) (Ok r)
element_step names ps start k port p e r o he found missing value next unknown =
    let g : Good names ps (start + 2) 1 p e = good_of names ps (start + 2) 1 p e he in
    good_at names ps start 0 _ r (record {
      tree = element port g.tree;
      rest = g.rest;
      is = ap (λ (p : Parse). andthen p (λ e rest. good (element port e) rest)) g.is;
      read = record {
        value = value ∙ ap₂ numbered.element found g.read.value;
        unknown = unknown ∙ ap₂ option_or (missing ∙ rw (found, ← is_port_below names port) refl) g.read.unknown ∙ chosen (is_port names port) start _;
        next = omega (arith, next, g.read.next, length_element port g.tree);
        within = omega (arith, next, g.read.within);
        left = ap (λ (k : ℕ). behind_of k ps) next ∙ g.read.left;
      };
    }) where
      chosen : (b : Bool) (at : ℕ) (rest : Option ℕ) → option_or (if b then None else Some at) rest ≡ cond b rest (Some at)
      chosen true at rest = refl
      chosen false at rest = refl

length_negation : (a : Written) → length (written (negation a)) ≡ length (written a) + 3
length_negation a = simp length-append (omega arith)

pub negation_step : (names : List Bytes) (ps : List declared.Placed) (start : ℕ) (p : Parse) (a r : Read)
    → Answers names ps (start + 2) 1 p (Ok a) → view r.value ≡ numbered.negation (view a.value) → r.next ≡ a.next → r.unknown ≡ a.unknown
    → Answers names ps start 0 (andthen p (λ a rest. good (negation a) rest)) (Ok r)
negation_step names ps start p a r ha value next unknown =
    let g : Good names ps (start + 2) 1 p a = good_of names ps (start + 2) 1 p a ha in
    good_at names ps start 0 _ r (record {
      tree = negation g.tree;
      rest = g.rest;
      is = ap (λ (p : Parse). andthen p (λ a rest. good (negation a) rest)) g.is;
      read = record {
        value = value ∙ ap numbered.negation g.read.value;
        unknown = unknown ∙ g.read.unknown;
        next = omega (arith, next, g.read.next, length_negation g.tree);
        within = omega (arith, next, g.read.within);
        left = ap (λ (k : ℕ). behind_of k ps) next ∙ g.read.left;
      };
    })

pub select_step : (names : List Bytes) (ps : List declared.Placed) (start : ℕ) (read : List Token → Parse) (ts : List Token) (c a b r : Read)
    → Answers names ps (start + 2) 1 (ended read Comma ts) (Ok c)
    → Answers names ps c.next 1 (ended read Comma (behind_of c.next ps)) (Ok a)
    → Answers names ps a.next 1 (ended read CloseRound (behind_of a.next ps)) (Ok b)
    → view r.value ≡ numbered.select (view c.value) (view a.value) (view b.value) → r.next ≡ b.next → r.unknown ≡ option_or (option_or c.unknown a.unknown) b.unknown
    → Answers names ps start 0 (select_of read ts) (Ok r)
select_step names ps start read ts c a b r hc ha hb value next unknown =
    let f : Good names ps (start + 2) 1 (ended read Comma ts) c = good_of names ps (start + 2) 1 _ c hc in
    let g : Good names ps c.next 1 (ended read Comma (behind_of c.next ps)) a = good_of names ps c.next 1 _ a ha in
    let h : Good names ps a.next 1 (ended read CloseRound (behind_of a.next ps)) b = good_of names ps a.next 1 _ b hb in
    let second : ℕ → Option ℕ = λ n. first_unknown names (namings n g.tree) in
    let third : ℕ → Option ℕ = λ n. first_unknown names (namings n h.tree) in
    let na : List Naming = namings (start + 3 + length (written f.tree)) g.tree in
    let nb : List Naming = namings (start + 4 + length (written f.tree) + length (written g.tree)) h.tree in
    good_at names ps start 0 _ r (record {
      tree = select f.tree g.tree h.tree;
      rest = h.rest;
      is = ap (λ (p : Parse). andthen p (λ c rest. andthen (ended read Comma rest) (λ a more. andthen (ended read CloseRound more) (λ b last. good (select c a b) last)))) f.is
          ∙ ap (λ (xs : List Token). andthen (ended read Comma xs) (λ a more. andthen (ended read CloseRound more) (λ b last. good (select f.tree a b) last))) (sym f.read.left)
          ∙ ap (λ (p : Parse). andthen p (λ a more. andthen (ended read CloseRound more) (λ b last. good (select f.tree a b) last))) g.is
          ∙ ap (λ (xs : List Token). andthen (ended read CloseRound xs) (λ b last. good (select f.tree g.tree b) last)) (sym g.read.left)
          ∙ ap (λ (p : Parse). andthen p (λ b last. good (select f.tree g.tree b) last)) h.is;
      read = record {
        value = value ∙ three f.read.value g.read.value h.read.value;
        unknown = unknown ∙ option_or_three c.unknown a.unknown b.unknown
            ∙ ap₂ option_or f.read.unknown (ap₂ option_or (g.read.unknown ∙ ap second (omega (arith, f.read.next)))
            (h.read.unknown ∙ ap third (omega (arith, f.read.next, g.read.next))) ∙ sym (unknown_both names na nb))
            ∙ sym (unknown_both names (namings (start + 2) f.tree) (na ++ nb));
        next = omega (arith, next, f.read.next, g.read.next, h.read.next, length_select f.tree g.tree h.tree);
        within = omega (arith, next, h.read.within);
        left = ap (λ (k : ℕ). behind_of k ps) next ∙ h.read.left;
      };
    }) where
      three : {c d a x b y : numbered.Expr} → c ≡ d → a ≡ x → b ≡ y → numbered.select c a b ≡ numbered.select d x y
      three p q r = cc

      option_or_three : (o p q : Option ℕ) → option_or (option_or o p) q ≡ option_or o (option_or p q)
      option_or_three None p q = refl
      option_or_three (Some n) p q = refl

-- What a name begins is what stands after it.
pub named_element : (read : List Token → Parse) (p : Bytes) (i : ℕ) (ps : List declared.Placed) → begins OpenSquare (behind_of (i + 1) ps) ≡ true
    → named read p (behind_of (i + 1) ps) ≡ element_of read p (behind_of (i + 2) ps)
named_element read p i ps h =
    let go : behind_of (i + 1 + 1) ps ≡ behind_of (i + 2) ps = ap (λ (k : ℕ). behind_of k ps) (omega arith) in
    ap (λ (b : Bool). cond b (element_of read p (drop 1 (behind_of (i + 1) ps))) (opened read (form_of p) p (behind_of (i + 1) ps))) h
    ∙ ap (element_of read p) (one_behind (i + 1) ps ∙ go)

pub named_word : (read : List Token → Parse) (p : Bytes) (w : Word) (i : ℕ) (ps : List declared.Placed) → begins OpenSquare (behind_of (i + 1) ps) ≡ false
    → form_of p ≡ Some w → begins OpenRound (behind_of (i + 1) ps) ≡ true
    → named read p (behind_of (i + 1) ps) ≡ arguments_of read w (behind_of (i + 2) ps)
named_word read p w i ps square word round =
    let xs : List Token = behind_of (i + 1) ps in
    let go : behind_of (i + 1 + 1) ps ≡ behind_of (i + 2) ps = ap (λ (k : ℕ). behind_of k ps) (omega arith) in
    ap (λ (b : Bool). cond b (element_of read p (drop 1 xs)) (opened read (form_of p) p xs)) square
    ∙ ap (λ (o : Option Word). opened read o p xs) word
    ∙ ap (λ (b : Bool). cond b (arguments_of read w (drop 1 xs)) (index_of p xs)) round
    ∙ ap (arguments_of read w) (one_behind (i + 1) ps ∙ go)

-- The first token is what stands in front of those after it.
first_is : (xs : List Token) (t : Token) → Some t ≡ first_token xs → xs ≡ t ∷ drop 1 xs
first_is [] t h = cc
first_is (x ∷ xs) t h = let e : t ≡ x = cc in rw e refl

pub first_behind : (i : ℕ) (ps : List declared.Placed) (t : Token) → Some t ≡ first_token (behind_of i ps) → behind_of i ps ≡ t ∷ behind_of (i + 1) ps
first_behind i ps t h = first_is (behind_of i ps) t h ∙ ap (λ xs. t ∷ xs) (one_behind i ps)

pub parse_first : (n k : ℕ) (ts us : List Token) → n ≡ suc k → ts ≡ us → parse n ts ≡ expression_of (λ xs. parse k xs) us
parse_first n k ts us h e = ap (λ (m : ℕ). parse m ts) h ∙ ap (expression_of (λ xs. parse k xs)) e

pub answers_along : (names : List Bytes) (ps : List declared.Placed) (start : ℕ) (p q : Parse) (r : Result Read Stop) → p ≡ q → Answers names ps start 0 q r → Answers names ps start 0 p r
answers_along names ps start p q r e h = subst (λ (x : Parse). Answers names ps start 0 x r) (sym e) h

pub within_first : (i : ℕ) (ps : List declared.Placed) (t : Token) → Some t ≡ first_token (behind_of i ps) → i < length ps
within_first i ps t h = omega (arith, ap length (first_is (behind_of i ps) t h), length_behind i ps)

pub literal_step : (names : List Bytes) (ps : List declared.Placed) (start n : ℕ) (v : ℤ) (r : Read) → (n ≡ 0 → ⊥) → Some (number v) ≡ first_token (behind_of start ps)
    → view r.value ≡ numbered.literal v → r.next ≡ start + 1 → r.unknown ≡ None → Answers names ps start 0 (parse n (behind_of start ps)) (Ok r)
literal_step names ps start n v r some first value next unknown =
    let deep : n ≡ suc (n - 1) = omega (arith, some) in
    good_at names ps start 0 _ r (record {
      tree = literal v;
      rest = behind_of (start + 1) ps;
      is = parse_first n (n - 1) _ _ deep (first_behind start ps (number v) first);
      read = record {
        value = value;
        unknown = unknown;
        next = omega (arith, next);
        within = omega (arith, next, within_first start ps (number v) first);
        left = ap (λ (k : ℕ). behind_of k ps) next;
      };
    })

pub name_step : (names : List Bytes) (ps : List declared.Placed) (start n : ℕ) (p : Bytes) (r : Result Read Stop) → (n ≡ 0 → ⊥) → Some (name p) ≡ first_token (behind_of start ps)
    → Answers names ps start 0 (named (λ xs. parse (n - 1) xs) p (behind_of (start + 1) ps)) r → Answers names ps start 0 (parse n (behind_of start ps)) r
name_step names ps start n p r some first h =
    let deep : n ≡ suc (n - 1) = omega (arith, some) in
    answers_along names ps start _ _ r (parse_first n (n - 1) _ _ deep (first_behind start ps (name p) first)) h

sum_behind : (ps : List declared.Placed) (start : ℕ) (p : Bytes) → Some (name p) ≡ first_token (behind_of (start + 2) ps)
    → sum_of (behind_of (start + 2) ps) ≡ behind CloseRound (behind_of (start + 3) ps) (λ rest. good (sum_over p) rest)
sum_behind ps start p first =
    ap sum_of (first_behind (start + 2) ps (name p) first) ∙ ap (λ (k : ℕ). behind CloseRound (behind_of k ps) (λ rest. good (sum_over p) rest)) (omega arith)

pub sum_open : (names : List Bytes) (ps : List declared.Placed) (start : ℕ) (p : Bytes) → Some (name p) ≡ first_token (behind_of (start + 2) ps)
    → begins CloseRound (behind_of (start + 3) ps) ≡ false → Answers names ps start 0 (sum_of (behind_of (start + 2) ps)) (Err (At (start + 3)))
sum_open names ps start p first h =
    let here : sum_of (behind_of (start + 2) ps) ≡ stops (behind_of (start + 3) ps) =
    sum_behind ps start p first ∙ ap (λ (b : Bool). cond b (good (sum_over p) (drop 1 (behind_of (start + 3) ps))) (stops (behind_of (start + 3) ps))) h in
    answers_along names ps start _ _ _ here (record { within = omega (arith, within_first (start + 2) ps (name p) first); left = refl })

pub sum_step : (names : List Bytes) (ps : List declared.Placed) (start k : ℕ) (p : Bytes) (r : Read) → Some (name p) ≡ first_token (behind_of (start + 2) ps)
    → begins CloseRound (behind_of (start + 3) ps) ≡ true → k ≡ port_number names p → r.unknown ≡ (if nat_lt k (length names) then None else Some (start + 2))
    → view r.value ≡ numbered.sum_over k → r.next ≡ start + 4 → Answers names ps start 0 (sum_of (behind_of (start + 2) ps)) (Ok r)
sum_step names ps start k p r first h found unknown value next =
    let here : sum_of (behind_of (start + 2) ps) ≡ good (sum_over p) (drop 1 (behind_of (start + 3) ps)) =
    sum_behind ps start p first ∙ ap (λ (b : Bool). cond b (good (sum_over p) (drop 1 (behind_of (start + 3) ps))) (stops (behind_of (start + 3) ps))) h in
    good_at names ps start 0 _ r (record {
      tree = sum_over p;
      rest = drop 1 (behind_of (start + 3) ps);
      is = here;
      read = record {
        value = value ∙ ap numbered.sum_over found;
        unknown = unknown ∙ rw (found, ← is_port_below names p) (chosen (is_port names p) (start + 2));
        next = omega (arith, next);
        within = omega (arith, next, begins_within CloseRound (start + 3) ps h);
        left = ap (λ (k : ℕ). behind_of k ps) next ∙ ap (λ (k : ℕ). behind_of k ps) (omega arith) ∙ sym (one_behind (start + 3) ps);
      };
    }) where
      chosen : (b : Bool) (at : ℕ) → (if b then None else Some at) ≡ cond b None (Some at)
      chosen true at = refl
      chosen false at = refl

-- A fault of an expression is one of the whole text.
pub alone_err : (names : List Bytes) (ps : List declared.Placed) (p : Parse) (s : Stop) → Answers names ps 0 0 p (Err s) → Answers names ps 0 0 (alone p) (Err s)
alone_err names ps (good w []) s h = h
alone_err names ps (good w (t ∷ ts)) (At i) h = absurd h
alone_err names ps (good w (t ∷ ts)) OutOfMemory h = tt
alone_err names ps (stops rest) s h = h

-- A token after the expression is one too many.
pub alone_more : (names : List Bytes) (ps : List declared.Placed) (p : Parse) (r : Read) → Answers names ps 0 0 p (Ok r) → r.next < length ps → Answers names ps 0 0 (alone p) (Err (At r.next))
alone_more names ps (good w []) r h less = absurd (omega (arith, less, ap length h.left, length_behind r.next ps))
alone_more names ps (good w (t ∷ ts)) r h less = record { within = h.within; left = h.left }
alone_more names ps (stops rest) r h less = absurd h

pub alone_all : (names : List Bytes) (ps : List declared.Placed) (p : Parse) (r : Read) → Answers names ps 0 0 p (Ok r) → (r.next < length ps → ⊥) → Answers names ps 0 0 (alone p) (Ok r)
alone_all names ps (good w []) r h all = h
alone_all names ps (good w (t ∷ ts)) r h all = absurd (omega (arith, all, ap length h.left, length_behind r.next ps))
alone_all names ps (stops rest) r h all = absurd h

-- Want of memory answers whatever is read.
lacks : (names : List Bytes) (ps : List declared.Placed) (start : ℕ) (p : Parse) (s : Stop) → LacksMemory s → Answers names ps start 0 p (Err s)
lacks names ps start (good w rest) s h = h
lacks names ps start (stops rest) (At i) h = absurd h
lacks names ps start (stops rest) OutOfMemory h = tt

-- The same steps, from what was put together.
pub negation_made : (names : List Bytes) (ps : List declared.Placed) (start : ℕ) (p : Parse) (a : Read) (r : Result Read Stop) → Answers names ps (start + 2) 1 p (Ok a)
    → Makes (numbered.negation (view a.value)) a.next a.unknown r → Answers names ps start 0 (andthen p (λ a rest. good (negation a) rest)) r
negation_made names ps start p a (Ok r) ha h = negation_step names ps start p a r ha h.value h.next_is h.unknown_is
negation_made names ps start p a (Err s) ha h = lacks names ps start _ s h

pub element_made : (names : List Bytes) (ps : List declared.Placed) (start k : ℕ) (port : Bytes) (p : Parse) (e : Read) (o : Option ℕ) (r : Result Read Stop) → Answers names ps (start + 2) 1 p (Ok e)
    → k ≡ port_number names port → o ≡ (if nat_lt k (length names) then None else Some start)
    → Makes (numbered.element k (view e.value)) e.next (option_or o e.unknown) r → Answers names ps start 0 (andthen p (λ e rest. good (element port e) rest)) r
element_made names ps start k port p e o (Ok r) he found missing h = element_step names ps start k port p e r o he found missing h.value h.next_is h.unknown_is
element_made names ps start k port p e o (Err s) he found missing h = lacks names ps start _ s h

pub apply_made : (names : List Bytes) (ps : List declared.Placed) (start : ℕ) (op : Op) (read : List Token → Parse) (ts : List Token) (a b : Read) (r : Result Read Stop)
    → Answers names ps (start + 2) 1 (ended read Comma ts) (Ok a)
    → Answers names ps a.next 1 (ended read CloseRound (behind_of a.next ps)) (Ok b)
    → Makes (numbered.apply op (view a.value) (view b.value)) b.next (option_or a.unknown b.unknown) r → Answers names ps start 0 (apply_of read op ts) r
apply_made names ps start op read ts a b (Ok r) ha hb h = apply_step names ps start op read ts a b r ha hb h.value h.next_is h.unknown_is
apply_made names ps start op read ts a b (Err s) ha hb h = lacks names ps start _ s h

pub select_made : (names : List Bytes) (ps : List declared.Placed) (start : ℕ) (read : List Token → Parse) (ts : List Token) (c a b : Read) (r : Result Read Stop)
    → Answers names ps (start + 2) 1 (ended read Comma ts) (Ok c)
    → Answers names ps c.next 1 (ended read Comma (behind_of c.next ps)) (Ok a)
    → Answers names ps a.next 1 (ended read CloseRound (behind_of a.next ps)) (Ok b)
    → Makes (numbered.select (view c.value) (view a.value) (view b.value)) b.next (option_or (option_or c.unknown a.unknown) b.unknown) r → Answers names ps start 0 (select_of read ts) r
select_made names ps start read ts c a b (Ok r) hc ha hb h = select_step names ps start read ts c a b r hc ha hb h.value h.next_is h.unknown_is
select_made names ps start read ts c a b (Err s) hc ha hb h = lacks names ps start _ s h
