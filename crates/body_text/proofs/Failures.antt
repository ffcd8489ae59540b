-- Where parsing stops, the tokens in front begin an expression's, and no further token changes where it stops.
use Rattle.std.proofs.Common.{
  ◌≡◌,
  ◌≢◌,
  ℕ,
  zero,
  suc,
  ◌<◌,
  false,
  true,
  Bool,
  cond,
  Option,
  Some,
  None,
  pos,
  List,
  [],
  ◌∷◌,
  ◌++◌,
  length,
  drop,
  refl,
  arith,
  ap,
  ap₂,
  sym,
  ◌∙◌,
  subst,
  append_assoc,
  codes,
}
use Rattle.std.specs.Str.{bytes_eq}
use Rattle.std.proofs.lemmas.List.{length-append}
use Rattle.syn_base.specs.declared.arithmetic.Op.{Op}
use Rattle.syn_base.specs.declared.arithmetic.Op.TheVariants.{Neg}
use Rattle.body_text.specs.declared.token.Mark.{Mark}
use Rattle.body_text.specs.declared.token.Mark.TheVariants.{OpenRound, CloseRound, OpenSquare, CloseSquare, Comma}
use Rattle.body_text.specs.declared.word.Word.{Word}
use Rattle.body_text.specs.declared.word.Word.TheVariants.{Select, Sum, Negation, Operator}
use Rattle.syn_base.specs.Bytes.{Bytes}
use Rattle.body_text.specs.Tokens.{Token, number, name, open_round, close_round, open_square, close_square, comma}
use Rattle.body_text.specs.Cut.{mark_view}
use Rattle.body_text.specs.Grammar.{Written, literal, index, element, sum_over, negation, apply, select, written, word_of, IsProper, IsExpression}
use Rattle.body_text.specs.Words.{form_of, text_of}
use Rattle.body_text.specs.Parse.{
  Parse,
  good,
  stops,
  andthen,
  behind,
  begins,
  is_mark,
  is_first,
  first_token,
  ended,
  element_of,
  negation_of,
  apply_of,
  select_of,
  sum_of,
  index_of,
  arguments_of,
  opened,
  named,
  expression_of,
  parse,
}
use Rattle.body_text.proofs.Fronts.{IsFront, IsEnded, clear_same, begins_is, cond_stops, ended_sound, parse_sound, word_is, operator_is_none_of_one, at_element, at_word, at_index, named_cases}
use Rattle.body_text.proofs.Complete.{complete, ended_complete, word_goes}

-- Reading stops at the rest: what is in front can be completed, and with any other rest that begins alike reading stops there too.
pub record Fails (p : ℕ → List Token → Parse) (C : List Token → Type 0) (ts rest : List Token) : Type 0 where
  pub pre : List Token
  pub is : ts ≡ pre ++ rest
  pub more : List Token
  pub whole : C (pre ++ more)
  pub local : (m : ℕ) (cont : List Token) → length pre < m → first_token cont ≡ first_token rest → p m (pre ++ cont) ≡ stops cont

-- these tokens are an expression with a mark after it
pub record EndedBy (m : Mark) (ts : List Token) : Type 0 where
  pub tree : Written
  pub proper : IsProper tree
  pub is : ts ≡ written tree ++ mark_view m ∷ []

-- these tokens are two expressions, with a comma after the first and a `)` after the second
pub record Two (ts : List Token) : Type 0 where
  pub first : Written
  pub second : Written
  pub proper : IsProper first × IsProper second
  pub is : ts ≡ written first ++ comma ∷ (written second ++ close_round ∷ [])

-- so deep, it is known where parsing stops
abbrev pub Stopping : ℕ → Type 0
Stopping n = (ts rest : List Token) → parse n ts ≡ stops rest → length ts < n → Fails (λ k xs. parse k xs) IsExpression ts rest

middle : (xs ys zs : List Token) (t : Token) → (xs ++ t ∷ ys) ++ zs ≡ xs ++ t ∷ (ys ++ zs)
middle xs ys zs t = append_assoc xs (t ∷ ys) zs

module _ (n : ℕ) (below : Stopping n) (m : Mark) (square : is_mark OpenSquare (mark_view m) ≡ false) where
  -- no mark after an expression
  no_mark : (ts rest : List Token) (w : Written) (more : List Token) → parse n ts ≡ good w more → begins m more ≡ false → more ≡ rest → Fails (λ k xs. ended (parse k) m xs) (EndedBy m) ts rest
  no_mark ts rest w more e lacks same =
      let f : IsFront ts w more = parse_sound n ts w more e in
      record {
        pre = written w;
        is = f.is ∙ ap (λ xs. written w ++ xs) same;
        more = mark_view m ∷ [];
        whole = record { tree = w; proper = f.proper; is = refl };
        local = λ k cont short head.
            let alike : first_token cont ≡ first_token more = head ∙ ap first_token (sym same) in
            ap (λ (p : Parse). andthen p (λ w rest. behind m rest (λ more. good w more))) (complete k w cont f.proper (clear_same w more cont alike f.clear) short)
            ∙ ap (λ (b : Bool). cond b (good w (drop 1 cont)) (stops cont)) (ap (is_first m) alike ∙ lacks);
      }

  ended_fails_at : (ts rest : List Token) (p : Parse) → parse n ts ≡ p → andthen p (λ w rest. behind m rest (λ more. good w more))
      ≡ stops rest → length ts < n → Fails (λ k xs. ended (parse k) m xs) (EndedBy m) ts rest
  ended_fails_at ts rest (good w more) e h short =
      let c = cond_stops (begins m more) w (drop 1 more) more rest h in
      no_mark ts rest w more e c.0 c.1
  ended_fails_at ts rest (stops r) e h short =
      let f : Fails (λ k xs. parse k xs) IsExpression ts rest = below ts rest (e ∙ h) short in
      record {
        pre = f.pre;
        is = f.is;
        more = f.more ++ mark_view m ∷ [];
        whole = record { tree = f.whole.0; proper = f.whole.1.0; is = sym (append_assoc f.pre f.more (mark_view m ∷ [])) ∙ ap (λ xs. xs ++ mark_view m ∷ []) f.whole.1.1 };
        local = λ k cont less head. ap (λ (p : Parse). andthen p (λ w rest. behind m rest (λ more. good w more))) (f.local k cont less head);
      }

  pub ended_fails : (ts rest : List Token) → ended (parse n) m ts ≡ stops rest → length ts < n → Fails (λ k xs. ended (parse k) m xs) (EndedBy m) ts rest
  ended_fails ts rest h short = ended_fails_at ts rest (parse n ts) refl h short

  -- An expression with its mark, and then the rest of a form.
  module _ (q : Written → ℕ → List Token → Parse) (C : List Token → Type 0) (D : Written → List Token → Type 0)
      (rests : (w : Written) → IsProper w → (ts rest : List Token) → q w n ts ≡ stops rest → length ts < n → Fails (q w) (D w) ts rest)
      (some : List Token) (has : (w : Written) → D w some)
      (join : (w : Written) (xs : List Token) → IsProper w → D w xs → C (written w ++ mark_view m ∷ xs)) where
    abbrev both : ℕ → List Token → Parse
    both k xs = andthen (ended (parse k) m xs) (λ w rest. q w k rest)

    first_stops : (ts rest : List Token) → Fails (λ k xs. ended (parse k) m xs) (EndedBy m) ts rest → Fails both C ts rest
    first_stops ts rest f =
        let w : Written = f.whole.tree in
        let all : f.pre ++ (f.more ++ some) ≡ written w ++ mark_view m ∷ some =
        sym (append_assoc f.pre f.more some) ∙ ap (λ xs. xs ++ some) f.whole.is ∙ append_assoc (written w) (mark_view m ∷ []) some in
        record {
          pre = f.pre;
          is = f.is;
          more = f.more ++ some;
          whole = subst (λ (xs : List Token). C xs) (sym all) (join w some f.whole.proper (has w));
          local = λ k cont less head. ap (λ (p : Parse). andthen p (λ w rest. q w k rest)) (f.local k cont less head);
        }

    second_stops : (ts rest more : List Token) (w : Written) → IsEnded m ts w more → Fails (q w) (D w) more rest → Fails both C ts rest
    second_stops ts rest more w e f = record {
      pre = written w ++ mark_view m ∷ f.pre;
      is = e.is ∙ ap (λ xs. written w ++ mark_view m ∷ xs) f.is ∙ sym (middle (written w) f.pre rest (mark_view m));
      more = f.more;
      whole = subst (λ (xs : List Token). C xs) (sym (middle (written w) f.pre f.more (mark_view m))) (join w (f.pre ++ f.more) e.proper f.whole);
      local = λ k cont less head.
          let size = length-append (written w) (mark_view m ∷ f.pre) in
          ap (λ xs. both k xs) (middle (written w) f.pre cont (mark_view m))
          ∙ ap (λ (p : Parse). andthen p (λ w rest. q w k rest)) (ended_complete k (complete k) m square w (f.pre ++ cont) e.proper (omega (arith, size)))
          ∙ f.local k cont (omega (arith, size)) head;
    }

    both_fails_at : (ts rest : List Token) (p : Parse) → ended (parse n) m ts ≡ p → andthen p (λ w rest. q w n rest) ≡ stops rest → length ts < n → Fails both C ts rest
    both_fails_at ts rest (stops r) e h short = first_stops ts rest (ended_fails ts rest (e ∙ h) short)
    both_fails_at ts rest (good w more) e h short =
        let found : IsEnded m ts w more = ended_sound (parse n) (parse_sound n) m ts w more e in
        let less : length more < n = omega (arith, ap length found.is, length-append (written w) (mark_view m ∷ more)) in
        second_stops ts rest more w found (rests w found.proper more rest h less)

    pub both_fails : (ts rest : List Token) → both n ts ≡ stops rest → length ts < n → Fails both C ts rest
    both_fails ts rest h short = both_fails_at ts rest (ended (parse n) m ts) refl h short

never : (w : Written) (ts rest : List Token) (A : Type 0) → good w ts ≡ stops rest → A
never w ts rest A h = cc

-- Two tokens in front of what stops.
wrap_fails : (s t : Token) (q : ℕ → List Token → Parse) → ((k : ℕ) (xs : List Token) → parse (suc k) (s ∷ t ∷ xs) ≡ q k xs) → (ts rest : List Token)
    → Fails q (λ xs. IsExpression (s ∷ t ∷ xs)) ts rest → Fails (λ k xs. parse k xs) IsExpression (s ∷ t ∷ ts) rest
wrap_fails s t q goes ts rest f = record {
  pre = s ∷ t ∷ f.pre;
  is = ap (λ xs. s ∷ t ∷ xs) f.is;
  more = f.more;
  whole = f.whole;
  local = inside;
} where
  inside : (k : ℕ) (cont : List Token) → length (s ∷ t ∷ f.pre) < k → first_token cont ≡ first_token rest → parse k ((s ∷ t ∷ f.pre) ++ cont) ≡ stops cont
  inside zero cont less head = absurd (omega arith)
  inside (suc k) cont less head = goes k (f.pre ++ cont) ∙ f.local k cont (omega arith) head

-- What does not begin an expression.
starts : Option Token → Bool
starts None = false
starts (Some (number v)) = true
starts (Some (name p)) = true
starts (Some _) = false

module _ (n : ℕ) (below : Stopping n) where
  element_fails : (p : Bytes) (ts rest : List Token) → element_of (parse n) p ts ≡ stops rest → length ts < n → Fails (λ k xs. parse k xs) IsExpression (name p ∷ open_square ∷ ts) rest
  element_fails p ts rest h short =
      let C : List Token → Type 0 = λ xs. IsExpression (name p ∷ open_square ∷ xs) in
      wrap_fails (name p) open_square (λ k xs. element_of (parse k) p xs) (λ k xs. refl) ts rest
      (both_fails n below CloseSquare refl (λ e k rest. good (element p e) rest) C (λ e xs. xs ≡ [])
      (λ e proper us more g less. never _ _ _ _ g) [] (λ e. refl)
      (λ e xs proper d. (element p e, (proper, ap (λ us. name p ∷ open_square ∷ (written e ++ close_square ∷ us)) d)))
      ts rest h short)

  negation_fails : (ts rest : List Token) → negation_of (parse n) ts ≡ stops rest → length ts < n
      → Fails (λ k xs. negation_of (parse k) xs) (λ xs. IsExpression (name (word_of Neg) ∷ open_round ∷ xs)) ts rest
  negation_fails ts rest h short =
      both_fails n below CloseRound refl (λ a k rest. good (negation a) rest) (λ xs. IsExpression (name (word_of Neg) ∷ open_round ∷ xs)) (λ a xs. xs ≡ [])
      (λ a proper us more g less. never _ _ _ _ g) [] (λ a. refl)
      (λ a xs proper d. (negation a, (proper, ap (λ us. name (word_of Neg) ∷ open_round ∷ (written a ++ close_round ∷ us)) d)))
      ts rest h short

  apply_fails : (op : Op) → op ≢ Neg → (ts rest : List Token) → apply_of (parse n) op ts ≡ stops rest → length ts < n
      → Fails (λ k xs. apply_of (parse k) op xs) (λ xs. IsExpression (name (word_of op) ∷ open_round ∷ xs)) ts rest
  apply_fails op two ts rest h short =
      both_fails n below Comma refl (λ a k rest. andthen (ended (parse k) CloseRound rest) (λ b last. good (apply op a b) last))
      (λ xs. IsExpression (name (word_of op) ∷ open_round ∷ xs)) (λ a xs. EndedBy CloseRound xs)
      (λ a proper us more g less. both_fails n below CloseRound refl (λ b k last. good (apply op a b) last) (EndedBy CloseRound) (λ b xs. xs ≡ [])
      (λ b p2 vs last g2 less2. never _ _ _ _ g2) [] (λ b. refl)
      (λ b xs p2 d. record { tree = b; proper = p2; is = ap (λ us. written b ++ close_round ∷ us) d })
      us more g less)
      (number (pos 0) ∷ close_round ∷ []) (λ a. record { tree = literal (pos 0); proper = tt; is = refl })
      (λ a xs proper d. (apply op a d.tree, ((two, (proper, d.proper)), ap (λ us. name (word_of op) ∷ open_round ∷ (written a ++ comma ∷ us)) d.is)))
      ts rest h short

  select_fails : (ts rest : List Token) → select_of (parse n) ts ≡ stops rest → length ts < n
      → Fails (λ k xs. select_of (parse k) xs) (λ xs. IsExpression (name (codes "select") ∷ open_round ∷ xs)) ts rest
  select_fails ts rest h short =
      both_fails n below Comma refl (λ c k rest. andthen (ended (parse k) Comma rest)
      (λ a more. andthen (ended (parse k) CloseRound more) (λ b last. good (select c a b) last)))
      (λ xs. IsExpression (name (codes "select") ∷ open_round ∷ xs)) (λ c xs. Two xs)
      (λ c proper us more g less. both_fails n below Comma refl (λ a k rest. andthen (ended (parse k) CloseRound rest) (λ b last. good (select c a b) last)) Two (λ a xs. EndedBy CloseRound xs)
      (λ a pa vs last g2 less2. both_fails n below CloseRound refl (λ b k last. good (select c a b) last) (EndedBy CloseRound) (λ b xs. xs ≡ [])
      (λ b pb xs end g3 less3. never _ _ _ _ g3) [] (λ b. refl)
      (λ b xs pb d. record { tree = b; proper = pb; is = ap (λ us. written b ++ close_round ∷ us) d })
      vs last g2 less2)
      (number (pos 0) ∷ close_round ∷ []) (λ a. record { tree = literal (pos 0); proper = tt; is = refl })
      (λ a xs pa d. record { first = a; second = d.tree; proper = (pa, d.proper); is = ap (λ us. written a ++ comma ∷ us) d.is })
      us more g less)
      (number (pos 0) ∷ comma ∷ number (pos 0) ∷ close_round ∷ []) (λ c. record { first = literal (pos 0); second = literal (pos 0); proper = (tt, tt); is = refl })
      (λ c xs proper d. (select c d.first d.second, ((proper, d.proper), ap (λ us. name (codes "select") ∷ open_round ∷ (written c ++ comma ∷ us)) d.is)))
      ts rest h short

-- After `sum(`.
is_named : Option Token → Bool
is_named None = false
is_named (Some (name p)) = true
is_named (Some _) = false

sum_stops : (ts : List Token) → is_named (first_token ts) ≡ false → sum_of ts ≡ stops ts
unfolding is_named
sum_stops [] h = refl
sum_stops (name p ∷ ts) h = cc
sum_stops _ h = refl

sum_at_once : (ts rest : List Token) → is_named (first_token ts) ≡ false → ts ≡ rest → Fails (λ k xs. sum_of xs) (λ xs. IsExpression (name (codes "sum") ∷ open_round ∷ xs)) ts rest
sum_at_once ts rest h e = record {
  pre = [];
  is = e;
  more = name (codes "p") ∷ close_round ∷ [];
  whole = (sum_over (codes "p"), (tt, refl));
  local = λ k cont less head. sum_stops cont (ap is_named (head ∙ ap first_token (sym e)) ∙ h);
}

sum_no_mark : (p : Bytes) (ts rest : List Token) → begins CloseRound ts ≡ false → ts ≡ rest → Fails (λ k xs. sum_of xs) (λ xs. IsExpression (name (codes "sum") ∷ open_round ∷ xs)) (name p ∷ ts) rest
sum_no_mark p ts rest lacks e = record {
  pre = name p ∷ [];
  is = ap (λ xs. name p ∷ xs) e;
  more = close_round ∷ [];
  whole = (sum_over p, (tt, refl));
  local = λ k cont less head. ap (λ (b : Bool). cond b (good (sum_over p) (drop 1 cont)) (stops cont)) (ap (is_first CloseRound) (head ∙ ap first_token (sym e)) ∙ lacks);
}

sum_fails : (ts rest : List Token) → sum_of ts ≡ stops rest → Fails (λ k xs. sum_of xs) (λ xs. IsExpression (name (codes "sum") ∷ open_round ∷ xs)) ts rest
unfolding is_named
sum_fails (name p ∷ ts) rest h = let c = cond_stops (begins CloseRound ts) (sum_over p) (drop 1 ts) ts rest h in sum_no_mark p ts rest c.0 c.1
sum_fails [] rest h = sum_at_once [] rest refl cc
sum_fails (t ∷ ts) rest h = sum_at_once (t ∷ ts) rest refl cc

-- A name that no form goes on with.
index_alike : (p : Bytes) (ts cont : List Token) (read : List Token → Parse) (o : Option Word) → form_of p ≡ o → begins OpenSquare cont
    ≡ false → ((f : Word) → form_of p ≡ Some f → begins OpenRound cont ≡ false) → opened read o p cont ≡ index_of p cont
index_alike p ts cont read None e square word = refl
index_alike p ts cont read (Some f) e square word = ap (λ (b : Bool). cond b (arguments_of read f (drop 1 cont)) (index_of p cont)) (word f e)

index_cond : (b : Bool) (ts rest : List Token) → cond b (good index ts) (stops ts) ≡ stops rest → (b ≡ false) × (ts ≡ rest)
index_cond b ts rest h = cond_stops b index ts ts rest h

index_fails : (p : Bytes) (ts rest : List Token) → begins OpenSquare ts ≡ false → ((f : Word) → form_of p ≡ Some f → begins OpenRound ts ≡ false) → index_of p ts ≡ stops rest
    → Fails (λ k xs. parse k xs) IsExpression (name p ∷ ts) rest
index_fails p ts rest square word h = record {
  pre = name p ∷ [];
  is = ap (λ xs. name p ∷ xs) c.1;
  more = open_square ∷ number (pos 0) ∷ close_square ∷ [];
  whole = (element p (literal (pos 0)), (tt, refl));
  local = inside;
} where
  c : (bytes_eq p (codes "j") ≡ false) × (ts ≡ rest)
  c = index_cond (bytes_eq p (codes "j")) ts rest h

  inside : (k : ℕ) (cont : List Token) → length (name p ∷ []) < k → first_token cont ≡ first_token rest → parse k ((name p ∷ []) ++ cont) ≡ stops cont
  inside zero cont less head = absurd (omega arith)
  inside (suc k) cont less head =
      let alike : first_token cont ≡ first_token ts = head ∙ ap first_token (sym c.1) in
      let no_square : begins OpenSquare cont ≡ false = ap (is_first OpenSquare) alike ∙ square in
      ap (λ (b : Bool). cond b (element_of (parse k) p (drop 1 cont)) (opened (parse k) (form_of p) p cont)) no_square
      ∙ index_alike p ts cont (parse k) (form_of p) refl no_square (λ f e. ap (is_first OpenRound) alike ∙ word f e)
      ∙ ap (λ (b : Bool). cond b (good index cont) (stops cont)) c.0

module _ (n : ℕ) (below : Stopping n) where
  arguments_fails : (f : Word) → ((op : Op) → f ≡ Operator op → op ≢ Neg) → (ts rest : List Token) → arguments_of (parse n) f ts ≡ stops rest → length ts < n
      → Fails (λ k xs. arguments_of (parse k) f xs) (λ xs. IsExpression (name (text_of f) ∷ open_round ∷ xs)) ts rest
  arguments_fails Select two ts rest h short = select_fails n below ts rest h short
  arguments_fails Sum two ts rest h short = sum_fails ts rest h
  arguments_fails Negation two ts rest h short = negation_fails n below ts rest h short
  arguments_fails (Operator op) two ts rest h short = apply_fails n below op (two op refl) ts rest h short

  word_fails : (p : Bytes) (f : Word) (ts rest : List Token) → form_of p ≡ Some f → begins OpenRound ts ≡ true → arguments_of (parse n) f (drop 1 ts) ≡ stops rest → length ts < n
      → Fails (λ k xs. parse k xs) IsExpression (name p ∷ ts) rest
  word_fails p f ts rest form round h short =
      let two : (op : Op) → f ≡ Operator op → op ≢ Neg = λ op e. operator_is_none_of_one p op (form ∙ ap Some e) in
      let opens : ts ≡ open_round ∷ drop 1 ts = begins_is OpenRound ts round in
      let less : length (drop 1 ts) < n = omega (arith, ap length opens) in
      let named_so : p ≡ text_of f = word_is p f form in
      let goes : (k : ℕ) (xs : List Token) → parse (suc k) (name (text_of f) ∷ open_round ∷ xs) ≡ arguments_of (parse k) f xs = λ k xs. word_goes k f xs (ap form_of (sym named_so) ∙ form) in
      let inner = wrap_fails (name (text_of f)) open_round (λ k xs. arguments_of (parse k) f xs) goes (drop 1 ts) rest (arguments_fails f two (drop 1 ts) rest h less) in
      subst (λ (xs : List Token). Fails (λ k us. parse k us) IsExpression xs rest) (sym (ap₂ (λ x xs. name x ∷ xs) named_so opens)) inner

  square_fails : (p : Bytes) (ts rest : List Token) → begins OpenSquare ts ≡ true → element_of (parse n) p (drop 1 ts) ≡ stops rest
      → length ts < n → Fails (λ k xs. parse k xs) IsExpression (name p ∷ ts) rest
  square_fails p ts rest square h short =
      let opens : ts ≡ open_square ∷ drop 1 ts = begins_is OpenSquare ts square in
      let less : length (drop 1 ts) < n = omega (arith, ap length opens) in
      subst (λ (xs : List Token). Fails (λ k us. parse k us) IsExpression (name p ∷ xs) rest) (sym opens) (element_fails n below p (drop 1 ts) rest h less)

  name_fails : (p : Bytes) (ts rest : List Token) → named (parse n) p ts ≡ stops rest → length ts < n → Fails (λ k xs. parse k xs) IsExpression (name p ∷ ts) rest
  name_fails p ts rest h short = elim (named_cases (parse n) p ts (stops rest) h) [
    | at_element square goes ↦ square_fails p ts rest square goes short
    | at_word f form round goes ↦ word_fails p f ts rest form round goes short
    | at_index square word goes ↦ index_fails p ts rest square word goes
  ]

  expression_stops : (read : List Token → Parse) (ts : List Token) → starts (first_token ts) ≡ false → expression_of read ts ≡ stops ts
  unfolding starts
  expression_stops read [] h = refl
  expression_stops read (number v ∷ ts) h = cc
  expression_stops read (name p ∷ ts) h = cc
  expression_stops read (t ∷ ts) h = refl

  at_once : (ts rest : List Token) → starts (first_token ts) ≡ false → ts ≡ rest → Fails (λ k xs. parse k xs) IsExpression ts rest
  at_once ts rest h e = record {
    pre = [];
    is = e;
    more = number (pos 0) ∷ [];
    whole = (literal (pos 0), (tt, refl));
    local = inside;
  } where
    inside : (k : ℕ) (cont : List Token) → length {A = Token} [] < k → first_token cont ≡ first_token rest → parse k ([] ++ cont) ≡ stops cont
    inside zero cont less head = absurd (omega arith)
    inside (suc k) cont less head = expression_stops (λ xs. parse k xs) cont (ap starts (head ∙ ap first_token (sym e)) ∙ h)

  step_fails : (ts rest : List Token) → parse (suc n) ts ≡ stops rest → length ts < suc n → Fails (λ k xs. parse k xs) IsExpression ts rest
  unfolding starts
  step_fails (number v ∷ ts) rest h short = never _ _ _ _ h
  step_fails (name p ∷ ts) rest h short = name_fails p ts rest h (omega arith)
  step_fails [] rest h short = at_once [] rest refl cc
  step_fails (t ∷ ts) rest h short = at_once (t ∷ ts) rest refl cc

pub parse_fails : (n : ℕ) → Stopping n
parse_fails zero ts rest h short = absurd (omega arith)
parse_fails (suc n) ts rest h short = step_fails n (λ us more e less. parse_fails n us more e less) ts rest h short
