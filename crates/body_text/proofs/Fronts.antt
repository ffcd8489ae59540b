-- What parsing reads is written by the expression that it answers, and each expression's tokens are read back.
use Rattle.std.proofs.Common.{◌≡◌, ◌≢◌, ℕ, zero, suc, false, true, Bool, cond, Option, Some, None, List, [], ◌∷◌, ◌++◌, drop, refl, ap, ap₂, sym, ◌∙◌, subst, append_assoc, codes, ◌⊎◌, inl, inr}
use Rattle.std.specs.Str.{bytes_eq}
use Rattle.std.proofs.lemmas.Slice.Eq.{bytes_eq-Decides}
use Rattle.syn_base.specs.declared.arithmetic.Op.{Op}
use Rattle.syn_base.specs.declared.arithmetic.Op.TheVariants.{Add, Sub, Mul, Div, Rem, Eq, Ne, Lt, Le, Gt, Ge, Min, Max, Neg}
use Rattle.body_text.specs.declared.token.Mark.{Mark}
use Rattle.body_text.specs.declared.token.Mark.TheVariants.{OpenRound, CloseRound, OpenSquare, CloseSquare, Comma}
use Rattle.body_text.specs.declared.word.Word.{Word}
use Rattle.body_text.specs.declared.word.Word.TheVariants.{Select, Sum, Negation, Operator}
use Rattle.syn_base.specs.Bytes.{Bytes}
use Rattle.body_text.specs.Tokens.{Token, number, name, open_round, close_round, open_square, close_square, comma}
use Rattle.body_text.specs.Cut.{mark_view}
use Rattle.body_text.specs.Grammar.{Written, literal, index, element, sum_over, negation, apply, select, written, word_of, IsProper}
use Rattle.body_text.specs.Words.{form_of, found_in, text_of, words}
use Rattle.body_text.specs.Parse.{
  Parse,
  good,
  stops,
  andthen,
  behind,
  begins,
  is_mark,
  is_first,
  first_token,
  ended,
  element_of,
  negation_of,
  apply_of,
  select_of,
  sum_of,
  index_of,
  arguments_of,
  opened,
  named,
  expression_of,
  parse,
}

-- A token that passes as a mark is the mark.
mark_is : (m : Mark) (t : Token) → is_mark m t ≡ true → t ≡ mark_view m
mark_is OpenRound open_round h = refl
mark_is CloseRound close_round h = refl
mark_is OpenSquare open_square h = refl
mark_is CloseSquare close_square h = refl
mark_is Comma comma h = refl
mark_is _ _ h = cc

pub mark_itself : (m : Mark) → is_mark m (mark_view m) ≡ true
mark_itself OpenRound = refl
mark_itself CloseRound = refl
mark_itself OpenSquare = refl
mark_itself CloseSquare = refl
mark_itself Comma = refl

pub begins_is : (m : Mark) (ts : List Token) → begins m ts ≡ true → ts ≡ mark_view m ∷ drop 1 ts
begins_is m [] h = cc
begins_is m (t ∷ ts) h = ap (λ x. x ∷ ts) (mark_is m t h)

-- `j` is an element's number only where no `[` follows
abbrev pub IsClear : Written → List Token → Type 0
IsClear (literal v) ts = Unit {0}
IsClear index ts = begins OpenSquare ts ≡ false
IsClear (element p e) ts = Unit {0}
IsClear (sum_over p) ts = Unit {0}
IsClear (negation a) ts = Unit {0}
IsClear (apply op a b) ts = Unit {0}
IsClear (select c a b) ts = Unit {0}

-- whether it is clear depends on the first token alone
pub clear_first : (w : Written) (o : Option Token) (ts : List Token) → first_token ts ≡ o → is_first OpenSquare o ≡ false → IsClear w ts
clear_first (literal v) o ts e h = tt
clear_first index o ts e h = ap (is_first OpenSquare) e ∙ h
clear_first (element p x) o ts e h = tt
clear_first (sum_over p) o ts e h = tt
clear_first (negation a) o ts e h = tt
clear_first (apply op a b) o ts e h = tt
clear_first (select c a b) o ts e h = tt

pub clear_same : (w : Written) (xs ys : List Token) → first_token ys ≡ first_token xs → IsClear w xs → IsClear w ys
clear_same (literal v) xs ys e h = tt
clear_same index xs ys e h = ap (is_first OpenSquare) e ∙ h
clear_same (element p x) xs ys e h = tt
clear_same (sum_over p) xs ys e h = tt
clear_same (negation a) xs ys e h = tt
clear_same (apply op a b) xs ys e h = tt
clear_same (select c a b) xs ys e h = tt

-- these tokens begin with the expression's
pub record IsFront (ts : List Token) (w : Written) (rest : List Token) : Type 0 where
  pub proper : IsProper w
  pub is : ts ≡ written w ++ rest
  pub clear : IsClear w rest

-- and a mark follows
pub record IsEnded (m : Mark) (ts : List Token) (w : Written) (rest : List Token) : Type 0 where
  pub proper : IsProper w
  pub is : ts ≡ written w ++ mark_view m ∷ rest

abbrev pub Sound : (List Token → Parse) → Type 0
Sound read = (ts : List Token) (w : Written) (rest : List Token) → read ts ≡ good w rest → IsFront ts w rest

pub front_along : (ts : List Token) (v w : Written) (more rest : List Token) → good v more ≡ good w rest → IsFront ts v more → IsFront ts w rest
front_along ts v w more rest e h =
    let a : v ≡ w = cc in
    let b : more ≡ rest = cc in
    subst (λ (x : List Token). IsFront ts w x) b (subst (λ (x : Written). IsFront ts x more) a h)

pub cond_good : (b : Bool) (x : Parse) (r : List Token) (w : Written) (rest : List Token) → cond b x (stops r) ≡ good w rest → (b ≡ true) × (x ≡ good w rest)
cond_good true x r w rest h = (refl, h)
cond_good false x r w rest h = cc

pub cond_stops : (b : Bool) (w : Written) (more r rest : List Token) → cond b (good w more) (stops r) ≡ stops rest → (b ≡ false) × (r ≡ rest)
cond_stops true w more r rest h = cc
cond_stops false w more r rest h = (refl, cc)

-- what a reading with two parts found first
pub record Then (p : Parse) (go : Written → List Token → Parse) (z : Parse) : Type 0 where
  pub tree : Written
  pub more : List Token
  pub is : p ≡ good tree more
  pub goes : go tree more ≡ z

pub then_good : (p : Parse) (go : Written → List Token → Parse) (w : Written) (rest : List Token) → andthen p go ≡ good w rest → Then p go (good w rest)
then_good (good v more) go w rest h = record { tree = v; more = more; is = refl; goes = h }
then_good (stops r) go w rest h = cc

ended_good : (p : Parse) (m : Mark) (w : Written) (rest : List Token) → andthen p (λ w rest. behind m rest (λ more. good w more)) ≡ good w rest → p ≡ good w (mark_view m ∷ rest)
ended_good (good v more) m w rest h =
    let e = cond_good (begins m more) (good v (drop 1 more)) more w rest h in
    let same : v ≡ w = cc e.1 in
    let left : drop 1 more ≡ rest = cc e.1 in
    ap₂ good same (begins_is m more e.0 ∙ ap (λ xs. mark_view m ∷ xs) left)
ended_good (stops r) m w rest h = cc

pub ended_sound : (read : List Token → Parse) → Sound read → (m : Mark) (ts : List Token) (w : Written) (rest : List Token) → ended read m ts ≡ good w rest → IsEnded m ts w rest
ended_sound read sound m ts w rest h =
    let f : IsFront ts w (mark_view m ∷ rest) = sound ts w (mark_view m ∷ rest) (ended_good (read ts) m w rest h) in
    record { proper = f.proper; is = f.is }

-- Lists with a mark in them.
pub one_tail : (xs : List Token) (t : Token) (rest : List Token) → xs ++ t ∷ rest ≡ (xs ++ t ∷ []) ++ rest
one_tail xs t rest = sym (append_assoc xs (t ∷ []) rest)

pub two_tail : (xs ys : List Token) (s t : Token) (rest : List Token) → xs ++ s ∷ (ys ++ t ∷ rest) ≡ (xs ++ s ∷ (ys ++ t ∷ [])) ++ rest
two_tail xs ys s t rest = ap (λ zs. xs ++ s ∷ zs) (one_tail ys t rest) ∙ sym (append_assoc xs (s ∷ (ys ++ t ∷ [])) rest)

pub three_tail : (xs ys zs : List Token) (r s t : Token) (rest : List Token) → xs ++ r ∷ (ys ++ s ∷ (zs ++ t ∷ rest)) ≡ (xs ++ r ∷ (ys ++ s ∷ (zs ++ t ∷ []))) ++ rest
three_tail xs ys zs r s t rest = ap (λ us. xs ++ r ∷ us) (two_tail ys zs s t rest) ∙ sym (append_assoc xs (r ∷ (ys ++ s ∷ (zs ++ t ∷ []))) rest)

-- Words.
found_step : (p : Bytes) (w f : Word) (o : Option Word) → (b : Bool) → (b ≡ true → p ≡ text_of w) → (o ≡ Some f → p ≡ text_of f) → cond b (Some w) o ≡ Some f → p ≡ text_of f
found_step p w f o true here later h = let e : w ≡ f = cc in subst (λ (x : Word). p ≡ text_of x) e (here refl)
found_step p w f o false here later h = later h

found_is : (ws : List Word) (p : Bytes) (f : Word) → found_in ws p ≡ Some f → p ≡ text_of f
found_is [] p f h = cc
found_is (w ∷ ws) p f h = found_step p w f (found_in ws p) (bytes_eq p (text_of w)) (bytes_eq-Decides p (text_of w)).0 (found_is ws p f) h

pub word_is : (p : Bytes) (f : Word) → form_of p ≡ Some f → p ≡ text_of f
unfolding form_of
word_is p f h = found_is words p f h

pub neg_is_negation : form_of (word_of Neg) ≡ Some Negation
unfolding form_of
neg_is_negation = refl

-- `neg` is no operator of two arguments.
pub operator_is_none_of_one : (p : Bytes) (op : Op) → form_of p ≡ Some (Operator op) → op ≢ Neg
operator_is_none_of_one p op h e =
    let same : p ≡ word_of Neg = word_is p (Operator op) h ∙ ap word_of e in
    let neg : form_of p ≡ Some Negation = ap form_of same ∙ neg_is_negation in
    cc

pub operator_named : (op : Op) → op ≢ Neg → form_of (word_of op) ≡ Some (Operator op)
unfolding form_of
operator_named Add h = refl
operator_named Sub h = refl
operator_named Mul h = refl
operator_named Div h = refl
operator_named Rem h = refl
operator_named Eq h = refl
operator_named Ne h = refl
operator_named Lt h = refl
operator_named Le h = refl
operator_named Gt h = refl
operator_named Ge h = refl
operator_named Min h = refl
operator_named Max h = refl
operator_named Neg h = absurd (h refl)

pub select_named : form_of (text_of Select) ≡ Some Select
unfolding form_of
select_named = refl

pub sum_named : form_of (text_of Sum) ≡ Some Sum
unfolding form_of
sum_named = refl

pub index_is_no_word : form_of (codes "j") ≡ None
unfolding form_of
index_is_no_word = refl

-- How a name goes on.
pub data Named (read : List Token → Parse) (p : Bytes) (ts : List Token) (z : Parse) : Type 0 where
  at_element : begins OpenSquare ts ≡ true → element_of read p (drop 1 ts) ≡ z → Named read p ts z
  at_word : (f : Word) → form_of p ≡ Some f → begins OpenRound ts ≡ true → arguments_of read f (drop 1 ts) ≡ z → Named read p ts z
  at_index : begins OpenSquare ts ≡ false → ((f : Word) → form_of p ≡ Some f → begins OpenRound ts ≡ false) → index_of p ts ≡ z → Named read p ts z

cond_cases : (b : Bool) (x y z : Parse) → cond b x y ≡ z → ((b ≡ true) × (x ≡ z)) ⊎ ((b ≡ false) × (y ≡ z))
cond_cases true x y z h = inl (refl, h)
cond_cases false x y z h = inr (refl, h)

opened_cases : (read : List Token → Parse) (p : Bytes) (ts : List Token) (z : Parse) (o : Option Word) → form_of p ≡ o → begins OpenSquare ts ≡ false → opened read o p ts ≡ z → Named read p ts z
opened_cases read p ts z None e square h = at_index square (λ f w. cc (e, w)) h
opened_cases read p ts z (Some f) e square h = elim (cond_cases (begins OpenRound ts) (arguments_of read f (drop 1 ts)) (index_of p ts) z h) [
  | inl w ↦ at_word f e w.0 w.1
  | inr w ↦ at_index square (λ g same. w.0) w.1
]

pub named_cases : (read : List Token → Parse) (p : Bytes) (ts : List Token) (z : Parse) → named read p ts ≡ z → Named read p ts z
named_cases read p ts z h = elim (cond_cases (begins OpenSquare ts) (element_of read p (drop 1 ts)) (opened read (form_of p) p ts) z h) [
  | inl w ↦ at_element w.0 w.1
  | inr w ↦ opened_cases read p ts z (form_of p) refl w.0 w.1
]

-- What is read is the expression's tokens.
module _ (read : List Token → Parse) (sound : Sound read) where
  element_sound : (p : Bytes) (ts : List Token) (w : Written) (rest : List Token) → element_of read p ts ≡ good w rest → IsFront (name p ∷ open_square ∷ ts) w rest
  element_sound p ts w rest h =
      let t : Then (ended read CloseSquare ts) (λ e rest. good (element p e) rest) (good w rest) = then_good _ _ w rest h in
      let e : IsEnded CloseSquare ts t.tree t.more = ended_sound read sound CloseSquare ts t.tree t.more t.is in
      front_along _ (element p t.tree) w t.more rest t.goes (record {
        proper = e.proper;
        is = ap (λ xs. name p ∷ open_square ∷ xs) (e.is ∙ one_tail (written t.tree) close_square t.more);
        clear = tt;
      })

  negation_sound : (ts : List Token) (w : Written) (rest : List Token) → negation_of read ts ≡ good w rest → IsFront (name (word_of Neg) ∷ open_round ∷ ts) w rest
  negation_sound ts w rest h =
      let t : Then (ended read CloseRound ts) (λ a rest. good (negation a) rest) (good w rest) = then_good _ _ w rest h in
      let e : IsEnded CloseRound ts t.tree t.more = ended_sound read sound CloseRound ts t.tree t.more t.is in
      front_along _ (negation t.tree) w t.more rest t.goes (record {
        proper = e.proper;
        is = ap (λ xs. name (word_of Neg) ∷ open_round ∷ xs) (e.is ∙ one_tail (written t.tree) close_round t.more);
        clear = tt;
      })

  apply_sound : (op : Op) → op ≢ Neg → (ts : List Token) (w : Written) (rest : List Token) → apply_of read op ts ≡ good w rest → IsFront (name (word_of op) ∷ open_round ∷ ts) w rest
  apply_sound op two ts w rest h =
      let s : Then (ended read Comma ts) (λ a rest. andthen (ended read CloseRound rest) (λ b last. good (apply op a b) last)) (good w rest) = then_good _ _ w rest h in
      let d : IsEnded Comma ts s.tree s.more = ended_sound read sound Comma ts s.tree s.more s.is in
      let t : Then (ended read CloseRound s.more) (λ b last. good (apply op s.tree b) last) (good w rest) = then_good _ _ w rest s.goes in
      let e : IsEnded CloseRound s.more t.tree t.more = ended_sound read sound CloseRound s.more t.tree t.more t.is in
      front_along _ (apply op s.tree t.tree) w t.more rest t.goes (record {
        proper = (two, (d.proper, e.proper));
        is = ap (λ xs. name (word_of op) ∷ open_round ∷ xs) (d.is ∙ ap (λ xs. written s.tree ++ comma ∷ xs) e.is ∙ two_tail (written s.tree) (written t.tree) comma close_round t.more);
        clear = tt;
      })

  select_sound : (ts : List Token) (w : Written) (rest : List Token) → select_of read ts ≡ good w rest → IsFront (name (codes "select") ∷ open_round ∷ ts) w rest
  select_sound ts w rest h =
      let r : Then (ended read Comma ts)
      (λ c rest. andthen (ended read Comma rest) (λ a more. andthen (ended read CloseRound more) (λ b last. good (select c a b) last)))
      (good w rest) = then_good _ _ w rest h in
      let c : IsEnded Comma ts r.tree r.more = ended_sound read sound Comma ts r.tree r.more r.is in
      let s : Then (ended read Comma r.more) (λ a more. andthen (ended read CloseRound more) (λ b last. good (select r.tree a b) last)) (good w rest) = then_good _ _ w rest r.goes in
      let d : IsEnded Comma r.more s.tree s.more = ended_sound read sound Comma r.more s.tree s.more s.is in
      let t : Then (ended read CloseRound s.more) (λ b last. good (select r.tree s.tree b) last) (good w rest) = then_good _ _ w rest s.goes in
      let e : IsEnded CloseRound s.more t.tree t.more = ended_sound read sound CloseRound s.more t.tree t.more t.is in
      front_along _ (select r.tree s.tree t.tree) w t.more rest t.goes (record {
        proper = (c.proper, (d.proper, e.proper));
        is = ap (λ xs. name (codes "select") ∷ open_round ∷ xs) (c.is ∙ ap (λ xs. written r.tree ++ comma ∷ xs) (d.is ∙ ap (λ xs. written s.tree ++ comma ∷ xs) e.is)
            ∙ three_tail (written r.tree) (written s.tree) (written t.tree) comma comma close_round t.more);
        clear = tt;
      })

  sum_sound : (ts : List Token) (w : Written) (rest : List Token) → sum_of ts ≡ good w rest → IsFront (name (codes "sum") ∷ open_round ∷ ts) w rest
  sum_sound (name p ∷ ts) w rest h =
      let e = cond_good (begins CloseRound ts) (good (sum_over p) (drop 1 ts)) ts w rest h in
      front_along _ (sum_over p) w (drop 1 ts) rest e.1 (record {
        proper = tt;
        is = ap (λ xs. name (codes "sum") ∷ open_round ∷ name p ∷ xs) (begins_is CloseRound ts e.0);
        clear = tt;
      })
  sum_sound _ w rest h = cc

  arguments_sound : (f : Word) → ((op : Op) → f ≡ Operator op → op ≢ Neg) → (ts : List Token) (w : Written) (rest : List Token)
      → arguments_of read f ts ≡ good w rest → IsFront (name (text_of f) ∷ open_round ∷ ts) w rest
  arguments_sound Select two ts w rest h = select_sound ts w rest h
  arguments_sound Sum two ts w rest h = sum_sound ts w rest h
  arguments_sound Negation two ts w rest h = negation_sound ts w rest h
  arguments_sound (Operator op) two ts w rest h = apply_sound op (two op refl) ts w rest h

  index_sound : (p : Bytes) (ts : List Token) (w : Written) (rest : List Token) → begins OpenSquare ts ≡ false → index_of p ts ≡ good w rest → IsFront (name p ∷ ts) w rest
  index_sound p ts w rest square h =
      let e = cond_good (bytes_eq p (codes "j")) (good index ts) ts w rest h in
      front_along _ index w ts rest e.1 (record {
        proper = tt;
        is = ap (λ x. name x ∷ ts) ((bytes_eq-Decides p (codes "j")).0 e.0);
        clear = square;
      })

  word_sound : (p : Bytes) (f : Word) (ts : List Token) (w : Written) (rest : List Token) → form_of p ≡ Some f → begins OpenRound ts ≡ true
      → arguments_of read f (drop 1 ts) ≡ good w rest → IsFront (name p ∷ ts) w rest
  word_sound p f ts w rest form round h =
      let two : (op : Op) → f ≡ Operator op → op ≢ Neg = λ op e. operator_is_none_of_one p op (form ∙ ap Some e) in
      let front = arguments_sound f two (drop 1 ts) w rest h in
      let same : name p ∷ ts ≡ name (text_of f) ∷ open_round ∷ drop 1 ts = ap₂ (λ x xs. name x ∷ xs) (word_is p f form) (begins_is OpenRound ts round) in
      subst (λ (xs : List Token). IsFront xs w rest) (sym same) front

  name_sound : (p : Bytes) (ts : List Token) (w : Written) (rest : List Token) → named read p ts ≡ good w rest → IsFront (name p ∷ ts) w rest
  name_sound p ts w rest h = elim (named_cases read p ts (good w rest) h) [
    | at_element square goes ↦ subst (λ (xs : List Token). IsFront (name p ∷ xs) w rest) (sym (begins_is OpenSquare ts square)) (element_sound p (drop 1 ts) w rest goes)
    | at_word f form round goes ↦ word_sound p f ts w rest form round goes
    | at_index square word goes ↦ index_sound p ts w rest square goes
  ]

  pub expression_sound : Sound (expression_of read)
  expression_sound (number v ∷ ts) w rest h = front_along _ (literal v) w ts rest h (record { proper = tt; is = refl; clear = tt })
  expression_sound (name p ∷ ts) w rest h = name_sound p ts w rest h
  expression_sound _ w rest h = cc

pub parse_sound : (n : ℕ) → Sound (parse n)
parse_sound zero ts w rest h = cc
parse_sound (suc n) ts w rest h = expression_sound (λ xs. parse n xs) (λ us v more e. parse_sound n us v more e) ts w rest h
