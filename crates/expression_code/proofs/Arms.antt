-- Code for an expression, from the code for those inside it: one lemma for each kind of step.
use Rattle.std.proofs.Common.{◌≡◌, ℕ, ◌+◌, ◌-◌, ◌<◌, ◌≤◌, ℤ, pos, List, [], ◌∷◌, ◌++◌, length, get_or, take, drop, refl, sym, ap, ap₂, subst, ◌∙◌, arith}
use Rattle.std.specs.Prelude.{Result, Ok, Err, IfOk}
use Rattle.std.proofs.lemmas.List.{get_or-take, get_or-drop}
use Rattle.syn_base.specs.declared.arithmetic.Op.{Op}
use Rattle.syn_base.specs.declared.arithmetic.Op.TheVariants.{Neg}
use Rattle.syn_base.specs.Arithmetic.{applied, wrapped}
use Rattle.syn_base.specs.Vectors.{Values, vector_at}
use Rattle.body_lang.specs.Expr.{Expr, literal, index, element, sum_over, negation, apply, select, value_of, element_at, total}
use Rattle.expression_code.specs.Code.{word, words, chosen, given, IsRun, HasRun, end_of, size, Straight, Pushed}
use Rattle.expression_code.specs.Compiled.{span_at, AreBelow, Carries, Holds, Compiled, Numbers, NumbersBack}
use Rattle.expression_code.specs.declared.step.Action.{Action}
use Rattle.expression_code.specs.declared.step.Action.TheVariants.{Fill, Count, Back, Gather, Total, Both, Right, Left, Choose}
use Rattle.expression_code.specs.declared.step.Span.{Span}
use Rattle.expression_code.proofs.Runs.{end_of_more, end_above, run_before, run_last, word_known, words_known}

module _ (old new : Straight) (len : ℕ) (action : Action) (at : ℕ) (p : Pushed old new len action at) where
  pub pushed_end : size new ≡ at + len
  pushed_end = ap₂ end_of p.from p.steps ∙ end_of_more old.from old.steps _ ∙ ap (λ n. n + len) (sym p.place)

  pub pushed_run : (store : List ℤ) → HasRun new store → IsRun old.from (old.steps ++ (record { len = len; action = action }) ∷ []) store
  pushed_run store r =
      let r1 = subst (λ n. IsRun n new.steps store) p.from r in
      subst (λ ss. IsRun old.from ss store) p.steps r1

  pub pushed_before : (store : List ℤ) → HasRun new store → HasRun old store
  pushed_before store r = run_before old.from old.steps _ store (pushed_run store r)

  pub pushed_word : (store : List ℤ) → HasRun new store → (j : ℕ) → j < len → word store (at + j) ≡ given action (take at store) j
  pushed_word store r =
      subst (λ n. (j : ℕ) → j < len → word store (n + j) ≡ given action (take n store) j) (sym p.place) (run_last old.from old.steps (record { len = len; action = action }) store (pushed_run store r))

-- a step over code for the expressions inside, which gives the values of the whole
pub grown : (ports : List Span) (len : ℕ) (old mid new : Straight) (action : Action) (e : Expr) (at : ℕ)
    → mid.from ≡ old.from → size old ≤ size mid
    → ((store : List ℤ) → HasRun mid store → HasRun old store)
    → Pushed mid new len action at
    → ((store : List ℤ) (ins : Values) → HasRun mid store → Carries ports ins store → (j : ℕ) → j < len → given action (take at store) j ≡ value_of e ins j)
    → Compiled ports len old new e at
grown ports len old mid new action e at from longer before p values = record {
  from = p.from ∙ from;
  longer = omega (arith, longer, pushed_end mid new len action at p, p.place);
  room = omega (arith, pushed_end mid new len action at p);
  before = λ store r. before store (pushed_before mid new len action at p store r);
  values = λ store ins r carries j h. pushed_word mid new len action at p store r j h ∙ values store ins (pushed_before mid new len action at p store r) carries j h;
}

-- an expression with nothing inside
pub grown_at_once : (ports : List Span) (len : ℕ) (old new : Straight) (action : Action) (e : Expr) (at : ℕ)
    → Pushed old new len action at
    → ((store : List ℤ) (ins : Values) → Carries ports ins store → (j : ℕ) → j < len → given action (take at store) j ≡ value_of e ins j)
    → Compiled ports len old new e at
grown_at_once ports len old new action e at p values =
    grown ports len old old new action e at refl (omega arith) (λ store r. r) p (λ store ins r carries. values store ins carries)

-- the values of an expression, where its words are known
pub known_values : (ports : List Span) (len : ℕ) (old new : Straight) (e : Expr) (a at : ℕ)
    → Compiled ports len old new e a → size new ≤ at
    → (store : List ℤ) (ins : Values) → HasRun new store → Carries ports ins store
    → (j : ℕ) → j < len → word (take at store) (a + j) ≡ value_of e ins j
known_values ports len old new e a at c le store ins r carries j h =
    word_known at store (a + j) (omega (arith, c.room)) ∙ c.values store ins r carries j h

pub for_literal : (ports : List Span) (len : ℕ) (old new : Straight) (v : ℤ) (at : ℕ) → Pushed old new len (Fill v) at → Compiled ports len old new (literal v) at
for_literal ports len old new v at p = grown_at_once ports len old new (Fill v) (literal v) at p (λ store ins carries j h. refl)

pub for_index : (ports : List Span) (len : ℕ) (old new : Straight) (at : ℕ) → Pushed old new len Count at → Compiled ports len old new index at
for_index ports len old new at p = grown_at_once ports len old new Count index at p (λ store ins carries j h. refl)

pub for_right : (ports : List Span) (len : ℕ) (old mid new : Straight) (op : Op) (a : Expr) (v : ℤ) (pa at : ℕ)
    → Compiled ports len old mid a pa → Pushed mid new len (Right op pa v) at → Compiled ports len old new (apply op a (literal v)) at
for_right ports len old mid new op a v pa at c p =
    grown ports len old mid new (Right op pa v) (apply op a (literal v)) at c.from c.longer c.before p
    (λ store ins r carries j h. ap (λ x. applied op x v) (known_values ports len old mid a pa at c (omega (arith, p.place)) store ins r carries j h))

pub for_negation : (ports : List Span) (len : ℕ) (old mid new : Straight) (a : Expr) (pa at : ℕ)
    → Compiled ports len old mid a pa → Pushed mid new len (Right Neg pa (pos 0)) at → Compiled ports len old new (negation a) at
for_negation ports len old mid new a pa at c p =
    grown ports len old mid new (Right Neg pa (pos 0)) (negation a) at c.from c.longer c.before p
    (λ store ins r carries j h. ap (λ x. applied Neg x (pos 0)) (known_values ports len old mid a pa at c (omega (arith, p.place)) store ins r carries j h))

pub for_left : (ports : List Span) (len : ℕ) (old mid new : Straight) (op : Op) (v : ℤ) (b : Expr) (pb at : ℕ)
    → Compiled ports len old mid b pb → Pushed mid new len (Left op v pb) at → Compiled ports len old new (apply op (literal v) b) at
for_left ports len old mid new op v b pb at c p =
    grown ports len old mid new (Left op v pb) (apply op (literal v) b) at c.from c.longer c.before p
    (λ store ins r carries j h. ap (λ x. applied op v x) (known_values ports len old mid b pb at c (omega (arith, p.place)) store ins r carries j h))

pub for_both : (ports : List Span) (len : ℕ) (old mid last new : Straight) (op : Op) (a b : Expr) (pa pb at : ℕ)
    → Compiled ports len old mid a pa → Compiled ports len mid last b pb → Pushed last new len (Both op pa pb) at → Compiled ports len old new (apply op a b) at
for_both ports len old mid last new op a b pa pb at c d p =
    grown ports len old last new (Both op pa pb) (apply op a b) at (d.from ∙ c.from) (omega (arith, c.longer, d.longer)) (λ store r. c.before store (d.before store r)) p
    (λ store ins r carries j h. ap₂ (λ x y. applied op x y)
    (known_values ports len old mid a pa at c (omega (arith, p.place, d.longer)) store ins (d.before store r) carries j h)
    (known_values ports len mid last b pb at d (omega (arith, p.place)) store ins r carries j h))

pub for_choice : (ports : List Span) (len : ℕ) (old one two last new : Straight) (q a b : Expr) (pq pa pb at : ℕ)
    → Compiled ports len old one q pq → Compiled ports len one two a pa → Compiled ports len two last b pb → Pushed last new len (Choose pq pa pb) at
    → Compiled ports len old new (select q a b) at
for_choice ports len old one two last new q a b pq pa pb at c d f p =
    grown ports len old last new (Choose pq pa pb) (select q a b) at (f.from ∙ (d.from ∙ c.from))
    (omega (arith, c.longer, d.longer, f.longer)) (λ store r. c.before store (d.before store (f.before store r))) p
    (λ store ins r carries j h.
    let r2 = f.before store r in
    ap₂ (λ x y. chosen (word (take at store) (pq + j)) x y)
    (known_values ports len one two a pa at d (omega (arith, p.place, f.longer)) store ins r2 carries j h)
    (known_values ports len two last b pb at f (omega (arith, p.place)) store ins r carries j h)
    ∙ ap (λ x. chosen x (value_of a ins j) (value_of b ins j))
    (known_values ports len old one q pq at c (omega (arith, p.place, d.longer, f.longer)) store ins (d.before store r2) carries j h))

-- the vector of a port, where it is known
pub known_vector : (ports : List Span) (from at k : ℕ) → AreBelow from ports → k < length ports → from ≤ at
    → (store : List ℤ) (ins : Values) → Carries ports ins store → words (take at store) (span_at ports k).start (span_at ports k).len ≡ vector_at ins k
known_vector ports from at k below h le store ins carries =
    words_known at store (span_at ports k).start (span_at ports k).len (omega (arith, below k h)) ∙ carries k h

pub for_sum : (ports : List Span) (len : ℕ) (old new : Straight) (k at : ℕ) → AreBelow old.from ports → k < length ports
    → Pushed old new len (Total (span_at ports k).start (span_at ports k).len) at → Compiled ports len old new (sum_over k) at
for_sum ports len old new k at below h p =
    grown_at_once ports len old new (Total (span_at ports k).start (span_at ports k).len) (sum_over k) at p
    (λ store ins carries j l. ap (λ v. wrapped (total v)) (known_vector ports old.from at k below h (omega (arith, p.place, end_above old.from old.steps)) store ins carries))

pub for_gather : (ports : List Span) (len : ℕ) (old mid new : Straight) (k : ℕ) (e : Expr) (pe at : ℕ) → AreBelow old.from ports → k < length ports
    → Compiled ports len old mid e pe → Pushed mid new len (Gather (span_at ports k).start (span_at ports k).len pe) at → Compiled ports len old new (element k e) at
for_gather ports len old mid new k e pe at below h c p =
    grown ports len old mid new (Gather (span_at ports k).start (span_at ports k).len pe) (element k e) at c.from c.longer c.before p
    (λ store ins r carries j l. ap₂ element_at
    (known_vector ports old.from at k below h (omega (arith, p.place, c.longer, end_above old.from old.steps)) store ins carries)
    (known_values ports len old mid e pe at c (omega (arith, p.place)) store ins r carries j l))

-- elements that stand one after another are where they are
pub for_slice : (ports : List Span) (len : ℕ) (old : Straight) (k : ℕ) (e : Expr) (offset : ℕ) → AreBelow old.from ports → k < length ports
    → Numbers (span_at ports k).len len e offset → Compiled ports len old old (element k e) ((span_at ports k).start + offset)
for_slice ports len old k e offset below h n = record {
  from = refl;
  longer = omega arith;
  room = omega (arith, n.room, below k h, end_above old.from old.steps);
  before = λ store r. r;
  values = λ store ins r carries j l.
      let start = (span_at ports k).start in
      let count = (span_at ports k).len in
      let place : start + offset + j ≡ start + (offset + j) = omega arith in
      ap (word store) place
      ∙ sym (get_or-drop start store (offset + j) (pos 0))
      ∙ sym (get_or-take count (drop start store) (offset + j) (pos 0) (omega (arith, n.room)))
      ∙ ap (λ v. get_or v (offset + j) (pos 0)) (carries k h)
      ∙ ap (element_at (vector_at ins k)) (sym (n.values ins j l));
}

-- the same code for an expression that is equal
pub for_same : {ports : List Span} {len : ℕ} {old new : Straight} {e f : Expr} {at : ℕ} → Compiled ports len old new e at → e ≡ f → Compiled ports len old new f at
for_same {ports} {len} {old} {new} {e} {f} {at} c same = subst (λ x. Compiled ports len old new x at) same c

-- vectors that stand below a place stand in each store that is the same below it
pub carried : (ports : List Span) (from : ℕ) (before after : List ℤ) (ins : Values) → AreBelow from ports → take from after ≡ take from before
    → Carries ports ins before → Carries ports ins after
carried ports from before after ins below same carries k h =
    let start = (span_at ports k).start in
    let count = (span_at ports k).len in
    sym (words_known from after start count (below k h)) ∙ ap (λ s. words s start count) same ∙ words_known from before start count (below k h) ∙ carries k h

pub held : (ports : List Span) (len : ℕ) (old new : Straight) (e : Expr) (at : ℕ) (ins : Values) (before after : List ℤ)
    → Compiled ports len old new e at → AreBelow new.from ports → Carries ports ins before
    → take new.from after ≡ take new.from before → HasRun new after → Holds after at len e ins
held ports len old new e at ins before after c below carries same run =
    c.values after ins run (carried ports new.from before after ins below same carries)

-- elements backwards
pub for_back : (ports : List Span) (len : ℕ) (old new : Straight) (k : ℕ) (e : Expr) (offset at : ℕ) → AreBelow old.from ports → k < length ports
    → NumbersBack (span_at ports k).len len e offset → Pushed old new len (Back ((span_at ports k).start + offset)) at → Compiled ports len old new (element k e) at
for_back ports len old new k e offset at below h n p =
    grown_at_once ports len old new (Back ((span_at ports k).start + offset)) (element k e) at p
    (λ store ins carries j l.
    let start = (span_at ports k).start in
    let count = (span_at ports k).len in
    let place : start + offset - j ≡ start + (offset - j) = omega (arith, n.room) in
    word_known at store (start + offset - j) (omega (arith, p.place, n.inside, below k h, end_above old.from old.steps))
    ∙ ap (word store) place
    ∙ sym (get_or-drop start store (offset - j) (pos 0))
    ∙ sym (get_or-take count (drop start store) (offset - j) (pos 0) (omega (arith, n.inside)))
    ∙ ap (λ v. get_or v (offset - j) (pos 0)) (carries k h)
    ∙ ap (element_at (vector_at ins k)) (sym (n.values ins j l)))

-- a result that is right for one reason is right for another that follows
pub if_ok : (E : Type 0) (result : Result ℕ E) (P Q : ℕ → Type 0) → ((at : ℕ) → P at → Q at) → IfOk result P → IfOk result Q
if_ok E (Ok at) P Q f h = f at h
if_ok E (Err e) P Q f h = h
