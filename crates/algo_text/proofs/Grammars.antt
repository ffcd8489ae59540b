-- From what reading an expression answers to what the line says.
use Rattle.std.proofs.Common.{◌≡◌, ℕ, suc, ◌-◌, ◌<◌, ◌≤◌, nat_le, true, cond, Option, Ok, Err, List, [], ◌∷◌, ◌++◌, length, drop, refl, arith, ap, sym, ◌∙◌, subst}
use Rattle.std.proofs.lemmas.List.{length-append, drop_at}
use Rattle.body_lang.specs.Expr.{Expr}
use Rattle.body_text.specs.Tokens.{Token, tokens}
use Rattle.body_text.specs.Grammar.{Written, written, AreWritten, FailsAt}
use Rattle.body_text.specs.Ports.{unknown, resolved}
use Rattle.body_text.specs.Parse.{Parse, good, stops, parse, alone}
use Rattle.body_text.specs.Reads.{AreFew, place_of, IsBody, IsBad, Reads}
use Rattle.body_text.specs.declared.fault.BodyFault.{BodyFault}
use Rattle.body_text.specs.declared.fault.BodyFault.TheVariants as faults
use Rattle.body_text.proofs.Fronts.{IsFront, parse_sound}
use Rattle.body_text.proofs.Complete.{complete_alone}
use Rattle.body_text.proofs.Failures.{parse_fails}
use Rattle.body_text.proofs.Judged.{is_written, fails_at, one_place, fails_is_none}
use Rattle.algo_text.specs.declared.fault.AlgoCause.TheVariants.{BadExpression}
use Rattle.syn_base.specs.Bytes.{Bytes}
use Rattle.algo_text.specs.Formulas.{known_by, read_by, formula_of}
use Rattle.syn_base.specs.Limits.{bound_of}
use Rattle.syn_base.specs.declared.limits.LimitKind.TheVariants.{Tokens}
use Rattle.text_lines.specs.Refusals.{refused}

few_shape : {A : Type 0} (m n : ℕ) (x y : A) → m ≤ n → cond (nat_le m n) x y ≡ x
few_shape m n x y h = let e : nat_le m n ≡ true = grind arith in rw e refl

pub few_formula : (n : ℕ) (names : List Bytes) (text : Bytes) → AreFew text → formula_of n names text ≡ read_by n names text (alone (parse (suc (length (tokens text))) (tokens text)))
few_formula n names text few = few_shape (length (tokens text)) (bound_of Tokens) _ _ few

-- The tokens of an expression are read as it.
pub written_formula : (n : ℕ) (names : List Bytes) (text : Bytes) (w : Written) → AreFew text → AreWritten (tokens text) w
    → formula_of n names text ≡ known_by n names text (unknown names w) (resolved names w)
written_formula n names text w few grammar =
    few_formula n names text few
    ∙ ap (λ (p : Parse). read_by n names text (alone p)) (complete_alone (suc (length (tokens text))) (tokens text) w grammar (omega arith))

pub body_formula : (n : ℕ) (names : List Bytes) (text : Bytes) (e : Expr) → IsBody names text e → formula_of n names text ≡ Ok e
body_formula n names text e h =
    written_formula n names text h.tree h.few h.grammar
    ∙ ap (λ (o : Option ℕ). known_by n names text o (resolved names h.tree)) h.known
    ∙ ap (λ (x : Expr). Ok x) h.is

record Suffix (ts rest : List Token) : Type 0 where
  pre : List Token
  is : ts ≡ pre ++ rest

suffix : (n : ℕ) (ts rest : List Token) (p : Parse) → parse n ts ≡ p → alone p ≡ stops rest → length ts < n → Suffix ts rest
suffix n ts rest (good w []) e h short = cc
suffix n ts rest (good w (t ∷ us)) e h short =
    let f : IsFront ts w (t ∷ us) = parse_sound n ts w (t ∷ us) e in
    let same : t ∷ us ≡ rest = cc in
    record { pre = written w; is = f.is ∙ ap (λ xs. written w ++ xs) same }
suffix n ts rest (stops r) e h short =
    let f = parse_fails n ts rest (e ∙ h) short in
    record { pre = f.pre; is = f.is }

pub stopped_there : (n : ℕ) (ts rest : List Token) → alone (parse n ts) ≡ stops rest → length ts < n → FailsAt ts (length ts - length rest)
stopped_there n ts rest h short =
    let s : Suffix ts rest = suffix n ts rest (parse n ts) refl h short in
    let size : length ts - length rest ≡ length s.pre = omega (arith, ap length s.is, length-append s.pre rest) in
    fails_at n ts rest (length ts - length rest) h short (omega arith)
    (ap (λ xs. drop (length ts - length rest) xs) s.is ∙ drop_at s.pre rest (length ts - length rest) (sym size))

bad_by : (n : ℕ) (names : List Bytes) (text : Bytes) (place : ℕ) (p : Parse) → alone (parse (suc (length (tokens text))) (tokens text)) ≡ p
    → IsBad text place → read_by n names text p ≡ refused n (BadExpression place)
bad_by n names text place (good w rest) e h =
    absurd (fails_is_none (tokens text) h.token h.fails (w, is_written (suc (length (tokens text))) (tokens text) w rest e))
bad_by n names text place (stops rest) e h =
    let same : length (tokens text) - length rest
    ≡ h.token = one_place (tokens text) (length (tokens text) - length rest) h.token
    (stopped_there (suc (length (tokens text))) (tokens text) rest e (omega arith)) h.fails in
    ap (λ (i : ℕ). refused n (BadExpression (place_of text i))) same ∙ ap (λ (k : ℕ). refused n (BadExpression k)) h.there

pub bad_formula : (n : ℕ) (names : List Bytes) (text : Bytes) (place : ℕ) → IsBad text place → formula_of n names text ≡ refused n (BadExpression place)
bad_formula n names text place h = few_formula n names text h.few ∙ bad_by n names text place (alone (parse (suc (length (tokens text))) (tokens text))) refl h

pub bad_read : (n : ℕ) (names : List Bytes) (text : Bytes) (f : BodyFault) (place : ℕ) → f ≡ faults.BadExpression place
    → Reads names text (Err f) → formula_of n names text ≡ refused n (BadExpression place)
bad_read n names text f place is h = bad_formula n names text place (subst (λ (g : BodyFault). Reads names text (Err g)) is h)
