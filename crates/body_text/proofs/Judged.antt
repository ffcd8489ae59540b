-- What the whole text's tokens are: an expression, or where they fail to be one.
use Rattle.std.proofs.Common.{◌≡◌, ℕ, suc, ◌+◌, ◌<◌, ◌≤◌, Some, List, [], ◌∷◌, ◌++◌, length, take, drop, refl, arith, ap, ap₂, sym, ◌∙◌, subst, append_assoc, append-nil, ◌⊎◌, inl, inr}
use Rattle.std.proofs.lemmas.List.{length-append, take_at, take-append-drop, length-drop, take-take}
use Rattle.std.proofs.Math.Seq.{take-append-add}
use Rattle.body_text.specs.Tokens.{Token}
use Rattle.body_text.specs.Grammar.{Written, written, AreWritten, IsExpression, CanBegin, FailsAt}
use Rattle.body_text.specs.Parse.{Parse, good, stops, first_token, parse, alone}
use Rattle.body_text.proofs.Fronts.{IsFront, clear_same, parse_sound}
use Rattle.body_text.proofs.Complete.{complete, complete_alone}
use Rattle.body_text.proofs.Failures.{Fails, parse_fails}

alone_good : (p : Parse) (w : Written) (rest : List Token) → alone p ≡ good w rest → (p ≡ good w rest) × (rest ≡ [])
alone_good (good v []) w rest h = (h, cc)
alone_good (good v (t ∷ ts)) w rest h = cc
alone_good (stops r) w rest h = cc

-- What is read alone is the tokens' expression.
pub is_written : (n : ℕ) (ts : List Token) (w : Written) (rest : List Token) → alone (parse n ts) ≡ good w rest → AreWritten ts w
is_written n ts w rest h =
    let e = alone_good (parse n ts) w rest h in
    let f : IsFront ts w rest = parse_sound n ts w rest e.0 in
    (f.proper, f.is ∙ ap (λ xs. written w ++ xs) e.1 ∙ append-nil (written w))

alone_stops : (w : Written) (cont : List Token) (t : Token) → first_token cont ≡ Some t → alone (good w cont) ≡ stops cont
alone_stops w [] t h = cc
alone_stops w (u ∷ us) t h = refl

alone_fails_at : (n : ℕ) (ts rest : List Token) (p : Parse) → parse n ts ≡ p → alone p ≡ stops rest → length ts < n → Fails (λ k xs. alone (parse k xs)) IsExpression ts rest
alone_fails_at n ts rest (good w []) e h short = cc
alone_fails_at n ts rest (good w (t ∷ us)) e h short =
    let f : IsFront ts w (t ∷ us) = parse_sound n ts w (t ∷ us) e in
    let same : t ∷ us ≡ rest = cc in
    record {
      pre = written w;
      is = f.is ∙ ap (λ xs. written w ++ xs) same;
      more = [];
      whole = (w, (f.proper, append-nil (written w)));
      local = λ k cont less head.
          let alike : first_token cont ≡ first_token (t ∷ us) = head ∙ ap first_token (sym same) in
          ap alone (complete k w cont f.proper (clear_same w (t ∷ us) cont alike f.clear) less) ∙ alone_stops w cont t alike;
    }
alone_fails_at n ts rest (stops r) e h short =
    let f : Fails (λ k xs. parse k xs) IsExpression ts rest = parse_fails n ts rest (e ∙ h) short in
    record { pre = f.pre; is = f.is; more = f.more; whole = f.whole; local = λ k cont less head. ap alone (f.local k cont less head) }

no_other : (ts : List Token) (v : Written) (k : ℕ) (xs : List Token) → AreWritten ts v → length ts < k → alone (parse k ts) ≡ stops xs → ⊥
no_other ts v k xs is less h =
    let e : alone (parse k ts) ≡ good v [] = ap alone (complete_alone k ts v is less) in
    let both : good v [] ≡ stops xs = sym e ∙ h in
    cc both

stuck_there : (ts rest : List Token) (i : ℕ) (f : Fails (λ k xs. alone (parse k xs)) IsExpression ts rest) → i ≡ length f.pre → i < length ts → CanBegin (take (suc i) ts) → ⊥
stuck_there ts [] i f size inside can = absurd (omega (arith, ap length f.is, length-append f.pre []))
stuck_there ts (t ∷ us) i f size inside can =
    let more : List Token = can.0 in
    let v : Written = can.1.0 in
    let one : suc i ≡ length f.pre + 1 = omega arith in
    let front : take (suc i) ts ≡ f.pre ++ t ∷ [] = ap₂ take one f.is ∙ take-append-add f.pre (t ∷ us) 1 in
    let all : (take (suc i) ts) ++ more ≡ f.pre ++ t ∷ more = ap (λ xs. xs ++ more) front ∙ append_assoc f.pre (t ∷ []) more in
    let is : AreWritten (f.pre ++ t ∷ more) v = (can.1.1.0, sym all ∙ can.1.1.1) in
    let size2 = length-append f.pre (t ∷ more) in
    no_other (f.pre ++ t ∷ more) v (suc (length (f.pre ++ t ∷ more))) (t ∷ more) is (omega arith) (f.local (suc (length (f.pre ++ t ∷ more))) (t ∷ more) (omega (arith, size2)) refl)

-- Where reading alone stops, the tokens fail.
pub fails_at : (n : ℕ) (ts rest : List Token) (i : ℕ) → alone (parse n ts) ≡ stops rest → length ts < n → i ≤ length ts → drop i ts ≡ rest → FailsAt ts i
fails_at n ts rest i h short within left =
    let f : Fails (λ k xs. alone (parse k xs)) IsExpression ts rest = alone_fails_at n ts rest (parse n ts) refl h short in
    let size : i ≡ length f.pre = omega (arith, ap length f.is, length-append f.pre rest, ap length left, length-drop i ts) in
    let front : take i ts ≡ f.pre = ap (take i) f.is ∙ take_at f.pre rest i (sym size) in
    record {
      within = within;
      begins = (f.more, subst (λ (xs : List Token). IsExpression (xs ++ f.more)) (sym front) f.whole);
      stuck = stuck_there ts rest i f size;
      short = λ end is. no_other ts is.0 n rest is.1 short h;
    }

-- A front of what can begin can begin.
can_shorter : (ts : List Token) (i k : ℕ) → i ≤ k → k ≤ length ts → CanBegin (take k ts) → CanBegin (take i ts)
can_shorter ts i k less within can =
    let front : take i (take k ts) ≡ take i ts = take-take i k ts less in
    let all : take i ts ++ (drop i (take k ts) ++ can.0) ≡ take k ts ++ can.0 =
    sym (append_assoc (take i ts) (drop i (take k ts)) can.0) ∙ ap (λ xs. (xs ++ drop i (take k ts)) ++ can.0) (sym front) ∙ ap (λ xs. xs ++ can.0) (take-append-drop i (take k ts)) in
    (drop i (take k ts) ++ can.0, subst (λ (xs : List Token). IsExpression xs) (sym all) can.1)

not_before : (ts : List Token) (i k : ℕ) → FailsAt ts i → FailsAt ts k → i < k → ⊥
not_before ts i k f g less = f.stuck (omega (arith, g.within)) (can_shorter ts (suc i) k (omega arith) g.within g.begins)

-- Tokens fail at one place.
pub one_place : (ts : List Token) (i k : ℕ) → FailsAt ts i → FailsAt ts k → i ≡ k
one_place ts i k f g = omega (arith, not_before ts i k f g, not_before ts k i g f)

-- An expression's tokens fail nowhere.
pub fails_is_none : (ts : List Token) (i : ℕ) → FailsAt ts i → IsExpression ts → ⊥
fails_is_none ts i f is = elim (at_end_or_before i (length ts) f.within) [
  | inl end ↦ f.short end is
  | inr before ↦ f.stuck before (drop (suc i) ts, subst (λ (xs : List Token). IsExpression xs) (sym (take-append-drop (suc i) ts)) is)
]
  where
    at_end_or_before : (i n : ℕ) → i ≤ n → (i ≡ n) ⊎ (i < n)
    at_end_or_before i n h = grind arith
