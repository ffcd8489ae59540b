-- From what the reader of tokens answers to what reading the text answers.
use Rattle.std.proofs.Common.{◌≡◌, ℕ, ◌+◌, ◌≤◌, Option, Some, None, Result, Ok, Err, List, [], ◌∷◌, length, drop, map, refl, arith, ap, sym, ◌∙◌, subst}
use Rattle.std.specs.Prelude.{slice_get}
use Rattle.std.proofs.lemmas.List.{length-map}
use Rattle.body_lang.specs.Expr.{view}
use Rattle.body_lang.specs.Expr as numbered
use Rattle.body_lang.specs.declared.expression.Expr as declared_expression
use Rattle.body_text.specs.declared.fault.BodyFault.{BodyFault}
use Rattle.body_text.specs.declared.fault.BodyFault.TheVariants.{Limit, BadExpression, UnknownPort, OutOfMemory}
use Rattle.body_text.specs.declared.token.Placed as declared
use Rattle.body_text.specs.declared.read.Read.{Read}
use Rattle.body_text.specs.declared.read.Stop.{Stop}
use Rattle.body_text.specs.declared.read.Stop.TheVariants.{At}
use Rattle.syn_base.specs.Bytes.{Bytes}
use Rattle.body_text.specs.Tokens.{Token, Placed, placed, tokens}
use Rattle.body_text.specs.Cut.{placed_view}
use Rattle.body_text.specs.Grammar.{Written, AreWritten}
use Rattle.body_text.specs.Ports.{unknown, resolved}
use Rattle.body_text.specs.Parse.{Parse, good, stops, parse, alone}
use Rattle.body_text.specs.Answers.{tokens_of, behind_of, IsStop, Answers, KnownBy}
use Rattle.body_text.specs.Reads.{AreFew, place_or, IsBad, Reads}
use Rattle.body_text.proofs.Steps.{Good, good_of}
use Rattle.body_text.proofs.Judged.{is_written, fails_at}
use Rattle.syn_base.specs.Limits.{bound_of}
use Rattle.syn_base.specs.declared.limits.LimitKind.TheVariants.{Tokens}

tokens_seen : (ps : List declared.Placed) → tokens_of ps ≡ map (λ p. p.token) (map placed_view ps)
tokens_seen [] = refl
tokens_seen (p ∷ ps) = ap (λ ts. (placed_view p).token ∷ ts) (tokens_seen ps)

pub tokens_are : (ps : List declared.Placed) (text : Bytes) → map placed_view ps ≡ placed text → tokens_of ps ≡ tokens text
tokens_are ps text e = tokens_seen ps ∙ ap (λ (qs : List Placed). map (λ p. p.token) qs) e

pub few : (text : Bytes) (n : ℕ) → n ≡ length (placed text) → n ≤ bound_of Tokens → AreFew text
few text n e h = omega (arith, length-map (placed text) (λ p. p.token), h)

record Stopped (ps : List declared.Placed) (i : ℕ) (p : Parse) : Type 0 where
  rest : List Token
  is : p ≡ stops rest
  stop : IsStop ps rest i

stopped : (names : List Bytes) (ps : List declared.Placed) (i : ℕ) (p : Parse) → Answers names ps 0 0 p (Err (At i)) → Stopped ps i p
stopped names ps i (good w rest) h = absurd h
stopped names ps i (stops rest) h = record { rest = rest; is = refl; stop = h }

-- A fault of the grammar.
pub answer_bad : (names : List Bytes) (ps : List declared.Placed) (text : Bytes) (s : Stop) (i place : ℕ) → s ≡ At i → map placed_view ps ≡ placed text → AreFew text
    → Answers names ps 0 0 (alone (parse (length ps + 1) (behind_of 0 ps))) (Err s) → place ≡ place_or (length text) (slice_get (map placed_view ps) i) → IsBad text place
answer_bad names ps text fault i place at seen short h there =
    let s : Stopped ps i (alone (parse (length ps + 1) (behind_of 0 ps))) =
    stopped names ps i _ (subst (λ (x : Stop). Answers names ps 0 0 (alone (parse (length ps + 1) (behind_of 0 ps))) (Err x)) at h) in
    let are : tokens_of ps ≡ tokens text = tokens_are ps text seen in
    let size : length (tokens text) ≡ length ps = ap length (sym are) ∙ length-map ps _ in
    record {
      few = short;
      token = i;
      fails = fails_at (length ps + 1) (tokens text) s.rest i (ap (λ ts. alone (parse (length ps + 1) ts)) (sym are) ∙ s.is) (omega arith)
          (omega (arith, s.stop.within)) (ap (drop i) (sym are) ∙ s.stop.left);
      there = ap (λ (qs : List Placed). place_or (length text) (slice_get qs i)) (sym seen) ∙ sym there;
    }

known_by : (names : List Bytes) (ps : List Placed) (text : Bytes) (w : Written) (o : Option ℕ) (e : numbered.Expr) (result : Result declared_expression.Expr BodyFault)
    → ps ≡ placed text → AreFew text → AreWritten (tokens text) w → o ≡ unknown names w → e ≡ resolved names w → KnownBy ps (length text) o e result → Reads names text result
known_by names ps text w None e (Ok x) seen short grammar u v h = record { few = short; tree = w; grammar = grammar; known = sym u; is = sym v ∙ sym h }
known_by names ps text w None e (Err f) seen short grammar u v h = absurd h
known_by names ps text w (Some i) e (Ok x) seen short grammar u v h = absurd h
known_by names ps text w (Some i) e (Err (UnknownPort place)) seen short grammar u v h = record {
  few = short;
  tree = w;
  grammar = grammar;
  token = i;
  first = sym u;
  there = ap (λ (qs : List Placed). place_or (length text) (slice_get qs i)) (sym seen) ∙ sym h;
}
known_by names ps text w (Some i) e (Err (Limit f)) seen short grammar u v h = absurd h
known_by names ps text w (Some i) e (Err (BadExpression place)) seen short grammar u v h = absurd h
known_by names ps text w (Some i) e (Err OutOfMemory) seen short grammar u v h = absurd h

-- An expression, or a port that is none.
pub answer_known : (names : List Bytes) (ps : List declared.Placed) (text : Bytes) (r : Read) (result : Result declared_expression.Expr BodyFault) → map placed_view ps ≡ placed text → AreFew text
    → Answers names ps 0 0 (alone (parse (length ps + 1) (behind_of 0 ps))) (Ok r) → KnownBy (map placed_view ps) (length text) r.unknown (view r.value) result → Reads names text result
answer_known names ps text r result seen short h known =
    let g : Good names ps 0 0 (alone (parse (length ps + 1) (behind_of 0 ps))) r = good_of names ps 0 0 _ r h in
    let are : tokens_of ps ≡ tokens text = tokens_are ps text seen in
    let grammar : AreWritten (tokens text) g.tree = is_written (length ps + 1) (tokens text) g.tree g.rest (ap (λ ts. alone (parse (length ps + 1) ts)) (sym are) ∙ g.is) in
    known_by names (map placed_view ps) text g.tree r.unknown (view r.value) result seen short grammar g.read.unknown g.read.value known
