-- A text has one answer over the same ports, want of memory aside.
use Rattle.std.proofs.Common.{◌≡◌, ◌≢◌, ℕ, ◌<◌, Some, None, Err, List, length, refl, sym, ap, ◌∙◌, arith}
use Rattle.body_lang.specs.Expr.{Expr}
use Rattle.body_text.specs.declared.fault.BodyFault.{BodyFault}
use Rattle.body_text.specs.declared.fault.BodyFault.TheVariants.{Limit, BadExpression, UnknownPort, OutOfMemory}
use Rattle.syn_base.specs.Bytes.{Bytes}
use Rattle.body_text.specs.Tokens.{tokens}
use Rattle.body_text.specs.Ports.{unknown, resolved}
use Rattle.body_text.specs.Reads.{place_of, AreFew, IsBody, IsBad, IsUnknown, Reads}
use Rattle.body_text.proofs.Complete.{one_expression}
use Rattle.body_text.proofs.Judged.{one_place, fails_is_none}
use Rattle.syn_base.specs.Limits.{bound_of}
use Rattle.syn_base.specs.declared.limits.LimitKind.TheVariants.{Tokens}

module _ (ports : List Bytes) (text : Bytes) where
  pub one_body : (d e : Expr) → IsBody ports text d → IsBody ports text e → d ≡ e
  one_body d e a b = sym a.is ∙ ap (resolved ports) (one_expression (tokens text) a.tree b.tree a.grammar b.grammar) ∙ b.is

  one_bad : (i k : ℕ) → IsBad text i → IsBad text k → i ≡ k
  one_bad i k a b = sym a.there ∙ ap (place_of text) (one_place (tokens text) a.token b.token a.fails b.fails) ∙ b.there

  one_unknown : (i k : ℕ) → IsUnknown ports text i → IsUnknown ports text k → i ≡ k
  one_unknown i k a b =
      let same : a.tree ≡ b.tree = one_expression (tokens text) a.tree b.tree a.grammar b.grammar in
      let here : Some a.token ≡ Some b.token = sym a.first ∙ ap (unknown ports) same ∙ b.first in
      let token : a.token ≡ b.token = cc in
      sym a.there ∙ ap (place_of text) token ∙ b.there

  too_many : bound_of Tokens < length (tokens text) → AreFew text → ⊥
  too_many many few = omega (arith, many, few)

  -- an expression leaves no fault but want of memory
  pub body_alone : (e : Expr) (f : BodyFault) → IsBody ports text e → Reads ports text (Err f) → f ≡ OutOfMemory
  body_alone e (Limit f) a b = absurd (too_many b.0 a.few)
  body_alone e (BadExpression i) a b = absurd (fails_is_none (tokens text) b.token b.fails (a.tree, a.grammar))
  body_alone e (UnknownPort i) a b =
      let none : None ≡ Some b.token = sym a.known ∙ ap (unknown ports) (one_expression (tokens text) a.tree b.tree a.grammar b.grammar) ∙ b.first in cc
  body_alone e OutOfMemory a b = refl

  -- no two faults but want of memory
  pub one_fault : (f g : BodyFault) → f ≢ OutOfMemory → g ≢ OutOfMemory → Reads ports text (Err f) → Reads ports text (Err g) → f ≡ g
  one_fault OutOfMemory g m n a b = absurd (m refl)
  one_fault (Limit f) OutOfMemory m n a b = absurd (n refl)
  one_fault (BadExpression i) OutOfMemory m n a b = absurd (n refl)
  one_fault (UnknownPort i) OutOfMemory m n a b = absurd (n refl)
  one_fault (Limit f) (Limit g) m n a b = ap Limit (a.1 ∙ sym b.1)
  one_fault (Limit f) (BadExpression k) m n a b = absurd (too_many a.0 b.few)
  one_fault (Limit f) (UnknownPort k) m n a b = absurd (too_many a.0 b.few)
  one_fault (BadExpression i) (Limit g) m n a b = absurd (too_many b.0 a.few)
  one_fault (BadExpression i) (BadExpression k) m n a b = ap BadExpression (one_bad i k a b)
  one_fault (BadExpression i) (UnknownPort k) m n a b = absurd (fails_is_none (tokens text) a.token a.fails (b.tree, b.grammar))
  one_fault (UnknownPort i) (Limit g) m n a b = absurd (too_many b.0 a.few)
  one_fault (UnknownPort i) (BadExpression k) m n a b = absurd (fails_is_none (tokens text) b.token b.fails (a.tree, a.grammar))
  one_fault (UnknownPort i) (UnknownPort k) m n a b = ap UnknownPort (one_unknown i k a b)
