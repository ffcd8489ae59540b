-- The canonical text is read back as the same expression.
use Rattle.std.proofs.Common.{◌≡◌, ℕ, ◌≤◌, List, [], length, sym, ap, subst, ◌∙◌, append-nil, Ok}
use Rattle.syn_base.specs.declared.limits.LimitKind.TheVariants.{Tokens}
use Rattle.syn_base.specs.Limits.{bound_of}
use Rattle.body_lang.specs.declared.expression.Expr as declared
use Rattle.body_lang.specs.Expr.{Expr, PortsBelow, view}
use Rattle.syn_base.specs.Bytes.{Bytes}
use Rattle.body_text.specs.Tokens.{Token, tokens}
use Rattle.body_text.specs.Grammar.{Written, written}
use Rattle.body_text.specs.Reads.{IsBody, Reads}
use Rattle.body_text.specs.Canonical.{canonical, IsRead}
use Rattle.body_text.proofs.CanonicalSound.{AreSound, IsSoundTree, tokens_sound, tree_sound}
use Rattle.body_text.proofs.CanonicalText.{text_of, text_tokens}
use Rattle.body_text.proofs.CanonicalPorts.{known, same_text, numbers_below}

-- the ports of an expression that some text is are among n
pub ports_below : (ports : List Bytes) (n : ℕ) (e : Expr) → length ports ≡ n → IsRead ports e → PortsBelow n e
ports_below ports n e long (text, body) =
    subst (λ (m : ℕ). PortsBelow m e) long (subst (λ (f : Expr). PortsBelow (length ports) f) body.is (numbers_below ports body.tree (known ports body.tree body.known)))

-- the tree of a text is sound
body_sound : (text : Bytes) (w : Written) → tokens text ≡ written w → IsSoundTree w
body_sound text w e = (tree_sound w [] (subst AreSound (e ∙ sym (append-nil (written w))) (tokens_sound text))).0

pub reads_back : (ports : List Bytes) (e : Expr) → IsRead ports e → IsBody ports (canonical ports e) e
reads_back ports e (text, body) =
    let tree : Written = body.tree in
    let same : canonical ports e ≡ text_of tree = ap (canonical ports) (sym body.is) ∙ same_text ports tree (known ports tree body.known) in
    let back : tokens (canonical ports e) ≡ written tree = ap tokens same ∙ text_tokens tree (body_sound text tree body.grammar.1) in
    record {
      few = subst (λ (ts : List Token). length ts ≤ bound_of Tokens) (body.grammar.1 ∙ sym back) body.few;
      tree = tree;
      grammar = (body.grammar.0, back);
      known = body.known;
      is = body.is;
    }

-- what reading answers is read from a text
pub read_is_read : (ports : List Bytes) (text : Bytes) (e : declared.Expr) → Reads ports text (Ok e) → IsRead ports (view e)
read_is_read ports text e body = (text, body)
