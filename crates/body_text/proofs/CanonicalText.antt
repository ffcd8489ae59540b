-- The text of an expression without blanks, and its tokens.
use Rattle.std.proofs.Common.{◌≡◌, ℕ, true, false, List, [], ◌∷◌, ◌++◌, refl, sym, ap, ◌∙◌, append_assoc, append-nil, codes}
use Rattle.std.specs.Fmt.{signed_decimal}
use Rattle.syn_base.specs.Name.{is_name, is_name_byte}
use Rattle.syn_base.specs.declared.arithmetic.Op.{Op}
use Rattle.syn_base.specs.declared.arithmetic.Op.TheVariants.{Add, Sub, Mul, Div, Rem, Eq, Ne, Lt, Le, Gt, Ge, Min, Max, Neg}
use Rattle.syn_base.specs.Bytes.{Bytes}
use Rattle.body_text.specs.Tokens.{Token, name, open_round, close_round, open_square, close_square, comma, tokens}
use Rattle.body_text.specs.Grammar.{Written, literal, index, element, sum_over, negation, apply, select, written, word_of}
use Rattle.body_text.proofs.CanonicalTokens.{token_list, without_places, Stops}
use Rattle.body_text.proofs.CanonicalPieces.{name_token, number_token}
use Rattle.body_text.proofs.CanonicalSound.{IsSoundTree}

-- the canonical text, where ports go by name
abbrev pub text_of : Written → Bytes
text_of (literal v) = signed_decimal v
text_of index = codes "j"
text_of (element p e) = p ++ (codes "[" ++ (text_of e ++ codes "]"))
text_of (sum_over p) = codes "sum(" ++ (p ++ codes ")")
text_of (negation a) = word_of Neg ++ (codes "(" ++ (text_of a ++ codes ")"))
text_of (apply op a b) = word_of op ++ (codes "(" ++ (text_of a ++ (codes "," ++ (text_of b ++ codes ")"))))
text_of (select c a b) = codes "select(" ++ (text_of c ++ (codes "," ++ (text_of a ++ (codes "," ++ (text_of b ++ codes ")")))))

-- these bytes are these tokens, whatever stands after
record IsText (text : Bytes) (ts : List Token) : Type 0 where
  pub reads : (rest : Bytes) → Stops rest → token_list 0 (text ++ rest) ≡ ts ++ token_list 0 rest

named : (n : Bytes) → is_name n ≡ true → IsText n (name n ∷ [])
named n is = record { reads = λ rest stops. name_token n rest is stops }

-- a mark ends what stands in front of it
joined : {text more : Bytes} {ts us : List Token} {mark : ℕ} {t : Token} → IsText text ts → is_name_byte mark ≡ false → IsText (mark ∷ more) (t ∷ us)
    → IsText (text ++ mark ∷ more) (ts ++ t ∷ us)
joined {text} {more} {ts} {us} {mark} {t} front ends behind = record {
  reads = λ rest stops. ap (token_list 0) (append_assoc text (mark ∷ more) rest) ∙ front.reads (mark ∷ (more ++ rest)) ends
      ∙ ap (λ vs. ts ++ vs) (behind.reads rest stops) ∙ sym (append_assoc ts (t ∷ us) (token_list 0 rest));
}

open_round_then : {text : Bytes} {ts : List Token} → IsText text ts → IsText (40 ∷ text) (open_round ∷ ts)
open_round_then more = record { reads = λ rest stops. ap (λ us. open_round ∷ us) (more.reads rest stops) }

open_square_then : {text : Bytes} {ts : List Token} → IsText text ts → IsText (91 ∷ text) (open_square ∷ ts)
open_square_then more = record { reads = λ rest stops. ap (λ us. open_square ∷ us) (more.reads rest stops) }

comma_then : {text : Bytes} {ts : List Token} → IsText text ts → IsText (44 ∷ text) (comma ∷ ts)
comma_then more = record { reads = λ rest stops. ap (λ us. comma ∷ us) (more.reads rest stops) }

close_round_text : IsText (41 ∷ []) (close_round ∷ [])
close_round_text = record { reads = λ rest stops. refl }

close_square_text : IsText (93 ∷ []) (close_square ∷ [])
close_square_text = record { reads = λ rest stops. refl }

word_is_name : (op : Op) → is_name (word_of op) ≡ true
word_is_name Add = refl
word_is_name Sub = refl
word_is_name Mul = refl
word_is_name Div = refl
word_is_name Rem = refl
word_is_name Eq = refl
word_is_name Ne = refl
word_is_name Lt = refl
word_is_name Le = refl
word_is_name Gt = refl
word_is_name Ge = refl
word_is_name Min = refl
word_is_name Max = refl
word_is_name Neg = refl

tree_text : (w : Written) → IsSoundTree w → IsText (text_of w) (written w)
tree_text (literal v) s = record { reads = λ rest stops. number_token v rest s stops }
tree_text index s = named (codes "j") refl
tree_text (element p e) s = joined (named p s.0) refl (open_square_then (joined (tree_text e s.1) refl close_square_text))
tree_text (sum_over p) s = joined (named (codes "sum") refl) refl (open_round_then (joined (named p s) refl close_round_text))
tree_text (negation a) s = joined (named (word_of Neg) refl) refl (open_round_then (joined (tree_text a s) refl close_round_text))
tree_text (apply op a b) s =
    joined (named (word_of op) (word_is_name op)) refl (open_round_then (joined (tree_text a s.0) refl (comma_then (joined (tree_text b s.1) refl close_round_text))))
tree_text (select c a b) s =
    joined (named (codes "select") refl) refl
    (open_round_then (joined (tree_text c s.0) refl
    (comma_then (joined (tree_text a s.1.0) refl (comma_then (joined (tree_text b s.1.1) refl close_round_text))))))

-- the text's tokens are those that the grammar writes
pub text_tokens : (w : Written) → IsSoundTree w → tokens (text_of w) ≡ written w
text_tokens w s =
    let t : IsText (text_of w) (written w) = tree_text w s in
    without_places 0 0 (text_of w) ∙ ap (token_list 0) (sym (append-nil (text_of w))) ∙ t.reads [] tt ∙ append-nil (written w)
