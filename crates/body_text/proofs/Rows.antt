-- The definitions at worked texts over one port `x`.
use Rattle.std.proofs.Common.{◌≡◌, refl, [], ◌∷◌, pos, negsuc, Some, codes}
use Rattle.syn_base.specs.declared.arithmetic.Op.TheVariants.{Add}
use Rattle.body_text.specs.Tokens.{tokens, number, name, open_round, close_round, open_square, close_square, comma, bad}
use Rattle.body_text.specs.Grammar.{Written, literal, element, sum_over, apply, written}
use Rattle.body_text.specs.Ports.{unknown}
use Rattle.body_text.specs.Reads.{place_of}

spaced : tokens (codes "add( x[ 0 ] , -07 )") ≡ name (codes "add") ∷ open_round ∷ name (codes "x") ∷ open_square ∷ number (pos 0) ∷ close_square ∷ comma ∷ number (negsuc 6) ∷ close_round ∷ []
spaced = refl

too_large : tokens (codes "x[9223372036854775808]") ≡ name (codes "x") ∷ open_square ∷ bad ∷ close_square ∷ []
too_large = refl

minus_alone : tokens (codes "-,-7") ≡ bad ∷ comma ∷ number (negsuc 6) ∷ []
minus_alone = refl

open_end : place_of (codes "add(x[0]") 6 ≡ 8
open_end = refl

after_comma : place_of (codes "add(x[0],)") 7 ≡ 9
after_comma = refl

abbrev tree : Written
tree = apply Add (element (codes "x") (literal (pos 0))) (literal (negsuc 6))

is_written : tokens (codes "add( x[ 0 ] , -07 )") ≡ written tree
is_written = refl

unknown_in_sum : unknown (codes "x" ∷ []) (sum_over (codes "q")) ≡ Some 2
unknown_in_sum = refl

at_four : place_of (codes "sum(q)") 2 ≡ 4
at_four = refl

long_name : tokens (codes "abcdefghijklmnopqrstuvwxyzabcdefg[") ≡ name (codes "abcdefghijklmnopqrstuvwxyzabcdef") ∷ name (codes "g") ∷ open_square ∷ []
long_name = refl

empty : place_of [] 0 ≡ 0
empty = refl
