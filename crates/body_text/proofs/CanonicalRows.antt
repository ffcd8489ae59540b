-- Canonical texts over the ports `x` and `y`.
use Rattle.std.proofs.Common.{◌≡◌, List, [], ◌∷◌, pos, negsuc, refl, codes}
use Rattle.std.specs.Fmt.{digits}
use Rattle.syn_base.specs.declared.arithmetic.Op.TheVariants.{Add, Le}
use Rattle.body_lang.specs.Expr.{literal, index, element, sum_over, negation, apply, select}
use Rattle.syn_base.specs.Bytes.{Bytes}
use Rattle.body_text.specs.Canonical.{canonical}

abbrev ports : List Bytes
ports = codes "x" ∷ codes "y" ∷ []

short_numbers : canonical ports (apply Add (element 0 (literal (pos 0))) (literal (negsuc 6))) ≡ codes "add(x[0],-7)"
unfolding digits
short_numbers = refl

each_form : canonical ports (select (apply Le index (literal (pos 12))) (negation (sum_over 1)) index) ≡ codes "select(le(j,12),neg(sum(y)),j)"
unfolding digits
each_form = refl
