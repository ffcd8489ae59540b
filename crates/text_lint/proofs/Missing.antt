-- Where nothing stands at a place, nothing is found there.
use Rattle.std.proofs.Common.{◌≡◌, ℕ, ℤ, ◌++◌, List, sym, ap, ◌∙◌}
use Rattle.std.specs.Prelude.{Option, Some, None}
use Rattle.std.proofs.lemmas.List.{append-nil}
use Rattle.syn_base.specs.Bytes.{Bytes}
use Rattle.algo_rules.specs.declared.Port.{Port}
use Rattle.algo_rules.specs.declared.Def.{Def}
use Rattle.text_lint.specs.Algorithm.{outside_port}
use Rattle.text_lint.specs.Architecture.{idle_duration}
use Rattle.text_lint.specs.declared.finding.Finding.{Finding}
use Rattle.text_lint.specs.declared.finding.Why.{Why}

pub no_operator : (found : List Finding) (n : ℕ) (def : Bytes) (why : Why) (o : Option Bytes) → o ≡ None → found ≡ found ++ idle_duration n def (Some why) o
no_operator found n def why o e = sym (ap (λ (o : Option Bytes). found ++ idle_duration n def (Some why) o) e ∙ append-nil found)

pub no_port : (found : List Finding) (def : Def) (n : ℤ) (o : Option Port) → o ≡ None → found ≡ found ++ outside_port def n o
no_port found def n o e = sym (ap (λ (o : Option Port). found ++ outside_port def n o) e ∙ append-nil found)
