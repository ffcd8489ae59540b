use Rattle.std.proofs.Common.{◌≡◌, ℕ, List, ◌++◌, map, Bor, subst, ap, ◌∙◌}
use Rattle.std.specs.Prelude.{IfOk}
use Rattle.syn_base.specs.Bytes.{Bytes}
use Rattle.algo_rules.specs.Among.{is_among}
use Rattle.text_lint.specs.Named.{named_in}
use Rattle.text_lint.proofs.known.used_in.Goals as goal

abbrev read : List (Bor (List ℕ)) → List Bytes
read names = map (λ (v : Bor (List ℕ)). v.now) names

pub returns : goal.returns
returns c =
    let same : read c.deref.result.now ≡ named_in c.args.defs.now =
    ap read c.deref.ensures.value
    ∙ c.in_ok-append_named.ensures
    ∙ ap (λ (named : List (Bor (List ℕ))). read named ++ named_in c.args.defs.now) c.new-named.ensures.items in
    subst (λ (names : List Bytes). IfOk c.table_of.result (λ (table : List Bytes). (w : Bytes) → is_among w table ≡ is_among w names)) same c.table_of.ensures
