use Rattle.std.proofs.Common.{◌∙◌, ◌++◌, [], ◌∷◌, ap}
use Rattle.std.proofs.lemmas.List.{append_assoc}
use Rattle.syn_base.specs.Bytes.{Bytes}
use Rattle.algo_print.specs.Canonical.{canonical_text}
use Rattle.archi_reader.specs.Canonical as architecture
use Rattle.syndex_program.proofs.commands.check.print_both.Goals as goal
use Rattle.self_timed.specs.Text.{described_by}

pub returns : goal.returns
returns c =
    let behind = architecture.canonical_text (described_by c.args.architecture.now) in
    c.in_ok-print_archi.ensures.ok ∙ ap (λ (t : Bytes). t ++ behind) (c.in_ok-push.ensures.items ∙ ap (λ (t : Bytes). t ++ 10 ∷ []) c.in_ok-text.ensures)
    ∙ append_assoc (canonical_text c.args.defs.now) (10 ∷ []) behind
