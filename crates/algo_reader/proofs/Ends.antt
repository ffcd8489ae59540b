-- The end of the text, by whether a block is open.
use Rattle.std.proofs.Common.{◌≡◌, ℕ, Ok, refl}
use Rattle.std.specs.Prelude.{if◌then◌else◌}
use Rattle.text_lines.specs.Refusals.{refused}
use Rattle.algo_text.specs.declared.definition.Defs.{Defs}
use Rattle.algo_text.specs.declared.fault.AlgoCause.TheVariants.{BadLine}
use Rattle.algo_text.specs.Text.{Stage, before_version, between, in_function, in_graph, in_switch, in_repeat, at_end}
use Rattle.algo_reader.specs.Views.{is_between}

pub end_by : (s : Stage) (defs : Defs) (n : ℕ) → at_end s defs n ≡ (if is_between s then Ok defs else refused n BadLine)
end_by before_version defs n = refl
end_by between defs n = refl
end_by in_function defs n = refl
end_by in_graph defs n = refl
end_by in_switch defs n = refl
end_by in_repeat defs n = refl
