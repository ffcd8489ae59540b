-- A conditioned definition at its outputs.
use Rattle.std.proofs.Common.{◌≡◌, true, Option, Some, None, List, refl}
use Rattle.syn_base.specs.Bytes.{Bytes}
use Rattle.algo_text.specs.declared.Port.{Port}
use Rattle.algo_text.specs.declared.part.Part.TheVariants as parts
use Rattle.algo_text.specs.Parts.{admits}
use Rattle.algo_text.specs.Blocks.{Block}
use Rattle.algo_reader.specs.declared.switch.SwitchBlock.{SwitchBlock}
use Rattle.algo_reader.specs.declared.switch.SwitchPart.{SwitchPart}
use Rattle.algo_reader.specs.declared.switch.SwitchPart.TheVariants.{Inputs, Outputs, Cases, Whole}
use Rattle.algo_reader.specs.Views.{switch_view, on_of, part_of, otherwise_of, otherwise_line_of}

at_outputs : (base : Block) (outs : List Port) (on : Option Bytes) (part : SwitchPart) → admits (part_of on part) parts.Outputs ≡ true
    → record base { part = parts.Outputs; on = on_of on; outs = outs; otherwise = otherwise_of on part; otherwise_line = otherwise_line_of on part }
    ≡ record base { part = part_of on Outputs; on = on_of on; outs = outs; otherwise = otherwise_of on Outputs; otherwise_line = otherwise_line_of on Outputs }
at_outputs base outs None part at = cc
at_outputs base outs (Some on) Inputs at = refl
at_outputs base outs (Some on) Outputs at = refl
at_outputs base outs (Some on) Cases at = cc
at_outputs base outs (Some on) (Whole def line) at = cc

pub outputs_view : (s : SwitchBlock) (outs : List Port) → admits (part_of s.on s.part) parts.Outputs ≡ true
    → record (switch_view s) { part = parts.Outputs; outs = outs } ≡ switch_view (record s { part = Outputs; outs = outs })
outputs_view s outs at = at_outputs (switch_view s) outs s.on s.part at
