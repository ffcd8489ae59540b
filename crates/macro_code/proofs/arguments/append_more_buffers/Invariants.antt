use Rattle.std.proofs.Common.{◌≡◌, ◌++◌, drop, map}
use Rattle.macro_code.specs.Text.{buffer_name}
use Rattle.macro_code.proofs.arguments.append_more_buffers.Given as goal
use Rattle.syn_base.specs.Bytes.{each_after_comma}

-- what is there, with what is left, is the whole
abbrev pub invariant-loop-buffer : goal.invariant-loop-buffer
invariant-loop-buffer l = l.out.items ++ each_after_comma (map buffer_name (drop l.buffer-index l.buffers)) ≡ l.fn.out.items ++ each_after_comma (map buffer_name l.buffers)
