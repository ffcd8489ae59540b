use Rattle.std.proofs.Common.{◌≡◌, map, take}
use Rattle.code_reader.specs.Views.{code_of}
use Rattle.code_reader.proofs.written.narrow_codes.Given as goal

abbrev pub invariant-loop-code : goal.invariant-loop-code
invariant-loop-code l = l.narrowed.items ≡ map code_of (take l.code-index l.codes)
