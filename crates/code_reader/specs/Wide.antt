-- The program that is kept in wide numbers.
use Rattle.std.specs.Prelude.{◌≡◌, ℕ, true, false, map, nat_lt, Result, Ok, Err}
use Rattle.syn_base.specs.declared.limits.LimitKind.{LimitKind}
use Rattle.syn_base.specs.Limits.{bound_of}
use Rattle.executive_program.specs.declared.program.Program.{Program}
use Rattle.macro_code.specs.Refusals.{CodeError}
use Rattle.text_lines.specs.declared.fault.TextError.TheVariants.{Refused, Limit, OutOfMemory}
use Rattle.macro_code.specs.ReadText.{sized}
use Rattle.code_reader.specs.declared.counts.WideProgram.{WideProgram}
use Rattle.code_reader.specs.Views.{code_of}

abbrev pub program_of : WideProgram → Program
program_of w = record { buffers = map sized w.sizes.items; pairs = w.owners.items; seqs = map code_of w.seqs.now }

-- a quantity is within its bound, or how far it is above it
abbrev pub IsBounded : {T : Type 0} → Result T CodeError → LimitKind → ℕ → Type 0
IsBounded (Ok _) which exact = nat_lt (bound_of which) exact ≡ false
IsBounded (Err (Limit f)) which exact =
    (nat_lt (bound_of which) exact ≡ true) × (f ≡ record { which = which; count = exact; bound = bound_of which })
IsBounded (Err OutOfMemory) which exact = Unit {0}
IsBounded (Err (Refused f)) which exact = ⊥
