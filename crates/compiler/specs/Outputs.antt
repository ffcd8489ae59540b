-- How large an output may be.
use Rattle.std.specs.Prelude.{ℕ, nat_lt, if◌then◌else◌, Option, Some, None}
use Rattle.syn_base.specs.Limits.{bound_of}
use Rattle.syn_base.specs.declared.limits.LimitFault.{LimitFault}
use Rattle.syn_base.specs.declared.limits.LimitKind.TheVariants.{Output}

-- more elements than an output may have
abbrev pub excess : ℕ → Option LimitFault
excess count =
    if nat_lt (bound_of Output) count
    then Some (record { which = Output; count = count; bound = bound_of Output }) else None
