-- A part of a whole in thousandths.
use Rattle.std.proofs.Common.{ℕ, ◌*◌, ◌/◌, ◌<◌, arith}
use Rattle.std.proofs.Math.Nat.{div-lt_iff_lt-mul}

pub below_thousand : (part of : ℕ) → part < of → part * 1000 / of < 1000
below_thousand part of l = (div-lt_iff_lt-mul {k = of} {x = part * 1000} {y = 1000} (omega arith)).1 (omega arith)
