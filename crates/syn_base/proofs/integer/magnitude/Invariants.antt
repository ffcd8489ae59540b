use Rattle.std.proofs.Common.{◌≡◌, ◌≤◌, drop, min, true}
use Rattle.std.specs.List.{list_all}
use Rattle.syn_base.specs.Name.{is_digit}
use Rattle.syn_base.specs.Integer.{number_after, number_of, too_large}
use Rattle.syn_base.proofs.integer.magnitude.Given as goal

abbrev pub invariant-loop-byte : goal.invariant-loop-byte
invariant-loop-byte l = record {
  so_far : min (number_after l.number (drop l.byte-index l.digits)) too_large ≡ min (number_of l.digits) too_large;
  small : l.number ≤ too_large;
  digits : list_all is_digit (drop l.byte-index l.digits) ≡ true;
}
