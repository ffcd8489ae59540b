use Rattle.std.proofs.Common.{◌≡◌, ◌≤◌, drop}
use Rattle.command_words.specs.Command.{number_up_to}
use Rattle.command_words.proofs.Numbers.{read_on}
use Rattle.command_words.proofs.number.number_up_to.Given as goal

abbrev pub invariant-loop-byte : goal.invariant-loop-byte
invariant-loop-byte l = record {
  so_far : read_on l.most l.number (drop l.byte-index l.text) ≡ number_up_to l.most l.text;
  small : l.number ≤ l.most;
}
