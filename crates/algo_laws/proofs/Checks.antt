-- What the checks of a line have found where the line is accepted.
use Rattle.std.proofs.Common.{◌≡◌, ℕ, ◌≤◌, ◌==◌, Bool, nat_lt, true, false, cond, Option, Some, None, Result, Ok, refl, arith, List, [], ◌∷◌, ◌<◌, ◌+◌}
use Rattle.std.specs.Prelude.{All, ℤ, pos, negsuc}
use Rattle.std.proofs.lemmas.List.Elements.{All-cons, All-nil}
use Rattle.syn_base.specs.Name.{is_name}
use Rattle.syn_base.specs.Bytes.{Bytes}
use Rattle.syn_base.specs.declared.limits.LimitKind.TheVariants.{Ports, PortLength}
use Rattle.syn_base.specs.Limits.{bound_of}
use Rattle.text_lines.specs.Refusals.{is_above}
use Rattle.algo_rules.specs.declared.Port.{Port}
use Rattle.algo_rules.specs.Typed.{IsLength}
use Rattle.algo_rules.specs.Words.{number_of, count_by, count_of}
use Rattle.algo_rules.specs.Blocks.{Block, all_names, port_line}
use Rattle.algo_rules.proofs.Checks.{at_most, fewer, found, held, passed}
use Rattle.algo_rules.specs.WellRead.{IsName}
use Rattle.text_lines.specs.Text.{word}
use Rattle.algo_rules.specs.Refusals.{AlgoRefusal}

pub above_none : (m : ℕ) → nat_lt 0 m ≡ true → 1 ≤ m
above_none m h = grind arith

-- all of the words are names
pub names_hold : {A : Type 0} (n : ℕ) (ws : List Bytes) (go : Result A AlgoRefusal) (r : A) → all_names n ws go ≡ Ok r → All IsName ws × (go ≡ Ok r)
names_hold n [] go r h = (All-nil IsName, h)
names_hold n (w ∷ ws) go r h =
    let first = held (is_name w) _ _ r h in
    let rest = names_hold n ws go r first.1 in
    (All-cons IsName w ws first.0 rest.0, rest.1)

count_some : (o : Option ℤ) (n : ℕ) → count_by o ≡ Some n → 1 ≤ n
count_some None n h = cc
count_some (Some (negsuc m)) n h = cc
count_some (Some (pos m)) n h = by (m == 0) refl h
  where
    by : (t : Bool) → (m == 0) ≡ t → cond t None (Some m) ≡ Some n → 1 ≤ n
    by true e g = cc
    by false e g = let same : m ≡ n = cc in grind arith

-- a count is not 0
pub count_positive : (w : Bytes) (n : ℕ) → count_of w ≡ Some n → 1 ≤ n
count_positive w n h = count_some (number_of w) n h

-- A line of a port that is accepted: the port, and that there were fewer than the bound before it.
pub record PortRead (before : ℕ) (go : Port → Result Block AlgoRefusal) (after : Block) : Type 0 where
  pub port : Port
  pub named : IsName port.name
  pub sized : IsLength port.len
  pub few : before < bound_of Ports
  pub then : go port ≡ Ok after

pub port_read : (n before : ℕ) (ws : List Bytes) (go : Port → Result Block AlgoRefusal) (after : Block) → port_line n before ws go ≡ Ok after → PortRead before go after
port_read n before ws go after h =
    let named = held (is_name (word ws 1)) _ _ after h in
    let counted = found (count_of (word ws 2)) _ _ after named.1 in
    let few = passed (is_above Ports (before + 1)) _ _ after counted.2 in
    let low = passed (is_above PortLength counted.0) _ _ after few.1 in
    record {
      port = record { name = word ws 1; len = counted.0 };
      named = named.0;
      sized = (count_positive (word ws 2) counted.0 counted.1, at_most (bound_of PortLength) counted.0 low.0);
      few = fewer (bound_of Ports) before few.0;
      then = low.1;
    }
