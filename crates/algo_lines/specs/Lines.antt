-- What parts of a line say, whatever block it stands in.
use Rattle.std.specs.Prelude.{ℕ, ◌+◌, Bool, not, min, take, drop, List, Result, Ok, if◌then◌else◌}
use Rattle.std.specs.List.{position_or_len}
use Rattle.syn_base.specs.Name.{is_name, is_name_byte}
use Rattle.syn_base.specs.declared.limits.LimitKind.TheVariants.{PortLength, Ports}
use Rattle.algo_text.specs.declared.Port.{Port}
use Rattle.algo_text.specs.declared.fault.AlgoCause.TheVariants.{BadName, BadNumber}
use Rattle.syn_base.specs.Bytes.{Bytes}
use Rattle.algo_text.specs.Words.{count_of}
use Rattle.text_lines.specs.Text.{word}
use Rattle.text_lines.specs.Refusals.{is_above, with_some, refused, above}
use Rattle.algo_text.specs.Refusals.{AlgoRefusal}

-- P LEN after `in` or `out`, where this many such lines stand before.
unfoldable pub port_of : ℕ → ℕ → List Bytes → Result Port AlgoRefusal
port_of line before words =
    if is_name (word words 1) then
    with_some (count_of (word words 2)) (refused line (BadNumber (word words 2))) (λ len.
    if is_above Ports (before + 1) then above Ports (before + 1) else
    if is_above PortLength len then above PortLength len else
    Ok (record { name = word words 1; len = len }))
    else refused line (BadName (word words 1))

-- A byte that stands in no name.
abbrev pub is_other : ℕ → Bool
is_other b = not (is_name_byte b)

-- How many bytes at the front may be a name's, up to 32.
abbrev pub name_length : Bytes → ℕ
name_length text = min 32 (position_or_len is_other text)

-- The bytes of a name from a place on.
abbrev pub name_from : Bytes → ℕ → Bytes
name_from text place = take (name_length (drop place text)) (drop place text)
