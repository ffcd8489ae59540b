-- The sensor table of a load: four values in each reaction, of a linear congruential generator.
use Rattle.std.specs.Prelude.{ℕ, zero, suc, ◌+◌, ◌*◌, ◌/◌, ◌%◌, ◌^◌, ℤ, pos, ◌-ℤ◌, [], ◌∷◌, ◌++◌, codes}
use Rattle.std.specs.Fmt.{decimal, signed_decimal}
use Rattle.syn_base.specs.Bytes.{Bytes}
use Rattle.load_texts.specs.Lines.{lines_text}

-- the generator's next state
abbrev pub next_state : ℕ → ℕ
next_state u = (u * 6364136223846793005 + 1442695040888963407) % 2 ^ 64

-- the value that a state gives: -500 to 499
abbrev pub value_of : ℕ → ℤ
value_of u = pos (u / 2 ^ 40 % 1000) -ℤ pos 500

-- the state this many steps after this one
abbrev pub state_after : ℕ → ℕ → ℕ
state_after zero u = u
state_after (suc i) u = next_state (state_after i u)

-- the state before the row of a reaction, where the generator begins with the load's number: a row takes four values
abbrev pub state_before : ℕ → ℕ → ℕ
state_before load zero = load
state_before load (suc k) = state_after 4 (state_before load k)

-- the field of a state's value, after a comma
abbrev pub value_field : ℕ → Bytes
value_field u = codes "," ++ signed_decimal (value_of u)

-- the fields of the four values after a state
abbrev pub value_fields : ℕ → Bytes
value_fields u =
    value_field (state_after 1 u)
    ++ (value_field (state_after 2 u) ++ (value_field (state_after 3 u) ++ value_field (state_after 4 u)))

-- the row of reaction k, from the state before it
abbrev pub row : ℕ → ℕ → Bytes
row k u = decimal k ++ (value_fields u ++ codes "\n")

-- the rows of the first reactions, of which there are this many
abbrev pub rows : ℕ → ℕ → Bytes
rows load zero = []
rows load (suc k) = rows load k ++ row k (state_before load k)

-- the load of number n has 100 + n reactions
abbrev pub reactions_of : ℕ → ℕ
reactions_of load = 100 + load

-- The text of the sensor table of the load of this number: a header, and a row for each of its
-- reactions.
abbrev pub table_text : ℕ → Bytes
table_text load = lines_text (codes "k,s.0,s.1,s.2,s.3" ∷ []) ++ rows load (reactions_of load)
