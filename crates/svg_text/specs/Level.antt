-- The least and the greatest value of an actuator, and the heights of values between them.
use Rattle.std.specs.Prelude.{
  ℕ,
  ◌+◌,
  ◌-◌,
  ◌*◌,
  ◌/◌,
  ℤ,
  pos,
  negsuc,
  int_lt,
  if◌then◌else◌,
  List,
  [],
  ◌∷◌,
  max,
  slice_index_or,
}
use Rattle.syn_base.specs.Rows.{element}
use Rattle.svg_text.specs.declared.range.Range.{Range}

-- The least of a value and of these values.
abbrev pub least : ℤ → List ℤ → ℤ
least low [] = low
least low (v ∷ vs) = least (if int_lt v low then v else low) vs

-- The greatest of a value and of these values.
abbrev pub greatest : ℤ → List ℤ → ℤ
greatest high [] = high
greatest high (v ∷ vs) = greatest (if int_lt high v then v else high) vs

-- The least of a value and of all elements of vector a in these reactions.
abbrev pub least_in : ℕ → ℤ → List (List (List ℤ)) → ℤ
least_in a low [] = low
least_in a low (row ∷ rows) = least_in a (least low (slice_index_or row a [])) rows

-- The greatest of a value and of all elements of vector a in these reactions.
abbrev pub greatest_in : ℕ → ℤ → List (List (List ℤ)) → ℤ
greatest_in a high [] = high
greatest_in a high (row ∷ rows) = greatest_in a (greatest high (slice_index_or row a [])) rows

-- from the least to the greatest value of vector a
abbrev pub range_of : ℕ → List (List (List ℤ)) → Range
range_of a rows = record {
  low = least_in a (element rows 0 a 0) rows;
  high = greatest_in a (element rows 0 a 0) rows;
}

-- how far a value of 64 bits is above the least one that there is
abbrev pub raised : ℤ → ℕ
raised (pos n) = 9223372036854775808 + n
raised (negsuc n) = 9223372036854775807 - n

-- The height of a value, down from the top of its panel: the whole range takes 120 units.
abbrev pub level : Range → ℤ → ℕ
level r v = 120 - 120 * (raised v - raised r.low) / max 1 (raised r.high - raised r.low)
