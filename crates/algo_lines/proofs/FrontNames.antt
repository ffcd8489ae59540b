-- The bytes of a name at the front of a text.
use Rattle.std.proofs.Common.{◌≡◌, ℕ, Some, None, length, position}
use Rattle.std.specs.List.{position_or_len}
use Rattle.text_lines.proofs.Places.{found_at, missing_at}
use Rattle.syn_base.specs.Bytes.{Bytes}
use Rattle.algo_lines.specs.Lines.{is_other}

pub found_length : (bs : Bytes) (n : ℕ) → position is_other bs ≡ Some n → position_or_len is_other bs ≡ n
found_length bs n h = found_at is_other bs n h

pub missing_length : (bs : Bytes) → position is_other bs ≡ None → position_or_len is_other bs ≡ length bs
missing_length bs h = missing_at is_other bs h
