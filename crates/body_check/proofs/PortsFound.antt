-- Where a port is found and where it is not.
use Rattle.std.proofs.Common.{◌≡◌, Bool, true, false, ◌||◌, List, [], ◌∷◌, Some, None, cond, refl}
use Rattle.std.specs.Option.{unwrap_or}
use Rattle.std.specs.Str.{bytes_eq}
use Rattle.syn_base.specs.Bytes.{Bytes}
use Rattle.algo_rules.specs.declared.Port.{Port}
use Rattle.algo_rules.specs.Ports.{has_port, len_of}
use Rattle.body_check.specs.Lines.{found_len}

-- The length of a port that is not there is 0.
pub len_or_zero : (ps : List Port) (w : Bytes) → unwrap_or (found_len ps w) 0 ≡ len_of ps w
len_or_zero [] w = refl
len_or_zero (p ∷ ps) w = by_first (bytes_eq w p.name) (len_or_zero ps w)
  where
    by_first : (b : Bool) → unwrap_or (found_len ps w) 0 ≡ len_of ps w
        → unwrap_or (cond (b || has_port ps w) (Some (cond b p.len (len_of ps w))) None) 0 ≡ cond b p.len (len_of ps w)
    by_first true h = refl
    by_first false h = h
