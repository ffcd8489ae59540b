-- What reading guarantees whoever works on definitions.
use Rattle.std.specs.Prelude.{◌≡◌, Ok}
use Rattle.syn_base.specs.Bytes.{Bytes}
use Rattle.algo_rules.specs.declared.Defs.{Defs}
use Rattle.algo_rules.specs.Text.{definitions_of}
use Rattle.algo_rules.specs.WellRead.{AreWellRead}

-- The definitions of every text that is accepted.
abbrev pub AcceptedAreWellRead : Type 0
AcceptedAreWellRead = (text : Bytes) (ds : Defs) → definitions_of text ≡ Ok ds → AreWellRead ds.defs
