-- Which names the lines of definitions name.
use Rattle.std.specs.Prelude.{◌≡◌, List}
use Rattle.std.specs.List.{flat_map}
use Rattle.syn_base.specs.Bytes.{Bytes}
use Rattle.algo_rules.specs.Among.{is_among}
use Rattle.algo_rules.specs.declared.Def.{Def}
use Rattle.algo_check.specs.Placing.{names_of}
use Rattle.algo_check.specs.Linked.{named}

-- The names by which the lines of these definitions refer to definitions, in order, each as
-- often as it occurs.
abbrev pub named_in : List Def → List Bytes
named_in ds = flat_map (λ d. named d.body) ds

-- The names of these definitions, in their order, and in any order those that their lines name.
pub record AreKnown (defs : List Def) (names used : List Bytes) : Type 0 where
  pub placed : names ≡ names_of defs
  pub same : (w : Bytes) → is_among w used ≡ is_among w (named_in defs)
