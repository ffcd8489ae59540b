-- Definitions whose links and depths are known: every name is there, none reaches itself, and no depth is above 8.
use Rattle.std.specs.Prelude.{◌≡◌, ℕ, List, None}
use Rattle.algo_rules.specs.declared.Def.{Def}
use Rattle.algo_rules.specs.ReferenceLinks.{Links, depths, first_recursive}
use Rattle.algo_rules.specs.Links.{links_of, unknown, too_deep}

pub record AreLeveled (ds : List Def) (links : Links) (levels : List ℕ) : Type 0 where
  pub linked : links ≡ links_of ds
  pub deep : levels ≡ depths (links_of ds)
  pub known : unknown ds ≡ None
  pub ends : first_recursive (links_of ds) ≡ None
  pub shallow : too_deep ds ≡ None
