-- That paths and depths are followed far enough.
use Rattle.std.specs.Prelude.{◌≡◌, ℕ, ◌<◌, suc, true, length, map, None}
use Rattle.reference_graph.specs.Links.{Links, from, leads_within, first_recursive, depth}
use Rattle.reference_graph.specs.Answer.{AreInside}
use Rattle.syn_base.specs.Numbers.{greatest}

-- Longer paths lead nowhere else.
abbrev pub LinksAreEnough : Links → Type 0
LinksAreEnough links = (n a b : ℕ) → leads_within links n a b ≡ true → leads_within links (length links) a b ≡ true

-- Where nothing reaches itself, each depth is one more than that of the deepest reference.
abbrev pub DepthsAreOneDeeper : Links → Type 0
DepthsAreOneDeeper links =
    AreInside links → first_recursive links ≡ None → (a : ℕ) → a < length links →
    depth links a ≡ suc (greatest (map (depth links) (from links a)))
