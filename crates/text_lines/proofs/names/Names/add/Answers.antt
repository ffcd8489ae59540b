use Rattle.std.proofs.Common.{◌≡◌, Bool, not, List, map, nat_eq, ◌||◌, ◌∷◌, [], ap, refl, ◌∙◌}
use Rattle.std.specs.List.{list_any}
use Rattle.std.specs.Cmp.Lexicographic.{pointwise}
use Rattle.text_lines.proofs.names.Names.add.Goals as goal

list_any-map : {X Y : Type 0} (f : X → Y) (p : Y → Bool) (xs : List X) → list_any (λ x. p (f x)) xs ≡ list_any p (map f xs)
list_any-map f p [] = refl
list_any-map f p (x ∷ xs) = ap (λ (b : Bool). p (f x) || b) (list_any-map f p xs)

pub returns-clause-new : goal.returns-clause-new
returns-clause-new c =
    c.in_ok-added.ensures.added
    ∙ ap not (list_any-map (λ k. k.now) (pointwise nat_eq c.args.name.now) c.self.inside.set.keys ∙ ap (list_any (pointwise nat_eq c.args.name.now)) c.self.view_is)
