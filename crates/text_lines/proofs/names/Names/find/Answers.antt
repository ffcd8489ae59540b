use Rattle.std.proofs.Common.{◌≡◌, ℕ, ◌+◌, Bool, not, cond, List, [], ◌∷◌, map, position, length, nat_eq, nat_lt, None, Some, ap, refl, ◌∙◌, arith}
use Rattle.std.specs.List.{prefix_len, position_or_len}
use Rattle.std.specs.Cmp.Lexicographic.{pointwise}
use Rattle.text_lines.proofs.names.Names.find.Goals as goal

prefix_len-map : {X Y : Type 0} (f : X → Y) (p : Y → Bool) (xs : List X) → prefix_len (λ x. p (f x)) xs ≡ prefix_len p (map f xs)
prefix_len-map f p [] = refl
prefix_len-map f p (x ∷ xs) = ap (λ (n : ℕ). cond (p (f x)) (1 + n) 0) (prefix_len-map f p xs)

length_of-map : {X Y : Type 0} (f : X → Y) (xs : List X) → length xs ≡ length (map f xs)
length_of-map f [] = refl
length_of-map f (x ∷ xs) = omega (arith, length_of-map f xs)

position-map : {X Y : Type 0} (f : X → Y) (p : Y → Bool) (xs : List X) → position (λ x. p (f x)) xs ≡ position p (map f xs)
position-map f p xs =
    ap (λ (n : ℕ). cond (nat_lt n (length xs)) (Some n) None) (prefix_len-map f (λ y. not (p y)) xs)
    ∙ ap (λ (n : ℕ). cond (nat_lt (position_or_len p (map f xs)) n) (Some (position_or_len p (map f xs))) None) (length_of-map f xs)

pub returns : goal.returns
returns c = c.get_index_of.ensures.index
    ∙ position-map (λ k. k.now) (pointwise nat_eq c.args.name.now) c.self.inside.set.keys
    ∙ ap (position (pointwise nat_eq c.args.name.now)) c.self.view_is
