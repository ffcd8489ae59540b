-- Operators and media by name.
use Rattle.std.proofs.Common.{◌≡◌, ℕ, suc, ◌+◌, Bool, not, cond, ◌||◌, List, [], ◌∷◌, ◌++◌, length, map, Some, None, position, nat_lt, refl, ap, ◌∙◌}
use Rattle.std.specs.List.{list_any, prefix_len, position_or_len}
use Rattle.std.specs.Str.{bytes_eq}
use Rattle.std.proofs.lemmas.List.Folds.{list_any-append}
use Rattle.syn_base.specs.Bytes.{Bytes}
use Rattle.archi_defs.specs.declared.Medium.{Medium}
use Rattle.archi_defs.specs.Text.{place_of}

prefix_len-map : {X Y : Type 0} (f : X → Y) (p : Y → Bool) (xs : List X) → prefix_len p (map f xs) ≡ prefix_len (λ x. p (f x)) xs
prefix_len-map f p [] = refl
prefix_len-map f p (x ∷ xs) = ap (λ (n : ℕ). cond (p (f x)) (1 + n) 0) (prefix_len-map f p xs)

length_of-map : {X Y : Type 0} (f : X → Y) (xs : List X) → length (map f xs) ≡ length xs
length_of-map f [] = refl
length_of-map f (x ∷ xs) = ap suc (length_of-map f xs)

pub position-map : {X Y : Type 0} (f : X → Y) (p : Y → Bool) (xs : List X) → position p (map f xs) ≡ position (λ x. p (f x)) xs
position-map f p xs =
    ap (λ (n : ℕ). cond (nat_lt n (length (map f xs))) (Some n) None) (prefix_len-map f (λ y. not (p y)) xs)
    ∙ ap (λ (n : ℕ). cond (nat_lt (position_or_len (λ x. p (f x)) xs) n) (Some (position_or_len (λ x. p (f x)) xs)) None) (length_of-map f xs)

pub place_of_medium : (name : Bytes) (media : List Medium) → place_of name (map (λ m. m.name) media) ≡ position (λ m. bytes_eq name m.name) media
place_of_medium name media = position-map (λ (m : Medium). m.name) (bytes_eq name) media

list_any-map : (p : Bytes → Bool) (media : List Medium) → list_any p (map (λ m. m.name) media) ≡ list_any (λ m. p m.name) media
list_any-map p [] = refl
list_any-map p (m ∷ media) = ap (λ (b : Bool). p m.name || b) (list_any-map p media)

pub any_both : (p : Bytes → Bool) (operators : List Bytes) (media : List Medium)
    → list_any p (operators ++ map (λ m. m.name) media) ≡ (list_any p operators || list_any (λ m. p m.name) media)
any_both p operators media = list_any-append p operators (map (λ m. m.name) media) ∙ ap (λ (b : Bool). list_any p operators || b) (list_any-map p media)
