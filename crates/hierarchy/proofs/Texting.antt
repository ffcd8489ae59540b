-- The text of a path that grows part by part is the text of the path.
use Rattle.std.proofs.Common.{◌≡◌, ℕ, List, [], ◌∷◌, ◌++◌, refl, sym, ap, ◌∙◌, append-nil}
use Rattle.std.proofs.lemmas.List.{append_assoc}
use Rattle.std.proofs.lemmas.Bool.{false≢true}
use Rattle.algo_tree.specs.declared.Part.{Part}
use Rattle.algo_tree.specs.declared.Part.TheVariants.{Named, Numbered, Port}
use Rattle.algo_tree.specs.Level.{Path}
use Rattle.algo_tree.specs.Texts.{part_text, parts_text, path_text}
use Rattle.algo_tree.specs.Named.{IsPartNamed}
use Rattle.hierarchy.specs.Texts.{joined, Prefixes}

-- a text with a part is not empty
joined_twice : (text : List ℕ) (p q : Part) → IsPartNamed p → joined (joined text p) q ≡ joined text p ++ part_text q
joined_twice [] (Named []) q h = absurd (false≢true h)
joined_twice [] (Named (b ∷ bs)) q h = refl
joined_twice [] (Numbered n) q h = refl
joined_twice [] (Port x) q h = refl
joined_twice (b ∷ bs) p q h = refl

pub prefixes_main : Prefixes [] (λ q. q)
prefixes_main (Named x) q = refl
prefixes_main (Numbered n) q = refl
prefixes_main (Port x) q = refl

pub prefixes_inside : (text : List ℕ) (at : Path → Path) (p : Part) → IsPartNamed p → Prefixes text at → Prefixes (joined text p) (λ q. at (p ∷ q))
prefixes_inside text at p named h r q =
    h p (r ∷ q) ∙ sym (append_assoc (joined text p) (part_text r) (parts_text q)) ∙ ap (λ xs. xs ++ parts_text q) (sym (joined_twice text p r named))

pub prefixes_here : (text : List ℕ) (at : Path → Path) (p : Part) → Prefixes text at → path_text (at (p ∷ [])) ≡ joined text p
prefixes_here text at p h = h p [] ∙ append-nil (joined text p)
