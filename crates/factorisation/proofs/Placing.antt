-- A line is put at its place among lines that are lent.
use Rattle.std.proofs.Common.{◌≡◌, ℕ, zero, suc, ◌+◌, ◌-◌, ◌<◌, ◌≤◌, cond, List, [], ◌∷◌, ◌++◌, length, get_or, map, take, drop, refl, sym, ap, ◌∙◌, subst, arith, le-leb}
use Rattle.std.proofs.lemmas.Bool.{lt-leb}
use Rattle.std.specs.List.{insert}
use Rattle.algo_tree.specs.declared.Feed.{Feed}
use Rattle.flat_laws.specs.Lines.{outer_of, put_line, in_line_order}

-- after a line that stands before it
put-later : (f g : Feed) (gs : List Feed) → outer_of g < outer_of f → put_line f (g ∷ gs) ≡ g ∷ put_line f gs
put-later f g gs lt = ap (λ b. cond b (f ∷ g ∷ gs) (g ∷ put_line f gs)) (lt-leb (outer_of f) (outer_of g) lt)

put-here : (f g : Feed) (gs : List Feed) → outer_of f ≤ outer_of g → put_line f (g ∷ gs) ≡ f ∷ g ∷ gs
put-here f g gs le = ap (λ b. cond b (f ∷ g ∷ gs) (g ∷ put_line f gs)) (le-leb (outer_of f) (outer_of g) le)

module _ {A : Type 0} where
  later : (xs : List A) (now : A → Feed) (f : Feed) (p : ℕ) (x : A) → x ≡ get_or xs p x → p < length xs → outer_of (now x) < outer_of f
      → take (suc p) (map now xs) ++ put_line f (drop (suc p) (map now xs)) ≡ take p (map now xs) ++ put_line f (drop p (map now xs))
  later [] now f p x is lt before = absurd (omega arith)
  later (y ∷ xs) now f zero x is lt before = sym (put-later f (now y) (map now xs) (subst (λ z. outer_of (now z) < outer_of f) is before))
  later (y ∷ xs) now f (suc p) x is lt before = ap (λ zs. now y ∷ zs) (later xs now f p x is (omega arith) before)

  pub one_later : (xs : List A) (now : A → Feed) (f : Feed) (p : ℕ) (x : A) → x ≡ get_or xs p x → p < length xs → outer_of (now x) < outer_of f
      → take (p + 1) (map now xs) ++ put_line f (drop (p + 1) (map now xs)) ≡ take p (map now xs) ++ put_line f (drop p (map now xs))
  one_later xs now f p x is lt before =
      let e : p + 1 ≡ suc p = omega arith in ap (λ k. take k (map now xs) ++ put_line f (drop k (map now xs))) e ∙ later xs now f p x is lt before

  pub stops_here : (xs : List A) (now : A → Feed) (f : Feed) (p : ℕ) (x : A) → x ≡ get_or xs p x → p < length xs → outer_of f ≤ outer_of (now x)
      → insert (map now xs) p f ≡ take p (map now xs) ++ put_line f (drop p (map now xs))
  stops_here [] now f p x is lt behind = absurd (omega arith)
  stops_here (y ∷ xs) now f zero x is lt behind = sym (put-here f (now y) (map now xs) (subst (λ z. outer_of f ≤ outer_of (now z)) is behind))
  stops_here (y ∷ xs) now f (suc p) x is lt behind = ap (λ zs. now y ∷ zs) (stops_here xs now f p x is (omega arith) behind)

  map-insert : (xs : List A) (now : A → Feed) (p : ℕ) (x : A) → map now (insert xs p x) ≡ insert (map now xs) p (now x)
  map-insert xs now zero x = refl
  map-insert [] now (suc p) x = refl
  map-insert (y ∷ xs) now (suc p) x = ap (λ zs. now y ∷ zs) (map-insert xs now p x)

  -- one line more, from the back
  pub one_more : (xs ys lent : List A) (now : A → Feed) (feeds : List Feed) (left p : ℕ) (x : A) (g : Feed) → map now xs ≡ in_line_order (drop left feeds) → lent ≡ xs → ys ≡ insert xs p x → now x ≡ g
      → insert (map now lent) p g ≡ put_line g (map now lent) → in_line_order (drop (left - 1) feeds)
      ≡ put_line g (in_line_order (drop left feeds)) → map now ys ≡ in_line_order (drop (left - 1) feeds)
  one_more xs ys lent now feeds left p x g so_far same is seen put next =
      ap (map now) is ∙ map-insert xs now p x ∙ ap (insert (map now xs) p) seen ∙ subst (λ zs. insert (map now zs) p g ≡ put_line g (map now zs)) same put ∙ ap (put_line g) so_far ∙ sym next

line_at : (feeds : List Feed) (k : ℕ) (x : Feed) → k < length feeds → x ≡ get_or feeds k x → in_line_order (drop k feeds) ≡ put_line x (in_line_order (drop (suc k) feeds))
line_at [] k x lt is = absurd (omega arith)
line_at (f ∷ feeds) zero x lt is = ap (λ g. put_line g (in_line_order feeds)) (sym is)
line_at (f ∷ feeds) (suc k) x lt is = line_at feeds k x (omega arith) is

pub next_line : (feeds : List Feed) (left : ℕ) (x : Feed) → 0 < left → left ≤ length feeds → x ≡ get_or feeds (left - 1) x
    → in_line_order (drop (left - 1) feeds) ≡ put_line x (in_line_order (drop left feeds))
next_line feeds left x some le is =
    let e : suc (left - 1) ≡ left = omega arith in line_at feeds (left - 1) x (omega arith) is ∙ ap (λ k. put_line x (in_line_order (drop k feeds))) e
