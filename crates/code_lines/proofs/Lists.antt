-- The words of a list, which commas separate.
use Rattle.std.proofs.Common.{
  ◌≡◌,
  ℕ,
  ◌+◌,
  ◌-◌,
  ◌<◌,
  ◌≤◌,
  Bool,
  true,
  false,
  cond,
  ◌||◌,
  ◌&&◌,
  ◌==◌,
  List,
  [],
  ◌∷◌,
  ◌++◌,
  length,
  take,
  drop,
  None,
  Some,
  Option,
  if◌then◌else◌,
  nat_le,
  refl,
  sym,
  ap,
  ap₂,
  subst,
  ◌∙◌,
  arith,
  length-drop,
}
use Rattle.std.specs.List.{list_all, list_any, onto_first, position_or_len, slice_split}
use Rattle.std.proofs.lemmas.Bool.{and_parts, ltb-true, ltb-false}
use Rattle.std.proofs.lemmas.Bool.Decides.{nat_tests}
use Rattle.std.proofs.lemmas.List.{drop-drop, take_all}
use Rattle.std.proofs.lemmas.List.Splits.{slice_split_first}
use Rattle.syn_base.specs.Bytes.{Bytes}
use Rattle.macro_code.specs.Forms.{after, arguments_of, at_least, before, buffer_in, declaration_in, declared_by, each_in, from_to, is_comma, number_in, with_first}
use Rattle.macro_code.specs.ReadText.{first_unknown, is_among, is_known, one_of, two_of}
use Rattle.code_lines.specs.declared.arguments.Declaration as declared_declaration
use Rattle.code_lines.specs.Views.{IsCut, IsDeclaration}
use Rattle.code_lines.proofs.Cuts.{stands}
use Rattle.code_lines.proofs.Each.{behind, one_first}

whole_more : (c any : Bool) (x : ℕ) (xs : List ℕ) (ws : List (List ℕ)) → (c || any) ≡ false → (any ≡ false → ws ≡ xs ∷ []) → cond c ([] ∷ ws) (onto_first x ws) ≡ (x ∷ xs) ∷ []
whole_more true any x xs ws h e = cc
whole_more false any x xs ws h e = ap (onto_first x) (e h)

-- where no byte passes the list is one piece
split_whole : (p : ℕ → Bool) (xs : List ℕ) → list_any p xs ≡ false → slice_split p xs ≡ xs ∷ []
split_whole p [] h = refl
split_whole p (x ∷ xs) h = whole_more (p x) (list_any p xs) x xs (slice_split p xs) h (split_whole p xs)

inside_at : (p : ℕ → Bool) (xs : List ℕ) → list_any p xs ≡ true → position_or_len p xs < length xs
inside_at p xs h = ltb-true (position_or_len p xs) (length xs) (stands p xs ∙ h)

at_end : (p : ℕ → Bool) (xs : List ℕ) → list_any p xs ≡ false → length xs ≤ position_or_len p xs
at_end p xs h = ltb-false (position_or_len p xs) (length xs) (stands p xs ∙ h)

split_cut : (p : ℕ → Bool) (xs : List ℕ) → list_any p xs ≡ true → slice_split p xs ≡ before p xs ∷ slice_split p (after p xs)
split_cut p xs h = slice_split_first p xs 0 (inside_at p xs h)

pub one_word : (l : Bytes) → (length l == 0) ≡ false → list_any is_comma l ≡ false → arguments_of l ≡ l ∷ []
one_word [] some none = cc
one_word (b ∷ bs) some none = split_whole is_comma (b ∷ bs) none

-- no word, or one
pub at_most_one : (l : Bytes) → list_any is_comma l ≡ false → two_of (Some (arguments_of l)) ≡ None
at_most_one [] none = refl
at_most_one (b ∷ bs) none = ap (λ (ws : List Bytes). two_of (Some ws)) (split_whole is_comma (b ∷ bs) none)

pub no_declaration : (l : Bytes) → list_any is_comma l ≡ false → declaration_in (arguments_of l) ≡ None
no_declaration [] none = refl
no_declaration (b ∷ bs) none = ap declaration_in (split_whole is_comma (b ∷ bs) none)

cut_first : (l a r : Bytes) → IsCut is_comma l a r → arguments_of l ≡ a ∷ slice_split is_comma r
cut_first [] a r c = let no : false ≡ true = c.some in cc
cut_first (b ∷ bs) a r c = split_cut is_comma (b ∷ bs) c.some ∙ ap₂ (λ (w : Bytes) (rest : Bytes). w ∷ slice_split is_comma rest) (sym c.first_is) (sym c.rest_is)

pieces_of : (l a r : Bytes) → IsCut is_comma l a r → slice_split is_comma l ≡ a ∷ slice_split is_comma r
pieces_of l a r c = split_cut is_comma l c.some ∙ ap₂ (λ (w : Bytes) (rest : Bytes). w ∷ slice_split is_comma rest) (sym c.first_is) (sym c.rest_is)

pub two_words : (l a r : Bytes) → IsCut is_comma l a r → list_any is_comma r ≡ false → arguments_of l ≡ a ∷ r ∷ []
two_words l a r c none = cut_first l a r c ∙ ap (λ (ws : List Bytes). a ∷ ws) (split_whole is_comma r none)

pub three_words : (l a r b s : Bytes) → IsCut is_comma l a r → IsCut is_comma r b s → list_any is_comma s ≡ false → arguments_of l ≡ a ∷ b ∷ s ∷ []
three_words l a r b s c d none = cut_first l a r c ∙ ap (λ (ws : List Bytes). a ∷ ws) (pieces_of r b s d ∙ ap (λ (ws : List Bytes). b ∷ ws) (split_whole is_comma s none))

-- more words than one, than two, than three
pub more_than_one : (l a r : Bytes) → IsCut is_comma l a r → one_of (Some (arguments_of l)) ≡ None
more_than_one l a r c = by (list_any is_comma r) refl
  where
    by : (any : Bool) → list_any is_comma r ≡ any → one_of (Some (arguments_of l)) ≡ None
    by true h = ap (λ (ws : List Bytes). one_of (Some ws)) (cut_first l a r c ∙ ap (λ (ws : List Bytes). a ∷ ws) (split_cut is_comma r h))
    by false h = ap (λ (ws : List Bytes). one_of (Some ws)) (two_words l a r c h)

pub more_than_two : (l a r b s : Bytes) → IsCut is_comma l a r → IsCut is_comma r b s → two_of (Some (arguments_of l)) ≡ None
more_than_two l a r b s c d = by (list_any is_comma s) refl
  where
    by : (any : Bool) → list_any is_comma s ≡ any → two_of (Some (arguments_of l)) ≡ None
    by true h = ap (λ (ws : List Bytes). two_of (Some ws)) (cut_first l a r c ∙ ap (λ (ws : List Bytes). a ∷ ws) (pieces_of r b s d ∙ ap (λ (ws : List Bytes). b ∷ ws) (split_cut is_comma s h)))
    by false h = ap (λ (ws : List Bytes). two_of (Some ws)) (three_words l a r b s c d h)

pub more_than_three : (l a r b s e t : Bytes) → IsCut is_comma l a r → IsCut is_comma r b s → IsCut is_comma s e t → declaration_in (arguments_of l) ≡ None
more_than_three l a r b s e t c d f = by (list_any is_comma t) refl
  where
    four : (ws : List Bytes) → slice_split is_comma t ≡ ws → arguments_of l ≡ a ∷ b ∷ e ∷ ws
    four ws h = cut_first l a r c ∙ ap (λ (vs : List Bytes). a ∷ vs) (pieces_of r b s d ∙ ap (λ (vs : List Bytes). b ∷ vs) (pieces_of s e t f ∙ ap (λ (vs : List Bytes). e ∷ vs) h))

    by : (any : Bool) → list_any is_comma t ≡ any → declaration_in (arguments_of l) ≡ None
    by true h = ap declaration_in (four _ (split_cut is_comma t h))
    by false h = ap declaration_in (four _ (split_whole is_comma t h))

-- what a list of two or three words declares
pub two_declared : (l b k : Bytes) (n len : Option ℕ) (d : Option declared_declaration.Declaration) → IsCut is_comma l b k → list_any is_comma k ≡ false
    → n ≡ buffer_in b → len ≡ at_least 1 (number_in k) → IsDeclaration d (declared_by n len (Some 1)) → IsDeclaration d (declaration_in (arguments_of l))
two_declared l b k n len d c none is_n is_len h =
    subst (IsDeclaration d) (ap₂ (λ (x y : Option ℕ). declared_by x y (Some 1)) is_n is_len ∙ sym (ap declaration_in (two_words l b k c none))) h

pub three_declared : (l b r k p : Bytes) (n len depth : Option ℕ) (d : Option declared_declaration.Declaration) → IsCut is_comma l b r → IsCut is_comma r k p → list_any is_comma p ≡ false
    → n ≡ buffer_in b → len ≡ at_least 1 (number_in k) → depth ≡ from_to 2 4 (number_in p) → IsDeclaration d (declared_by n len depth) → IsDeclaration d (declaration_in (arguments_of l))
three_declared l b r k p n len depth d c e none is_n is_len is_depth h =
    subst (IsDeclaration d)
    (ap₂ (λ (x y : Option ℕ). declared_by x y depth) is_n is_len ∙ ap (declared_by (buffer_in b) (at_least 1 (number_in k))) is_depth ∙ sym (ap declaration_in (three_words l b r k p c e none))) h

-- the pieces of a list from a place on, where a piece begins or the list has ended
abbrev pub pieces : List ℕ → ℕ → List (List ℕ)
pieces list from = cond (nat_le from (length list)) (slice_split is_comma (drop from list)) []

here : (list : List ℕ) (from : ℕ) → from ≤ length list → pieces list from ≡ slice_split is_comma (drop from list)
here list from le = let yes : nat_le from (length list) ≡ true = grind (arith, nat_tests) in ap (λ (b : Bool). cond b (slice_split is_comma (drop from list)) []) yes

past : (list : List ℕ) (from : ℕ) → length list < from → pieces list from ≡ []
past list from lt = let no : nat_le from (length list) ≡ false = grind (arith, nat_tests) in ap (λ (b : Bool). cond b (slice_split is_comma (drop from list)) []) no

next_by : (list : List ℕ) (from to : ℕ) (any : Bool) → list_any is_comma (drop from list) ≡ any → from ≤ length list → to ≡ from + position_or_len is_comma (drop from list)
    → pieces list from ≡ take (to - from) (drop from list) ∷ pieces list (to + 1)
next_by list from to true h le next =
    let e : ℕ = position_or_len is_comma (drop from list) in
    let within : e < length (drop from list) = inside_at is_comma (drop from list) h in
    let is : e ≡ to - from = omega (arith, next) in
    let behind_it : drop (e + 1) (drop from list) ≡ drop (to + 1) list = drop-drop (e + 1) from list ∙ ap (λ (k : ℕ). drop k list) (omega (arith, next)) in
    here list from le ∙ split_cut is_comma (drop from list) h
    ∙ ap₂ (λ (w : List ℕ) (ws : List (List ℕ)). w ∷ ws) (ap (λ (k : ℕ). take k (drop from list)) is)
    (ap (slice_split is_comma) behind_it ∙ sym (here list (to + 1) (omega (arith, next, within, length-drop from list))))
next_by list from to false h le next =
    let e : ℕ = position_or_len is_comma (drop from list) in
    let end : length (drop from list) ≤ e = at_end is_comma (drop from list) h in
    here list from le ∙ split_whole is_comma (drop from list) h
    ∙ ap₂ (λ (w : List ℕ) (ws : List (List ℕ)). w ∷ ws) (sym (take_all (to - from) (drop from list) (omega (arith, next, end))))
    (sym (past list (to + 1) (omega (arith, next, end, length-drop from list))))

next_piece : (list : List ℕ) (from to : ℕ) → from ≤ length list → to ≡ from + position_or_len is_comma (drop from list) → pieces list from ≡ take (to - from) (drop from list) ∷ pieces list (to + 1)
next_piece list from to le next = next_by list from to (list_any is_comma (drop from list)) refl le next

-- The buffers of a list: one more is read, or one is none.
pub one_more : (list : List ℕ) (from to n : ℕ) (ns new : List ℕ) (all : Option (List ℕ)) → from ≤ length list → to ≡ from + position_or_len is_comma (drop from list)
    → Some n ≡ buffer_in (take (to - from) (drop from list)) → new ≡ ns ++ n ∷ [] → behind ns (each_in buffer_in (pieces list from)) ≡ all → behind new (each_in buffer_in (pieces list (to + 1))) ≡ all
one_more list from to n ns new all le next is made so_far =
    ap (λ (vs : List ℕ). behind vs (each_in buffer_in (pieces list (to + 1)))) made
    ∙ one_first ns n (each_in buffer_in (pieces list (to + 1)))
    ∙ ap (λ (o : Option ℕ). behind ns (with_first o (each_in buffer_in (pieces list (to + 1))))) is
    ∙ sym (ap (λ (ws : List Bytes). behind ns (each_in buffer_in ws)) (next_piece list from to le next))
    ∙ so_far

pub no_more : (list : List ℕ) (from to : ℕ) (ns : List ℕ) (all : Option (List ℕ)) → from ≤ length list → to ≡ from + position_or_len is_comma (drop from list)
    → None ≡ buffer_in (take (to - from) (drop from list)) → behind ns (each_in buffer_in (pieces list from)) ≡ all → all ≡ None
no_more list from to ns all le next is so_far =
    sym so_far
    ∙ ap (λ (ws : List Bytes). behind ns (each_in buffer_in ws)) (next_piece list from to le next)
    ∙ sym (ap (λ (o : Option ℕ). behind ns (with_first o (each_in buffer_in (pieces list (to + 1))))) is)

-- where all buffers are declared, no word names another one
pub all_declared : (here : List ℕ) (ws : List Bytes) (ns : List ℕ) → each_in buffer_in ws ≡ Some ns → list_all (is_among here) ns ≡ true → first_unknown here ws ≡ None
all_declared here [] ns e k = refl
all_declared here (w ∷ ws) ns e k = one (buffer_in w) (each_in buffer_in ws) ns e k (all_declared here ws)
  where
    one : (o : Option ℕ) (p : Option (List ℕ)) (ns : List ℕ) → with_first o p ≡ Some ns → list_all (is_among here) ns ≡ true
        → ((ms : List ℕ) → p ≡ Some ms → list_all (is_among here) ms ≡ true → first_unknown here ws ≡ None)
        → (if is_known here o then first_unknown here ws else Some w) ≡ None
    one None p ns e k rest = cc
    one (Some n) None ns e k rest = cc
    one (Some n) (Some ms) ns e k rest =
        let is : ns ≡ n ∷ ms = cc in
        let both : (is_among here n && list_all (is_among here) ms) ≡ true = rw is at k in
        let parts = and_parts (is_among here n) (list_all (is_among here) ms) both in
        rw parts.0 (rest ms refl parts.1)
