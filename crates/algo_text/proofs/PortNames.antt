-- The tokens that name the ports of an expression: the first one that is none has a name.
use Rattle.std.proofs.Common.{◌≡◌, ℕ, suc, ◌+◌, Bool, true, false, cond, Some, List, [], ◌∷◌, ◌++◌, length, refl, arith, ap, sym, ◌∙◌, subst, append_assoc, append-nil, codes}
use Rattle.std.proofs.lemmas.List.{length-append}
use Rattle.std.specs.Prelude.{slice_get}
use Rattle.syn_base.specs.Bytes.{Bytes}
use Rattle.body_text.specs.Tokens.{Token, name, open_round, close_round, open_square, close_square, comma}
use Rattle.body_text.specs.Grammar.{Written, literal, index, element, sum_over, negation, apply, select, written, word_of, AreWritten}
use Rattle.body_text.specs.Ports.{Naming, namings, is_port, first_unknown, unknown}
use Rattle.syn_base.specs.declared.arithmetic.Op.TheVariants.{Neg}

abbrev AreNamed : List Token → List Naming → Type 0
AreNamed ts [] = Unit {0}
AreNamed ts (n ∷ ns) = (slice_get ts n.token ≡ Some (name n.port)) × AreNamed ts ns

both : (ts : List Token) (ms ns : List Naming) → AreNamed ts ms → AreNamed ts ns → AreNamed ts (ms ++ ns)
both ts [] ns first second = second
both ts (m ∷ ms) ns first second = (first.0, both ts ms ns first.1 second)

-- token t is a name
pub record Found (ts : List Token) (t : ℕ) : Type 0 where
  pub port : Bytes
  pub is : slice_get ts t ≡ Some (name port)

at_port : (b : Bool) (names : List Bytes) (ts : List Token) (n : Naming) (ns : List Naming) (t : ℕ) → slice_get ts n.token ≡ Some (name n.port)
    → (first_unknown names ns ≡ Some t → Found ts t) → cond b (first_unknown names ns) (Some n.token) ≡ Some t → Found ts t
at_port true names ts n ns t is again h = again h
at_port false names ts n ns t is again h = let same : n.token ≡ t = cc in record { port = n.port; is = subst (λ (k : ℕ). slice_get ts k ≡ Some (name n.port)) same is }

found : (names : List Bytes) (ts : List Token) (ns : List Naming) (t : ℕ) → AreNamed ts ns → first_unknown names ns ≡ Some t → Found ts t
found names ts [] t all h = cc
found names ts (n ∷ ns) t all h = at_port (is_port names n.port) names ts n ns t all.0 (λ e. found names ts ns t all.1 e) h

get_seam : (pre : List Token) (x : Token) (rest : List Token) → slice_get (pre ++ x ∷ rest) (length pre) ≡ Some x
get_seam [] x rest = refl
get_seam (y ∷ ys) x rest = let e : length (y ∷ ys) ≡ suc (length ys) = omega arith in ap (λ (k : ℕ). slice_get (y ∷ (ys ++ x ∷ rest)) k) e ∙ get_seam ys x rest

get_at : (pre : List Token) (x : Token) (rest ts : List Token) (at : ℕ) → length pre ≡ at → ts ≡ pre ++ x ∷ rest → slice_get ts at ≡ Some x
get_at pre x rest ts at size is = ap (λ (l : List Token). slice_get l at) is ∙ ap (λ (k : ℕ). slice_get (pre ++ x ∷ rest) k) (sym size) ∙ get_seam pre x rest

-- after a word and its mark
inside : (pre : List Token) (s t : Token) (xs more post : List Token) → pre ++ ((s ∷ t ∷ (xs ++ more)) ++ post) ≡ (pre ++ s ∷ t ∷ []) ++ (xs ++ (more ++ post))
inside pre s t xs more post = ap (λ (l : List Token). pre ++ s ∷ t ∷ l) (append_assoc xs more post) ∙ sym (append_assoc pre (s ∷ t ∷ []) (xs ++ (more ++ post)))

-- after an argument and its comma
onward : (pre xs : List Token) (s : Token) (ys more post : List Token) → pre ++ (xs ++ ((s ∷ (ys ++ more)) ++ post)) ≡ (pre ++ (xs ++ s ∷ [])) ++ (ys ++ (more ++ post))
onward pre xs s ys more post =
    ap (λ (l : List Token). pre ++ (xs ++ s ∷ l)) (append_assoc ys more post)
    ∙ ap (λ (l : List Token). pre ++ l) (sym (append_assoc xs (s ∷ []) (ys ++ (more ++ post))))
    ∙ sym (append_assoc pre (xs ++ s ∷ []) (ys ++ (more ++ post)))

two_more : (pre : List Token) (s t : Token) (at : ℕ) → length pre ≡ at → length (pre ++ s ∷ t ∷ []) ≡ at + 2
two_more pre s t at h = omega (arith, length-append pre (s ∷ t ∷ []), h)

one_more : (pre xs : List Token) (s : Token) (at to : ℕ) → length pre ≡ at → at + length xs + 1 ≡ to → length (pre ++ (xs ++ s ∷ [])) ≡ to
one_more pre xs s at to h e = omega (arith, length-append pre (xs ++ s ∷ []), length-append xs (s ∷ []), h, e)

are_named : (w : Written) (at : ℕ) (pre post ts : List Token) → length pre ≡ at → ts ≡ pre ++ (written w ++ post) → AreNamed ts (namings at w)
are_named (literal v) at pre post ts size is = tt
are_named index at pre post ts size is = tt
are_named (element p e) at pre post ts size is = (
  get_at pre (name p) _ ts at size is,
  are_named e (at + 2) (pre ++ name p ∷ open_square ∷ []) (close_square ∷ post) ts (two_more pre (name p) open_square at size)
      (is ∙ inside pre (name p) open_square (written e) (close_square ∷ []) post),
)
are_named (sum_over p) at pre post ts size is = (
  get_at (pre ++ name (codes "sum") ∷ open_round ∷ []) (name p) (close_round ∷ post) ts (at + 2) (two_more pre (name (codes "sum")) open_round at size)
      (is ∙ sym (append_assoc pre (name (codes "sum") ∷ open_round ∷ []) (name p ∷ close_round ∷ post))),
  tt,
)
are_named (negation a) at pre post ts size is =
    are_named a (at + 2) (pre ++ name (word_of Neg) ∷ open_round ∷ []) (close_round ∷ post) ts (two_more pre (name (word_of Neg)) open_round at size)
    (is ∙ inside pre (name (word_of Neg)) open_round (written a) (close_round ∷ []) post)
are_named (apply op a b) at pre post ts size is =
    let one : List Token = pre ++ name (word_of op) ∷ open_round ∷ [] in
    let first : ts ≡ one ++ (written a ++ ((comma ∷ (written b ++ close_round ∷ [])) ++ post)) = is
    ∙ inside pre (name (word_of op)) open_round (written a) (comma ∷ (written b ++ close_round ∷ [])) post in
    let begun : length one ≡ at + 2 = two_more pre (name (word_of op)) open_round at size in
    both ts (namings (at + 2) a) (namings (at + 3 + length (written a)) b)
    (are_named a (at + 2) one ((comma ∷ (written b ++ close_round ∷ [])) ++ post) ts begun first)
    (are_named b (at + 3 + length (written a)) (one ++ (written a ++ comma ∷ [])) (close_round ∷ post) ts (one_more one (written a) comma (at + 2) (at + 3 + length (written a)) begun (omega arith))
    (first ∙ onward one (written a) comma (written b) (close_round ∷ []) post))
are_named (select c a b) at pre post ts size is =
    let tail : List Token = comma ∷ (written b ++ close_round ∷ []) in
    let one : List Token = pre ++ name (codes "select") ∷ open_round ∷ [] in
    let two : List Token = one ++ (written c ++ comma ∷ []) in
    let first : ts ≡ one ++ (written c ++ ((comma ∷ (written a ++ tail)) ++ post)) = is ∙ inside pre (name (codes "select")) open_round (written c) (comma ∷ (written a ++ tail)) post in
    let second : ts ≡ two ++ (written a ++ (tail ++ post)) = first ∙ onward one (written c) comma (written a) tail post in
    let begun : length one ≡ at + 2 = two_more pre (name (codes "select")) open_round at size in
    let onto : length two ≡ at + 3 + length (written c) = one_more one (written c) comma (at + 2) (at + 3 + length (written c)) begun (omega arith) in
    both ts (namings (at + 2) c) (namings (at + 3 + length (written c)) a ++ namings (at + 4 + length (written c) + length (written a)) b)
    (are_named c (at + 2) one ((comma ∷ (written a ++ tail)) ++ post) ts begun first)
    (both ts (namings (at + 3 + length (written c)) a) (namings (at + 4 + length (written c) + length (written a)) b)
    (are_named a (at + 3 + length (written c)) two (tail ++ post) ts onto second)
    (are_named b (at + 4 + length (written c) + length (written a)) (two ++ (written a ++ comma ∷ [])) (close_round ∷ post) ts
    (one_more two (written a) comma (at + 3 + length (written c)) (at + 4 + length (written c) + length (written a)) onto (omega arith))
    (second ∙ onward two (written a) comma (written b) (close_round ∷ []) post)))

-- The first token that names no port of these is a name.
pub unknown_named : (names : List Bytes) (ts : List Token) (w : Written) (t : ℕ) → AreWritten ts w → unknown names w ≡ Some t → Found ts t
unknown_named names ts w t grammar first = found names ts (namings 0 w) t (are_named w 0 [] [] ts refl (grammar.1 ∙ sym (append-nil (written w)))) first
