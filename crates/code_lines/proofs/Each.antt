-- Words that are read one after the other.
use Rattle.std.proofs.Common.{◌≡◌, ℕ, suc, ◌+◌, ◌<◌, List, [], ◌∷◌, ◌++◌, length, map, drop, get_or, Option, None, Some, Bor, refl, sym, ap, ◌∙◌, arith, append_assoc, drop-cons}
use Rattle.syn_base.specs.Bytes.{Bytes}
use Rattle.macro_code.specs.Forms.{each_in, with_first}

abbrev pub behind : List ℕ → Option (List ℕ) → Option (List ℕ)
behind ns None = None
behind ns (Some ms) = Some (ns ++ ms)

pub one_first : (ns : List ℕ) (n : ℕ) (o : Option (List ℕ)) → behind (ns ++ n ∷ []) o ≡ behind ns (with_first (Some n) o)
one_first ns n None = refl
one_first ns n (Some ms) = ap Some (append_assoc ns (n ∷ []) ms)

-- what is left of some words, from the first of them on
abbrev pub left : (Bytes → Option ℕ) → List (Bor (List ℕ)) → ℕ → Option (List ℕ)
left read ws i = each_in read (map (λ (w : Bor (List ℕ)). w.now) (drop i ws))

next : (read : Bytes → Option ℕ) (ws : List (Bor (List ℕ))) (i : ℕ) (d : Bor (List ℕ)) → i < length ws → left read ws i ≡ with_first (read (get_or ws i d).now) (left read ws (i + 1))
next read ws i d below =
    ap (λ (vs : List (Bor (List ℕ))). each_in read (map (λ (w : Bor (List ℕ)). w.now) vs)) (drop-cons ws i d below)
    ∙ ap (λ (k : ℕ). with_first (read (get_or ws i d).now) (left read ws k)) (let e : suc i ≡ i + 1 = omega arith in e)

pub one_more : (read : Bytes → Option ℕ) (ws : List (Bor (List ℕ))) (i : ℕ) (d : Bor (List ℕ)) (ns new : List ℕ) (n : ℕ) (all : Option (List ℕ)) → i < length ws
    → Some n ≡ read (get_or ws i d).now → new ≡ ns ++ n ∷ [] → behind ns (left read ws i) ≡ all → behind new (left read ws (i + 1)) ≡ all
one_more read ws i d ns new n all below is made so_far =
    ap (λ (vs : List ℕ). behind vs (left read ws (i + 1))) made
    ∙ one_first ns n (left read ws (i + 1))
    ∙ ap (λ (o : Option ℕ). behind ns (with_first o (left read ws (i + 1)))) is
    ∙ sym (ap (behind ns) (next read ws i d below))
    ∙ so_far

pub no_more : (read : Bytes → Option ℕ) (ws : List (Bor (List ℕ))) (i : ℕ) (d : Bor (List ℕ)) (ns : List ℕ) (all : Option (List ℕ)) → i < length ws
    → None ≡ read (get_or ws i d).now → behind ns (left read ws i) ≡ all → all ≡ None
no_more read ws i d ns all below is so_far =
    sym so_far
    ∙ ap (behind ns) (next read ws i d below)
    ∙ sym (ap (λ (o : Option ℕ). behind ns (with_first o (left read ws (i + 1)))) is)
