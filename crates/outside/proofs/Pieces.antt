use Rattle.std.proofs.Common.{◌≡◌, ◌∙◌, ◌<◌, ◌+◌, ℕ, List, ◌∷◌, ◌++◌, Bor, map, drop, length, get_or, refl, subst, false, append_assoc, suc-add, arith, zero, suc, []}
use Rattle.syn_base.specs.Bytes.{Bytes}
use Rattle.outside.specs.Bytes.{joined}
use Rattle.outside.specs.Sink.{Sunk, Appends, Wrote}
use Rattle.outside.proofs.Append.{appends_more, wrote_then, wrote_part}

abbrev pub rest : List (Bor Bytes) → Bytes
rest ps = joined (map (λ p. p.now) ps)

pub rest_at : (xs : List (Bor Bytes)) (i : ℕ) (d : Bor Bytes) → i < length xs → rest (drop i xs) ≡ (get_or xs i d).now ++ rest (drop (i + 1) xs)
rest_at [] i d h = absurd (omega arith)
rest_at (x ∷ xs) zero d h = refl
rest_at (x ∷ xs) (suc i) d h = let k : i < length xs = omega arith in rest_at xs i d k ∙ rw suc-add refl

pub piece_more : (a b c : Sunk) (done piece more whole : Bytes) → Appends a b done → Appends b c piece → done ++ (piece ++ more) ≡ whole
    → Appends a c (done ++ piece) × ((done ++ piece) ++ more ≡ whole)
piece_more a b c done piece more whole p q e = (appends_more p q, append_assoc done piece more ∙ e)

pub piece_failed : (a b c : Sunk) (done piece more whole : Bytes) → Appends a b done → Wrote b c piece false → done ++ (piece ++ more) ≡ whole → Wrote a c whole false
piece_failed a b c done piece more whole p q e = subst (λ (t : Bytes). Wrote a c t false) e (wrote_then a b c done (piece ++ more) false p (wrote_part b c piece more q))
