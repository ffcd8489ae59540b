-- What lies on an operation's desk.
use Rattle.std.proofs.Common.{◌≡◌, ℕ, suc, ◌+◌, List, [], ◌∷◌, ◌++◌, take, drop, length, sum, refl, sym, ap, arith, ◌∙◌, ℤ, length-drop}
use Rattle.std.proofs.lemmas.List.{take_all, length-map}
use Rattle.std.proofs.Math.Seq.{take-append_seam, drop-append_seam}
use Rattle.operation_desks.specs.Operation.{vectors_from, ReadsPorts}
use Rattle.operation_desks.proofs.ReadVectors.{lens, vectors-append}
use Rattle.syn_base.specs.Vectors.{Vector, Values}

pub length-vectors : (row : List ℤ) (at : ℕ) (ns : List ℕ) → length (vectors_from row at ns) ≡ length ns
length-vectors row at [] = refl
length-vectors row at (n ∷ ns) = ap suc (length-vectors row (at + n) ns)

drop-zero : {A : Type 0} (xs : List A) → drop 0 xs ≡ xs
drop-zero [] = refl
drop-zero (x ∷ xs) = refl

-- the guards' vectors are read first, and then those of the inputs, which stand before them
module _ (row : List ℤ) (n m after : ℕ) (old half new : Values) (len : n + m ≡ length old) (r : ReadsPorts row 0 n m old half)
    (b : after ≡ 0 + sum (take m (drop n (lens old)))) (q : ReadsPorts row after 0 n half new) where
  G : List ℕ
  G = drop n (lens old)

  I : List ℕ
  I = take n (lens old)

  old_len : length old ≡ length (lens old)
  old_len = sym (length-map old (λ (v : Vector). length v))

  guards_len : length (drop n (lens old)) ≡ m
  guards_len = let a = length-drop n (lens old) in let c = old_len in omega arith

  half_len : length (drop n half) ≡ m
  half_len = let a = length-drop n half in let c = ap (λ (x : List ℕ). length x) r.lens in let d = length-map half (λ (v : Vector). length v) in let e = old_len in omega arith

  all_guards : take m (drop n (lens old)) ≡ drop n (lens old)
  all_guards = take_all m (drop n (lens old)) (let g = guards_len in omega arith)

  cut : vectors_from row 0 (drop n (lens old) ++ take n (lens old)) ≡ vectors_from row 0 (drop n (lens old)) ++ vectors_from row (0 + sum (drop n (lens old))) (take n (lens old))
  cut = vectors-append row 0 (drop n (lens old)) (take n (lens old))

  vectors_len : length (vectors_from row 0 (drop n (lens old))) ≡ m
  vectors_len = length-vectors row 0 (drop n (lens old)) ∙ guards_len

  pub conditions_read : drop n new ≡ take m (vectors_from row 0 (drop n (lens old) ++ take n (lens old)))
  conditions_read = ap (λ (k : ℕ). drop k new) (let e : n ≡ 0 + n = omega arith in e) ∙ q.after ∙ ap (λ (k : ℕ). drop k half) (let e : 0 + n ≡ n = omega arith in e)
      ∙ sym (take_all m (drop n half) (let h = half_len in omega arith)) ∙ r.read ∙ ap (vectors_from row 0) all_guards
      ∙ sym (ap (take m) cut ∙ ap (λ (k : ℕ). take k (vectors_from row 0 (drop n (lens old)) ++ vectors_from row (0 + sum (drop n (lens old))) (take n (lens old)))) (sym vectors_len)
      ∙ take-append_seam (vectors_from row 0 (drop n (lens old))) (vectors_from row (0 + sum (drop n (lens old))) (take n (lens old))))

  pub inputs_read : take n new ≡ drop m (vectors_from row 0 (drop n (lens old) ++ take n (lens old)))
  inputs_read = ap (take n) (sym (drop-zero new)) ∙ q.read ∙ ap (λ (l : List ℕ). vectors_from row after (take n l)) (drop-zero (lens half) ∙ r.lens)
      ∙ ap (λ (k : ℕ). vectors_from row k (take n (lens old))) (b ∙ ap (λ (l : List ℕ). 0 + sum l) all_guards)
      ∙ sym (ap (drop m) cut ∙ ap (λ (k : ℕ). drop k (vectors_from row 0 (drop n (lens old)) ++ vectors_from row (0 + sum (drop n (lens old))) (take n (lens old)))) (sym vectors_len)
      ∙ drop-append_seam (vectors_from row 0 (drop n (lens old))) (vectors_from row (0 + sum (drop n (lens old))) (take n (lens old))))
