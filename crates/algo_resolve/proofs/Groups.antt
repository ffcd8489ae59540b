-- One group of a delay's values more.
use Rattle.std.proofs.Common.{◌≡◌, ℕ, suc, ◌+◌, ◌-◌, ◌<◌, ◌≤◌, ℤ, List, [], ◌∷◌, ◌++◌, take, drop, ap, sym, ◌∙◌, append_assoc, append-nil, arith}
use Rattle.algo_laws.specs.Resolved.{groups}

pub one_group : (depth counter len : ℕ) (done : List (List ℤ)) (new rest : List ℤ) (whole : List (List ℤ)) → counter < depth → new ≡ take len rest
    → done ++ groups (depth - counter) len rest ≡ whole → (done ++ new ∷ []) ++ groups (depth - (counter + 1)) len (drop len rest) ≡ whole
one_group depth counter len done new rest whole low is before =
    let more : depth - counter ≡ suc (depth - (counter + 1)) = omega (arith, low) in
    append_assoc done (new ∷ []) (groups (depth - (counter + 1)) len (drop len rest))
    ∙ ap (λ (g : List ℤ). done ++ g ∷ groups (depth - (counter + 1)) len (drop len rest)) is
    ∙ ap (λ (n : ℕ). done ++ groups n len rest) (sym more)
    ∙ before

pub all_groups : (depth counter len : ℕ) (done : List (List ℤ)) (rest : List ℤ) (whole : List (List ℤ)) → depth ≤ counter → done ++ groups (depth - counter) len rest ≡ whole → done ≡ whole
all_groups depth counter len done rest whole past before =
    let none : depth - counter ≡ 0 = omega (arith, past) in
    sym (append-nil done) ∙ ap (λ (n : ℕ). done ++ groups n len rest) (sym none) ∙ before
