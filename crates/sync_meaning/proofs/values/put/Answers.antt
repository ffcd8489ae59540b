use Rattle.std.proofs.Common.{◌≡◌, ◌<◌, ◌≤◌, ℤ, pos, List, [], ◌∷◌, length, get_or, set, ap, ◌∙◌, arith, rules, to_z, of_z, w64}
use Rattle.std.proofs.Math.Facts.{to_z-of_z}
use Rattle.sync_meaning.proofs.values.put.Goals as goal

-- a list of one element, written over with it
only_element : (ys v : List ℤ) (x : ℤ) → 1 ≤ length v → length v < 2 → length v ≡ length ys → x ≡ get_or v 0 (pos 0) → set ys 0 x ≡ v
only_element [] [] x some few same is = absurd (omega arith)
only_element [] (y ∷ v) x some few same is = absurd (omega arith)
only_element (z ∷ ys) [] x some few same is = absurd (omega arith)
only_element (z ∷ []) (y ∷ []) x some few same is = ap (λ (a : ℤ). a ∷ []) is
only_element (z ∷ w ∷ ys) (y ∷ []) x some few same is = absurd (omega arith)
only_element (z ∷ ys) (y ∷ w ∷ v) x some few same is = absurd (omega arith)

pub returns-in-len1 : goal.returns-in-len1
returns-in-len1 c =
    let back : to_z w64 (of_z w64 (get_or c.args.vector.now 0 (pos 0))) ≡ get_or c.args.vector.now 0 (pos 0) = search (rules, to_z-of_z) in
    let same = only_element (get_or c.args.into.now c.args.port []) c.args.vector.now _ c.in-len1.len_at_least c.in-len1.len_below c.requires.len back in
    c.set.ensures ∙ ap (set c.args.into.now c.args.port) same
