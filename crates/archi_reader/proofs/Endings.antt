-- What the whole of a text is.
use Rattle.std.proofs.Common.{◌≡◌, ℕ, ◌<◌, ◌≤◌, Bool, not, true, false, ◌==◌, List, [], ◌∷◌, length, Option, Some, None, position, refl, sym, ap, ◌∙◌, arith, Result, Ok}
use Rattle.std.specs.Prelude.{nat_le, nat_lt, slice_index_or}
use Rattle.std.specs.List.{list_all, range_with_len}
use Rattle.std.proofs.lemmas.Bool.{and_parts, and_from, ltb-true, eqb-false, le-leb}
use Rattle.std.proofs.lemmas.List.{get_or_default}
use Rattle.std.proofs.lemmas.List.Sums.{AllPass-from_list_all}
use Rattle.archi_defs.specs.declared.Medium.{Medium}
use Rattle.archi_defs.specs.Archi.{is_archi, is_medium, are_bounded, ascends_from, reached_within, connections_in}
use Rattle.archi_defs.specs.Routes.{AreOperators}
use Rattle.archi_defs.specs.Refusals.{ArchiRefusal}
use Rattle.archi_defs.specs.declared.fault.ArchiCause.TheVariants.{BadMedium, Disconnected}
use Rattle.archi_defs.specs.Text.{Reading, has_stands, media_are_right, no_medium, apart, all_joined, operator_name, whole, described}
use Rattle.text_lines.specs.Refusals.{refused}
use Rattle.archi_reader.specs.Views.{IsSound, is_begun}
use Rattle.archi_reader.proofs.Places.{further, first_or, position_cons, all_pass}

-- the answer by the first medium at which a wrong number of operators stands
abbrev pub told : {A : Type 0} → Option ℕ → List Medium → List ℕ → Result A ArchiRefusal → Result A ArchiRefusal
told None media lines go = go
told (Some k) media lines go = refused (slice_index_or lines k 0) (BadMedium (slice_index_or media k no_medium).name)

told_behind : {A : Type 0} (o : Option ℕ) (m : Medium) (media : List Medium) (l : ℕ) (lines : List ℕ) (go : Result A ArchiRefusal)
    → told o media lines go ≡ told (further o) (m ∷ media) (l ∷ lines) go
told_behind None m media l lines go = refl
told_behind (Some k) m media l lines go = refl

told_without : {A : Type 0} (o : Option ℕ) (m : Medium) (media : List Medium) (go : Result A ArchiRefusal)
    → told o media [] go ≡ told (further o) (m ∷ media) [] go
told_without None m media go = refl
told_without (Some k) m media go = refl

pub media_told : {A : Type 0} (media : List Medium) (lines : List ℕ) (go : Result A ArchiRefusal)
    → media_are_right media lines go ≡ told (position (λ m. not (has_stands m)) media) media lines go
media_told [] lines go = refl
media_told {A} (m ∷ media) lines go = by lines (has_stands m) refl (λ ls. media_told media ls go)
    ∙ ap (λ (o : Option ℕ). told o (m ∷ media) lines go) (sym (position_cons (λ x. not (has_stands x)) m media))
  where
    rest : Option ℕ
    rest = position (λ x. not (has_stands x)) media

    by : (ls : List ℕ) (b : Bool) → has_stands m ≡ b → ((more : List ℕ) → media_are_right media more go ≡ told rest media more go)
        → media_are_right (m ∷ media) ls go ≡ told (first_or (not (has_stands m)) rest) (m ∷ media) ls go
    by [] true h behind = rw h (behind [] ∙ told_without rest m media go)
    by [] false h behind = rw h refl
    by (l ∷ ls) true h behind = rw h (behind ls ∙ told_behind rest m media l ls go)
    by (l ∷ ls) false h behind = rw h refl

-- operators that stand at a medium are operators
pub known : (r : Reading) → IsSound r → AreOperators 16 r.media
known r s k m e j o l =
    let begun : is_begun (length r.operators) (slice_index_or r.media k m) ≡ true = AllPass-from_list_all (is_begun (length r.operators)) r.media s.begun k m e in
    let parts = and_parts _ _ begun in
    let fixed = and_parts _ _ parts.0 in
    let below = and_parts (ascends_from 0 (slice_index_or r.media k m).stands) (list_all (λ p. nat_lt p (length r.operators)) (slice_index_or r.media k m).stands) fixed.0 in
    let low = ltb-true _ (length r.operators) (AllPass-from_list_all (λ p. nat_lt p (length r.operators)) (slice_index_or r.media k m).stands below.1 j o l) in
    omega (arith, low, s.operators)

medium_of : (n : ℕ) (m : Medium) → has_stands m ≡ true → is_begun n m ≡ true → is_medium n m ≡ true
medium_of n m stands begun =
    let a = and_parts _ (nat_le m.per 1000000) begun in
    let b = and_parts _ (nat_le m.fixed 1000000) a.0 in
    let c = and_parts (ascends_from 0 m.stands) (list_all (λ o. nat_lt o n) m.stands) b.0 in
    and_from _ _ (and_from _ _ (and_from _ _ (and_from _ _ stands c.0) c.1) b.1) a.1

media_of : (n : ℕ) (media : List Medium) → list_all has_stands media ≡ true → list_all (is_begun n) media ≡ true → list_all (is_medium n) media ≡ true
media_of n [] stands begun = refl
media_of n (m ∷ media) stands begun =
    let s = and_parts (has_stands m) (list_all has_stands media) stands in
    let b = and_parts (is_begun n m) (list_all (is_begun n) media) begun in
    and_from (is_medium n m) (list_all (is_medium n) media) (medium_of n m s.0 b.0) (media_of n media s.1 b.1)

bounded : (r : Reading) → IsSound r → (length r.operators == 0) ≡ false → are_bounded r.operators r.media ≡ true
bounded r s some =
    let more = eqb-false (length r.operators) 0 some in
    let stands : connections_in r.media ≤ 64 = omega (arith, s.stands, s.connections) in
    and_from _ _ (and_from _ _ (and_from _ _ (le-leb 1 (length r.operators) (omega (arith, more)))
    (le-leb (length r.operators) 16 s.operators)) (le-leb (length r.media) 16 s.media)) (le-leb (connections_in r.media) 64 stands)

-- the architecture of a text that is not refused is valid
pub valid : (r : Reading) → IsSound r → (length r.operators == 0) ≡ false → position (λ m. not (has_stands m)) r.media ≡ None → apart r ≡ None
    → is_archi r.operators r.media ≡ true
valid r s some right joined =
    let n = length r.operators in
    let stands = all_pass has_stands r.media right in
    let reached = all_pass (reached_within r.media n) (range_with_len 0 n) joined in
    and_from _ _ (and_from _ _ (and_from _ _ (bounded r s some) (media_of n r.media stands s.begun)) s.distinct) reached

-- what is told of the whole
pub whole_wrong : (r : Reading) (n version k : ℕ) → r.version ≡ Some version → (length r.operators == 0) ≡ false → position (λ m. not (has_stands m)) r.media ≡ Some k
    → whole r n ≡ refused (slice_index_or r.lines k 0) (BadMedium (slice_index_or r.media k no_medium).name)
whole_wrong r n version k v some at =
    rw (v, some) (media_told r.media r.lines (all_joined r version (apart r)) ∙ ap (λ (o : Option ℕ). told o r.media r.lines (all_joined r version (apart r))) at)

pub whole_apart : (r : Reading) (n version o : ℕ) → r.version ≡ Some version → (length r.operators == 0) ≡ false → position (λ m. not (has_stands m)) r.media ≡ None → apart r ≡ Some o
    → whole r n ≡ refused 0 (Disconnected (operator_name r 0) (operator_name r o))
whole_apart r n version o v some right at =
    rw (v, some) (media_told r.media r.lines (all_joined r version (apart r)) ∙ ap (λ (x : Option ℕ). told x r.media r.lines (all_joined r version (apart r))) right ∙ ap (all_joined r version) at)

pub whole_fine : (r : Reading) (n version : ℕ) → r.version ≡ Some version → (length r.operators == 0) ≡ false → position (λ m. not (has_stands m)) r.media ≡ None → apart r ≡ None
    → whole r n ≡ Ok (described r version)
whole_fine r n version v some right joined =
    rw (v, some) (media_told r.media r.lines (all_joined r version (apart r)) ∙ ap (λ (x : Option ℕ). told x r.media r.lines (all_joined r version (apart r))) right ∙ ap (all_joined r version) joined)

-- an element that was read
pub read_at : {X : Type 0} (xs : List X) (k : ℕ) (x d : X) → k < length xs → x ≡ slice_index_or xs k x → slice_index_or xs k d ≡ x
read_at xs k x d below is = get_or_default xs k d x below ∙ sym is
