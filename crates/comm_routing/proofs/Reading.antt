-- Sources that are there, part by part, and entries of tables.
use Rattle.std.proofs.Common.{◌≡◌, ℕ, zero, suc, ◌+◌, ◌*◌, ◌<◌, ◌≤◌, List, [], ◌∷◌, ◌++◌, map, length, drop, take, get_or, refl, sym, ap, subst, arith, ◌∙◌, drop-cons, length-append, mul-le-mul}
use Rattle.std.specs.Prelude.{All, slice_index_or}
use Rattle.std.proofs.lemmas.List.{drop_more}
use Rattle.std.proofs.lemmas.List.Elements.{All-append}
use Rattle.schedule.specs.declared.Source.{Source}
use Rattle.schedule.specs.declared.Guard.{Guard}
use Rattle.schedule.specs.declared.Vertex.{Vertex}
use Rattle.schedule.specs.FlatValid.{HasFewOutputs}
use Rattle.comm_routing.specs.Walk.{distinct_after}
use Rattle.comm_routing.specs.Start.{IsThere, AreThere, reads_of, with_source, all_lens}
use Rattle.comm_routing.proofs.Appending.{appended}
use Rattle.comm_routing.proofs.Marking.{one_more}
use Rattle.comm_routing.proofs.Starting.{few_lens}

index_left : (xs ys : List Source) (i : ℕ) (d : Source) → i < length xs → slice_index_or (xs ++ ys) i d ≡ slice_index_or xs i d
index_left [] ys i d l = absurd (omega arith)
index_left (x ∷ xs) ys zero d l = refl
index_left (x ∷ xs) ys (suc i) d l = index_left xs ys i d (omega arith)

index_right : (xs ys : List Source) (i : ℕ) (d : Source) → slice_index_or (xs ++ ys) (length xs + i) d ≡ slice_index_or ys i d
index_right [] ys i d = let e : 0 + i ≡ i = omega arith in ap (λ (k : ℕ). slice_index_or ys k d) e
index_right (x ∷ xs) ys i d = let e : suc (length xs) + i ≡ suc (length xs + i) = omega arith in ap (λ (k : ℕ). slice_index_or (x ∷ (xs ++ ys)) k d) e ∙ index_right xs ys i d

length-sources : (gs : List Guard) → length (map (λ (g : Guard). g.source) gs) ≡ length gs
length-sources [] = refl
length-sources (g ∷ gs) = ap suc (length-sources gs)

index-sources : (gs : List Guard) (i : ℕ) (d : Guard) → slice_index_or (map (λ (g : Guard). g.source) gs) i d.source ≡ (slice_index_or gs i d).source
index-sources [] i d = refl
index-sources (g ∷ gs) zero d = refl
index-sources (g ∷ gs) (suc i) d = index-sources gs i d

pub guards_there : (operations : ℕ) (x : Vertex) → AreThere operations x → (gs : List Guard) → gs ≡ x.guards → All (λ (g : Guard). IsThere operations g.source) gs
guards_there operations x h gs same k d l =
    let len = length-sources x.guards in
    let low = ap length same in
    let both = length-append (map (λ (g : Guard). g.source) x.guards) x.ins in
    subst (IsThere operations)
    (index_left (map (λ (g : Guard). g.source) x.guards) x.ins k d.source (omega arith) ∙ index-sources x.guards k d ∙ ap (λ (l : List Guard). (slice_index_or l k d).source) (sym same))
    (h k d.source (omega arith))

pub ins_there : (operations : ℕ) (x : Vertex) → AreThere operations x → (xs : List Source) → xs ≡ x.ins → All (IsThere operations) xs
ins_there operations x h xs same k d l =
    let low = ap length same in
    let both = length-append (map (λ (g : Guard). g.source) x.guards) x.ins in
    subst (IsThere operations) (index_right (map (λ (g : Guard). g.source) x.guards) x.ins k d ∙ ap (λ (l : List Source). slice_index_or l k d) (sym same))
    (h (length (map (λ (g : Guard). g.source) x.guards) + k) d (omega arith))

-- one more source of these, whatever follows
pub source_step : (out new : List Source) (xs : List Source) (i : ℕ) (d : Source) → i < length xs → new ≡ with_source out (get_or xs i d)
    → new ++ distinct_after new (drop (i + 1) xs) ≡ out ++ distinct_after out (drop i xs)
source_step out new xs i d l is =
    let one : suc i ≡ i + 1 = omega arith in
    let e : drop i xs ≡ get_or xs i d ∷ drop (i + 1) xs = drop-cons xs i d l ∙ (λ j. get_or xs i d ∷ drop (one j) xs) in
    (λ j. is j ++ distinct_after (is j) (drop (i + 1) xs)) ∙ one_more out (get_or xs i d) (drop (i + 1) xs) ∙ ap (λ (l : List Source). out ++ distinct_after out l) (sym e)

pub guard_step : (out new : List Source) (gs : List Guard) (i : ℕ) (g : Guard) → i < length gs → g ≡ get_or gs i g → new ≡ with_source out g.source → (rest : List Source)
    → new ++ distinct_after new (map (λ (g : Guard). g.source) (drop (i + 1) gs) ++ rest) ≡ out ++ distinct_after out (map (λ (g : Guard). g.source) (drop i gs) ++ rest)
guard_step out new gs i g l is new_is rest =
    let one : suc i ≡ i + 1 = omega arith in
    let e : drop i gs ≡ g ∷ drop (i + 1) gs = drop-cons gs i g l ∙ (λ j. sym is j ∷ drop (one j) gs) in
    (λ j. new_is j ++ distinct_after (new_is j) (map (λ (g : Guard). g.source) (drop (i + 1) gs) ++ rest))
    ∙ one_more out g.source (map (λ (g : Guard). g.source) (drop (i + 1) gs) ++ rest)
    ∙ ap (λ (l : List Guard). out ++ distinct_after out (map (λ (g : Guard). g.source) l ++ rest)) (sym e)

pub any_default : (xs : List (List Source)) (v : ℕ) (d e : List Source) → v < length xs → slice_index_or xs v d ≡ slice_index_or xs v e
any_default [] v d e l = absurd (omega arith)
any_default (x ∷ xs) zero d e l = refl
any_default (x ∷ xs) (suc v) d e l = any_default xs v d e (omega arith)

-- the table of held values is small
pub few_places : (xs : List Vertex) (lens : List ℕ) (operators : ℕ) → length xs ≤ 2048 → operators ≤ 16 → All HasFewOutputs xs → lens ≡ all_lens xs → length lens * operators ≤ 2097152
few_places xs lens operators l o h same =
    let f = few_lens xs h in
    let e = ap length same in
    let n : length lens ≤ 131072 = omega arith in
    let m : length lens * operators ≤ 131072 * 16 = mul-le-mul n o in
    omega arith

take_all : {A : Type 0} (xs ys : List A) → take (length xs) (xs ++ ys) ≡ xs
take_all [] ys = refl
take_all (x ∷ xs) ys = ap (λ l. x ∷ l) (take_all xs ys)

-- a slice that was written over whole
pub written : {A : Type 0} (xs ys : List A) (n : ℕ) → n ≡ length xs → take n (xs ++ ys) ≡ xs
written xs ys n e = ap (λ (k : ℕ). take k (xs ++ ys)) e ∙ take_all xs ys

-- one more operation: what is left makes the whole
pub reads_more : (xs : List Vertex) (k : ℕ) (x : Vertex) (r : List Source) (old new whole : List (List Source)) → k < length xs → x ≡ get_or xs k x → r ≡ reads_of x → new ≡ old ++ r ∷ []
    → old ++ map reads_of (drop k xs) ≡ whole → new ++ map reads_of (drop (k + 1) xs) ≡ whole
reads_more xs k x r old new whole l e is n w =
    appended (r ∷ []) (map reads_of (drop (k + 1) xs)) (map reads_of (drop k xs)) old new whole
    (ap (map reads_of) (drop_more xs k x l) ∙ (λ i. (ap reads_of (sym e) ∙ sym is) i ∷ map reads_of (drop (k + 1) xs))) n w

-- one more list that is no longer than the others
pub short_more : (most : ℕ) (r : List Source) (old new : List (List Source)) → new ≡ old ++ r ∷ [] → length r ≤ most
    → All (λ (s : List Source). length s ≤ most) old → All (λ (s : List Source). length s ≤ most) new
short_more most r old new n short so_far = subst (All (λ (s : List Source). length s ≤ most)) (sym n) (All-append (λ (s : List Source). length s ≤ most) old (r ∷ []) so_far one)
  where
    one : All (λ (s : List Source). length s ≤ most) (r ∷ [])
    one zero d l = short
    one (suc k) d l = absurd (omega arith)
