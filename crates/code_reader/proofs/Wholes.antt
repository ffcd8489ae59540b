-- The program by the places of the numbers.
use Rattle.std.proofs.Common.{◌≡◌, ℕ, List, [], ◌∷◌, length, map, Option, Result, refl, ap, ap₂, subst, ◌∙◌}
use Rattle.std.specs.List.{range_with_len}
use Rattle.executive_program.specs.declared.program.Buffer.{Buffer}
use Rattle.executive_program.specs.declared.program.SeqCode.{SeqCode}
use Rattle.executive_program.specs.declared.program.Program.{Program}
use Rattle.macro_code.specs.declared.numbered.Numbered.{Numbered}
use Rattle.macro_code.specs.declared.numbered.Size.{Size}
use Rattle.macro_code.specs.Refusals.{CodeError}
use Rattle.macro_code.specs.ReadText.{at_place, limited, no_size, place_of, sized}
use Rattle.text_lines.specs.Refusals.{Gives}
use Rattle.macro_code.specs.Placed.{ArePlaced}
use Rattle.macro_code.proofs.Placing.{all_placed}

map-map : {A B C : Type 0} (f : B → C) (g : A → B) (xs : List A) → map f (map g xs) ≡ map (λ x. f (g x)) xs
map-map f g [] = refl
map-map f g (x ∷ xs) = ap (λ ys. f (g x) ∷ ys) (map-map f g xs)

abbrev made : List Buffer → List ℕ → List SeqCode → Program
made buffers pairs seqs = record { buffers = buffers; pairs = pairs; seqs = seqs }

pub same_program : (sizes sizes_by : List Size) (owners owners_by : List ℕ) (buffers pairs : List Numbered) (buffer_places pair_places : List (Option ℕ)) (seqs : List SeqCode)
    → ArePlaced buffer_places buffers (length buffers) → ArePlaced pair_places pairs (length pairs)
    → sizes_by ≡ map (at_place sizes no_size) buffer_places → owners_by ≡ map (at_place owners 0) pair_places
    → made (map sized sizes_by) owners_by seqs
    ≡ made (map (λ n. sized (at_place sizes no_size (place_of n buffers))) (range_with_len 0 (length buffers)))
    (map (λ n. at_place owners 0 (place_of n pairs)) (range_with_len 0 (length pairs))) seqs
same_program sizes sizes_by owners owners_by buffers pairs buffer_places pair_places seqs b p s o =
    ap₂ (λ (bs : List Buffer) (ps : List ℕ). made bs ps seqs)
    (ap (map sized) s ∙ map-map sized (at_place sizes no_size) buffer_places ∙ all_placed (λ (x : Option ℕ). sized (at_place sizes no_size x)) buffers buffer_places b)
    (o ∙ all_placed (at_place owners 0) pairs pair_places p)

-- so it keeps the same limits
pub same_limited : (sizes sizes_by : List Size) (owners owners_by : List ℕ) (buffers pairs : List Numbered)
    (buffer_places pair_places : List (Option ℕ)) (seqs seqs_by : List SeqCode) (media media_by : ℕ)
    (result : Result Program CodeError) → ArePlaced buffer_places buffers (length buffers) → ArePlaced pair_places pairs (length pairs)
    → sizes_by ≡ map (at_place sizes no_size) buffer_places → owners_by ≡ map (at_place owners 0) pair_places → seqs_by ≡ seqs → media_by ≡ media
    → Gives result (limited media_by (made (map sized sizes_by) owners_by seqs_by))
    → Gives result (limited media (made
    (map (λ n. sized (at_place sizes no_size (place_of n buffers))) (range_with_len 0 (length buffers)))
    (map (λ n. at_place owners 0 (place_of n pairs)) (range_with_len 0 (length pairs))) seqs))
same_limited sizes sizes_by owners owners_by buffers pairs buffer_places pair_places seqs seqs_by media media_by result b p s o q m h =
    let same = same_program sizes sizes_by owners owners_by buffers pairs buffer_places pair_places seqs b p s o in
    subst (λ (x : Program). Gives result (limited media x)) same
    (subst (λ (xs : List SeqCode). Gives result (limited media (made (map sized sizes_by) owners_by xs))) q
    (subst (λ (n : ℕ). Gives result (limited n (made (map sized sizes_by) owners_by seqs_by))) m h))
