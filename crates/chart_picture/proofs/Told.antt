-- What is drawn entry by entry is drawn act by act.
use Rattle.std.proofs.Common.{◌≡◌, ℕ, zero, suc, ◌+◌, ◌<◌, List, [], ◌∷◌, ◌++◌, length, refl, sym, ap, arith, ◌∙◌, append_assoc}
use Rattle.std.proofs.lemmas.List.{append-nil}
use Rattle.std.proofs.lemmas.List.Concat.{flat_map-append}
use Rattle.syn_base.specs.Bytes.{Bytes}
use Rattle.self_timed.specs.Graph.{Graph}
use Rattle.self_timed.specs.Archi.{Architecture}
use Rattle.self_timed.specs.declared.Schedule.{Schedule}
use Rattle.self_timed.specs.Acts.{Act, acts, length_of}
use Rattle.self_timed.specs.declared.dates.Span.{Span}
use Rattle.self_timed.specs.Told.{reaction_at}
use Rattle.dates_text.specs.Listing.{Dated, dated_from}
use Rattle.dates_text.specs.Printed.{dated_by, dates_up_to, entry_span}
use Rattle.dates_text.proofs.Entered.{Agree, told_is}
use Rattle.svg_text.specs.declared.scale.Scale.{Scale}
use Rattle.svg_text.specs.declared.style.TheConstants.{END, END_GROUP}
use Rattle.chart_picture.specs.Picture.{begin_text}
use Rattle.chart_picture.specs.DatesPicture.{board_text, dated_picture, dated_text, note_text, reaction_text, reactions_text, scale_for, tiles_text}
use Rattle.chart_picture.specs.Printed.{drawn_picture, drawn_up_to}

abbrev rest : List Dated → List Dated
rest [] = []
rest (x ∷ xs) = xs

cancel : (xs ys zs : List Dated) → xs ++ ys ≡ xs ++ zs → ys ≡ zs
cancel [] ys zs e = e
cancel (x ∷ xs) ys zs e = cancel xs ys zs (ap rest e)

module _ (g : Graph) (a : Architecture) (scale : Scale) where
  pub tiles-append : (xs ys : List Dated) → tiles_text g a scale (xs ++ ys) ≡ tiles_text g a scale xs ++ tiles_text g a scale ys
  tiles-append xs ys = flat_map-append (dated_text g a scale) xs ys

  -- a tile after others
  pub then_one : (old now : Bytes) (xs : List Dated) (d : Dated) → now ≡ old ++ tiles_text g a scale xs → now ++ dated_text g a scale d ≡ old ++ tiles_text g a scale (xs ++ d ∷ [])
  then_one old now xs d is =
      ap (λ (l : Bytes). l ++ dated_text g a scale d) is
      ∙ append_assoc old (tiles_text g a scale xs) (dated_text g a scale d)
      ∙ ap (λ (l : Bytes). old ++ (tiles_text g a scale xs ++ l)) (sym (append-nil (dated_text g a scale d)))
      ∙ ap (λ (l : Bytes). old ++ l) (sym (tiles-append xs (d ∷ [])))

  -- tiles that were appended, and those that are left
  pub goes_on : (old now later : Bytes) (ds left next all : List Dated) → now ++ tiles_text g a scale left ≡ old ++ tiles_text g a scale all
      → left ≡ ds ++ next → later ≡ now ++ tiles_text g a scale ds → later ++ tiles_text g a scale next ≡ old ++ tiles_text g a scale all
  goes_on old now later ds left next all whole e is =
      ap (λ (l : Bytes). l ++ tiles_text g a scale next) is
      ∙ append_assoc now (tiles_text g a scale ds) (tiles_text g a scale next)
      ∙ ap (λ (l : Bytes). now ++ l) (sym (tiles-append ds next))
      ∙ ap (λ (l : List Dated). now ++ tiles_text g a scale l) (sym e)
      ∙ whole

  pub one : (now later : Bytes) (d : Dated) → later ≡ now ++ dated_text g a scale d → later ≡ now ++ tiles_text g a scale (d ∷ [])
  one now later d is = is ∙ ap (λ (l : Bytes). now ++ l) (sym (append-nil (dated_text g a scale d)))

module _ (g : Graph) (s : Schedule) (reactions : List (List Span)) (when : ℕ → ℕ → Act → Span) where
  same_reaction : (k : ℕ) → ((j : ℕ) → j < suc k → Agree g s reactions when j) → dated_by k (reaction_at reactions k) (length g.vertices) (acts s) ≡ dated_from when k 0 (acts s)
  same_reaction k agree =
      let before = told_is g s reactions when k (λ j l. agree j (omega arith)) in
      let after = told_is g s reactions when (suc k) agree in
      cancel (dates_up_to reactions (length g.vertices) (acts s) k) (dated_by k (reaction_at reactions k) (length g.vertices) (acts s)) (dated_from when k 0 (acts s))
      (after ∙ ap (λ (l : List Dated). l ++ dated_from when k 0 (acts s)) (sym before))

  pub drawn_is : (a : Architecture) (scale : Scale) (n : ℕ) → ((k : ℕ) → k < n → Agree g s reactions when k)
      → drawn_up_to g a scale reactions (acts s) n ≡ reactions_text g a scale when n (acts s)
  drawn_is a scale zero agree = refl
  drawn_is a scale (suc k) agree =
      let before = drawn_is a scale k (λ j l. agree j (omega arith)) in
      let here = same_reaction k agree in
      λ i. before i ++ reaction_text g a scale k (here i)

-- for the spans of the entries
pub entered : (g : Graph) (s : Schedule) (reactions : List (List Span)) (a : Architecture) (scale : Scale) (n : ℕ)
    → drawn_up_to g a scale reactions (acts s) n ≡ reactions_text g a scale (entry_span g s reactions) n (acts s)
entered g s reactions a scale n = drawn_is g s reactions (entry_span g s reactions) a scale n (λ k l i x e. refl)

-- so for the whole picture
pub drawn_is_dated : (g : Graph) (a : Architecture) (s : Schedule) (reactions : List (List Span))
    → drawn_picture g a (scale_for g (length reactions) (length_of s)) (length_of s) reactions (acts s) ≡ dated_picture g a s (entry_span g s reactions) (length reactions)
unfolding drawn_picture dated_picture
drawn_is_dated g a s reactions =
    let n = length reactions in
    let scale = scale_for g n (length_of s) in
    ap (λ (l : Bytes). begin_text a scale ++ (board_text a scale (length_of s) n ++ (l ++ (note_text a (length_of s) ++ (END_GROUP.now ++ END.now))))) (entered g s reactions a scale n)

module _ (g : Graph) (s : Schedule) (reactions : List (List Span)) (when : ℕ → ℕ → Act → Span) where
  pub picture_is : (a : Architecture) (n : ℕ) → ((k : ℕ) → k < n → Agree g s reactions when k)
      → dated_picture g a s (entry_span g s reactions) n ≡ dated_picture g a s when n
  unfolding dated_picture
  picture_is a n agree =
      let scale = scale_for g n (length_of s) in
      let one_way = entered g s reactions a scale n in
      let other = drawn_is g s reactions when a scale n agree in
      ap (λ (l : Bytes). begin_text a scale ++ (board_text a scale (length_of s) n ++ (l ++ (note_text a (length_of s) ++ (END_GROUP.now ++ END.now))))) (sym one_way ∙ other)
