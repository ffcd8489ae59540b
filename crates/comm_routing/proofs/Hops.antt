-- One more hop of a route, or one more source: what is left completes the walk and its transfers, and fits.
use Rattle.std.proofs.Common.{◌≡◌, ℕ, ◌+◌, ◌<◌, List, [], ◌∷◌, ◌++◌, drop, get_or, length, sym, ap, subst, arith, ◌∙◌}
use Rattle.std.specs.Prelude.{max}
use Rattle.std.proofs.lemmas.List.{drop_more}
use Rattle.schedule.specs.declared.Source.{Source}
use Rattle.schedule.specs.declared.Hop.{Hop}
use Rattle.schedule.specs.declared.Medium.{Medium}
use Rattle.schedule.specs.declared.decision.Transfer.{Transfer}
use Rattle.schedule.specs.Acts.{copy}
use Rattle.comm_routing.proofs.Appending.{appended}
use Rattle.comm_routing.specs.Board.{Board, Fits, FitsAll, held_in, on_in, time_in}
use Rattle.comm_routing.specs.Walk.{Walk, walk, step, steps, unless, transfer_by, listed, fetch, listed_to, listed_all, fetch_all}

module _ (media : List Medium) (b : Board) where
  module _ (x : Source) (route : List Hop) (k : ℕ) (d : Hop) where
    pub hop_fits : (w : Walk) → k < length route → Fits media b x w (drop k route) → Fits media b x w (get_or route k d ∷ drop (k + 1) route)
    hop_fits w l f = subst (λ (hops : List Hop). Fits media b x w hops) (drop_more route k d l) f

    pub hop_more : (from : ℕ) (w new whole : Walk) (old out all : List Transfer) → k < length route → new ≡ step (time_in media b) (held_in b) x w (get_or route k d)
        → out ≡ old ++ unless (held_in b (copy (get_or route k d).to x)) (transfer_by (time_in media b) (held_in b) x from w (get_or route k d) ∷ [])
        → (steps (time_in media b) (held_in b) x w (drop k route) ≡ whole) × (old ++ listed (time_in media b) (held_in b) x from w (drop k route) ≡ all) × Fits media b x w (drop k route)
        → (steps (time_in media b) (held_in b) x new (drop (k + 1) route) ≡ whole) × (out ++ listed (time_in media b) (held_in b) x (get_or route k d).to new (drop (k + 1) route) ≡ all)
        × Fits media b x new (drop (k + 1) route)
    hop_more from w new whole old out all l s t h = (walked, carried, subst (λ (v : Walk). Fits media b x v rest) (sym s) (hop_fits w l h.2).1)
      where
        hop : Hop
        hop = get_or route k d

        rest : List Hop
        rest = drop (k + 1) route

        first : List Transfer
        first = unless (held_in b (copy hop.to x)) (transfer_by (time_in media b) (held_in b) x from w hop ∷ [])

        left : drop k route ≡ hop ∷ rest
        left = drop_more route k d l

        walked : steps (time_in media b) (held_in b) x new rest ≡ whole
        walked = ap (λ (v : Walk). steps (time_in media b) (held_in b) x v rest) s ∙ sym (ap (steps (time_in media b) (held_in b) x w) left) ∙ h.0

        carried : out ++ listed (time_in media b) (held_in b) x hop.to new rest ≡ all
        carried = appended first (listed (time_in media b) (held_in b) x hop.to new rest) (listed (time_in media b) (held_in b) x from w (drop k route)) old out all
            (ap (listed (time_in media b) (held_in b) x from w) left ∙ ap (λ (v : Walk). first ++ listed (time_in media b) (held_in b) x hop.to v rest) (sym s)) t h.1

  module _ (route : ℕ → ℕ → List Hop) (p : ℕ) (xs : List Source) (k : ℕ) (d : Source) where
    pub source_fits : (w : Walk) → k < length xs → FitsAll media b route p (drop k xs) w → FitsAll media b route p (get_or xs k d ∷ drop (k + 1) xs) w
    source_fits w l f = subst (λ (ys : List Source). FitsAll media b route p ys w) (drop_more xs k d l) f

    pub source_more : (ends new : List ℕ) (date latest later : ℕ) (whole : Walk) (old out all : List Transfer) → k < length xs
        → walk new date ≡ fetch (time_in media b) (held_in b) (on_in b) route p (get_or xs k d) ends → later ≡ max date latest
        → out ≡ old ++ listed_to (time_in media b) (held_in b) (on_in b) route p (get_or xs k d) ends
        → (fetch_all (time_in media b) (held_in b) (on_in b) route p (drop k xs) (walk ends latest) ≡ whole)
        × (old ++ listed_all (time_in media b) (held_in b) (on_in b) route p (drop k xs) ends ≡ all)
        × FitsAll media b route p (drop k xs) (walk ends latest)
        → (fetch_all (time_in media b) (held_in b) (on_in b) route p (drop (k + 1) xs) (walk new later) ≡ whole)
        × (out ++ listed_all (time_in media b) (held_in b) (on_in b) route p (drop (k + 1) xs) new ≡ all)
        × FitsAll media b route p (drop (k + 1) xs) (walk new later)
    source_more ends new date latest later whole old out all l f m t h = (walked, carried, subst (λ (v : Walk). FitsAll media b route p rest v) (sym after) (source_fits (walk ends latest) l h.2).1)
      where
        x : Source
        x = get_or xs k d

        rest : List Source
        rest = drop (k + 1) xs

        left : drop k xs ≡ x ∷ rest
        left = drop_more xs k d l

        first : List Transfer
        first = listed_to (time_in media b) (held_in b) (on_in b) route p x ends

        next : Walk
        next = fetch (time_in media b) (held_in b) (on_in b) route p x ends

        greatest : later ≡ max latest date
        greatest = omega arith

        after : walk new later ≡ walk next.ends (max latest next.date)
        after = ap (walk new) greatest ∙ ap (λ (v : Walk). walk v.ends (max latest v.date)) f

        walked : fetch_all (time_in media b) (held_in b) (on_in b) route p rest (walk new later) ≡ whole
        walked = ap (fetch_all (time_in media b) (held_in b) (on_in b) route p rest) after
            ∙ sym (ap (λ (ys : List Source). fetch_all (time_in media b) (held_in b) (on_in b) route p ys (walk ends latest)) left) ∙ h.0

        carried : out ++ listed_all (time_in media b) (held_in b) (on_in b) route p rest new ≡ all
        carried = appended first (listed_all (time_in media b) (held_in b) (on_in b) route p rest new) (listed_all (time_in media b) (held_in b) (on_in b) route p (drop k xs) ends) old out all
            (ap (λ (ys : List Source). listed_all (time_in media b) (held_in b) (on_in b) route p ys ends) left
            ∙ ap (λ (v : Walk). first ++ listed_all (time_in media b) (held_in b) (on_in b) route p rest v.ends) (sym f)) t h.1
