-- The dates of a walk stay low: each medium adds at most 65,000,000 ticks, and each route has at most 32 hops.
use Rattle.std.proofs.Common.{◌≡◌, ℕ, zero, suc, ◌+◌, ◌<◌, ◌≤◌, ◌*◌, ◌^◌, List, [], ◌∷◌, ◌++◌, length, Option, Some, None, refl, ap, arith}
use Rattle.std.specs.Prelude.{slice_get, slice_index_or, slice_set, max}
use Rattle.schedule.specs.declared.Source.{Source}
use Rattle.schedule.specs.declared.Hop.{Hop}
use Rattle.schedule.specs.declared.Medium.{Medium}
use Rattle.schedule.specs.declared.decision.Transfer.{Transfer}
use Rattle.schedule.specs.Acts.{Copy, copy}
use Rattle.comm_routing.specs.Placing.{ticks_in}
use Rattle.comm_routing.specs.Walk.{Walk, walk, at_date, pass, step, steps, fetch, fetch_all, transfer_by, unless, listed, listed_to, listed_all}
use Rattle.comm_routing.specs.Board.{Board, held_in, on_in, time_in, Fits, FitsAll}

-- they end by this date
abbrev pub EndBy : ℕ → List Transfer → Type 0
EndBy bound [] = Unit {0}
EndBy bound (c ∷ cs) = (c.end ≤ bound) × EndBy bound cs

pub end_by_more : (a b : ℕ) → a ≤ b → (cs : List Transfer) → EndBy a cs → EndBy b cs
end_by_more a b l [] h = tt
end_by_more a b l (c ∷ cs) h = ((let e = h.0 in omega arith), end_by_more a b l cs h.1)

end_by_both : (a : ℕ) (cs ds : List Transfer) → EndBy a cs → EndBy a ds → EndBy a (cs ++ ds)
end_by_both a [] ds h k = k
end_by_both a (c ∷ cs) ds h k = (h.0, end_by_both a cs ds h.1 k)

pub set_below : (es : List ℕ) (m e bound : ℕ) → ((k : ℕ) → slice_index_or es k 0 ≤ bound) → e ≤ bound → (k : ℕ) → slice_index_or (slice_set es m e) k 0 ≤ bound
set_below [] m e bound h l k = h k
set_below (x ∷ es) zero e bound h l zero = l
set_below (x ∷ es) zero e bound h l (suc k) = h (suc k)
set_below (x ∷ es) (suc m) e bound h l zero = h zero
set_below (x ∷ es) (suc m) e bound h l (suc k) = set_below es m e bound (λ j. h (suc j)) l k

-- all dates of the walk are at most this
pub record Below (bound : ℕ) (w : Walk) : Type 0 where
  pub ends : (m : ℕ) → slice_index_or w.ends m 0 ≤ bound
  pub date : w.date ≤ bound

module _ (media : List Medium) (b : Board) (low : ℕ) (held : (c : Copy) → ticks_in (held_in b c) ≤ low) where
  -- one hop
  stepped : (x : Source) → ((m : ℕ) → time_in media b m x ≤ 65000000) → (h : Hop) (w : Walk) (bound : ℕ) → low ≤ bound → Below bound w → (o : Option ℕ) → held_in b (copy h.to x) ≡ o
      → Below (bound + 65000000) (at_date w.ends o (pass (time_in media b) (held_in b) x h.medium w))
  stepped x quick h w bound l below None e =
      let d = below.date in
      let q = quick h.medium in
      let m = below.ends h.medium in
      record {
        ends = set_below w.ends h.medium (max (slice_index_or w.ends h.medium 0) w.date + time_in media b h.medium x)
            (bound + 65000000) (λ k. let z = below.ends k in omega arith) (omega arith);
        date = omega arith;
      }
  stepped x quick h w bound l below (Some d) e = let q = ap ticks_in e in let z = held (copy h.to x) in record { ends = λ m. (let y = below.ends m in omega arith); date = omega arith }

  -- a walk whose dates are at most this fits, and its dates rise by so much at most
  pub fits_along : (x : Source) → ((m : ℕ) → time_in media b m x ≤ 65000000) → (hops : List Hop) (w : Walk) (bound : ℕ) → low ≤ bound → Below bound w → bound + 65000000 * length hops < 2 ^ 64
      → Fits media b x w hops × Below (bound + 65000000 * length hops) (steps (time_in media b) (held_in b) x w hops)
  fits_along x quick [] w bound l below room = (tt, record { ends = λ m. (let e = below.ends m in omega arith); date = (let e = below.date in omega arith) })
  fits_along x quick (h ∷ hops) w bound l below room =
      let rest = fits_along x quick hops (step (time_in media b) (held_in b) x w h) (bound + 65000000) (omega arith)
      (stepped x quick h w bound l below (held_in b (copy h.to x)) refl) (omega arith) in (
        ((let e = below.ends h.medium in let d = below.date in let q = quick h.medium in omega arith), rest.0),
        record { ends = λ m. (let e = rest.1.ends m in omega arith); date = (let e = rest.1.date in omega arith) },
      )

  listed_low : (x : Source) → ((m : ℕ) → time_in media b m x ≤ 65000000) → (from : ℕ) (hops : List Hop) (w : Walk) (bound : ℕ) → low ≤ bound → Below bound w
      → EndBy (bound + 65000000 * length hops) (listed (time_in media b) (held_in b) x from w hops)
  listed_low x quick from [] w bound l below = tt
  listed_low x quick from (h ∷ hops) w bound l below =
      end_by_both (bound + 65000000 * length (h ∷ hops)) (unless (held_in b (copy h.to x)) (transfer_by (time_in media b) (held_in b) x from w h ∷ []))
      (listed (time_in media b) (held_in b) x h.to (step (time_in media b) (held_in b) x w h) hops)
      (first (held_in b (copy h.to x)))
      (end_by_more (bound + 65000000 + 65000000 * length hops) (bound + 65000000 * length (h ∷ hops)) (omega arith)
      (listed (time_in media b) (held_in b) x h.to (step (time_in media b) (held_in b) x w h) hops)
      (listed_low x quick h.to hops (step (time_in media b) (held_in b) x w h) (bound + 65000000) (omega arith) (stepped x quick h w bound l below (held_in b (copy h.to x)) refl)))
    where
      first : (o : Option ℕ) → EndBy (bound + 65000000 * length (h ∷ hops)) (unless o (transfer_by (time_in media b) (held_in b) x from w h ∷ []))
      first None = ((let e = below.ends h.medium in let d = below.date in let q = quick h.medium in omega arith), tt)
      first (Some d) = tt

  module _ (route : ℕ → ℕ → List Hop) (p : ℕ) (short : (from : ℕ) → length (route from p) ≤ 32) where
    -- a value that is brought
    fetched : (x : Source) (w : Walk) (bound : ℕ) → low ≤ bound → Below bound w → (o : Option ℕ) → held_in b (copy p x) ≡ o
        → Below (bound + 65000000 * length (route (on_in b x.vertex) p))
        (steps (time_in media b) (held_in b) x (walk w.ends (ticks_in (held_in b (copy (on_in b x.vertex) x)))) (route (on_in b x.vertex) p))
        → Below (bound + 2080000000) (at_date w.ends o (steps (time_in media b) (held_in b) x (walk w.ends (ticks_in (held_in b (copy (on_in b x.vertex) x)))) (route (on_in b x.vertex) p)))
    fetched x w bound l below None e r = let s = short (on_in b x.vertex) in record { ends = λ m. (let y = r.ends m in omega arith); date = (let y = r.date in omega arith) }
    fetched x w bound l below (Some d) e r = let q = ap ticks_in e in let z = held (copy p x) in record { ends = λ m. (let y = below.ends m in omega arith); date = omega arith }

    brought : (x : Source) (w : Walk) (bound : ℕ) → low ≤ bound → Below bound w
        → EndBy (bound + 65000000 * length (route (on_in b x.vertex) p))
        (listed (time_in media b) (held_in b) x (on_in b x.vertex) (walk w.ends (ticks_in (held_in b (copy (on_in b x.vertex) x))))
        (route (on_in b x.vertex) p))
        → EndBy (bound + 2080000000) (listed_to (time_in media b) (held_in b) (on_in b) route p x w.ends)
    brought x w bound l below all = by (held_in b (copy p x))
      where
        by : (o : Option ℕ) → EndBy (bound + 2080000000)
            (unless o (listed (time_in media b) (held_in b) x (on_in b x.vertex)
            (walk w.ends (ticks_in (held_in b (copy (on_in b x.vertex) x)))) (route (on_in b x.vertex) p)))
        by None = let s = short (on_in b x.vertex) in
            end_by_more (bound + 65000000 * length (route (on_in b x.vertex) p)) (bound + 2080000000) (omega arith)
            (listed (time_in media b) (held_in b) x (on_in b x.vertex) (walk w.ends (ticks_in (held_in b (copy (on_in b x.vertex) x))))
            (route (on_in b x.vertex) p)) all
        by (Some d) = tt

    -- all values, one after the other: they fit, their dates stay low, and so do the ends of their transfers
    pub record Stays (xs : List Source) (w : Walk) (bound : ℕ) : Type 0 where
      pub fits : FitsAll media b route p xs w
      pub below : Below (bound + 2080000000 * length xs) (fetch_all (time_in media b) (held_in b) (on_in b) route p xs w)
      pub ends : EndBy (bound + 2080000000 * length xs) (listed_all (time_in media b) (held_in b) (on_in b) route p xs w.ends)

    pub stays_low : (xs : List Source) → ((i : ℕ) (x : Source) → slice_get xs i ≡ Some x → (m : ℕ) → time_in media b m x ≤ 65000000) → (w : Walk) (bound : ℕ) → low ≤ bound → Below bound w
        → bound + 2080000000 * length xs < 2 ^ 64 → Stays xs w bound
    stays_low [] quick w bound l below room = record { fits = tt; below = record { ends = λ m. (let e = below.ends m in omega arith); date = (let e = below.date in omega arith) }; ends = tt }
    stays_low (x ∷ xs) quick w bound l below room =
        let from = on_in b x.vertex in
        let hops = route from p in
        let s = short from in
        let start = held (copy from x) in
        let w' = walk w.ends (ticks_in (held_in b (copy from x))) in
        let below' : Below bound w' = record { ends = below.ends; date = omega arith } in
        let first = fits_along x (quick 0 x refl) hops w' bound l below' (omega arith) in
        let f = fetched x w bound l below (held_in b (copy p x)) refl first.1 in
        let g = fetch (time_in media b) (held_in b) (on_in b) route p x w.ends in
        let rest = stays_low xs (λ i y e. quick (suc i) y e) (walk g.ends (max w.date g.date)) (bound + 2080000000) (omega arith)
        (record { ends = f.ends; date = (let d = below.date in let e = f.date in omega arith) }) (omega arith) in
        record {
          fits = (first.0, rest.fits);
          below = record { ends = λ m. (let e = rest.below.ends m in omega arith); date = (let e = rest.below.date in omega arith) };
          ends = end_by_both (bound + 2080000000 * length (x ∷ xs)) (listed_to (time_in media b) (held_in b) (on_in b) route p x w.ends)
              (listed_all (time_in media b) (held_in b) (on_in b) route p xs g.ends)
              (end_by_more (bound + 2080000000) (bound + 2080000000 * length (x ∷ xs)) (omega arith)
              (listed_to (time_in media b) (held_in b) (on_in b) route p x w.ends)
              (brought x w bound l below (listed_low x (quick 0 x refl) from hops w' bound l below')))
              (end_by_more (bound + 2080000000 + 2080000000 * length xs) (bound + 2080000000 * length (x ∷ xs)) (omega arith)
              (listed_all (time_in media b) (held_in b) (on_in b) route p xs g.ends) rest.ends);
        }
