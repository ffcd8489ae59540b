use Rattle.std.proofs.Common.{◌≡◌, ℕ, ◌+◌, ◌*◌, ◌^◌, ◌≤◌, true, List, Option, Some, None, length, replicate, sym, ap, subst, arith, ◌∙◌}
use Rattle.std.specs.Prelude.{IfNone, IfSome, slice_set}
use Rattle.std.proofs.lemmas.Nat.{mul-le}
use Rattle.rates.specs.declared.table.Arc.{Arc}
use Rattle.rates.specs.Search.{AreFirst, Closes, HaveRoomFrom, IsRooted, Lacks, Misses, given_at}
use Rattle.rates.specs.Tables.{at, rows_fit}
use Rattle.rates.proofs.Searches.{fits, goes_on, less, low, over, rooted, started}
use Rattle.rates.proofs.search.fit.Goals as goal

pub loop-lacking-init : goal.loop-lacking-init
loop-lacking-init c =
    let count : length c.rows-count.result.now ≡ length c.args.arcs.now = ap (λ (w : List (List Arc)). length w) c.rows-count.ensures in
    started c.args.arcs.now c.args.long.now c.args.rate c.in_ok-offsets.offsets.items c.in_ok-given.given.items
    (subst (λ (n : ℕ). AreFirst c.args.long.now c.args.rate.reactions n c.in_ok-offsets.offsets.items) count c.in_ok-offsets.ensures)
    (c.in_ok-given.ensures ∙ ap (λ (n : ℕ). replicate n None) count)

pub closed_cycle-requires : goal.closed_cycle-requires
closed_cycle-requires c =
    let lacks : Lacks c.args.arcs.now c.args.long.now c.args.rate c.loop-lacking.offsets.items c.in-Some.lacking =
    subst (λ (w : List ℕ). Lacks c.args.arcs.now c.args.long.now c.args.rate w c.in-Some.lacking) c.as_slice.ensures.value c.in-Some.ensures.some in
    record {
      rooted = subst (λ (w : List (Option Arc)). IsRooted (given_at w) (length w) c.in-Some.lacking.arc.act) (sym c.as_slice-in-Some.ensures.value)
          (rooted c.args.arcs.now c.args.long.now c.args.rate c.requires.searchable c.loop-lacking.offsets.items c.loop-lacking.given.items c.loop-lacking.invariant c.in-Some.lacking lacks);
    }

pub returns-in-Some-2 : goal.returns-in-Some-2
returns-in-Some-2 c =
    let lacks : Lacks c.args.arcs.now c.args.long.now c.args.rate c.loop-lacking.offsets.items c.in-Some.lacking =
    subst (λ (w : List ℕ). Lacks c.args.arcs.now c.args.long.now c.args.rate w c.in-Some.lacking) c.as_slice.ensures.value c.in-Some.ensures.some in
    let closes : Closes c.loop-lacking.given.items c.in-Some.lacking c.in-Some-2.cycle =
    subst (λ (w : List (Option Arc)). Closes w c.in-Some.lacking c.in-Some-2.cycle) c.as_slice-in-Some.ensures.value
    (subst (λ (o : Option (List Arc)). IfSome o (Closes c.as_slice-in-Some.result.now c.in-Some.lacking)) c.in-Some-2.is c.in_ok-cycle.ensures.some) in
    over c.args.arcs.now c.args.long.now c.args.rate c.requires.searchable c.loop-lacking.offsets.items c.loop-lacking.given.items
    c.loop-lacking.invariant c.in-Some.lacking lacks c.in-Some-2.cycle closes

pub next_offset-requires-clause-low : goal.next_offset-requires-clause-low
next_offset-requires-clause-low c =
    let lacks : Lacks c.args.arcs.now c.args.long.now c.args.rate c.loop-lacking.offsets.items c.in-Some.lacking =
    subst (λ (w : List ℕ). Lacks c.args.arcs.now c.args.long.now c.args.rate w c.in-Some.lacking) c.as_slice.ensures.value c.in-Some.ensures.some in
    let there = c.requires.searchable.there c.in-Some.lacking.arc c.in-Some.lacking.act lacks.is in
    let z = low c.args.arcs.now c.args.long.now c.args.rate c.requires.searchable c.loop-lacking.offsets.items c.loop-lacking.given.items c.loop-lacking.invariant c.in-Some.lacking.arc.act there in
    let here = ap (λ (w : List ℕ). at w c.in-Some.lacking.arc.act) c.as_slice-in-Some-2.ensures.value in
    let few = c.requires.searchable.few in
    let top : c.args.rate.reactions * (length c.args.arcs.now * 2 ^ 30)
    ≤ 2 ^ 30 * (2 ^ 22 * 2 ^ 30) = mul-le c.args.rate.reactions (length c.args.arcs.now * 2 ^ 30) (2 ^ 30) (2 ^ 22 * 2 ^ 30) c.requires.low (omega arith) in
    omega arith

pub loop-lacking-preserved : goal.loop-lacking-preserved
loop-lacking-preserved c =
    let lacks : Lacks c.args.arcs.now c.args.long.now c.args.rate c.loop-lacking.offsets.items c.in-Some.lacking =
    subst (λ (w : List ℕ). Lacks c.args.arcs.now c.args.long.now c.args.rate w c.in-Some.lacking) c.as_slice.ensures.value c.in-Some.ensures.some in
    let misses : Misses c.loop-lacking.given.items c.in-Some.lacking =
    subst (λ (w : List (Option Arc)). Misses w c.in-Some.lacking) c.as_slice-in-Some.ensures.value
    (subst (λ (o : Option (List Arc)). IfNone o (Misses c.as_slice-in-Some.result.now c.in-Some.lacking)) c.in_default-2.is c.in_ok-cycle.ensures.none) in
    let told : c.next_offset.result + c.in-Some.lacking.arc.lag * c.args.rate.ticks
    ≡ at c.as_slice-in-Some-2.result.now c.in-Some.lacking.arc.act + c.args.rate.reactions * at c.args.long.now c.in-Some.lacking.act =
    c.next_offset.ensures in
    let here = ap (λ (w : List ℕ). at w c.in-Some.lacking.arc.act) c.as_slice-in-Some-2.ensures.value in
    let is : c.next_offset.result + c.in-Some.lacking.arc.lag * c.args.rate.ticks
    ≡ at c.loop-lacking.offsets.items c.in-Some.lacking.arc.act + c.args.rate.reactions * at c.args.long.now c.in-Some.lacking.act =
    told ∙ ap (λ (n : ℕ). n + c.args.rate.reactions * at c.args.long.now c.in-Some.lacking.act) here in
    goes_on c.args.arcs.now c.args.long.now c.args.rate c.requires.searchable c.loop-lacking.offsets.items c.loop-lacking.given.items
    c.loop-lacking.invariant c.in-Some.lacking lacks misses c.next_offset.result is

pub loop-lacking-smaller : goal.loop-lacking-smaller
loop-lacking-smaller c =
    let lacks : Lacks c.args.arcs.now c.args.long.now c.args.rate c.loop-lacking.offsets.items c.in-Some.lacking =
    subst (λ (w : List ℕ). Lacks c.args.arcs.now c.args.long.now c.args.rate w c.in-Some.lacking) c.as_slice.ensures.value c.in-Some.ensures.some in
    let misses : Misses c.loop-lacking.given.items c.in-Some.lacking =
    subst (λ (w : List (Option Arc)). Misses w c.in-Some.lacking) c.as_slice-in-Some.ensures.value
    (subst (λ (o : Option (List Arc)). IfNone o (Misses c.as_slice-in-Some.result.now c.in-Some.lacking)) c.in_default-2.is c.in_ok-cycle.ensures.none) in
    let told : c.next_offset.result + c.in-Some.lacking.arc.lag * c.args.rate.ticks
    ≡ at c.as_slice-in-Some-2.result.now c.in-Some.lacking.arc.act + c.args.rate.reactions * at c.args.long.now c.in-Some.lacking.act =
    c.next_offset.ensures in
    let here = ap (λ (w : List ℕ). at w c.in-Some.lacking.arc.act) c.as_slice-in-Some-2.ensures.value in
    let is : c.next_offset.result + c.in-Some.lacking.arc.lag * c.args.rate.ticks
    ≡ at c.loop-lacking.offsets.items c.in-Some.lacking.arc.act + c.args.rate.reactions * at c.args.long.now c.in-Some.lacking.act =
    told ∙ ap (λ (n : ℕ). n + c.args.rate.reactions * at c.args.long.now c.in-Some.lacking.act) here in
    less c.args.arcs.now c.args.long.now c.args.rate c.requires.searchable c.loop-lacking.offsets.items c.loop-lacking.given.items
    c.loop-lacking.invariant c.in-Some.lacking lacks c.next_offset.result is
    (slice_set c.loop-lacking.given.items c.in-Some.lacking.act (Some c.in-Some.lacking.arc))
    (goes_on c.args.arcs.now c.args.long.now c.args.rate c.requires.searchable c.loop-lacking.offsets.items c.loop-lacking.given.items
    c.loop-lacking.invariant c.in-Some.lacking lacks misses c.next_offset.result is)

pub returns : goal.returns
returns c =
    let room : HaveRoomFrom c.args.arcs.now c.args.long.now c.args.rate c.loop-lacking.offsets.items 0 =
    subst (λ (w : List ℕ). HaveRoomFrom c.args.arcs.now c.args.long.now c.args.rate w 0) c.as_slice.ensures.value
    (subst (λ (o : Option _). IfNone o (HaveRoomFrom c.args.arcs.now c.args.long.now c.args.rate c.as_slice.result.now 0)) c.in_default.is c.next_lacking.ensures.none) in
    subst (λ (w : List ℕ). rows_fit (at c.args.long.now) c.args.rate.ticks c.args.rate.reactions (at w) c.args.arcs.now ≡ true) (sym c.new.ensures)
    (fits c.args.arcs.now c.args.long.now c.args.rate c.requires.searchable c.loop-lacking.offsets.items c.loop-lacking.given.items c.loop-lacking.invariant room)
