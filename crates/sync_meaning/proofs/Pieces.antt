-- What was read, piece by piece.
use Rattle.std.proofs.Common.{◌≡◌, ℕ, ◌+◌, List, ◌++◌, map, take, drop, length, Bool, true, false, refl, sym, ap, ◌∙◌, arith, length-append}
use Rattle.std.proofs.lemmas.Bool.{false≢true}
use Rattle.std.proofs.lemmas.List.{length-map, map-append, length-take-le, take_at, drop_at, take-map, take-append-drop}
use Rattle.flat_graph.specs.declared.vertex.Source.{Source}
use Rattle.flat_graph.specs.declared.vertex.Guard.{Guard}
use Rattle.flat_graph.specs.declared.vertex.Vertex.{Vertex}
use Rattle.flat_graph.specs.Fire.{guards_hold}
use Rattle.flat_graph.specs.Meaning.{conditions, inputs}
use Rattle.sync_meaning.specs.Store.{lengths, HasRead}
use Rattle.syn_base.specs.Vectors.{Vector, Values}

module _ (look : Source → Vector) (x : Vertex) (old : Values) (fits : lengths old ≡ lengths (inputs look x) ++ lengths (conditions look x)) where
  inputs_count : length (lengths (inputs look x)) ≡ length x.ins
  inputs_count = length-map (inputs look x) length ∙ length-map x.ins look

  pub count_is : length x.ins + length x.guards ≡ length old
  count_is =
      let all : length (lengths old) ≡ length (lengths (inputs look x) ++ lengths (conditions look x)) = ap (λ (ns : List ℕ). length ns) fits in
      omega (
        arith,
        all,
        length-map old length,
        length-append (lengths (inputs look x)) (lengths (conditions look x)),
        inputs_count,
        length-map (conditions look x) length,
        length-map x.guards (λ (d : Guard). look d.source),
      )

  pub conditions_fit : lengths (conditions look x) ≡ drop (length x.ins) (lengths old)
  conditions_fit = sym (ap (drop (length x.ins)) fits ∙ drop_at (lengths (inputs look x)) (lengths (conditions look x)) (length x.ins) inputs_count)

  -- after the conditions
  module _ (mid : Values) (mid_is : mid ≡ take (length x.ins) old ++ conditions look x) where
    front : length (take (length x.ins) old) ≡ length x.ins
    front = length-take-le (length x.ins) old (omega (arith, count_is))

    pub mid_lens : lengths mid ≡ lengths old
    mid_lens =
        ap lengths mid_is ∙ map-append length (take (length x.ins) old) (conditions look x)
        ∙ (λ i. sym (take-map length (length x.ins) old) i ++ conditions_fit i) ∙ take-append-drop (length x.ins) (lengths old)

    mid_last : drop (length x.ins) mid ≡ conditions look x
    mid_last = ap (drop (length x.ins)) mid_is ∙ drop_at (take (length x.ins) old) (conditions look x) (length x.ins) front

    pub inputs_fit : lengths (inputs look x) ≡ take (length x.ins) (lengths mid)
    inputs_fit =
        sym (ap (take (length x.ins)) (mid_lens ∙ fits) ∙ take_at (lengths (inputs look x)) (lengths (conditions look x)) (length x.ins) inputs_count)

    -- where a guard does not hold
    pub read_none : guards_hold x.guards (conditions look x) ≡ false → HasRead look x mid
    read_none off = record { conditions_are = mid_last; inputs_are = λ on. absurd (false≢true (sym off ∙ on)) }

    -- after the inputs
    module _ (new : Values) (new_is : new ≡ inputs look x ++ drop (length x.ins) mid) where
      pub read_all : HasRead look x new
      read_all = record {
        conditions_are = ap (drop (length x.ins)) new_is ∙ drop_at (inputs look x) (drop (length x.ins) mid) (length x.ins) (length-map x.ins look) ∙ mid_last;
        inputs_are = λ on. ap (take (length x.ins)) new_is ∙ take_at (inputs look x) (drop (length x.ins) mid) (length x.ins) (length-map x.ins look);
      }

      pub new_lens : lengths new ≡ lengths old
      new_lens =
          ap lengths new_is ∙ map-append length (inputs look x) (drop (length x.ins) mid)
          ∙ ap (λ (vs : Values). lengths (inputs look x) ++ lengths vs) mid_last ∙ sym fits
