use Rattle.std.proofs.Common.{◌≡◌, true, sym, ◌∙◌}
use Rattle.route_table.specs.Least.{are_equal, comes_before, media_of, operators_of}
use Rattle.route_table.proofs.Order.{less_by_operators, other_first, same_first_number}
use Rattle.route_table.proofs.less.is_less.Goals as goal

pub returns-then-hop-other-2 : goal.returns-then-hop-other-2
returns-then-hop-other-2 c =
    let b = comes_before (operators_of c.args.rest.now) (operators_of c.args.other_rest.now) in
    let all : are_equal (media_of c.args.rest.now) (media_of c.args.other_rest.now) ≡ true = sym c.are_media_equal.ensures ∙ c.if-not-are_media_equal.false in
    sym (less_by_operators c.args.hop c.args.other c.args.rest.now c.args.other_rest.now c.if-rest-other_rest.false c.if-hop-other.false
    all ∙ other_first c.args.hop.to c.args.other.to b c.if-hop-other-2.true)

pub returns : goal.returns
returns c =
    let b = comes_before (operators_of c.args.rest.now) (operators_of c.args.other_rest.now) in
    let all : are_equal (media_of c.args.rest.now) (media_of c.args.other_rest.now) ≡ true = sym c.are_media_equal.ensures ∙ c.if-not-are_media_equal.false in
    c.operators_come_before.ensures
    ∙ sym (less_by_operators c.args.hop c.args.other c.args.rest.now c.args.other_rest.now c.if-rest-other_rest.false c.if-hop-other.false
    all ∙ same_first_number c.args.hop.to c.args.other.to b c.if-hop-other-2.false)
