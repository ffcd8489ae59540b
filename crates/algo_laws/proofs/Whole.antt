-- Definitions that are not refused make a tree.
use Rattle.std.proofs.Common.{◌≡◌, ℕ, ◌≤◌, List, [], refl, ap, sym, subst, ◌∙◌, nat_lt}
use Rattle.level_meaning.specs.declared.part.Part.TheVariants.{Named}
use Rattle.algo_rules.specs.Typed.{IsTyped}
use Rattle.algo_rules.specs.declared.Def.{Def}
use Rattle.algo_rules.specs.Links.{definition}
use Rattle.algo_rules.specs.Ports.{ports_of, lens_of}
use Rattle.algo_rules.specs.declared.ports.Ports.{Ports}
use Rattle.algo_rules.specs.Resolved.{vertex_within, operations, tree_of}
use Rattle.algo_laws.specs.Central.{AcceptedMakeATree}
use Rattle.algo_laws.proofs.Refused.{has_none, main_is_graph, stand_in_main, are_numbered}
use Rattle.algo_laws.proofs.Accepted.{accepted, own_ports}
use Rattle.algo_laws.proofs.Typing.{typed}
use Rattle.algo_laws.proofs.Wellness.{well}
use Rattle.algo_laws.proofs.Trees.{main, main_by, no_inputs, portless_by, few_by, are_counted}
use Rattle.algo_laws.proofs.Names.{have_names}
use Rattle.algo_laws.proofs.Bounds.{have_bounds}

pub make_a_tree : AcceptedMakeATree
make_a_tree ds read no_refusal =
    let none = has_none ds no_refusal in
    let acc = accepted ds read none in
    let is = main_by ds (definition ds main) refl (main_is_graph ds none) in
    let lens : lens_of (ports_of ds main).ins ≡ [] = ap lens_of (ap (λ (p : Ports). p.ins) (own_ports ds acc.ranked main is.0 is.1.0) ∙ no_inputs (ports_of ds) is.0.body is.1.1) in
    record {
      portless = portless_by ds (vertex_within ds 7) (definition ds main) (main_is_graph ds none);
      well = well ds acc 8 (Named main) main is.0 [] 0 0 is.1.0 (acc.ranked.most main is.0 is.1.0);
      typed = subst (λ (ns : List ℕ). IsTyped ns (tree_of ds)) lens (typed ds acc 8 (Named main) main is.0 [] 0 0 is.1.0 (acc.ranked.most main is.0 is.1.0));
      inside = stand_in_main ds none;
      numbered = are_numbered ds none;
      few = subst (λ (n : ℕ). n ≤ 2048) (sym (are_counted ds read no_refusal)) (few_by (operations ds) (nat_lt 2048 (operations ds)) refl none.too_many);
      named = have_names ds read no_refusal;
      bounded = have_bounds ds read no_refusal;
    }
