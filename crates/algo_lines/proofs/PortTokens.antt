-- The first port that is none has the name that stands at its place.
use Rattle.std.proofs.Common.{◌≡◌, ℕ, Option, Err, List, ap, sym, ◌∙◌, subst}
use Rattle.syn_base.specs.Bytes.{Bytes}
use Rattle.body_text.specs.Tokens.{Token, tokens}
use Rattle.body_text.specs.Ports.{resolved}
use Rattle.body_text.specs.Reads.{IsUnknown, Reads}
use Rattle.body_text.specs.declared.fault.BodyFault.{BodyFault}
use Rattle.body_text.specs.declared.fault.BodyFault.TheVariants.{UnknownPort}
use Rattle.text_lines.specs.Refusals.{refused}
use Rattle.algo_text.specs.declared.fault.AlgoCause.TheVariants.{UnknownName}
use Rattle.algo_text.specs.Formulas.{name_in, known_by, formula_of}
use Rattle.algo_text.proofs.Grammars.{written_formula}
use Rattle.algo_text.proofs.PortNames.{Found, unknown_named}
use Rattle.algo_lines.specs.Lines.{name_from}
use Rattle.algo_lines.proofs.NameTokens.{name_stands}

pub unknown_formula : (n : ℕ) (names : List Bytes) (text : Bytes) (place : ℕ) → IsUnknown names text place → formula_of n names text ≡ refused n (UnknownName (name_from text place))
unknown_formula n names text place h =
    let there : Found (tokens text) h.token = unknown_named names (tokens text) h.tree h.token h.grammar h.first in
    written_formula n names text h.tree h.few h.grammar
    ∙ ap (λ (o : Option ℕ). known_by n names text o (resolved names h.tree)) h.first
    ∙ ap (λ (o : Option Token). refused n (UnknownName (name_in o))) there.is
    ∙ ap (λ (w : Bytes). refused n (UnknownName w)) (sym (name_stands text h.token there.port there.is) ∙ ap (λ (k : ℕ). name_from text k) h.there)

pub unknown_read : (n : ℕ) (names : List Bytes) (text : Bytes) (f : BodyFault) (place : ℕ) → f ≡ UnknownPort place
    → Reads names text (Err f) → formula_of n names text ≡ refused n (UnknownName (name_from text place))
unknown_read n names text f place is h = unknown_formula n names text place (subst (λ (g : BodyFault). Reads names text (Err g)) is h)
