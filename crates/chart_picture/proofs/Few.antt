-- An architecture has few operators, and few media.
use Rattle.std.proofs.Common.{ℕ, ◌<◌, ◌^◌, length, arith}
use Rattle.std.specs.Prelude.{IsTrue}
use Rattle.self_timed.specs.Archi.{Architecture, is_archi}
use Rattle.self_timed.proofs.Archis.{few_operators, few_media}

pub few_operators_in : (a : Architecture) → IsTrue (is_archi a.operators a.media) → length a.operators < 2 ^ 32
few_operators_in a h = let l = few_operators a h in omega arith

pub few_media_in : (a : Architecture) → IsTrue (is_archi a.operators a.media) → length a.media < 2 ^ 32
few_media_in a h = let l = few_media a h in omega arith
