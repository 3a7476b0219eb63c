-- The contracts that speak of a verdict determine it: two that have the same view are equal. (check_table, check_words, check_input)
use mathlib.Core.Path.{◌≡◌, refl}
use Rattle.std.specs.Prelude.{Result, Ok, Err}
use Rattle.meaning.specs.declared.Refusal.{Refusal}
use Rattle.table.specs.Views.{verdict_of}

pub verdict-once : (a b : Result (Unit {0}) Refusal) → verdict_of a ≡ verdict_of b → a ≡ b
verdict-once (Ok u) (Ok v) e = refl
verdict-once (Ok u) (Err s) e = cc
verdict-once (Err r) (Ok u) e = cc
verdict-once (Err r) (Err s) e = cc
