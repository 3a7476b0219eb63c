use mathlib.Core.Path.{◌≡◌}
use Rattle.search.proofs.Ruling.{place, ByFirst}
use Rattle.search.proofs.level.Given as goal

abbrev pub invariant-loop-i : goal.invariant-loop-i
invariant-loop-i l = (l.at ≡ place l.table l.i) × ByFirst l.table l.words l.known l.h l.initial.fresh l.i l.fresh l.m
