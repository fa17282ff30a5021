-- A view by its place.
-- Assumes nothing.
use Prim.Native.Nat.{ℕ}
use mathlib.Core.Path.{◌≡◌, refl, sym, subst}
use mathlib.Core.List.{List, []}
use native.Mathlib.Omega.{arith}
use Rattle.model.specs.Sets.{Bytes}
use Rattle.model.specs.Calls.{Looks, View}
use Rattle.base.specs.Buffer.{part}
use Rattle.contract.specs.Answers.{of_view}
use Rattle.contract.specs.Ran.{Ran}
use Rattle.items.specs.Spans.{Viewed}

part_none : (b : List ℕ) → part 0 0 b ≡ []
unfolding part
part_none b = refl

pub viewed_none : (name b : Bytes) → Ran (Looks (View name)) b (of_view []) b → Viewed name b 0 0
viewed_none name b r = record { inside = omega arith; ran = subst (λ (v : Bytes). Ran (Looks (View name)) b (of_view v) b) (sym (part_none b)) r }
