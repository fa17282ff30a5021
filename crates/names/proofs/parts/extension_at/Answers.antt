use mathlib.Core.Path.{◌≡◌, sym}
use mathlib.Core.List.{List}
use Prim.Native.Nat.{ℕ, ◌-◌, ◌≤◌}
use native.Mathlib.Omega.{arith}
use lib.ListN.{length, take, drop, length-take, length-drop}
use borrow.Author.Tests.{ne_eqb}
use Rattle.chars.specs.Bytes.{slash, dot}
use Rattle.chars.specs.Lists.{after_last}
use Rattle.names.specs.Names.{extension_at}
use Rattle.base.proofs.Lists.{take_rest}
use Rattle.chars.proofs.Searches.{last_le}
use Rattle.names.proofs.parts.extension_at.Goals as goal
use Rattle.names.proofs.parts.extension_at.Goals.{After-find_past-i}

-- past the first search
abbrev First : Type 0
First = After-find_past-i

abbrev S : First → List ℕ
S a = a.args.s.now

starts : (a : First) → a.find_past-i.result ≤ length (S a)
starts a = omega (arith, a.find_past-i.ensures, last_le slash (S a))

second : (a : First) (d : ℕ) → d ≡ after_last dot (take (length (S a) - a.find_past-i.result) (drop a.find_past-i.result (S a))) → after_last dot (drop (after_last slash (S a)) (S a)) ≡ d
second a d e = rw (← a.find_past-i.ensures, ← take_rest (S a) a.find_past-i.result) (sym e)

pub slice_bounds-past_dot-count : goal.slice_bounds-past_dot-count
slice_bounds-past_dot-count c = starts c

pub slice_bounds-past_dot-start : goal.slice_bounds-past_dot-start
slice_bounds-past_dot-start c = starts c

pub returns-then-d-eq0 : goal.returns-then-d-eq0
unfolding extension_at
returns-then-d-eq0 c = rw (second (goal.at.returns-then-d-eq0 c).After-find_past-i _ c.past_dot-d.ensures, c.if-d-eq0.true)

pub overflow_add-result : goal.overflow_add-result
overflow_add-result c =
    omega (
      arith,
      starts (goal.at.overflow_add-result c).After-find_past-i,
      c.past_dot-d.ensures,
      last_le dot
          (take (length (S (goal.at.overflow_add-result c).After-find_past-i) - c.find_past-i.result) (drop c.find_past-i.result (S (goal.at.overflow_add-result c).After-find_past-i))),
      simp (length-take, length-drop) at
          (last_le dot (take (length (S (goal.at.overflow_add-result c).After-find_past-i) - c.find_past-i.result) (drop c.find_past-i.result (S (goal.at.overflow_add-result c).After-find_past-i)))),
    )

pub returns : goal.returns
unfolding extension_at
returns c = rw (second (goal.at.returns c).After-find_past-i _ c.past_dot-d.ensures, ne_eqb _ _ c.if-d-eq0.false, ← c.find_past-i.ensures)
