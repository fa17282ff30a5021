-- An item's bytes by their place in the package.
-- Assumes nothing.
use Rattle.std.specs.Prelude.{ℕ, ◌+◌, ◌≤◌, List, length}
use Rattle.model.specs.Calls.{Looks, View}
use Rattle.base.specs.Buffer.{part}
use Rattle.contract.specs.Answers.{of_view}
use Rattle.contract.specs.Ran.{Ran}

-- the n bytes from a on lie within the buffer, and are what a view of the item answers: "that part's bytes, wherever they lie in it, are
-- its only answer"
pub record Viewed (name b : List ℕ) (a n : ℕ) : Type 0 where
  pub inside : a + n ≤ length b
  pub ran : Ran (Looks (View name)) b (of_view (part a n b)) b
