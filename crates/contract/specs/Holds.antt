-- When a buffer holds an abstract package.
-- Assumes nothing.
use Rattle.std.specs.Prelude.{ℕ, ◌≡◌, List}
use Rattle.model.specs.Package.{State}
use Rattle.model.specs.Good.{Good}
use Rattle.store.specs.Layout.{format_of, package_format, cap_of}
use Rattle.store.specs.Rows.{rows_of}
use Rattle.store.specs.Packages.{Sound}
use Rattle.contract.specs.Rows.{rows_for}

-- the bytes lie as the rows of the abstract package
pub record Lies (b : List ℕ) (S : State) : Type 0 where
  pub sound : Sound b
  pub format : format_of b ≡ package_format
  pub rows : rows_of b ≡ rows_for S
  pub capacity : cap_of b ≡ S.capacity

-- and the abstract package is one that calls can reach
pub record Holds (b : List ℕ) (S : State) : Type 0 where
  pub lies : Lies b S
  pub good : Good S
