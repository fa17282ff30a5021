-- What the searches over the rows of a buffer find. These are promises of inner functions.
-- Assumes nothing.
use Rattle.std.specs.Prelude.{ℕ, ◌+◌, ◌-◌, ◌≤◌, ◌<◌, ◌≡◌, Bool, true, false, List, ◌∷◌, length}
use Rattle.base.specs.Buffer.{part}
use Rattle.chars.specs.Folding.{fold}
use Rattle.chars.specs.FoldedNames.{folded_size, common}
use Rattle.model.specs.Sets.{Bytes, Key, key_order, same_key, Sorted}
use Rattle.model.specs.Places.{bound}
use Rattle.model.specs.Package.{State}
use Rattle.std.specs.declared.cmp.Ordering.{Ordering}
use Rattle.store.specs.Layout.{count_of}
use Rattle.store.specs.Rows.{row_at, rows_of}
use Rattle.store.specs.Packages.{Sound}
use Rattle.contract.specs.Rows.{second, row_key}
use Rattle.contract.specs.Holds.{Holds}
use Rattle.contract.specs.declared.search.SearchKey.{SearchKey}

-- the rows of a sound buffer stand in the order of their keys
pub record Ordered (b : List ℕ) : Type 0 where
  pub sound : Sound b
  pub sorted : Sorted row_key (rows_of b)

-- what is sought lies in the array, folded
pub record Aimed (w : SearchKey) (f : Bytes) : Type 0 where
  pub fits : w.at + w.length ≤ folded_size
  pub folded : fold (part w.at w.length f) ≡ part w.at w.length f

-- as a key: the set, then the text, and what tells apart the entries of one text
abbrev pub sought_key : SearchKey → Bytes → Bytes → Key
sought_key w f id = (w.set ∷ part w.at w.length f, second w.set w.tag id)

-- how much the key of row i has in common with k at the beginning: its set, then bytes of its text
abbrev pub shares : List ℕ → ℕ → Key → ℕ
shares b i k = common (row_key (row_at b i)).0 k.0

-- o tells how the key of row i stands to the key k, and c how many bytes their texts have in common, if these are not fewer than `from`
pub record Stands (b : List ℕ) (i : ℕ) (k : Key) (from : ℕ) (o : Ordering) (c : ℕ) : Type 0 where
  pub is : Sound b → i < count_of b → (0 < from → from < shares b i k) → (o ≡ key_order (row_key (row_at b i)) k) × (c ≡ shares b i k - 1)

-- r is the first row whose key is not before k
pub record Bounded (b : List ℕ) (k : Key) (r : ℕ) : Type 0 where
  pub within : r ≤ count_of b
  pub is : Ordered b → r ≡ bound row_key k (rows_of b)

-- r is the first row whose key is not before k, and z tells whether it has that key
pub record Placed (b : List ℕ) (k : Key) (r : ℕ) (z : Bool) : Type 0 where
  pub bounded : Bounded b k r
  pub inside : z ≡ true → r < count_of b
  pub has : Ordered b → r < count_of b → z ≡ same_key (row_key (row_at b r)) k

-- r is the number of items
pub record Counted (b : List ℕ) (r : ℕ) : Type 0 where
  pub low : r ≤ count_of b
  pub is : (S : State) → Holds b S → r ≡ length S.items

-- a search by halving that has come down to the rows from lo to hi
pub record Halved (b : List ℕ) (k : Key) (lo hi : ℕ) : Type 0 where
  pub low : lo ≤ hi
  pub high : hi ≤ count_of b
  pub is : Ordered b → (lo ≤ bound row_key k (rows_of b)) × (bound row_key k (rows_of b) ≤ hi)

-- it has not met the key, and the texts of the rows on both sides of them have so many bytes in common with it, if any
pub record Closing (b : List ℕ) (k : Key) (lo hi below above : ℕ) : Type 0 where
  pub halved : Halved b k lo hi
  pub other : Ordered b → hi < count_of b → same_key (row_key (row_at b hi)) k ≡ false
  pub left : Ordered b → 0 < below → (0 < lo) × (below < shares b (lo - 1) k)
  pub right : Ordered b → 0 < above → (hi < count_of b) × (above < shares b hi k)
