-- What the tests of a new item beside the held ones find. These are promises of inner functions.
-- Assumes nothing.
use Rattle.std.specs.Prelude.{ℕ, ◌-◌, ◌/◌, ◌%◌, ◌≤◌, ◌≡◌, Bool, false, not, ◌&&◌, ◌||◌, List, ltb, eqb, length, get_or, take, drop}
use Rattle.chars.specs.Bytes.{slash}
use Rattle.chars.specs.Folding.{fold, equivalent}
use Rattle.chars.specs.FoldedNames.{common}
use Rattle.model.specs.Sets.{Bytes, held, lookup, any}
use Rattle.model.specs.Fields.{first}
use Rattle.model.specs.Package.{State, item_key, key_of_item, grows}
use Rattle.model.specs.Puts.{misfits}
use Rattle.model.specs.Calls.{Numbered}
use Rattle.store.specs.Layout.{count_of}
use Rattle.store.specs.Rows.{Row, row_at, tag_at, rows_of, field_of}
use Rattle.store.specs.Packages.{Sound}
use Rattle.contract.specs.Holds.{Holds}

-- `disagrees`, read off the tags of two items
unfoldable pub tags_disagree : ℕ → ℕ → Bool
tags_disagree t u =
    eqb t 0 && not (eqb u 0)
    || not (eqb t 0) && eqb u 0
    || eqb (t % 2) 1 && eqb (u % 2) 1
    || eqb (u % 2) 1 && ltb (u / 2) (t / 2)
    || eqb (t % 2) 1 && ltb (t / 2) (u / 2)

-- z tells whether p grows out of the prefix of one of the first n rows, or that out of p
pub record Grown (b : List ℕ) (n : ℕ) (p : Bytes) (z : Bool) : Type 0 where
  pub is : Sound b → z ≡ any (λ (r : Row). grows p r.f0) (take n (rows_of b))

-- the walk for it has passed the first i rows
pub record GrownFrom (b : List ℕ) (n : ℕ) (p : Bytes) (i : ℕ) : Type 0 where
  pub is : Sound b → any (λ (r : Row). grows p r.f0) (take n (rows_of b)) ≡ any (λ (r : Row). grows p r.f0) (drop i (take n (rows_of b)))

-- the prefix of row i and p part where p has a slash
abbrev pub parted_at : List ℕ → ℕ → Bytes → Bool
parted_at b i p = eqb (get_or p (common (fold (field_of (row_at b i) 0)) (fold p)) 0) slash

pub record Parted (b : List ℕ) (r : ℕ) (p : Bytes) (z : Bool) : Type 0 where
  pub is : Sound b → r ≤ count_of b → z ≡ (ltb 0 r && parted_at b (r - 1) p)

-- q is p and more
abbrev pub extends : Bytes → Bytes → Bool
extends q p = ltb (length p) (length q) && equivalent (take (length p) q) p

-- the prefix of row i is p and more
abbrev pub extended_at : List ℕ → ℕ → Bytes → Bool
extended_at b i p = extends (field_of (row_at b i) 0) p

pub record Extended (b : List ℕ) (i m : ℕ) (p : Bytes) (z : Bool) : Type 0 where
  pub is : Sound b → m ≤ count_of b → z ≡ (ltb i m && extended_at b i p)

-- row i has the prefix p, and its suffix disagrees with that of the tag t
abbrev pub opposed_at : List ℕ → ℕ → Bytes → ℕ → Bool
opposed_at b i p t = equivalent (field_of (row_at b i) 0) p && tags_disagree t (tag_at b i)

pub record Opposed (b : List ℕ) (i m : ℕ) (p : Bytes) (t : ℕ) (z : Bool) : Type 0 where
  pub is : Sound b → m ≤ count_of b → z ≡ (ltb i m && opposed_at b i p t)

pub record OpposedBefore (b : List ℕ) (r m : ℕ) (p : Bytes) (t : ℕ) (z : Bool) : Type 0 where
  pub is : Sound b → m ≤ count_of b → z ≡ (ltb 0 r && (ltb (r - 1) m && opposed_at b (r - 1) p t))

-- k is the refusal of a new item of that name by the items' own tests, where its key is not taken: 12 or 11, 0 for none
pub record Misfitting (b : List ℕ) (name : Bytes) (k : ℕ) : Type 0 where
  pub is : (S : State) → Holds b S → held (lookup key_of_item (item_key name) S.items) ≡ false → k ≡ first (misfits name S.items)
  pub numbered : Numbered k
