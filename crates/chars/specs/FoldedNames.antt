-- A wanted name, folded once before it is compared with the held ones. These are promises of inner functions.
-- Assumes nothing.
use Rattle.std.specs.Prelude.{ℕ, suc, ◌≤◌, ◌<◌, ◌≡◌, false, cond, List, [], ◌∷◌, eqb, length, get_or, take}
use Rattle.chars.specs.Folding.{fold, order}
use Rattle.std.specs.declared.cmp.Ordering.{Ordering}

-- no name, source or extension that is asked for has more bytes
abbrev pub folded_size : ℕ
folded_size = 256

-- "a fixed array, filled once before it, and a contract says that it holds the wanted name's folding"
pub record HoldsFolding (array name : List ℕ) : Type 0 where
  pub fits : length name ≤ folded_size
  pub is : take (length name) array ≡ fold name

-- how many elements at the beginning of two lists are the same
unfoldable pub common : List ℕ → List ℕ → ℕ
common [] t = 0
common (x ∷ s) [] = 0
common (x ∷ s) (y ∷ t) = cond (eqb x y) (suc (common s t)) 0

-- of a, folded, and q at least c bytes at the beginning are the same, if the first i are
pub record SharedSome (a q : List ℕ) (i c : ℕ) : Type 0 where
  pub left : c ≤ length a
  pub right : c ≤ length q
  pub is : i ≤ common (fold a) q → c ≤ common (fold a) q

-- and the bytes that follow these, of a read by f, are not the same
pub record SharedUpTo (f : ℕ → ℕ) (a q : List ℕ) (i c : ℕ) : Type 0 where
  pub some : SharedSome a q i c
  pub stops : c < length a → c < length q → eqb (f (get_or a c 0)) (get_or q c 0) ≡ false

-- c bytes are, and no more
pub record Shared (a q : List ℕ) (i c : ℕ) : Type 0 where
  pub is : i ≤ common (fold a) q → c ≡ common (fold a) q

-- o tells how a, folded, stands to q, if c bytes at the beginning are the same, and no more
pub record OrderPast (a q : List ℕ) (c : ℕ) (o : Ordering) : Type 0 where
  pub is : c ≡ common (fold a) q → o ≡ order (fold a) q

-- both are told: the order by o and the bytes at the beginning that are the same by c, if the first i are
pub record Compared (a q : List ℕ) (i : ℕ) (o : Ordering) (c : ℕ) : Type 0 where
  pub shared : Shared a q i c
  pub past : OrderPast a q c o
