-- Folding, and what is compared by it.
-- Assumes nothing.
use Rattle.std.specs.Prelude.{ℕ, ◌+◌, ◌-◌, Bool, ◌&&◌, cond, List, [], ◌∷◌, ◌++◌, map, leb, ltb, length, drop}
use Prim.Native.Char.{code}
use Rattle.chars.specs.Bytes.{slash, within}
use Rattle.chars.specs.Lists.{same, begins}
use Rattle.std.specs.declared.cmp.Ordering.{Ordering}
use Rattle.std.specs.declared.cmp.Ordering.TheVariants.{Less, Equal, Greater}

-- "Folding maps A–Z to a–z and nothing else."
unfoldable pub lower : ℕ → ℕ
lower b = cond (within (code "A") (code "Z") b) (b + 32) b

abbrev pub fold : List ℕ → List ℕ
fold s = map lower s

-- "Two names are equivalent if their foldings are equal."
unfoldable pub equivalent : List ℕ → List ℕ → Bool
equivalent a b = same (fold a) (fold b)

-- "A is derivable from B if A's folding is B's, then a slash, then more."
unfoldable pub derivable : List ℕ → List ℕ → Bool
derivable a b = begins (fold b ++ slash ∷ []) (fold a) && ltb (length b + 1) (length a)

-- "byte by byte; a proper prefix comes first"
unfoldable pub order : List ℕ → List ℕ → Ordering
order [] [] = Equal
order [] (y ∷ t) = Less
order (x ∷ s) [] = Greater
order (x ∷ s) (y ∷ t) = cond (ltb x y) Less (cond (ltb y x) Greater (order s t))

-- "Folded order compares foldings"
unfoldable pub folded_order : List ℕ → List ℕ → Ordering
folded_order a b = order (fold a) (fold b)

-- s ends in e, folded
unfoldable pub ends_in : List ℕ → List ℕ → Bool
ends_in e s = leb (length e) (length s) && equivalent (drop (length s - length e) s) e
