-- A set of the package: the list of its entries in the order of their keys, each key once. So equal sets are equal lists.
-- Assumes nothing.
use Rattle.std.specs.Prelude.{ℕ, ◌+◌, ◌≡◌, ◌⊎◌, Bool, true, false, ◌||◌, cond, List, [], ◌∷◌}
use Rattle.std.proofs.Math.Option.{Option, none, some}
use Rattle.chars.specs.Folding.{order}
use Rattle.std.specs.declared.cmp.Ordering.{Ordering}
use Rattle.std.specs.declared.cmp.Ordering.TheVariants.{Less, Equal, Greater}

abbrev pub Bytes : Type 0
Bytes = List ℕ

-- KEYS. A key is a text, and a second one that decides where the first texts are equal
abbrev pub Key : Type 0
Key = Bytes × Bytes

unfoldable pub then_by : Ordering → Ordering → Ordering
then_by Less o = Less
then_by Equal o = o
then_by Greater o = Greater

-- "byte by byte; a proper prefix comes first" (a text of a key is already folded where document 01 folds it)
unfoldable pub key_order : Key → Key → Ordering
key_order a b = then_by (order a.0 b.0) (order a.1 b.1)

abbrev pub is_less : Ordering → Bool
is_less Less = true
is_less Equal = false
is_less Greater = false

abbrev pub is_equal : Ordering → Bool
is_equal Less = false
is_equal Equal = true
is_equal Greater = false

abbrev pub before : Key → Key → Bool
before a b = is_less (key_order a b)

abbrev pub same_key : Key → Key → Bool
same_key a b = is_equal (key_order a b)

module _ {E : Type 0} where
  -- LISTS OF ENTRIES
  abbrev pub held : Option E → Bool
  held none = false
  held (some e) = true

  -- some entry passes
  unfoldable pub any : (E → Bool) → List E → Bool
  any p [] = false
  any p (x ∷ xs) = p x || any p xs

  -- the entries that pass, in their order
  unfoldable pub filter : (E → Bool) → List E → List E
  filter p [] = []
  filter p (x ∷ xs) = cond (p x) (x ∷ filter p xs) (filter p xs)

  unfoldable pub sum_of : (E → ℕ) → List E → ℕ
  sum_of f [] = 0
  sum_of f (x ∷ xs) = f x + sum_of f xs

  -- SETS. The entry that has the key
  unfoldable pub lookup : (E → Key) → Key → List E → Option E
  lookup key k [] = none
  lookup key k (x ∷ xs) = cond (same_key k (key x)) (some x) (lookup key k xs)

  -- with the entry e, put in before the first entry of a greater key
  unfoldable pub insert : (E → Key) → E → List E → List E
  insert key e [] = e ∷ []
  insert key e (x ∷ xs) = cond (before (key e) (key x)) (e ∷ x ∷ xs) (x ∷ insert key e xs)

  -- without the entry that has the key
  unfoldable pub remove : (E → Key) → Key → List E → List E
  remove key k [] = []
  remove key k (x ∷ xs) = cond (same_key k (key x)) xs (x ∷ remove key k xs)

  -- STATEMENTS. Of every entry
  abbrev pub Each : (E → Type 0) → List E → Type 0
  Each P [] = Unit {0}
  Each P (x ∷ xs) = P x × Each P xs

  -- the entry is one of these
  abbrev pub OneOf : E → List E → Type 0
  OneOf e [] = ⊥
  OneOf e (x ∷ xs) = (e ≡ x) ⊎ OneOf e xs

  -- of every two entries, the earlier one first
  abbrev pub AllPairs : (E → E → Type 0) → List E → Type 0
  AllPairs R [] = Unit {0}
  AllPairs R (x ∷ xs) = Each (R x) xs × AllPairs R xs

  -- strictly in the order of the keys: so no key stands there twice
  abbrev pub Sorted : (E → Key) → List E → Type 0
  Sorted key xs = AllPairs (λ (x y : E). before (key x) (key y) ≡ true) xs
