-- Where a name ends.
-- Assumes nothing.
use Prim.Native.Nat.{ℕ, ◌+◌, ◌≤◌, ◌<◌}
use native.Mathlib.Omega.{arith}
use mathlib.Core.Path.{◌≡◌, refl, sym, ap, ◌∙◌}
use mathlib.Core.Bool.{Bool, true, false, not, ◌||◌, cond, false≢true}
use mathlib.Core.List.{List, [], ◌∷◌, ◌++◌}
use lib.Dec.{eqb}
use lib.ListN.{length, get_or, drop, length-append}
use lib.Seq.{length-take-le, drop-drop}
use borrow.Author.Tests.{eqb-true, eqb-false, not-false}
use Rattle.base.proofs.Bools.{or_false_left, or_false_right}
use Rattle.base.proofs.Lists.{get_or_rest}
use Rattle.chars.specs.Bytes.{colon, member}
use Rattle.chars.specs.Lists.{first_not}
use Rattle.chars.specs.declared.search.Alphabet.TheVariants.{Id}
use Rattle.chars.proofs.Searches.{first_le}
use Rattle.markup.specs.Marks.{name_first, id_at, after_colon, parted, name_at}
use Rattle.markup.proofs.Rests.{byte_within}

-- WITHOUT A PREFIX
id_some : (l : List ℕ) → name_first (get_or l 0 0) ≡ true → length (id_at l) ≡ first_not (member Id) l
unfolding id_at
id_some l e = rw e (length-take-le (first_not (member Id) l) l (first_le (λ (x : ℕ). not (member Id x)) l))

id_none : (l : List ℕ) → name_first (get_or l 0 0) ≡ false → length (id_at l) ≡ 0
unfolding id_at
id_none l e = rw e

-- x is the byte at `at`, b tells whether a name may begin with it
module _ (s : List ℕ) (at x : ℕ) (b : Bool) (read : x ≡ get_or s at 0) (e : b ≡ name_first x) where
  first_is : name_first (get_or (drop at s) 0 0) ≡ b
  first_is = ap name_first (get_or_rest at s ∙ sym read) ∙ sym e

  pub id_on : (r : ℕ) → b ≡ true → r ≡ at + first_not (member Id) (drop at s) → r ≡ at + length (id_at (drop at s))
  id_on r q f = f ∙ ap (λ (n : ℕ). at + n) (sym (id_some (drop at s) (first_is ∙ q)))

  pub id_off : b ≡ false → at ≡ at + length (id_at (drop at s))
  id_off q = omega (arith, id_none (drop at s) (first_is ∙ q))

-- WITH ONE
parted_none : (p n : List ℕ) → length n ≡ 0 → length (parted p n) ≡ length p
parted_none [] n e = refl
parted_none (x ∷ p) [] e = refl
parted_none (x ∷ p) (y ∷ n) e = absurd (omega arith)

parted_nothing : (p n : List ℕ) → length p ≡ 0 → length (parted p n) ≡ length p
parted_nothing [] n e = refl
parted_nothing (x ∷ p) n e = absurd (omega arith)

parted_some : (p n : List ℕ) → (length p ≡ 0 → ⊥) → (length n ≡ 0 → ⊥) → length (parted p n) ≡ length p + 1 + length n
parted_some [] n f g = absurd (f refl)
parted_some (x ∷ p) [] f g = absurd (g refl)
parted_some (x ∷ p) (y ∷ n) f g =
    let l : length ((x ∷ p) ++ (colon ∷ y ∷ n)) ≡ length (x ∷ p) + length (colon ∷ y ∷ n) = length-append (x ∷ p) (colon ∷ y ∷ n) in
    l ∙ omega arith

-- the name without a prefix ends at e, x being the byte there
module _ (s : List ℕ) (at e x : ℕ) (here : e ≡ at + length (id_at (drop at s))) (read : x ≡ get_or s e 0) where
  first : List ℕ
  first = id_at (drop at s)

  second : List ℕ
  second = after_colon (drop e s)

  name_length : length (name_at (drop at s)) ≡ length (parted first second)
  unfolding name_at first second
  name_length =
      let rest : drop (length (id_at (drop at s))) (drop at s) ≡ drop e s = drop-drop (length (id_at (drop at s))) at s ∙ ap (λ (k : ℕ). drop k s) (sym here) in
      ap (λ (l : List ℕ). length (parted (id_at (drop at s)) (after_colon l))) rest

  -- what stands behind the colon, if one stands there
  second_is : (q : Bool) → eqb x 58 ≡ q → second ≡ cond q (id_at (drop (e + 1) s)) []
  unfolding second
  second_is q f = rw (get_or_rest e s ∙ sym read, f, drop-drop 1 e s)

  alone : length first ≡ 0 → e ≡ at + length (name_at (drop at s))
  unfolding first
  alone z = omega (arith, name_length, parted_nothing first second z)

  no_second : length second ≡ 0 → e ≡ at + length (name_at (drop at s))
  unfolding first
  no_second z = omega (arith, name_length, parted_none first second z)

  both : (length first ≡ 0 → ⊥) → (length second ≡ 0 → ⊥) → e + 1 + length second ≡ at + length (name_at (drop at s))
  unfolding first
  both f g = omega (arith, name_length, parted_some first second f g)

  -- no colon follows it, or there is none
  pub name_alone : (eqb e at || not (eqb x 58)) ≡ true → e ≡ at + length (name_at (drop at s))
  unfolding first
  name_alone t = go (eqb e at) refl (eqb x 58) refl t
    where
      go : (p : Bool) → eqb e at ≡ p → (q : Bool) → eqb x 58 ≡ q → (p || not q) ≡ true → e ≡ at + length (name_at (drop at s))
      go true f q g u = alone (omega (arith, eqb-true e at f, here))
      go false f true g u = absurd (false≢true u)
      go false f false g u = no_second (ap length (second_is false g))

  -- one does
  module _ (t : (eqb e at || not (eqb x 58)) ≡ false) where
    colon_is : eqb x 58 ≡ true
    colon_is = not-false (eqb x 58) (or_false_right (eqb e at) (not (eqb x 58)) t)

    pub colon_within : e + 1 ≤ length s
    colon_within =
        let y : x ≡ 58 = eqb-true x 58 colon_is in
        let l : e < length s = byte_within s e (λ z. omega (arith, read)) in
        omega arith

    module _ (n : ℕ) (there : n ≡ e + 1 + length (id_at (drop (e + 1) s))) where
      pub name_first_lem : n ≡ e + 1 → e ≡ at + length (name_at (drop at s))
      name_first_lem f = no_second (ap length (second_is true colon_is) ∙ omega arith)

      pub name_both : (n ≡ e + 1 → ⊥) → n ≡ at + length (name_at (drop at s))
      unfolding first
      name_both f =
          let l : length second ≡ length (id_at (drop (e + 1) s)) = ap length (second_is true colon_is) in
          let g : e ≡ at → ⊥ = eqb-false e at (or_false_left (eqb e at) (not (eqb x 58)) t) in
          let h : length first ≡ 0 → ⊥ = λ z. g (omega (arith, here, z)) in
          omega (arith, both h (λ z. f (omega (arith, there, l, z))))
