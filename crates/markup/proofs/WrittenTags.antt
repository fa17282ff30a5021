-- Names, attributes and start tags as our writer spells them (a space before each attribute, its value in `"`, no other blanks), read again.
-- Assumes nothing.
use Prim.Native.Nat.{ℕ, zero, suc, ◌+◌, ◌≤◌}
use mathlib.Core.Path.{◌≡◌, refl, sym, ap, ◌∙◌}
use mathlib.Core.Bool.{Bool, true, false, not, ◌||◌, false≢true}
use mathlib.Core.List.{List, [], ◌∷◌, ◌++◌, map}
use native.Mathlib.Numerals.{add-one}
use native.Mathlib.Omega.{arith}
use lib.Dec.{eqb}
use lib.ListN.{length, get_or, drop, length-append}
use lib.Seq.{take-append_seam, drop-append_seam}
use borrow.Author.Tests.{eqb-true, ne_eqb}
use Rattle.base.proofs.Bools.{and_left, and_right}
use Rattle.chars.specs.Bytes.{ascii, colon, one_of, letter, digit, member}
use Rattle.chars.specs.Lists.{every, first_passing, index_of, lacks, same, begins}
use Rattle.chars.specs.declared.search.Alphabet.TheVariants.{Id}
use Rattle.chars.proofs.FirstBytes.{first_not_append}
use Rattle.chars.proofs.Searches.{index_append}
use Rattle.markup.specs.Marks.{blank, after_blanks, name_first, id_at, parted, name_at, after_name, quotable, unquoted}
use Rattle.markup.specs.Tags.{Attribute, Has, HasNot, valued, attribute_at, next_attribute, attributes_at, after_attributes}
use Rattle.markup.specs.Tags.{distinct, begun, closing, start_tag}

-- NAMES without a prefix
pub record Plain (name : List ℕ) : Type 0 where
  pub begins : name_first (get_or name 0 0) ≡ true
  pub bytes : every (member Id) name ≡ true

-- no byte of the class p is one of xs
one_of_none : (p : ℕ → Bool) (xs : List ℕ) (b : ℕ) → every (λ (x : ℕ). not (p x)) xs ≡ true → p b ≡ true → one_of xs b ≡ false
unfolding every
one_of_none p [] b e h = refl
one_of_none p (x ∷ xs) b e h = go (eqb b x) refl (one_of_none p xs b (and_right (not (p x)) (every (λ (y : ℕ). not (p y)) xs) e) h)
  where
    go : (q : Bool) → eqb b x ≡ q → one_of xs b ≡ false → (q || one_of xs b) ≡ false
    go true f ih = absurd (false≢true (ap not (sym h) ∙ ap (λ (y : ℕ). not (p y)) (eqb-true b x f) ∙ and_left (not (p x)) (every (λ (y : ℕ). not (p y)) xs) e))
    go false f ih = ih

-- a name's first byte is no blank
unblank : (b : ℕ) → name_first b ≡ true → blank b ≡ false
unfolding every letter
unblank b e = one_of_none name_first (ascii " \t\r\n") b refl e

pub first_some : (name t : List ℕ) → name_first (get_or name 0 0) ≡ true → name_first (get_or (name ++ t) 0 0) ≡ true
unfolding letter
first_some [] t e = absurd (false≢true e)
first_some (x ∷ n) t e = e

-- a name, and behind it a byte that goes on no name
module _ (name t : List ℕ) (p : Plain name) (ends : member Id (get_or t 0 0) ≡ false) where
  id_written : id_at (name ++ t) ≡ name
  unfolding id_at
  id_written =
      rw (first_some name t p.begins, first_not_append (member Id) name t p.bytes (λ l. ends))
      (take-append_seam name t)

  module _ (plain : eqb (get_or t 0 0) colon ≡ false) where
    pub name_written : name_at (name ++ t) ≡ name
    unfolding name_at
    name_written =
        rw (id_written, drop-append_seam name t, plain) (alone name)
      where
        alone : (n : List ℕ) → parted n [] ≡ n
        alone [] = refl
        alone (x ∷ n) = refl

    pub after_written : after_name (name ++ t) ≡ t
    after_written = rw (name_written) (drop-append_seam name t)

-- blanks before it
pub blank_written : (name t : List ℕ) → name_first (get_or name 0 0) ≡ true → after_blanks (32 ∷ (name ++ t)) ≡ name ++ t
unfolding first_passing letter
blank_written [] t e = absurd (false≢true e)
blank_written (x ∷ n) t e = rw (unblank x e)

-- ATTRIBUTES: a name and what stands between the quote marks
pub record Raw : Type 0 where
  pub name : List ℕ
  pub raw : List ℕ

abbrev pub raw : List ℕ → List ℕ → Raw
raw n v = record { name = n; raw = v }

-- with what follows
abbrev pub written : Raw → List ℕ → List ℕ
written a rest = 32 ∷ (a.name ++ (61 ∷ 34 ∷ (a.raw ++ (34 ∷ rest))))

abbrev pub meant : Raw → Attribute
meant a = record { name = a.name; value = unquoted 0 a.raw }

pub record Fine (a : Raw) : Type 0 where
  pub name : Plain a.name
  pub unmarked : every (λ (x : ℕ). not (eqb x 34)) a.raw ≡ true
  pub quotable : quotable a.raw ≡ true

-- what stands behind the opening quote mark
value_written : (name v rest : List ℕ) → every (λ (x : ℕ). not (eqb x 34)) v ≡ true → quotable v ≡ true →
    valued name 34 (v ++ (34 ∷ rest)) ≡ Has (record { name = name; value = unquoted 0 v }) rest
unfolding lacks
value_written name v rest e q =
    let i : index_of 34 (v ++ (34 ∷ rest)) ≡ length v = index_append 34 v rest e in
    let l : length (v ++ (34 ∷ rest)) ≡ length v + suc (length rest) = length-append v (34 ∷ rest) in
    let n : eqb (length v) (length (v ++ (34 ∷ rest))) ≡ false = ne_eqb (length v) (length (v ++ (34 ∷ rest))) (λ z. omega arith) in
    let d : drop (length v + 1) (v ++ (34 ∷ rest)) ≡ rest = past v in
    rw (i, take-append_seam v (34 ∷ rest), n, d, q)
  where
    past : (u : List ℕ) → drop (length u + 1) (u ++ (34 ∷ rest)) ≡ rest
    past u = rw (add-one) (step u)
      where
        step : (w : List ℕ) → drop (suc (length w)) (w ++ (34 ∷ rest)) ≡ rest
        step [] = refl
        step (x ∷ w) = step w

pub attribute_written : (a : Raw) (rest : List ℕ) → Fine a → next_attribute (written a rest) ≡ Has (meant a) rest
unfolding next_attribute attribute_at first_passing begins same member letter digit
attribute_written a rest f =
    let t : List ℕ = 61 ∷ 34 ∷ (a.raw ++ (34 ∷ rest)) in
    rw (
      blank_written a.name t f.name.begins,
      first_some a.name t f.name.begins,
      after_written a.name t f.name refl refl,
      name_written a.name t f.name refl refl,
    )
    (value_written a.name a.raw rest f.unmarked f.quotable)

-- several, one after the other
unfoldable pub written_all : List Raw → List ℕ → List ℕ
written_all [] rest = rest
written_all (a ∷ xs) rest = written a (written_all xs rest)

abbrev pub AllFine : List Raw → Type 0
AllFine [] = Unit {0}
AllFine (a ∷ xs) = Fine a × AllFine xs

written_long : (xs : List Raw) (rest : List ℕ) → length xs ≤ length (written_all xs rest)
unfolding written_all
written_long [] rest = omega arith
written_long (a ∷ xs) rest =
    let t : List ℕ = a.raw ++ (34 ∷ written_all xs rest) in
    omega (arith, written_long xs rest, length-append a.name (61 ∷ 34 ∷ t), length-append a.raw (34 ∷ written_all xs rest))

module _ (rest : List ℕ) (none : next_attribute rest ≡ HasNot) where
  attributes_written : (xs : List Raw) → AllFine xs → (k : ℕ) → length xs ≤ k → attributes_at k (written_all xs rest) ≡ map meant xs
  unfolding written_all attributes_at
  attributes_written [] f zero h = refl
  attributes_written [] f (suc k) h = rw none
  attributes_written (a ∷ xs) f zero h = absurd (omega arith)
  attributes_written (a ∷ xs) f (suc k) h =
      rw (attribute_written a (written_all xs rest) f.0) (ap (λ (l : List Attribute). meant a ∷ l) (attributes_written xs f.1 k (omega arith)))

  behind_written : (xs : List Raw) → AllFine xs → (k : ℕ) → length xs ≤ k → after_attributes k (written_all xs rest) ≡ rest
  unfolding written_all after_attributes
  behind_written [] f zero h = refl
  behind_written [] f (suc k) h = rw none
  behind_written (a ∷ xs) f zero h = absurd (omega arith)
  behind_written (a ∷ xs) f (suc k) h = rw (attribute_written a (written_all xs rest) f.0) (behind_written xs f.1 k (omega arith))

-- START TAGS, from behind their `<` on: a name, at least one attribute, and the end of the tag
module _ (name : List ℕ) (plain : Plain name) (a : Raw) (xs : List Raw) (fine : AllFine (a ∷ xs)) (apart : distinct (map meant (a ∷ xs)) ≡ true) where
  pub tag_name : (rest : List ℕ) → name_at (name ++ written_all (a ∷ xs) rest) ≡ name
  unfolding written_all member letter digit
  tag_name rest = name_written name (written_all (a ∷ xs) rest) plain refl refl

  tag_written : (rest : List ℕ) → next_attribute rest ≡ HasNot →
      start_tag (name ++ written_all (a ∷ xs) rest) ≡ closing name (map meant (a ∷ xs)) (after_blanks rest)
  unfolding start_tag
  tag_written rest none =
      let s : List ℕ = written_all (a ∷ xs) rest in
      let h : length (a ∷ xs) ≤ length s = written_long (a ∷ xs) rest in
      rw (
        first_some name s plain.begins,
        behind_name rest,
        tag_name rest,
        attributes_written rest none (a ∷ xs) fine (length s) h,
        behind_written rest none (a ∷ xs) fine (length s) h,
        apart,
      )
    where
      behind_name : (rest : List ℕ) → after_name (name ++ written_all (a ∷ xs) rest) ≡ written_all (a ∷ xs) rest
      behind_name rest = rw (tag_name rest) (drop-append_seam name (written_all (a ∷ xs) rest))

  pub empty_written : (rest : List ℕ) → start_tag (name ++ written_all (a ∷ xs) (47 ∷ 62 ∷ rest)) ≡ begun name (map meant (a ∷ xs)) true rest
  unfolding next_attribute first_passing begins same
  empty_written rest = tag_written (47 ∷ 62 ∷ rest) refl

  pub open_written : (rest : List ℕ) → start_tag (name ++ written_all (a ∷ xs) (62 ∷ rest)) ≡ begun name (map meant (a ∷ xs)) false rest
  unfolding next_attribute first_passing begins same
  open_written rest = tag_written (62 ∷ rest) refl
