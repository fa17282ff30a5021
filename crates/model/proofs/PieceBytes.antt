-- The pieces of a part that is cut, by number: how many there are, where each begins in the content and what it holds, and what they charge.
-- Assumes nothing.
use Prim.Native.Nat.{ℕ, zero, suc, ◌+◌, ◌-◌, ◌*◌, ◌/◌, ◌%◌, ◌≤◌, ◌<◌, min}
use mathlib.Core.Path.{◌≡◌, refl, sym, ap, ap₂, subst, ◌∙◌}
use mathlib.Core.Bool.{Bool, true, false, cond}
use mathlib.Core.List.{List, [], ◌∷◌, ◌++◌, flat_map}
use native.Mathlib.Omega.{arith}
use native.Mathlib.Nat.{mod-lt, div-add-mod}
use native.Mathlib.Numerals.{add-one}
use lib.Dec.{eqb, ltb}
use lib.ListN.{length, take, drop, get_or, length-append, length-drop, take-append-drop, drop_of_length-le}
use lib.Seq.{take-add, take-take, take-length, drop-drop, length-take-le, drop_at, get_or-drop}
use borrow.Author.Tests.{eq-eqb, ne_eqb, ltb-true, ltb-false}
use Rattle.names.specs.Items.{spelled}
use Rattle.names.specs.declared.items.Suffix.TheVariants.{Piece}
use Rattle.model.specs.Sets.{Bytes, sum_of}
use Rattle.model.specs.Package.{Item, no_item, item_charge, content, spelling}
use Rattle.model.specs.Cutting.{piece_size, pieces_from, quotient, rest, pieces, suffix_sum}

-- WHERE A PIECE BEGINS: behind k pieces, of which as many as there are below r hold one byte more
module _ (q r : ℕ) where
  abbrev pub start : ℕ → ℕ
  start k = k * q + min k r

  pub start_zero : start 0 ≡ 0
  start_zero = omega arith

  pub start_suc : (k : ℕ) → start (suc k) ≡ start k + piece_size q r k
  start_suc k = go (ltb k r) refl
    where
      go : (b : Bool) → ltb k r ≡ b → start (suc k) ≡ start k + cond b (suc q) q
      go true e = let l : k < r = ltb-true k r e in omega arith
      go false e = let l : r ≤ k = ltb-false k r e in omega arith

  -- behind some more pieces, further on
  pub start_le : (k j : ℕ) → start k ≤ start (k + j)
  start_le k j = omega arith

-- the pieces take up the whole
pub start_all : (L n : ℕ) → 0 < n → start (L / n) (L % n) n ≡ L
start_all L n l = omega (arith, mod-lt L l, div-add-mod L n)

-- the final piece is the one behind which none is left
last_mark : (m k n : ℕ) → k + suc m ≡ n → eqb m 0 ≡ eqb (suc k) n
last_mark zero k n e = sym (eq-eqb (suc k) n (omega arith))
last_mark (suc m) k n e = ne_eqb (suc m) 0 (λ z. omega arith) ∙ sym (ne_eqb (suc k) n (λ z. omega arith))

-- PIECES ONE BEHIND THE OTHER
module _ (p bytes : Bytes) (q r n : ℕ) where
  -- without the first k of them: the pieces from the number k on, of the bytes from there on
  pieces_from_lem : (m k : ℕ) → k + m ≡ n → drop k (pieces_from n p q r 0 bytes) ≡ pieces_from m p q r k (drop (start q r k) bytes)
  unfolding pieces_from
  pieces_from_lem m zero e = ap₂ (λ (j : ℕ) (a : ℕ). pieces_from j p q r 0 (drop a bytes)) n_m (sym (start_zero q r))
    where
      n_m : n ≡ m
      n_m = omega arith
  pieces_from_lem m (suc k) e =
      let l = pieces_from n p q r 0 bytes in
      ap (λ (j : ℕ). drop j l) (sym (add-one k))
      ∙ sym (drop-drop 1 k l)
      ∙ ap (drop 1) (pieces_from_lem (suc m) k (omega arith))
      ∙ ap (pieces_from m p q r (suc k)) (drop-drop (piece_size q r k) (start q r k) bytes ∙ ap (λ (a : ℕ). drop a bytes) (sym (start_suc q r k)))

  -- what they hold, where the bytes end with them
  content_from : length bytes ≤ start q r n → (m k : ℕ) → k + m ≡ n →
      content (pieces_from m p q r k (drop (start q r k) bytes)) ≡ drop (start q r k) bytes
  unfolding pieces_from content flat_map
  content_from l zero k e = sym (drop_of_length-le bytes (subst (λ (j : ℕ). length bytes ≤ start q r j) n_k l))
    where
      n_k : n ≡ k
      n_k = omega arith
  content_from l (suc m) k e =
      let s = drop (start q r k) bytes in
      ap (λ (t : Bytes). take (piece_size q r k) s ++ t)
      (ap (λ (t : Bytes). content (pieces_from m p q r (suc k) t)) on ∙ content_from l m (suc k) (omega arith) ∙ sym on)
      ∙ take-append-drop (piece_size q r k) s
    where
      on : drop (piece_size q r k) (drop (start q r k) bytes) ≡ drop (start q r (suc k)) bytes
      on = drop-drop (piece_size q r k) (start q r k) bytes ∙ ap (λ (a : ℕ). drop a bytes) (sym (start_suc q r k))

length_pieces_from : (m : ℕ) (p : Bytes) (q r k : ℕ) (bytes : Bytes) → length (pieces_from m p q r k bytes) ≡ m
unfolding pieces_from
length_pieces_from zero p q r k bytes = refl
length_pieces_from (suc m) p q r k bytes = ap suc (length_pieces_from m p q r (suc k) (drop (piece_size q r k) bytes))

-- WHAT THEY CHARGE
charge_from : (p : Bytes) (q r n m k : ℕ) (bytes : Bytes) → k + m ≡ n →
    sum_of item_charge (pieces_from m p q r k bytes) + suffix_sum n k ≡ m * length p + suffix_sum n n + length (content (pieces_from m p q r k bytes))
unfolding pieces_from sum_of content flat_map suffix_sum
charge_from p q r n zero k bytes e = let f : k ≡ n = omega arith in omega (arith, ap (suffix_sum n) f)
charge_from p q r n (suc m) k bytes e =
    let more = drop (piece_size q r k) bytes in
    omega (
      arith,
      length-append p (spelled [] (Piece k (eqb m 0))),
      ap (λ (b : Bool). length (spelled [] (Piece k b))) (last_mark m k n e),
      length-append (take (piece_size q r k) bytes) (content (pieces_from m p q r (suc k) more)),
      charge_from p q r n m (suc k) more (omega arith),
    )

-- THE PIECES OF A PART
module _ (g : List Item) (n : ℕ) where
  -- where the piece k begins in the content
  abbrev pub start_of : ℕ → ℕ
  start_of k = start (quotient g n) (rest g n) k

  abbrev pub size_of : ℕ → ℕ
  size_of k = piece_size (quotient g n) (rest g n) k

  -- the piece k
  abbrev pub piece_at : ℕ → Item
  piece_at k = record { name = spelled (spelling g) (Piece k (eqb (suc k) n)); bytes = take (size_of k) (drop (start_of k) (content g)) }

  pub length_pieces : length (pieces g n) ≡ n
  unfolding pieces
  length_pieces = length_pieces_from n (spelling g) (quotient g n) (rest g n) 0 (content g)

  -- one behind the other
  pub pieces_next : (k : ℕ) → k < n → drop k (pieces g n) ≡ piece_at k ∷ drop (suc k) (pieces g n)
  unfolding pieces pieces_from
  pieces_next k l =
      let m = n - suc k in
      let e : k + suc m ≡ n = omega arith in
      let s = drop (start_of k) (content g) in
      let f = pieces_from_lem (spelling g) (content g) (quotient g n) (rest g n) n (suc m) k e in
      f ∙ ap₂ (λ (b : Bool) (more : List Item). record { name = spelled (spelling g) (Piece k b); bytes = take (size_of k) s } ∷ more) (last_mark m k n e)
      (ap (drop 1) (sym f) ∙ drop-drop 1 k (pieces g n) ∙ ap (λ (j : ℕ). drop j (pieces g n)) (add-one k))

  pub pieces_end : drop n (pieces g n) ≡ []
  pieces_end = let l : length (pieces g n) ≤ n = omega (arith, length_pieces) in drop_of_length-le (pieces g n) l

  pub piece_at_lem : (k : ℕ) → k < n → get_or (pieces g n) k no_item ≡ piece_at k
  piece_at_lem k l =
      let z : k + 0 ≡ k = omega arith in
      ap (λ (j : ℕ). get_or (pieces g n) j no_item) (sym z) ∙ sym (get_or-drop k (pieces g n) 0 no_item)
      ∙ ap (λ (xs : List Item). get_or xs 0 no_item) (pieces_next k l)

  -- where there is a piece at all
  module _ (some : 0 < n) where
    pub start_end : start_of n ≡ length (content g)
    start_end = start_all (length (content g)) n some

    pub start_inside : (k : ℕ) → k ≤ n → start_of k ≤ length (content g)
    start_inside k l =
        let e : k + (n - k) ≡ n = omega arith in
        omega (arith, start_le (quotient g n) (rest g n) k (n - k), ap start_of e, start_end)

    -- the pieces from k on hold what follows the first k
    pub pieces_content_from : (k : ℕ) → k ≤ n → content (drop k (pieces g n)) ≡ drop (start_of k) (content g)
    unfolding pieces
    pieces_content_from k l =
        let e : k + (n - k) ≡ n = omega arith in
        let p = spelling g in
        let q = quotient g n in
        let r = rest g n in
        ap content (pieces_from_lem p (content g) q r n (n - k) k e)
        ∙ content_from p (content g) q r n (omega (arith, start_end)) (n - k) k e

    pub pieces_content : content (pieces g n) ≡ content g
    pieces_content = pieces_content_from 0 (omega arith) ∙ ap (λ (a : ℕ). drop a (content g)) (start_zero (quotient g n) (rest g n))

    pub pieces_split : (k : ℕ) → k ≤ n → content g ≡ take (start_of k) (content g) ++ content (drop k (pieces g n))
    pieces_split k l =
        sym (ap (λ (s : Bytes). take (start_of k) (content g) ++ s) (pieces_content_from k l) ∙ take-append-drop (start_of k) (content g))

    pub pieces_charge : sum_of item_charge (pieces g n) ≡ n * length (spelling g) + suffix_sum n n + length (content g)
    unfolding pieces suffix_sum
    pieces_charge = omega (
      arith,
      charge_from (spelling g) (quotient g n) (rest g n) n n 0 (content g) (omega arith),
      ap length pieces_content,
    )

  -- FROM THE LAST TO THE FIRST. Split off the end of the content, the pieces from k on leave what stands before the place where k begins
  pub take_none : take (start_of 0) (content g) ≡ []
  take_none = ap (λ (a : ℕ). take a (content g)) (start_zero (quotient g n) (rest g n))

  pub take_whole : 0 < n → take (start_of n) (content g) ≡ content g
  take_whole some = ap (λ (a : ℕ). take a (content g)) (start_end some) ∙ take-length (content g)

  pub start_next : (k : ℕ) → start_of (suc k) ≡ start_of k + size_of k
  start_next k = start_suc (quotient g n) (rest g n) k

  pub take_next : (k : ℕ) → take (start_of (suc k)) (content g) ≡ take (start_of k) (content g) ++ (piece_at k).bytes
  take_next k = ap (λ (a : ℕ). take a (content g)) (start_next k) ∙ take-add (start_of k) (size_of k) (content g)

  pub take_before : (k : ℕ) → take (start_of k) (take (start_of (suc k)) (content g)) ≡ take (start_of k) (content g)
  take_before k = take-take (start_of k) (start_of (suc k)) (content g) (omega (arith, start_next k))

  module _ (k : ℕ) (l : k < n) where
    pub drop_next : drop (start_of k) (take (start_of (suc k)) (content g)) ≡ (piece_at k).bytes
    drop_next =
        ap (drop (start_of k)) (take_next k)
        ∙ drop_at (take (start_of k) (content g)) (piece_at k).bytes (start_of k)
        (length-take-le (start_of k) (content g) (start_inside (omega arith) k (omega arith)))

    pub piece_size_lem : length (piece_at k).bytes ≡ size_of k
    piece_size_lem =
        length-take-le (size_of k) (drop (start_of k) (content g))
        (omega (arith, length-drop (start_of k) (content g), start_next k, start_inside (omega arith) (suc k) (omega arith)))
