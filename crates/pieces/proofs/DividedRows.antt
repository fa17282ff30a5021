-- The rows of a package while a whole item is split into pieces, from the last to the first.
-- Assumes nothing.
use mathlib.Core.Path.{◌≡◌, refl, sym, ap, ap₂, subst, ◌∙◌}
use mathlib.Core.Bool.{Bool, true}
use Prim.Native.Nat.{ℕ, zero, suc, ◌+◌, ◌-◌, ◌≤◌, ◌<◌}
use mathlib.Core.List.{List, [], ◌∷◌, ◌++◌, map}
use native.Mathlib.Omega.{arith}
use native.Mathlib.Numerals.{add-one}
use lib.Dec.{eqb}
use lib.ListN.{length, get_or, take, drop, length-append, length-drop, length-map, drop_of_length-le, take-append-drop}
use lib.Seq.{length-take-le, drop_at, drop-cons}
use Rattle.names.proofs.Lengths.{name_some}
use Rattle.names.specs.Names.{part_name}
use Rattle.names.specs.Items.{spelled}
use Rattle.names.specs.declared.items.Suffix.TheVariants.{Piece}
use Rattle.model.specs.Sets.{Bytes}
use Rattle.model.specs.Package.{Item, State, no_item, group, is_part, content, spelling}
use Rattle.model.specs.Cutting.{is_whole, quotient, rest, pieces, cut_made, cut_refusal}
use Rattle.model.specs.Good.{Good}
use Rattle.model.proofs.Wholes.{OneWhole, part_some, whole_part}
use Rattle.model.proofs.Pieces.{own_prefix, own_suffix, piece_prefix, piece_suffix}
use Rattle.model.proofs.Cutting.{group_named, cut_good}
use Rattle.model.proofs.CutRefusals.{cut_part, cut_whole, cut_low, cut_high, cut_within}
use Rattle.model.proofs.CutRuns.{cut_run}
use Rattle.model.proofs.PieceBytes.{start_zero, start_of, size_of, piece_at, length_pieces, pieces_next, pieces_end, start_next, start_inside, take_before, take_whole, drop_next, piece_size_lem, take_next, take_none}
use Rattle.store.specs.Layout.{slot_count}
use Rattle.store.specs.Rows.{Row, make_row, with_bytes, respelled, row_size, total}
use Rattle.contract.specs.Rows.{item_row, other_rows, rows_for}
use Rattle.contract.proofs.RowCharges.{total_append, total_rows}
use Rattle.contract.proofs.RowKinds.{length_rows}
use Rattle.pieces.specs.Suffixes.{suffix_text, tag_of_piece}
use Rattle.pieces.specs.Cuts.{WholeAt}
use Rattle.pieces.proofs.PackageRows.{rows_around}

-- the row of a piece, and of a whole item
pub piece_row : (p : Bytes) → part_name p ≡ true → (k : ℕ) (l : Bool) → k ≤ 9999 → (s : Bytes) → item_row (record { name = spelled p (Piece k l); bytes = s })
    ≡ make_row (tag_of_piece k l) p (suffix_text k l) s []
unfolding item_row
piece_row p h k l b s = rw (piece_prefix p h k l b, piece_suffix p h k l b, drop_at p (suffix_text k l) (length p) refl) refl

whole_row : (p s : Bytes) → part_name p ≡ true → item_row (record { name = p; bytes = s }) ≡ make_row 0 p [] s []
unfolding item_row
whole_row p s h =
    let e : length p ≤ length p = omega arith in
    rw (own_prefix p h, own_suffix p h, drop_of_length-le p {i = length p} e) refl

-- the rows while the pieces from k on stand behind what is left of the item
module _ (S : State) (name : Bytes) (n r : ℕ) where
  abbrev own : List Item
  own = group name S.items

  abbrev pub before : List Row
  before = map item_row (take r S.items)

  abbrev pub behind : List Row
  behind = map item_row (drop (r + 1) S.items) ++ other_rows S

  abbrev pub left_row : ℕ → Row
  left_row k = make_row 0 (spelling own) [] (take (start_of own n k) (content own)) []

  abbrev pub pieces_behind : ℕ → List Row
  pieces_behind k = map item_row (drop k (pieces own n)) ++ behind

  abbrev pub dividing : ℕ → List Row
  dividing k = before ++ (left_row k ∷ pieces_behind k)

module _ (S : State) (G : Good S) (name : Bytes) (n r : ℕ) (ok : cut_refusal S name n ≡ 0) (at : WholeAt S name r) where
  abbrev g : List Item
  g = group name S.items

  part_ok : is_part g ≡ true
  part_ok = cut_part S name n ok

  whole_ok : is_whole g ≡ true
  whole_ok = cut_whole S name n ok

  low : 0 < n
  low = cut_low S name n ok

  high : n ≤ 256
  high = cut_high S name n ok

  named : part_name (spelling g) ≡ true
  named = group_named S G name (part_some g part_ok)

  pub name_pos : 0 < length (spelling g)
  name_pos = name_some (spelling g) named

  pub length_before : length (before S name n r) ≡ r
  length_before =
      let e : length (take r S.items) ≡ r = length-take-le r S.items (omega (arith, at.0)) in
      length-map (take r S.items) item_row ∙ e

  -- the items around it
  items_around : S.items ≡ take r S.items ++ (get_or S.items r no_item ∷ drop (r + 1) S.items)
  items_around =
      sym (take-append-drop r S.items)
      ∙ ap (λ (l : List Item). take r S.items ++ l) (drop-cons S.items r no_item at.0 ∙ ap (λ (k : ℕ). get_or S.items r no_item ∷ drop k S.items) (sym (add-one r)))

  item_row_lem : item_row (get_or S.items r no_item) ≡ left_row S name n r n
  item_row_lem =
      let w : Item = get_or S.items r no_item in
      let o : OneWhole g w = subst (λ (i : Item). OneWhole g i) (ap (λ (l : List Item). get_or l 0 no_item) at.1) (whole_part g part_ok whole_ok) in
      ap₂ (λ (x y : Bytes). item_row (record { name = x; bytes = y })) (sym o.spelled) (sym o.held) ∙ whole_row (spelling g) (content g) named
      ∙ ap (λ (s : Bytes). make_row 0 (spelling g) [] s []) (sym (take_whole g n low))

  pub divide_none : rows_for S ≡ dividing S name n r n
  divide_none =
      rows_around S (take r S.items) (get_or S.items r no_item ∷ []) (drop (r + 1) S.items) items_around
      ∙ ap₂ (λ (x : Row) (l : List Item). before S name n r ++ (x ∷ (map item_row l ++ behind S name n r))) item_row_lem (sym (pieces_end g n))

  pub left_length : (k : ℕ) → k ≤ n → length (take (start_of g n k) (content g)) ≡ start_of g n k
  left_length k l = length-take-le (start_of g n k) (content g) (start_inside g n low k l)

  new_row : (k : ℕ) → k < n → item_row (piece_at g n k) ≡ make_row (tag_of_piece k (eqb (suc k) n)) (spelling g) (suffix_text k (eqb (suc k) n)) (piece_at g n k).bytes []
  new_row k l = piece_row (spelling g) named k (eqb (suc k) n) (omega (arith, high)) (piece_at g n k).bytes

  behind_next : (k : ℕ) → k < n → pieces_behind S name n r k ≡ item_row (piece_at g n k) ∷ pieces_behind S name n r (suc k)
  behind_next k l = ap (λ (z : List Item). map item_row z ++ behind S name n r) (pieces_next g n k l)

  -- one piece more is split off
  pub divide_next : (k : ℕ) → k < n →
      let w : Row = left_row S name n r (suc k) in
      before S name n r ++ ((with_bytes w (take (length w.f2 - size_of g n k) w.f2)
      ∷ make_row (tag_of_piece k (eqb (suc k) n)) (spelling g) (suffix_text k (eqb (suc k) n)) (drop (length w.f2 - size_of g n k) w.f2) []
      ∷ []) ++ pieces_behind S name n r (suc k))
      ≡ dividing S name n r k
  divide_next k l =
      let f2 : Bytes = take (start_of g n (suc k)) (content g) in
      let e : length f2 - size_of g n k ≡ start_of g n k = omega (arith, left_length (suc k) l, start_next g n k) in
      let x : take (length f2 - size_of g n k) f2 ≡ take (start_of g n k) (content g) = ap (λ (i : ℕ). take i f2) e ∙ take_before g n k in
      let y : drop (length f2 - size_of g n k) f2 ≡ (piece_at g n k).bytes = ap (λ (i : ℕ). drop i f2) e ∙ drop_next g n k l in
      let t : ℕ = tag_of_piece k (eqb (suc k) n) in
      let s : Bytes = suffix_text k (eqb (suc k) n) in
      ap₂ (λ (a b : Bytes). before S name n r ++ (make_row 0 (spelling g) [] a [] ∷ make_row t (spelling g) s b [] ∷ pieces_behind S name n r (suc k))) x y
      ∙ ap (λ (z : Row). before S name n r ++ (left_row S name n r k ∷ z ∷ pieces_behind S name n r (suc k))) (sym (new_row k l))
      ∙ ap (λ (z : List Row). before S name n r ++ (left_row S name n r k ∷ z)) (sym (behind_next k l))

  -- WHAT THEY TAKE
  total_dividing : (k : ℕ) → k ≤ n → total (dividing S name n r k) ≡ total (before S name n r) + (length (spelling g) + start_of g n k + total (pieces_behind S name n r k))
  unfolding total
  total_dividing k l = omega (arith, total_append (before S name n r) (left_row S name n r k ∷ pieces_behind S name n r k), left_length k l)

  -- a piece adds its names
  pub divide_grows : (k : ℕ) → k < n → total (dividing S name n r (suc k)) + (length (spelling g) + length (suffix_text k (eqb (suc k) n))) ≡ total (dividing S name n r k)
  unfolding total
  divide_grows k l =
      omega (
        arith,
        total_dividing k (omega arith),
        total_dividing (suc k) l,
        ap total (behind_next k l),
        ap row_size (new_row k l),
        piece_size_lem g n k l,
        start_next g n k,
      )

  made_rows : rows_for (cut_made S name n) ≡ before S name n r ++ (item_row (piece_at g n 0) ∷ pieces_behind S name n r 1)
  unfolding other_rows
  made_rows =
      let e : r + 1 - r ≡ 1 = omega arith in
      let is_run : g ≡ take (r + 1 - r) (drop r S.items) = at.1 ∙ sym (ap₂ (λ (k : ℕ) (l : List Item). take k l) e (drop-cons S.items r no_item at.0)) in
      rows_around (cut_made S name n) (take r S.items) (pieces g n) (drop (r + 1) S.items)
      (cut_run S G name r (r + 1) (omega arith) is_run n (omega (arith, at.0)) part_ok whole_ok high)
      ∙ ap (λ (x : List Row). before S name n r ++ x) (behind_next 0 low)

  length_behind : (k : ℕ) → length (pieces_behind S name n r k) + k ≡ length (behind S name n r) + (n - k + k)
  length_behind k =
      let d : List Item = drop k (pieces g n) in
      omega (arith, length-append (map item_row d) (behind S name n r), length-map d item_row, length-drop k (pieces g n), length_pieces g n)

  -- there are slots for them
  pub divide_few : (k : ℕ) → 1 < k → k ≤ n → length (dividing S name n r k) < slot_count
  divide_few k lo hi =
      let b : List Row = before S name n r in
      let T : State = cut_made S name n in
      let G2 : Good T = cut_good S name n G ok in
      omega (
        arith,
        length-append b (left_row S name n r k ∷ pieces_behind S name n r k),
        length-append b (item_row (piece_at g n 0) ∷ pieces_behind S name n r 1),
        length_behind k,
        length_behind 1,
        ap length made_rows,
        length_rows T,
        G2.items.few,
        G2.defaults.few,
        G2.overrides.few,
        G2.relationships.few,
      )

  -- and room: what stands there is never more than the pieces
  pub divide_fits : (k : ℕ) → 0 < k → k ≤ n → total (dividing S name n r k) + length (suffix_text 0 (eqb 1 n)) ≤ S.capacity
  unfolding total
  divide_fits zero lo hi = absurd (omega arith)
  divide_fits (suc zero) lo hi =
      let b : List Row = before S name n r in
      omega (
        arith,
        total_dividing 1 hi,
        start_next g n 0,
        start_zero (quotient g n) (rest g n),
        total_append b (item_row (piece_at g n 0) ∷ pieces_behind S name n r 1),
        ap row_size (new_row 0 low),
        piece_size_lem g n 0 low,
        ap total made_rows,
        total_rows (cut_made S name n),
        cut_within S name n ok,
      )
  divide_fits (suc (suc k)) lo hi = omega (arith, divide_grows (suc k) hi, divide_fits (suc k) (omega arith) (omega arith))

  -- piece 0 takes the place of what is left
  pub divide_done : before S name n r ++ (respelled (left_row S name n r 1) (tag_of_piece 0 (eqb 1 n)) (suffix_text 0 (eqb 1 n)) ∷ pieces_behind S name n r 1) ≡ rows_for (cut_made S name n)
  divide_done =
      let t : ℕ = tag_of_piece 0 (eqb 1 n) in
      let s : Bytes = suffix_text 0 (eqb 1 n) in
      ap (λ (b : Bytes). before S name n r ++ (make_row t (spelling g) s b [] ∷ pieces_behind S name n r 1)) (take_next g n 0 ∙ ap (λ (b : Bytes). b ++ (piece_at g n 0).bytes) (take_none g n))
      ∙ ap (λ (x : Row). before S name n r ++ (x ∷ pieces_behind S name n r 1)) (sym (new_row 0 low)) ∙ sym made_rows
