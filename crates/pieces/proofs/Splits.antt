-- A whole item split into pieces: before the first is split off, one more, and the last.
-- Assumes nothing.
use mathlib.Core.Path.{◌≡◌, refl, sym, ap, ap₂, subst, ◌∙◌}
use mathlib.Core.Bool.{Bool, true, false}
use Prim.Native.Nat.{ℕ, suc, ◌+◌, ◌≤◌, ◌<◌}
use mathlib.Core.List.{List}
use native.Mathlib.Omega.{arith}
use native.Mathlib.Numerals.{add-one}
use lib.Dec.{eqb}
use lib.ListN.{length}
use borrow.Author.Tests.{eq-eqb, ne_eqb, eqb-true, eqb-false}
use Rattle.model.specs.Sets.{Bytes}
use Rattle.model.specs.Package.{State, group, spelling}
use Rattle.model.specs.Cutting.{piece_size, quotient, rest, cut_made, cut_refusal}
use Rattle.model.proofs.PieceBytes.{size_of, start_next}
use Rattle.store.specs.Rows.{Row}
use Rattle.contract.specs.Holds.{Holds}
use Rattle.pieces.specs.Suffixes.{suffix_text, tag_of_piece}
use Rattle.pieces.specs.Rowed.{Rowed, SplitOff, Renamed}
use Rattle.pieces.specs.Cuts.{WholeAt, Divided}
use Rattle.pieces.proofs.PackageRows.{lies_rowed, rowed_lies}
use Rattle.pieces.proofs.DividedRows.{before, pieces_behind, left_row, dividing, name_pos, length_before, left_length, divide_none, divide_next, divide_grows, divide_few, divide_fits, divide_done}

-- b has the item in row r, and m what is left of it with the pieces from k on
pub record Dividing (b m : List ℕ) (r : ℕ) (p : Bytes) (n q x k : ℕ) : Type 0 where
  pub len : length m ≡ length b
  pub is : (S : State) (name : Bytes) → Holds b S → cut_refusal S name n ≡ 0 → WholeAt S name r → p ≡ spelling (group name S.items)
      → q ≡ quotient (group name S.items) n → x ≡ rest (group name S.items) n → Rowed m S.capacity (dividing S name n r k)

eqb_flip : (m n : ℕ) → eqb m n ≡ eqb n m
eqb_flip m n = go (eqb n m) refl
  where
    go : (z : Bool) → eqb n m ≡ z → eqb m n ≡ z
    go true e = eq-eqb m n (sym (eqb-true n m e))
    go false e = ne_eqb m n (λ q. eqb-false n m e (sym q))

module _ (b : List ℕ) (r : ℕ) (p : Bytes) (n q x : ℕ) where
  pub dividing_none : Dividing b b r p n q x n
  dividing_none = record {
    len = refl;
    is = λ S name h ok at ep eq ex.
        subst (λ (rs : List Row). Rowed b S.capacity rs) (divide_none S h.good name n r ok at) (lies_rowed b S h.lies);
  }

  pub dividing_next : (l m : List ℕ) (k j s : ℕ) (z : Bool) → Dividing b l r p n q x k → k ≡ suc j → 1 < k → k ≤ n → z ≡ eqb (j + 1) n → s ≡ piece_size q x j → length m ≡ length l
      → SplitOff l m r (tag_of_piece j z) p (suffix_text j z) s → Dividing b m r p n q x j
  dividing_next l m k j s z d ek lo hi ez es len w = record {
    len = len ∙ d.len;
    is = λ S name h ok at ep eq ex.
        let g = group name S.items in
        let G = h.good in
        let D : Rowed l S.capacity (dividing S name n r (suc j)) = subst (λ (i : ℕ). Rowed l S.capacity (dividing S name n r i)) ek (d.is S name h ok at ep eq ex) in
        let ez2 : z ≡ eqb (suc j) n = ez ∙ ap (λ (i : ℕ). eqb i n) (add-one j) in
        let es2 : s ≡ size_of g n j = es ∙ ap₂ (λ (a c : ℕ). piece_size a c j) eq ex in
        let v : SplitOff l m r (tag_of_piece j (eqb (suc j) n)) (spelling g) (suffix_text j (eqb (suc j) n)) (size_of g n j) = rw (ez2, ep, es2) at w in
        let below : j < n = omega arith in
        let pos = name_pos S G name n r ok at in
        subst (λ (rs : List Row). Rowed m S.capacity rs) (divide_next S G name n r ok at j below)
        (v.is S.capacity (before S name n r) (left_row S name n r (suc j)) (pieces_behind S name n r (suc j)) D (length_before S G name n r ok at) refl pos pos
        (omega (arith, left_length S G name n r ok at (suc j) below, start_next g n j)) (divide_few S G name n r ok at (suc j) (omega arith) below)
        (omega (arith, divide_grows S G name n r ok at j below, divide_fits S G name n r ok at j (omega arith) (omega arith))));
  }

  pub dividing_all : (l m : List ℕ) (k : ℕ) (z : Bool) → Dividing b l r p n q x k → k ≡ 1 → k ≤ n → z ≡ eqb n 1 → Renamed l m r (tag_of_piece 0 z) (suffix_text 0 z) → Divided b m r p n q x
  dividing_all l m k z d ek hi ez w = record {
    is = λ S name h ok at ep eq ex.
        let G = h.good in
        let D : Rowed l S.capacity (dividing S name n r 1) = subst (λ (i : ℕ). Rowed l S.capacity (dividing S name n r i)) ek (d.is S name h ok at ep eq ex) in
        let ez2 : z ≡ eqb 1 n = ez ∙ eqb_flip n 1 in
        let v : Renamed l m r (tag_of_piece 0 (eqb 1 n)) (suffix_text 0 (eqb 1 n)) = rw ez2 at w in
        let one : 0 < 1 = omega arith in
        let t = v.is S.capacity (before S name n r) (left_row S name n r 1) (pieces_behind S name n r 1) D (length_before S G name n r ok at) refl (name_pos S G name n r ok at)
        (divide_fits S G name n r ok at 1 one (omega arith)) in
        rowed_lies m (cut_made S name n) (subst (λ (rs : List Row). Rowed m S.capacity rs) (divide_done S G name n r ok at) t);
  }
