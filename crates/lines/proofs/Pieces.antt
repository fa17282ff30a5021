-- An input that comes in pieces: what is printed for it, line by line.
-- Assumes nothing.
use Prim.Native.Nat.{ℕ, zero, suc, ◌+◌, ◌-◌, ◌≤◌, ◌<◌}
use mathlib.Core.Path.{◌≡◌, refl, sym, ap, ◌∙◌, subst}
use mathlib.Core.Bool.{Bool, true, false, cond}
use mathlib.Core.List.{List, [], ◌∷◌, ◌++◌, append_assoc, append-nil}
use mathlib.Core.Logic.{⊎_elim}
use native.Mathlib.Nat.{zero-add, eq-or-lt_of_le}
use native.Mathlib.Omega.{arith}
use lib.Dec.{eqb, leb}
use lib.ListN.{length, take, drop, length-append, length-drop}
use lib.Seq.{take_all, length-take-le, take-append-add, drop-append-add, take-append-le, drop-append-le, take-append_seam, drop-drop}
use borrow.Author.Tests.{leb-true, leb-false, ne_eqb}
use Rattle.chars.specs.Lists.{first_passing, index_of, split}
use Rattle.chars.proofs.Searches.{index_le}
use Rattle.chars.proofs.Splits.{split_last, split_more}
use Rattle.model.specs.Sets.{Bytes}
use Rattle.model.specs.Package.{State}
use Rattle.model.specs.Texts.{line_feed}
use Rattle.model.specs.Sheet.{line_read, lines_of, without_empty_end, number_line, shown, shown_by}
use Rattle.lines.specs.Gathering.{Unended, stretch, together, Gathers}
use Rattle.lines.proofs.Commands.{split_length, long_unreadable}

-- SEARCHES over two texts
index_past : (b : ℕ) (c s : List ℕ) → index_of b c ≡ length c → index_of b (c ++ s) ≡ length c + index_of b s
unfolding first_passing
index_past b [] s e = sym (zero-add (index_of b s))
index_past b (x ∷ c) s e = go (eqb x b) (λ h. index_past b c s h) e
  where
    go : (q : Bool) → (index_of b c ≡ length c → index_of b (c ++ s) ≡ length c + index_of b s) → cond q 0 (suc (index_of b c)) ≡ suc (length c)
        → cond q 0 (suc (index_of b (c ++ s))) ≡ suc (length c) + index_of b s
    go true ih e = absurd (omega arith)
    go false ih e = let h : index_of b (c ++ s) ≡ length c + index_of b s = ih (omega arith) in omega arith

index_within : (b : ℕ) (p q : List ℕ) → index_of b p < length p → index_of b (p ++ q) ≡ index_of b p
unfolding first_passing
index_within b [] q h = absurd (omega arith)
index_within b (x ∷ p) q h = go (eqb x b) (λ l. index_within b p q l) h
  where
    go : (t : Bool) → (index_of b p < length p → index_of b (p ++ q) ≡ index_of b p) → cond t 0 (suc (index_of b p)) < suc (length p)
        → cond t 0 (suc (index_of b (p ++ q))) ≡ cond t 0 (suc (index_of b p))
    go true ih h = refl
    go false ih h = ap suc (ih (omega arith))

pub unended_take : (n : ℕ) (c : Bytes) → Unended c → Unended (take n c)
unfolding first_passing
unended_take zero c e = refl
unended_take (suc n) [] e = refl
unended_take (suc n) (x ∷ c) e = go (eqb x line_feed) (λ h. unended_take n c h) e
  where
    go : (q : Bool) → (Unended c → Unended (take n c)) → cond q 0 (suc (index_of line_feed c)) ≡ suc (length c)
        → cond q 0 (suc (index_of line_feed (take n c))) ≡ suc (length (take n c))
    go true ih e = absurd (omega arith)
    go false ih e = ap suc (ih (omega arith))

-- LINES. c is the begin of a line; its line feed stands in s, or there is none
ended : (l : Bytes) (r : List Bytes) → 0 < length r → without_empty_end (l ∷ r) ≡ l ∷ without_empty_end r
unfolding without_empty_end
ended l [] h = absurd (omega arith)
ended l (m ∷ r) h = refl

module _ (c s : Bytes) (o : Unended c) where
  past : index_of line_feed (c ++ s) ≡ length c + index_of line_feed s
  past = index_past line_feed c s o

  pub lines_more : index_of line_feed s < length s → lines_of (c ++ s) ≡ (c ++ take (index_of line_feed s) s) ∷ lines_of (drop (index_of line_feed s + 1) s)
  lines_more h =
      let i = index_of line_feed s in
      let l : index_of line_feed (c ++ s) < length (c ++ s) = simp length-append (omega (arith, past)) in
      let d : suc (length c + i) ≡ length c + (i + 1) = omega arith in
      ap without_empty_end (split_more line_feed (c ++ s) l ∙ rw (past, take-append-add c s i, d, drop-append-add c s (i + 1)))
      ∙ ended (c ++ take i s) (split line_feed (drop (i + 1) s)) (split_length line_feed (drop (i + 1) s))

  pub lines_last : index_of line_feed s ≡ length s → lines_of (c ++ s) ≡ without_empty_end ((c ++ s) ∷ [])
  lines_last h = ap without_empty_end (split_last line_feed (c ++ s) (past ∙ ap (λ (k : ℕ). length c + k) h ∙ sym (length-append c s)))

-- LONG LINES. Of a line nothing counts behind 1,025 bytes
pub cut_reads : (n : ℕ) (l : Bytes) → 1024 < n → line_read (take n l) ≡ line_read l
cut_reads n l h = go (leb (length l) n) refl
  where
    go : (q : Bool) → leb (length l) n ≡ q → line_read (take n l) ≡ line_read l
    go true e = ap line_read (take_all n l (leb-true (length l) n e))
    go false e =
        let g = leb-false (length l) n e in
        let k : length (take n l) ≡ n = length-take-le n l (omega arith) in
        long_unreadable (take n l) (omega arith) ∙ sym (long_unreadable l (omega arith))

module _ (S : State) where
  shown_long : (l : Bytes) (ls : List Bytes) → 1024 < length l → shown S (l ∷ ls) ≡ number_line 16 ++ shown S ls
  unfolding shown
  shown_long l ls h = rw (long_unreadable l h)

  shown_long_end : (l : Bytes) → 1024 < length l → shown S (without_empty_end (l ∷ [])) ≡ number_line 16 ++ shown S []
  unfolding without_empty_end
  shown_long_end l h = rw (ne_eqb (length l) 0 (λ z. omega arith)) (shown_long l [] h)

  pub shown_cut : (n : ℕ) (c s : Bytes) → 1024 < n → Unended c → shown S (lines_of (take n c ++ s)) ≡ shown S (lines_of (c ++ s))
  shown_cut n c s h o = go (leb (length c) n) refl
    where
      go : (q : Bool) → leb (length c) n ≡ q → shown S (lines_of (take n c ++ s)) ≡ shown S (lines_of (c ++ s))
      go true e = ap (λ (x : Bytes). shown S (lines_of (x ++ s))) (take_all n c (leb-true (length c) n e))
      go false e = ⊎_elim
          (λ (g : index_of line_feed s ≡ length s).
          ap (shown S) (lines_last (take n c) s (unended_take n c o) g) ∙ shown_long_end (take n c ++ s) (long s).0
          ∙ sym (ap (shown S) (lines_last c s o g) ∙ shown_long_end (c ++ s) (long s).1))
          (λ (g : index_of line_feed s < length s).
          let x = take (index_of line_feed s) s in
          let r = lines_of (drop (index_of line_feed s + 1) s) in
          ap (shown S) (lines_more (take n c) s (unended_take n c o) g) ∙ shown_long (take n c ++ x) r (long x).0
          ∙ sym (ap (shown S) (lines_more c s o g) ∙ shown_long (c ++ x) r (long x).1))
          (eq-or-lt_of_le (index_le line_feed s))
        where
          long : (x : Bytes) → (1024 < length (take n c ++ x)) × (1024 < length (c ++ x))
          long x =
              let g = leb-false (length c) n e in
              let k : length (take n c) ≡ n = length-take-le n c (omega arith) in
              (simp length-append (omega arith), simp length-append (omega arith))

  -- the input ends
  pub shown_end : (c : Bytes) → Unended c → (length c ≡ 0 → ⊥) → shown S (lines_of c) ≡ (shown_by S (line_read c)).0
  unfolding shown without_empty_end
  shown_end c o h = ap (λ (r : List Bytes). shown S (without_empty_end r)) (split_last line_feed c o) ∙ rw (ne_eqb (length c) 0 h) (append-nil (shown_by S (line_read c)).0)

  pub shown_end_none : (c : Bytes) → length c ≡ 0 → shown S (lines_of c) ≡ []
  unfolding shown without_empty_end split
  shown_end_none [] h = refl
  shown_end_none (x ∷ c) h = absurd (omega arith)

-- PIECES. What `gather` leaves of a line, and what is printed from there on; `later` is the input behind the piece
module _ (S : State) (line piece line' later : Bytes) (n from size at : ℕ) (g : Gathers line n piece from size at line') (room : 1024 < length line) (o : Unended (take n line)) (inside : from ≤ length piece) where
  pub gathered_text : take size line' ≡ together line n piece from
  gathered_text = ap (λ (k : ℕ). take k line') g.size_is ∙ ap (take (length (together line n piece from))) g.line_is ∙ take-append_seam (together line n piece from) _

  rest_length : length (drop from piece) ≡ length piece - from
  rest_length = length-drop from piece

  -- the line feed is there: the line is whole
  pub gathered_line : at < length piece
      → shown S (lines_of (take n line ++ (drop from piece ++ later)))
      ≡ (shown_by S (line_read (take size line'))).0 ++ shown (shown_by S (line_read (take size line'))).1 (lines_of (drop (at + 1) piece ++ later))
  unfolding shown
  gathered_line h =
      let p = drop from piece in
      let i = index_of line_feed p in
      let l : i < length p = omega (arith, g.at_is, rest_length) in
      let k : index_of line_feed (p ++ later) ≡ i = index_within line_feed p later l in
      let m : index_of line_feed (p ++ later) < length (p ++ later) = simp length-append (omega arith) in
      let d : drop (i + 1) (p ++ later) ≡ drop (at + 1) piece ++ later =
      drop-append-le (i + 1) p later (omega arith) ∙ ap (λ (x : Bytes). x ++ later) (drop-drop (i + 1) from piece ∙ ap (λ (j : ℕ). drop j piece) (let z : from + (i + 1) ≡ at + 1 = omega (arith, g.at_is) in z)) in
      let t : take i (p ++ later) ≡ stretch piece from = take-append-le i p later (omega arith) in
      let r : line_read (take size line') ≡ line_read (take n line ++ stretch piece from) = ap line_read gathered_text ∙ cut_reads (length line) (take n line ++ stretch piece from) room in
      ap (shown S) (lines_more (take n line) (p ++ later) o m) ∙ rw (k, t, d, r)

  -- it is not: what follows the piece goes on with the line
  pub gathered_part : length piece ≤ at
      → (shown S (lines_of (take n line ++ (drop from piece ++ later))) ≡ shown S (lines_of (take size line' ++ later))) × Unended (take size line')
  gathered_part h =
      let p = drop from piece in
      let e : index_of line_feed p ≡ length p = omega (arith, g.at_is, rest_length, index_le line_feed p) in
      let t : stretch piece from ≡ p = take_all (index_of line_feed p) p (omega arith) in
      let w : take size line' ≡ take (length line) (take n line ++ p) = gathered_text ∙ ap (λ (x : Bytes). take (length line) (take n line ++ x)) t in
      let c : Unended (take n line ++ p) = index_past line_feed (take n line) p o ∙ ap (λ (j : ℕ). length (take n line) + j) e ∙ sym (length-append (take n line) p) in (
        ap (λ (x : Bytes). shown S (lines_of x)) (sym (append_assoc (take n line) p later))
            ∙ sym (ap (λ (x : Bytes). shown S (lines_of (x ++ later))) w ∙ shown_cut S (length line) (take n line ++ p) later room c),
        subst Unended (sym w) (unended_take (length line) (take n line ++ p) c),
      )
