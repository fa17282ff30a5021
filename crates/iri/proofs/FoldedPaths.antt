-- Paths that are folded before they are resolved come to the folding of what they resolve to: slashes and dots stay.
-- Assumes nothing.
use Prim.Native.Nat.{ℕ, zero, suc}
use mathlib.Core.Path.{◌≡◌, refl}
use mathlib.Core.Bool.{Bool, true, false, ◌&&◌, cond}
use mathlib.Core.List.{List, [], ◌∷◌, ◌++◌}
use native.Mathlib.Omega.{arith}
use lib.Dec.{eqb, ltb}
use lib.ListN.{length, length-map, take, drop, get_or}
use borrow.Author.Tests.{ltb-true}
use Rattle.base.proofs.Bools.{and_left, and_right}
use Rattle.chars.specs.Bytes.{ascii, slash}
use Rattle.chars.specs.Lists.{is_empty, same, begins, every, first_passing, index_of, after_last}
use Rattle.chars.specs.Folding.{fold, lower}
use Rattle.chars.proofs.Foldings.{get_or_fold, lower_eqb}
use Rattle.chars.proofs.FoldedTexts.{take_map, drop_map, fold_append, last_fold}
use Rattle.names.proofs.FoldedNames.{folder_fold}
use Rattle.iri.specs.References.{Buffers, buffers, first_segment, Rule, Skip, Root, Up, UpRoot, Finish, Copy, rule, turn, turns}
use Rattle.iri.specs.References.{remove_dot_segments, merge, merged_path, relative_path}

-- TEXTS without letters are found in a folded text where they were
low : List ℕ → Bool
low t = every (λ (b : ℕ). ltb b 65) t

same_low : (t s : List ℕ) → low t ≡ true → same (fold s) t ≡ same s t
unfolding same low every
same_low [] [] e = refl
same_low [] (x ∷ s) e = refl
same_low (y ∷ t) [] e = refl
same_low (y ∷ t) (x ∷ s) e =
    rw (
      lower_eqb y (ltb-true y 65 (and_left (ltb y 65) (every (λ (b : ℕ). ltb b 65) t) e)) x,
      same_low t s (and_right (ltb y 65) (every (λ (b : ℕ). ltb b 65) t) e),
    )

begins_low : (t s : List ℕ) → low t ≡ true → begins t (fold s) ≡ begins t s
unfolding begins
begins_low t s e = rw (take_map lower (length t) s) (same_low t (take (length t) s) e)

index_fold : (s : List ℕ) → index_of slash (fold s) ≡ index_of slash s
unfolding first_passing
index_fold [] = refl
index_fold (x ∷ s) = rw (lower_eqb slash (omega arith) x, index_fold s)

-- 5.2.4: the same rule applies, and its turn keeps the folding
rule_fold : (i : List ℕ) → rule (fold i) ≡ rule i
unfolding rule first_segment low every
rule_fold i =
    rw (
      begins_low (ascii "../") i refl,
      begins_low (ascii "./") i refl,
      begins_low (ascii "/./") i refl,
      same_low (ascii "/.") i refl,
      begins_low (ascii "/../") i refl,
      same_low (ascii "/..") i refl,
      same_low (ascii ".") i refl,
      same_low (ascii "..") i refl,
      drop_map lower 1 i,
      index_fold (drop 1 i),
    )

folded : Buffers → Buffers
folded b = buffers (fold b.input) (fold b.output)

turn_fold : (r : Rule) (i o : List ℕ) → turn r (fold i) (fold o) ≡ folded (turn r i o)
unfolding turn folded lower
turn_fold (Skip n) i o = rw (drop_map lower n i)
turn_fold Root i o = refl
turn_fold (Up n) i o = rw (drop_map lower n i, folder_fold o)
turn_fold UpRoot i o = rw (folder_fold o)
turn_fold Finish i o = refl
turn_fold (Copy n) i o = rw (drop_map lower n i, take_map lower n i, fold_append o (take n i))

turns_fold : (n : ℕ) (b : Buffers) → turns n (folded b) ≡ fold (turns n b)
unfolding turns folded
turns_fold zero b = refl
turns_fold (suc n) b =
    rw (rule_fold b.input, turn_fold (rule b.input) b.input b.output) (turns_fold n (turn (rule b.input) b.input b.output))

remove_fold : (s : List ℕ) → remove_dot_segments (fold s) ≡ fold (remove_dot_segments s)
unfolding remove_dot_segments folded
remove_fold s = rw (length-map s lower) (turns_fold (length s) (buffers s []))

-- 5.2.3 and 5.2.2
fold_cond : (b : Bool) (s t : List ℕ) → fold (cond b s t) ≡ cond b (fold s) (fold t)
fold_cond true s t = refl
fold_cond false s t = refl

merge_fold : (a : Bool) (base r : List ℕ) → merge a (fold base) (fold r) ≡ fold (merge a base r)
unfolding merge lower
merge_fold a base r =
    rw (
      length-map base lower,
      last_fold base,
      take_map lower (after_last slash base) base,
      fold_cond (a && is_empty base) (slash ∷ r) (take (after_last slash base) base ++ r),
      fold_append (take (after_last slash base) base) r,
    )

pub relative_path_fold : (a : Bool) (base r : List ℕ) → relative_path a (fold base) (fold r) ≡ fold (relative_path a base r)
unfolding relative_path
relative_path_fold a base r =
    rw (get_or_fold r 0, lower_eqb slash (omega arith) (get_or r 0 0), merge_fold a base r, ← fold_cond (eqb (get_or r 0 0) slash) r (merge a base r))
    (remove_fold (merged_path a base r))
