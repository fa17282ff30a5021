-- A cut that is accepted and one that is refused; what an accepted cut has passed, and an accepted join.
-- Assumes nothing.
use Prim.Native.Nat.{ℕ, ◌≤◌, ◌<◌}
use mathlib.Core.Path.{◌≡◌, refl}
use mathlib.Core.Bool.{Bool, true, false, not}
use mathlib.Core.List.{[], ◌∷◌}
use native.Mathlib.Omega.{arith}
use lib.Dec.{leb, ltb}
use lib.ListN.{length}
use borrow.Author.Tests.{ne_eqb, leb-true, ltb-false, not-false}
use Rattle.base.proofs.Bools.{and_left, and_right, or_false_left, or_false_right}
use Rattle.chars.specs.Bytes.{within}
use Rattle.names.specs.Names.{part_name}
use Rattle.output.specs.Answers.{answer}
use Rattle.model.specs.Sets.{Bytes}
use Rattle.model.specs.Fields.{when}
use Rattle.model.specs.Package.{State, item_limit, charge, group, is_part}
use Rattle.model.specs.Cutting.{is_whole, quotient, rest, cut_made, overfull, cut_refusal, join_refusal}
use Rattle.model.specs.Calls.{cut}
use Rattle.model.proofs.Refusals.{all_none, unmet, picked_done, picked_accepted}

module _ (S : State) (name : Bytes) (n : ℕ) where
  pub cut_accepted : (cut S name n).0.number ≡ 0 → cut_refusal S name n ≡ 0
  unfolding cut
  cut_accepted h = picked_accepted (cut_refusal S name n) S (cut_made S name n) _ (answer (cut_refusal S name n) (0 ∷ 0 ∷ []) []) refl h

  pub cut_done : cut_refusal S name n ≡ 0 →
      cut S name n ≡ (answer 0 (quotient (group name S.items) n ∷ rest (group name S.items) n ∷ []) [], cut_made S name n)
  unfolding cut
  cut_done c = picked_done (cut_refusal S name n) S (cut_made S name n) _ _ c

  pub cut_refused : (cut_refusal S name n ≡ 0 → ⊥) → cut S name n ≡ (answer (cut_refusal S name n) (0 ∷ 0 ∷ []) [], S)
  unfolding cut
  cut_refused z = rw (ne_eqb (cut_refusal S name n) 0 z)

-- WHAT IT HAS PASSED
passed : (b : Bool) (n : ℕ) → 0 < n → when (not b) n ≡ 0 → b ≡ true
passed b n l e = not-false b (unmet (not b) n l e)

module _ (S : State) (name : Bytes) (n : ℕ) (c : cut_refusal S name n ≡ 0) where
  pub cut_named : part_name name ≡ true
  unfolding cut_refusal
  cut_named = passed (part_name name) 4 (omega arith) (all_none _ c).0

  pub cut_part : is_part (group name S.items) ≡ true
  unfolding cut_refusal
  cut_part = passed (is_part (group name S.items)) 13 (omega arith) (all_none _ c).1.0

  pub cut_whole : is_whole (group name S.items) ≡ true
  unfolding cut_refusal
  cut_whole = passed (is_whole (group name S.items)) 18 (omega arith) (all_none _ c).1.1.0

  range : within 1 256 n ≡ true
  unfolding cut_refusal
  range = passed (within 1 256 n) 17 (omega arith) (all_none _ c).1.1.1.0

  pub cut_low : 0 < n
  cut_low = leb-true 1 n (and_left (leb 1 n) (leb n 256) range)

  pub cut_high : n ≤ 256
  cut_high = leb-true n 256 (and_right (leb 1 n) (leb n 256) range)

  fits : overfull (cut_made S name n) ≡ false
  unfolding cut_refusal
  fits = unmet (overfull (cut_made S name n)) 15 (omega arith) (all_none _ c).1.1.1.1.0

  pub cut_few : length (cut_made S name n).items ≤ item_limit
  cut_few = ltb-false item_limit (length (cut_made S name n).items) (or_false_left (ltb item_limit (length (cut_made S name n).items)) _ fits)

  pub cut_within : charge (cut_made S name n) ≤ S.capacity
  cut_within =
      ltb-false S.capacity (charge (cut_made S name n)) (or_false_right (ltb item_limit (length (cut_made S name n).items)) _ fits)

module _ (S : State) (name : Bytes) (c : join_refusal S name ≡ 0) where
  pub join_named : part_name name ≡ true
  unfolding join_refusal
  join_named = passed (part_name name) 4 (omega arith) (all_none _ c).0

  pub join_part : is_part (group name S.items) ≡ true
  unfolding join_refusal
  join_part = passed (is_part (group name S.items)) 13 (omega arith) (all_none _ c).1.0

  pub join_pieces : is_whole (group name S.items) ≡ false
  unfolding join_refusal
  join_pieces = unmet (is_whole (group name S.items)) 18 (omega arith) (all_none _ c).1.1.0
