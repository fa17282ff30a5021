-- A refusal changes nothing; an output keeps its length.
-- Assumes nothing.
use Prim.Native.Nat.{ℕ, ◌-◌}
use mathlib.Core.Path.{◌≡◌, refl}
use mathlib.Core.Bool.{Bool, true, false}
use mathlib.Core.List.{List, [], ◌∷◌, ◌++◌}
use native.Mathlib.Omega.{arith}
use lib.Dec.{eqb, leb}
use lib.ListN.{length, drop, replicate, length-append, length-drop}
use borrow.Author.Tests.{leb-true}
use Rattle.output.specs.Answers.{Answer, answer, choose, Outcome, Text, Refused, filled}
use Rattle.model.specs.Sets.{Bytes}
use Rattle.model.specs.Package.{State, empty}
use Rattle.model.specs.Cutting.{cut_made, cut_refusal}
use Rattle.model.specs.Calls.{Look, Find, View, Totals, Change, Call, Start, Looks, Changes, CutPart, TypeOrigin, Prints, done, refused, pick, changed}
use Rattle.model.specs.Calls.{start_refusal, asked_refusal, change_refusal, change_made, look, change, cut, printed, value_count, step, lent}
use Rattle.output.proofs.Answering.{filled_kept}
use Rattle.model.proofs.Origins.{origin_kept}

-- of two answers, one of which is 0 and the other keeps the package and writes nothing
either_kept : (b : Bool) (a r : Answer) (S T : State) → a.number ≡ 0 → r.output ≡ [] → ((pick b (a, T) (r, S)).0.number ≡ 0 → ⊥) →
    ((pick b (a, T) (r, S)).1 ≡ S) × ((pick b (a, T) (r, S)).0.output ≡ [])
either_kept true a r S T z o h = absurd (h z)
either_kept false a r S T z o h = (refl, o)

changed_kept : (n : ℕ) (S T : State) → ((changed n S T).0.number ≡ 0 → ⊥) → ((changed n S T).1 ≡ S) × ((changed n S T).0.output ≡ [])
changed_kept n S T h = either_kept (eqb n 0) done (refused n) S T refl refl h

change_kept : (S : State) (c : Change) → ((change S c).0.number ≡ 0 → ⊥) → ((change S c).1 ≡ S) × ((change S c).0.output ≡ [])
unfolding change
change_kept S c h = changed_kept (change_refusal S c) S (change_made S c) h

cut_kept : (S : State) (name : Bytes) (n : ℕ) → ((cut S name n).0.number ≡ 0 → ⊥) → ((cut S name n).1 ≡ S) × ((cut S name n).0.output ≡ [])
unfolding cut
cut_kept S name n h = either_kept (eqb (cut_refusal S name n) 0) _ (answer (cut_refusal S name n) (0 ∷ 0 ∷ []) []) S (cut_made S name n) refl refl h

look_kept : (S : State) (q : Look) → ((look S q).number ≡ 0 → ⊥) → (look S q).output ≡ []
unfolding look
look_kept S (Find name) h = go (eqb (asked_refusal S name) 0) _
  where
    go : (b : Bool) (vs : List ℕ) → (choose b (answer 0 vs []) (refused (asked_refusal S name))).output ≡ []
    go true vs = refl
    go false vs = refl
look_kept S (View name) h = go (eqb (asked_refusal S name) 0) _ h
  where
    go : (b : Bool) (o : Bytes) → ((choose b (answer 0 [] o) (answer 0 [] [])).number ≡ 0 → ⊥) →
        (choose b (answer 0 [] o) (answer 0 [] [])).output ≡ []
    go true o k = absurd (k refl)
    go false o k = absurd (k refl)
look_kept S Totals h = refl

-- "package and outputs stay unchanged"
pub refusal_kept : (room : ℕ) (S : State) (c : Call) → ((step room S c).0.number ≡ 0 → ⊥) →
    ((step room S c).1 ≡ S) × ((step room S c).0.output ≡ lent c)
refusal_kept room S (Start C) h = changed_kept (start_refusal room C) S (empty C) h
refusal_kept room S (Looks q) h = (refl, look_kept S q h)
refusal_kept room S (Changes c) h = change_kept S c h
refusal_kept room S (CutPart name n) h = cut_kept S name n h
refusal_kept room S (TypeOrigin name output) h = (refl, origin_kept S name output h)
refusal_kept room S (Prints p out) h = (refl, filled_kept (value_count p) out (printed S (length out) p) h)

-- an output has as many bytes after the call as before it
pub output_length : (n : ℕ) (out : Bytes) (w : Outcome) → length (filled n out w).output ≡ length out
unfolding filled
output_length n out (Refused k) = refl
output_length n out (Text t more) = go (leb (length t) (length out)) refl
  where
    go : (b : Bool) → leb (length t) (length out) ≡ b →
        length (choose b (answer 0 (length t ∷ more) (t ++ drop (length t) out)) (answer 3 (length t ∷ replicate (n - 1) 0) out)).output
        ≡ length out
    go true e = simp (length-append, length-drop) (omega (arith, leb-true (length t) (length out) e))
    go false e = refl
