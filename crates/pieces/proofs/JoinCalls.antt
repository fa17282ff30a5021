-- The answers of a join: one law for each way out.
-- Assumes nothing.
use Prim.Native.Nat.{ℕ, ◌-◌, ◌<◌}
use mathlib.Core.Path.{◌≡◌, refl, sym, ◌∙◌}
use mathlib.Core.Bool.{Bool, true, false, not}
use mathlib.Core.List.{List}
use native.Mathlib.Omega.{arith}
use lib.ListN.{length}
use borrow.Author.Tests.{eq-eqb, ne_eqb, not-true, not-false}
use Rattle.output.specs.declared.refusals.Refusal.TheVariants.{NotAPartName}
use Rattle.names.specs.Names.{part_name}
use Rattle.model.specs.Sets.{Bytes}
use Rattle.model.specs.Fields.{first}
use Rattle.model.specs.Package.{State, group, is_part}
use Rattle.model.specs.Cutting.{join_made, join_refusal}
use Rattle.model.specs.Calls.{JoinPart, Changes, Numbered, done, refused, change}
use Rattle.model.proofs.Numbers.{numbered}
use Rattle.store.specs.Layout.{count_of}
use Rattle.store.specs.Rows.{tag_at}
use Rattle.store.specs.Packages.{Shape}
use Rattle.contract.specs.Holds.{Lies, Holds}
use Rattle.contract.specs.Ran.{Ran}
use Rattle.contract.specs.Opening.{Open}
use Rattle.contract.proofs.Rans.{change_refused, change_made_lem, changed_refused, field_refused}
use Rattle.parts.specs.Runs.{Grouped, Judged}
use Rattle.parts.proofs.GroupRuns.{part_of}
use Rattle.pieces.specs.Joins.{Merged}
use Rattle.pieces.proofs.PartTags.{whole_told}

module _ (b : List ℕ) (o : Open b) (name : Bytes) where
  -- a join that is refused by what is held
  join_refused : (k : ℕ) → (k ≡ 0 → ⊥) → Numbered k → ((S : State) → Holds b S → join_refusal S name ≡ k) →
      Ran (Changes (JoinPart name)) b (refused k) b
  unfolding change
  join_refused k z u e = change_refused b o (JoinPart name) k u (λ S h. rw (e S h) (changed_refused k S (join_made S name) z))

  -- q is the answer of the test of a part name, y whether the rows of its group are a part, u the tag of the first of them
  module _ (q : Bool) (eq : q ≡ part_name name) where
    -- "4 not a part name"
    pub join_misnamed : not q ≡ true → Ran (Changes (JoinPart name)) b (refused 4) b
    unfolding join_refusal first
    join_misnamed hq = field_refused b o (JoinPart name) NotAPartName (λ S. rw (← eq, not-true q hq))

    module _ (hq : not q ≡ false) (f t : ℕ) (g : Grouped b name f t) (y : Bool) (j : Judged b f t y) where
      part : (S : State) → Holds b S → is_part (group name S.items) ≡ y
      part S h = sym ((part_of b name f t g y j).is S h)

      -- "13 not held, no part yet"
      pub join_missing : not y ≡ true → Ran (Changes (JoinPart name)) b (refused 13) b
      unfolding join_refusal first
      join_missing hy =
          join_refused 13 (λ z. omega arith) (numbered 13 (omega arith) (omega arith)) (λ S h. rw (← eq, not-false q hq, part S h, not-true y hy))

      module _ (hy : not y ≡ false) (u : ℕ) (eu : Shape b → f < count_of b → u ≡ tag_at b f) where
        is_part_lem : (S : State) → Holds b S → is_part (group name S.items) ≡ true
        is_part_lem S h = part S h ∙ not-false y hy

        -- "18 where the part is .. not in pieces (joining)"
        pub join_whole : u ≡ 0 → Ran (Changes (JoinPart name)) b (refused 18) b
        unfolding join_refusal first
        join_whole e =
            join_refused 18 (λ z. omega arith) (numbered 18 (omega arith) (omega arith))
            (λ S h. rw (← eq, not-false q hq, is_part_lem S h, whole_told b name f t g S h (is_part_lem S h) u eu, eq-eqb u 0 e))

        -- "Joining makes one whole item in piece 0's spelling."
        pub join_done : (u ≡ 0 → ⊥) → (m : List ℕ) → length m ≡ length b → Merged b m f (t - f) → Ran (Changes (JoinPart name)) b done m
        unfolding change join_refusal first
        join_done z m l w = change_made_lem b o (JoinPart name) m l (λ S h. rw (accepted S h) (refl, lies S h))
          where
            accepted : (S : State) → Holds b S → join_refusal S name ≡ 0
            accepted S h = rw (← eq, not-false q hq, is_part_lem S h, whole_told b name f t g S h (is_part_lem S h) u eu, ne_eqb u 0 z)

            lies : (S : State) → Holds b S → Lies m (join_made S name)
            lies S h = w.is S name h (is_part_lem S h) (omega (arith, g.order, g.inside S h)) (g.is S h)
