-- Demand 3.
-- Assumes nothing.
use Prim.Native.Nat.{ℕ}
use mathlib.Core.Path.{◌≡◌, refl, ap, ap₂, sym, ◌∙◌, subst}
use mathlib.Core.Bool.{Bool, true, false, false≢true}
use mathlib.Core.List.{List, ◌∷◌}
use lib.Dec.{eqb}
use lib.ListN.{length}
use borrow.Author.Tests.{eqb-true, eqb-false}
use Rattle.output.specs.Answers.{Answer}
use Rattle.std.specs.declared.cmp.Ordering.{Ordering}
use Rattle.std.specs.declared.cmp.Ordering.TheVariants.{Less, Equal, Greater}
use Rattle.model.specs.Sets.{key_order, is_less, is_equal}
use Rattle.model.specs.Package.{State, Kind, item_kind, default_kind, override_kind, relationship_kind, empty, charge}
use Rattle.model.specs.Calls.{Call, start_refusal, step, answers, after, look}
use Rattle.model.specs.Good.{Good, GoodSet, Beside}
use Rattle.model.proofs.Lists.{pairs_map}
use Rattle.contract.specs.Holds.{Holds}
use Rattle.contract.specs.Ran.{Runs, none, more}
use Rattle.package.specs.Demand.{Limited, Demanded, AsLedger, EveryRun}

less_differs : (o : Ordering) → is_less o ≡ true → is_equal o ≡ false
less_differs Less e = refl
less_differs Equal e = absurd (false≢true e)
less_differs Greater e = refl

good_limited : {E : Type 0} (kind : Kind E) (xs : List E) → GoodSet kind xs → Limited kind.key kind.limit xs
good_limited kind xs g = record {
  few = g.few;
  single = pairs_map _ _ xs (λ x y b. less_differs (key_order (kind.key x) (kind.key y)) b) g.sorted;
}

good_demanded : (S : State) → Good S → Demanded S
unfolding look charge
good_demanded S g = record {
  alone = pairs_map Beside _ S.items (λ i j b. b.alone) g.beside;
  numbered = pairs_map Beside _ S.items (λ i j b. b.numbered) g.beside;
  underived = pairs_map Beside _ S.items (λ i j b. b.underived) g.beside;
  totals = λ room. refl;
  items = good_limited item_kind S.items g.items;
  defaults = good_limited default_kind S.defaults g.defaults;
  overrides = good_limited override_kind S.overrides g.overrides;
  relationships = good_limited relationship_kind S.relationships g.relationships;
  within = g.within;
}

every_from : (room : ℕ) {p q : List ℕ} {s : List (Call × Answer)} → Runs p s q → (S : State) → room ≡ length p → Holds p S → AsLedger room S s q
unfolding answers after
every_from room none S e h = record { answered = refl; holds = h; demanded = good_demanded S h.good }
every_from room (more {p} {q} {r} {c} {a} {s} ran rs) S e h =
    let g : (a ≡ (step room S c).0) × Holds q (step room S c).1 = subst (λ (n : ℕ). (a ≡ (step n S c).0) × Holds q (step n S c).1) (sym e) (ran.ledger S h) in
    let k = every_from room rs (step room S c).1 (e ∙ sym ran.sized) g.1 in
    record { answered = ap₂ ◌∷◌ g.0 k.answered; holds = k.holds; demanded = k.demanded }

pub every_run : EveryRun
every_run C o p q a s r z rs = go (eqb (start_refusal (length o) C) 0) refl
  where
    go : (x : Bool) → eqb (start_refusal (length o) C) 0 ≡ x → AsLedger (length o) (empty C) s q
    go true e = every_from (length o) rs (empty C) (sym r.sized) (r.begun.0 (eqb-true (start_refusal (length o) C) 0 e)).1
    go false e = absurd (eqb-false (start_refusal (length o) C) 0 e (ap (λ (y : Answer). y.number) (sym (r.begun.1 (eqb-false (start_refusal (length o) C) 0 e))) ∙ z))
